use Rattle.offset_allocator.proofs.{Common.refl, Filing.Find.here, Filing.Find.nowhere, Filing.Find.above, Filing.Find.word_below}
use Rattle.offset_allocator.proofs.bins.find_in_masks.Goals as goal

pub returns-then-rest-ne0 : goal.returns-then-rest-ne0
returns-then-rest-ne0 c = record { smallest = λ ls k. here k _ c.requires.classed _ _ refl refl c.if-rest-ne0.true }

pub returns-then-words-eq0 : goal.returns-then-words-eq0
returns-then-words-eq0 c = record { smallest = λ ls k. nowhere k _ c.requires.classed _ _ refl refl c.if-rest-ne0.false _ refl c.if-words-eq0.true }

pub bounds-masks-found : goal.bounds-masks-found
bounds-masks-found c = word_below c.requires.masked.1 _ c.requires.classed _ _ refl refl c.if-rest-ne0.false _ refl c.if-words-eq0.false

pub returns : goal.returns
returns c = record { smallest = λ ls k. above k _ c.requires.classed _ _ refl refl c.if-rest-ne0.false _ refl c.if-words-eq0.false _ refl }
