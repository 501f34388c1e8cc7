use Rattle.offset_calls.proofs.{Common.ap, Common.subst, Common.◌∙◌, Beside.finds_some}
use Rattle.offset_calls.specs.Steps.{AreNumbers}
use Rattle.std.specs.List.{slice_index}
use Rattle.offset_calls.proofs.ending.find.Goals as goal

pub returns-in-Some-clause-finds : goal.returns-in-Some-clause-finds
returns-in-Some-clause-finds g c = finds_some c.args.handles.now _ c.args.found c.in-Some.handle _ _ (subst (λ n. AreNumbers c.args.handles.now n c.read.new.self.by_name.items) c.in_ok-read.ensures.grants c.in_ok-read.ensures.numbers) c.requires.kept c.in-Some.is
    (c.of.ensures ∙ ap (slice_index _) c.to_parts-offset.ensures.parts.1) c.to_parts-offset.ensures.parts.0
