-- A compaction within a budget: where it begins, and how far it comes.
use Rattle.offset_allocator.proofs.Common.{◌≡◌, ◌≢◌, ℕ, ◌+◌, ◌<◌, ◌≤◌, Bool, true, false, not, ◌&&◌, nat_le, List, [], ◌∷◌, ◌++◌, Some, None, if◌then◌else◌, refl, sym, ap, subst, ◌∙◌, arith, nat_tests, Block, units}
use Rattle.offset_allocator.proofs.Common.{◌⊎◌, inl, inr, cases_lt, ◌↔◌, ◌%◌, nat_eq, ap₂, ends_used, first_or, last_or, one, count_used, used_units, append_assoc, ChainCells, IsChain, IsSpace, HasPlace, blocks, Option}
use Rattle.std.proofs.lemmas.Bool.{and_parts}
use Rattle.offset_allocator.proofs.{Common.leb-true, Common.not-true, Linking.Places.placed, Tallies.tally_append}
use Rattle.offset_allocator.proofs.Moving.Stepping.{emptied_free, emptied_used, freed_here, freed_now, freed_still}
use Rattle.offset_allocator.specs.Moving.Spans.{all_steps}
use Rattle.offset_allocator.proofs.{Sound.Fields, Moving.Runs.apart_few, Views.ViewApart.apart_parts, Common.AreCoalesced, Common.max, Common.◌*◌, Moving.Stepped.stepped_fewer, Moving.Stepped.stepped_length, Moving.Stepped.stays_live}
use Rattle.offset_allocator.proofs.Common.{View, IsWellFormed, length, length-append, live, starts_free}
use Rattle.offset_allocator.specs.declared.moves.over_frames.{Progress.Progress, Reach.Reach}
use Rattle.offset_allocator.specs.Moving.{BySteps.CanFollow, BySteps.stepped, BySteps.used_up}
use Rattle.offset_allocator.specs.Moving.Budget.{first_from, start_of, IsWithin, IsRunWithin, SlidesWithin, StopsAt}

-- one block more in front
pub from_here : (s from o : ℕ) (b : Block) (bs : List Block) → bs ≢ [] → (t : Bool) → t ≡ (not b.used && (nat_le s b.size && nat_le from (o + b.size)))
    → first_from s from o (b ∷ bs) ≡ (if t then Some b.name else first_from s from (o + b.size) bs)
from_here s from o b [] some t e = absurd (some refl)
from_here s from o b (c ∷ bs) some t e = ap (λ (t : Bool). if t then Some b.name else first_from s from (o + b.size) (c ∷ bs)) (sym e)

below : (u v : Bool) → (not u && (v && false)) ≡ false
below true v = refl
below false true = refl
below false false = refl

some_met : (fs met : List Block) → met ≢ [] → fs ++ met ≢ []
some_met [] met some e = some e
some_met (b ∷ fs) met some e = absurd (cc)

-- those that end before the offset are not looked at
pub from_past : (s from o : ℕ) (front met : List Block) → met ≢ [] → o + units front < from → first_from s from o (front ++ met) ≡ first_from s from (o + units front) met
from_past s from o [] met some l = let same : o ≡ o + 0 = omega arith in ap (λ (k : ℕ). first_from s from k met) same
from_past s from o (b ∷ front) met some l =
    let late : nat_le from (o + b.size) ≡ false = grind (arith, nat_tests) in
    let same : (o + b.size) + units front ≡ o + (b.size + units front) = omega arith in
    from_here s from o b (front ++ met) (some_met front met some) false (sym (ap (λ (v : Bool). not b.used && (nat_le s b.size && v)) late ∙ below b.used (nat_le s b.size)))
    ∙ from_past s from (o + b.size) front met some (omega (arith, l)) ∙ ap (λ (k : ℕ). first_from s from k met) same

-- a block that ends at the offset or behind it is looked at
pub behind : (from end : ℕ) → from ≤ end → nat_le from end ≡ true
behind from end l = grind (arith, nat_tests)

pub both : (u v : Bool) → (u && (v && true)) ≡ (u && v)
both true true = refl
both true false = refl
both false v = refl

-- a block more at the end
pub last_added : (p : Option ℕ) (bs : List Block) (c : Block) → last_or p (bs ++ c ∷ []) ≡ Some c.name
last_added p [] c = refl
last_added p (b ∷ bs) c = last_added (Some b.name) bs c

module _ (rest : List Block) (c : Block) where
  added_units : used_units (rest ++ c ∷ []) ≡ used_units rest + (if c.used then c.size else 0)
  added_units = omega (arith, tally_append (λ (b : Block). if b.used then b.size else 0) rest (c ∷ []))

  added_ranges : count_used (rest ++ c ∷ []) ≡ count_used rest + one c.used
  added_ranges = omega (arith, tally_append (λ (b : Block). one b.used) rest (c ∷ []))

  -- a free one
  pub free_added : c.used ≡ false → (used_units (rest ++ c ∷ []) ≡ used_units rest) × (count_used (rest ++ c ∷ []) ≡ count_used rest)
  free_added u = (omega (arith, added_units, ap (λ (t : Bool). if t then c.size else 0) u), omega (arith, added_ranges, ap one u))

  -- a live one
  pub live_added : c.used ≡ true → (used_units (rest ++ c ∷ []) ≡ used_units rest + c.size) × (count_used (rest ++ c ∷ []) ≡ count_used rest + 1)
  live_added u = (omega (arith, added_units, ap (λ (t : Bool). if t then c.size else 0) u), omega (arith, added_ranges, ap one u))

  module _ (u r : ℕ) where
    pub free_within : c.used ≡ false → IsWithin u r rest → IsWithin u r (rest ++ c ∷ [])
    free_within e w = let a = free_added e in elim w [ inl one ↦ inl (a.1 ∙ one) | inr few ↦ inr (omega (arith, a.0, few.0), omega (arith, a.1, few.1)) ]

    pub live_within : c.used ≡ true → ((1 ≤ count_used rest) × ((u < used_units rest + c.size) ⊎ (r ≤ count_used rest)) → ⊥) → IsWithin u r (rest ++ c ∷ [])
    live_within e h = let a = live_added e in elim (cases_lt 0 (count_used rest)) [
      | inl some ↦ elim (cases_lt u (used_units rest + c.size)) [
        | inl l ↦ absurd (h (some, inl l))
        | inr m ↦ elim (cases_lt (count_used rest) r) [
          | inl k ↦ inr (omega (arith, a.0, m), omega (arith, a.1, k))
          | inr k ↦ absurd (h (some, inr k))
        ]
      ]
      | inr none ↦ inl (omega (arith, a.1, none))
    ]

    pub not_within : c.used ≡ true → (1 ≤ count_used rest) × ((u < used_units rest + c.size) ⊎ (r ≤ count_used rest)) → IsWithin u r (rest ++ c ∷ []) → ⊥
    not_within e h w = let a = live_added e in elim w [
      | inl one ↦ absurd (omega (arith, a.1, one, h.0))
      | inr few ↦ elim h.1 [ inl l ↦ absurd (omega (arith, l, a.0, few.0)) | inr l ↦ absurd (omega (arith, l, a.1, few.1)) ]
    ]

-- the block that a link names is the first of those that are left
pub record Started (bs : List Block) (x : ℕ) : Type 0 where
  pub first : Block
  pub rest : List Block
  pub is : bs ≡ first ∷ rest
  pub name : first.name ≡ x

pub started : (bs : List Block) (x : ℕ) → first_or None bs ≡ Some x → Started bs x
started [] x e = absurd (cc)
started (b ∷ bs) x e = record { first = b; rest = bs; is = refl; name = cc }

pub none_left : (bs : List Block) → first_or None bs ≡ None → bs ≡ []
none_left [] e = refl
none_left (b ∷ bs) e = absurd (cc)

-- its place
pub started_place : {c : ChainCells} {last count x : ℕ} → IsSpace c last count → (front : List Block) (b : Block) (rest left : List Block) → blocks c last ≡ front ++ b ∷ (rest ++ left) → (s : Started left x)
    → HasPlace c c.reserved last count x (record { before = front ++ b ∷ rest; block = s.first; after = s.rest })
started_place {c} {last} {count} h front b rest left is s = placed (subst (λ (l : List Block). IsChain c c.reserved last count l) (is ∙ ap (λ (l : List Block). front ++ b ∷ (rest ++ l)) s.is ∙ sym (append_assoc front (b ∷ rest) (s.first ∷ s.rest))) h) s.name

-- live units are units, and so fit
pub used_fit : (rest : List Block) → used_units rest ≤ units rest
used_fit [] = omega arith
used_fit (b ∷ rest) = go b.used (used_fit rest)
  where
    go : (t : Bool) → used_units rest ≤ units rest → (if t then b.size else 0) + used_units rest ≤ b.size + units rest
    go true h = omega (arith, h)
    go false h = omega (arith, h)

-- the block that is found has a step
pub record IsBegun (s : ℕ) (bs : List Block) (x : ℕ) : Type 0 where
  pub front : List Block
  pub first : Block
  pub rest : List Block
  pub is : bs ≡ front ++ first ∷ rest
  pub name : first.name ≡ x
  pub free : first.used ≡ false
  pub whole : s ≤ first.size

pub begun : (s from o : ℕ) (bs : List Block) (x : ℕ) → first_from s from o bs ≡ Some x → IsBegun s bs x
begun s from o [] x e = absurd (cc)
begun s from o (b ∷ []) x e = absurd (cc)
begun s from o (b ∷ c ∷ bs) x e = go (not b.used && (nat_le s b.size && nat_le from (o + b.size))) refl (λ h. begun s from (o + b.size) (c ∷ bs) x h)
  where
    some : c ∷ bs ≢ []
    some q = absurd (cc)

    go : (t : Bool) → (not b.used && (nat_le s b.size && nat_le from (o + b.size))) ≡ t → (first_from s from (o + b.size) (c ∷ bs) ≡ Some x → IsBegun s (c ∷ bs) x) → IsBegun s (b ∷ c ∷ bs) x
    go true t rest = record {
      front = [];
      first = b;
      rest = c ∷ bs;
      is = refl;
      name = let h : Some b.name ≡ Some x = sym (from_here s from o b (c ∷ bs) some true (sym t)) ∙ e in cc;
      free = not-true b.used (and_parts (not b.used) (nat_le s b.size && nat_le from (o + b.size)) t).0;
      whole = leb-true s b.size (and_parts (nat_le s b.size) (nat_le from (o + b.size)) (and_parts (not b.used) (nat_le s b.size && nat_le from (o + b.size)) t).1).0;
    }
    go false t rest =
        let i : IsBegun s (c ∷ bs) x = rest (sym (from_here s from o b (c ∷ bs) some false (sym t)) ∙ e) in
        record { front = b ∷ i.front; first = i.first; rest = i.rest; is = ap (λ l. b ∷ l) i.is; name = i.name; free = i.free; whole = i.whole }

-- after a run comes no free block
pub stops_apart : (u r : ℕ) (bs back : List Block) → StopsAt u r bs back → starts_free back ≡ false
stops_apart u r bs [] s = refl
stops_apart u r bs (b ∷ back) s = ap not s.0

-- a free block after it has a node
pub few_left : (t m : ℕ) (v : View) → IsWellFormed v → v.max_allocs ≡ m → (front run back : List Block) → v.blocks ≡ front ++ (run ++ back) → CanFollow t v run
    → length front + (length (stepped t run) + length back) + 2 ≤ m
few_left t m v w limit front run back is can =
    let n : length v.blocks ≡ length front + (length run + length back) = omega (arith, ap (λ (l : List Block). length l) is, length-append front (run ++ back), length-append run back) in
    elim can [
      | inl room ↦ omega (arith, room, n, limit, stepped_length t run)
      | inr e ↦ omega (arith, w.room, n, limit, stepped_fewer t run e)
    ]

-- the live blocks stay
pub slides_live : (s from u r : ℕ) (v w : View) (p : Progress) → SlidesWithin s from u r v w p → live w.blocks ≡ live v.blocks
slides_live s from u r v w p h = stays_live s h.name v w h.front (h.first ∷ h.rest) h.back h.reached.is h.view

-- one more free block of whole steps at the end
pub added_whole : (s : ℕ) (bs : List Block) (c : Block) → all_steps s (bs ++ c ∷ []) ≡ all_steps s bs + one (not c.used && nat_eq (c.size % s) 0)
added_whole s bs c = omega (arith, tally_append (λ (b : Block). one (not b.used && nat_eq (b.size % s) 0)) bs (c ∷ []))

one_whole : (s : ℕ) (b : Block) → 1 ≤ one (not b.used && nat_eq (b.size % s) 0) → (b.used ≡ false) × (b.size % s ≡ 0)
one_whole s b l = go b.used refl (nat_eq (b.size % s) 0) refl
  where
    go : (u : Bool) → b.used ≡ u → (t : Bool) → nat_eq (b.size % s) 0 ≡ t → (b.used ≡ false) × (b.size % s ≡ 0)
    go true u t q = absurd (omega (arith, l, ap (λ (v : Bool). one (not v && nat_eq (b.size % s) 0)) u))
    go false u true q = (u, grind (arith, nat_tests))
    go false u false q = absurd (omega (arith, l, ap (λ (v : Bool). one (not v && nat_eq (b.size % s) 0)) u, ap one q))

pub whole_one : (s : ℕ) (b : Block) → b.used ≡ false → b.size % s ≡ 0 → one (not b.used && nat_eq (b.size % s) 0) ≡ 1
whole_one s b u z = ap₂ (λ (v : Bool) (n : ℕ). one (not v && nat_eq n 0)) u z

-- a block of a run is used up where the last one is free, or one of them has whole steps
pub freed_run : (s : ℕ) (b : Block) (bs : List Block) → used_up s (b ∷ bs) ≢ [] → (1 ≤ all_steps s (b ∷ bs)) ⊎ (ends_used (b ∷ bs) ≡ false)
freed_run s b [] e = go b.used refl
  where
    go : (u : Bool) → b.used ≡ u → (1 ≤ all_steps s (b ∷ [])) ⊎ (ends_used (b ∷ []) ≡ false)
    go true u = absurd (e (emptied_used s b [] u))
    go false u = inr u
freed_run s b (c ∷ cs) e = elim (freed_here s b (c ∷ cs) (λ q. absurd (cc)) e) [
  | inl more ↦ elim (freed_run s c cs more) [ inl l ↦ inl (omega (arith, l)) | inr u ↦ inr u ]
  | inr h ↦ inl (omega (arith, whole_one s b h.0 h.1))
]

pub run_freed : (s : ℕ) (b : Block) (bs : List Block) → (1 ≤ all_steps s (b ∷ bs)) ⊎ (ends_used (b ∷ bs) ≡ false) → used_up s (b ∷ bs) ≢ []
run_freed s b [] (inl l) = let w = one_whole s b (omega (arith, l)) in freed_now s b [] w.0 w.1
run_freed s b [] (inr u) = λ q. let k : b ∷ [] ≡ [] = sym (emptied_free s b [] u 0 refl) ∙ q in absurd (cc)
run_freed s b (c ∷ cs) (inl l) = elim (cases_lt 0 (one (not b.used && nat_eq (b.size % s) 0))) [
  | inl here ↦ let w = one_whole s b (omega (arith, here)) in freed_now s b (c ∷ cs) w.0 w.1
  | inr none ↦ freed_still s b (c ∷ cs) (run_freed s c cs (inl (omega (arith, l, none))))
]
run_freed s b (c ∷ cs) (inr u) = freed_still s b (c ∷ cs) (run_freed s c cs (inr u))

-- whether a free block can follow a run, so far
abbrev pub IsFollowed : ℕ → Bool → Bool → List Block → Type 0
IsFollowed s admits t bs = (t ≡ true) ↔ ((admits ≡ true) ⊎ (1 ≤ all_steps s bs))

module _ (s : ℕ) (b : Block) (admits : Bool) where
  pub followed_first : (t : Bool) → (t ≡ true) ↔ ((admits ≡ true) ⊎ (b.size % s ≡ 0)) → b.used ≡ false → IsFollowed s admits t (b ∷ [])
  followed_first t h u = (
    λ e. elim (h.0 e) [ inl a ↦ inl a | inr z ↦ inr (omega (arith, whole_one s b u z)) ],
    λ e. elim e [ inl a ↦ h.1 (inl a) | inr l ↦ h.1 (inr (one_whole s b (omega (arith, l))).1) ],
  )

  -- one block more
  pub followed_on : (rest : List Block) (c : Block) (was is : Bool) → IsFollowed s admits was (b ∷ rest) → (is ≡ true) ↔ ((was ≡ true) ⊎ ((c.used ≡ false) × (c.size % s ≡ 0)))
      → IsFollowed s admits is (b ∷ (rest ++ c ∷ []))
  followed_on rest c was is h k =
      let more = added_whole s (b ∷ rest) c in (
        λ e. elim (k.0 e) [
          | inl w ↦ elim (h.0 w) [ inl a ↦ inl a | inr l ↦ inr (omega (arith, l, more)) ]
          | inr z ↦ inr (omega (arith, more, whole_one s c z.0 z.1))
        ],
        λ e. elim e [
          | inl a ↦ k.1 (inl (h.1 (inl a)))
          | inr l ↦ elim (cases_lt 0 (one (not c.used && nat_eq (c.size % s) 0))) [
            | inl here ↦ k.1 (inr (one_whole s c (omega (arith, here))))
            | inr none ↦ k.1 (inl (h.1 (inr (omega (arith, l, more, none)))))
          ]
        ],
      )

  -- where the run ends
  pub followed_end : (rest : List Block) (t end : Bool) → ends_used (b ∷ rest) ≡ end → IsFollowed s admits t (b ∷ rest)
      → ((t ≡ true) ⊎ (end ≡ false)) ↔ ((admits ≡ true) ⊎ (used_up s (b ∷ rest) ≢ []))
  followed_end rest t end e h = (
    λ can. elim can [
      | inl w ↦ elim (h.0 w) [ inl a ↦ inl a | inr l ↦ inr (run_freed s b rest (inl l)) ]
      | inr u ↦ inr (run_freed s b rest (inr (e ∙ u)))
    ],
    λ can. elim can [
      | inl a ↦ inl (h.1 (inl a))
      | inr f ↦ elim (freed_run s b rest f) [ inl l ↦ inl (h.1 (inr l)) | inr u ↦ inr (sym e ∙ u) ]
    ],
  )

-- the run that was found in sound fields
pub record Run (f : Fields) (x : ℕ) (admits : Bool) (reach : Reach) (v : View) (s from u r : ℕ) : Type 0 where
  pub front : List Block
  pub first : Block
  pub rest : List Block
  pub back : List Block
  pub is : blocks f.cells.chain f.last ≡ front ++ ((first ∷ rest) ++ back)
  pub place : HasPlace f.cells.chain f.cells.chain.reserved f.last f.count x (record { before = front; block = first; after = rest ++ back })
  pub free : first.used ≡ false
  pub end : last_or None (first ∷ rest) ≡ Some reach.end
  pub follows : ((reach.follows ≡ true) ⊎ (reach.end_used ≡ false)) ↔ ((admits ≡ true) ⊎ (used_up s (first ∷ rest) ≢ []))
  pub reached : IsRunWithin s from u r v front first rest back
  pub progress : reach.progress ≡ record { units = used_units rest; ranges = count_used rest; next = start_of (units (front ++ first ∷ rest)) back }

-- a run has about as many live blocks as free ones
pub run_few : (v : View) → IsWellFormed v → (front : List Block) (run back : List Block) → v.blocks ≡ front ++ (run ++ back) → length run ≤ 2 * count_used run + 1
run_few v w front run back is = apart_few run (apart_parts run back (apart_parts front (run ++ back) (subst AreCoalesced is w.apart)).1).0

-- the run is no longer than the budget allows
pub few_rest : (u r : ℕ) (v : View) → IsWellFormed v → (front : List Block) (b : Block) (rest back : List Block) → v.blocks ≡ front ++ ((b ∷ rest) ++ back) → b.used ≡ false → IsWithin u r rest
    → length rest ≤ 2 * max 1 r
few_rest u r v w front b rest back is free within =
    let n = run_few v w front (b ∷ rest) back is in elim within [
      | inl alone ↦ omega (arith, n, alone, ap one free)
      | inr few ↦ omega (arith, n, few.1, ap one free)
    ]

-- what the search for the first block and that for the run count
pub searches_cost : {a k₁ k₂ : ℕ} (u r : ℕ) (bs : List Block) (v : View) → IsWellFormed v → (front : List Block) (b : Block) (rest back after : List Block) → bs ≡ v.blocks → a ≡ v.accesses
    → bs ≡ front ++ b ∷ after → after ≡ rest ++ back → b.used ≡ false → IsWithin u r rest → (a ≤ k₁) × (k₁ + 3 ≤ a + 4 * length bs) → k₁ ≤ k₂ → k₂ ≤ k₁ + 3 * length rest + 5
    → (v.accesses ≤ k₂) × (k₂ ≤ v.accesses + (4 * length v.blocks + 3 * length rest + 2)) × (k₂ ≤ v.accesses + (4 * length v.blocks + 6 * max 1 r + 2))
searches_cost u r bs v w front b rest back after now old is parts free within first more run =
    let all = ap (λ (l : List Block). length l) now in
    let few = few_rest u r v w front b rest back (sym now ∙ is ∙ ap (λ (l : List Block). front ++ b ∷ l) parts) free within in (
      omega (arith, old, first.0, more),
      omega (arith, old, all, first.1, run),
      omega (arith, old, all, first.1, run, few),
    )
