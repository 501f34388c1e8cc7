-- Walks along the live ranges: each is met once.
use Rattle.offset_allocator.proofs.Common.{◌≡◌, ℕ, zero, suc, ◌+◌, ◌≤◌, ◌⊎◌, true, false, List, [], ◌∷◌, ◌++◌, Option, None, Some, nat_eq, option_map, length, length-append, reverse, reverse-append}
use Rattle.offset_allocator.proofs.Common.{refl, sym, ap, subst, ◌∙◌, inl, inr, arith, append_assoc, append-nil, eq-eqb, ne_eqb, AllByRecursion, Block, View, Place, Handle, IsWellFormed, units}
use Rattle.offset_allocator.proofs.{Common.placed, Common.place_of, Common.is_used_at, Common.count_named, Common.tally, Common.one, Reporting.Nearby.back, Reporting.Nearby.used_first}
use Rattle.offset_allocator.proofs.{Reporting.Nearby.free_first, Views.ViewPlaces.place_here, Tallies.hit_cases, Tallies.times-append, Tallies.units-append, Tallies.one-same, Reading.live_is}
use Rattle.std.proofs.lemmas.Bool.{cases_Bool}
use Rattle.offset_allocator.specs.Reporting.Walking.{AreOfLive, HasOffset, IsWalk, first_handle, first_live, handles_from, last_live, live_after, live_before, live_handles}

-- what is met of one block
met_used : (o : ℕ) (b : Block) (bs : List Block) → b.used ≡ true → handles_from o (b ∷ bs) ≡ record { name = b.name; offset = o } ∷ handles_from (o + b.size) bs
met_used o b bs e = rw e refl

met_free : (o : ℕ) (b : Block) (bs : List Block) → b.used ≡ false → handles_from o (b ∷ bs) ≡ handles_from (o + b.size) bs
met_free o b bs e = rw e refl

-- and of the last one
met_push : (o : ℕ) (fs : List Block) (b : Block) → handles_from o (fs ++ b ∷ []) ≡ handles_from o fs ++ handles_from (o + units fs) (b ∷ [])
met_push o [] b = ap (λ (n : ℕ). handles_from n (b ∷ [])) (let e : o ≡ o + 0 = omega arith in e)
met_push o (f ∷ fs) b =
    let later : handles_from (o + f.size) (fs ++ b ∷ []) ≡ handles_from (o + f.size) fs ++ handles_from (o + units (f ∷ fs)) (b ∷ [])
    = met_push (o + f.size) fs b ∙ ap (λ (n : ℕ). handles_from (o + f.size) fs ++ handles_from n (b ∷ [])) (let e : o + f.size + units fs ≡ o + units (f ∷ fs) = omega arith in e) in
    elim (cases_Bool f.used) [
      | inl u ↦ met_used o f (fs ++ b ∷ []) u ∙ ap (λ (hs : List Handle). record { name = f.name; offset = o } ∷ hs) later
          ∙ sym (ap (λ (hs : List Handle). hs ++ handles_from (o + units (f ∷ fs)) (b ∷ [])) (met_used o f fs u))
      | inr u ↦ met_free o f (fs ++ b ∷ []) u ∙ later ∙ sym (ap (λ (hs : List Handle). hs ++ handles_from (o + units (f ∷ fs)) (b ∷ [])) (met_free o f fs u))
    ]

-- a list has a last element, or none
last_or_none : (bs : List Block) → (bs ≡ []) ⊎ ((fs : List Block) × (b : Block) × (bs ≡ fs ++ b ∷ []))
last_or_none [] = inl refl
last_or_none (b ∷ bs) = elim (last_or_none bs) [
  | inl e ↦ inr ([], b, ap (λ (l : List Block). b ∷ l) e)
  | inr w ↦ inr (b ∷ w.0, w.1, ap (λ (l : List Block). b ∷ l) w.2)
]

-- a name is met as often as its block is used
abbrev called : ℕ → Handle → ℕ
called x h = one (nat_eq x h.name)

none_met : (x o : ℕ) (bs : List Block) → count_named x bs ≡ 0 → tally (called x) (handles_from o bs) ≡ 0
none_met x o [] e = refl
none_met x o (b ∷ bs) e =
    let rest : tally (called x) (handles_from (o + b.size) bs) ≡ 0 = none_met x (o + b.size) bs (omega (arith, e)) in
    elim (cases_Bool b.used) [
      | inl u ↦ subst (λ hs. tally (called x) hs ≡ 0) (sym (met_used o b bs u)) (omega (arith, rest, e))
      | inr u ↦ subst (λ hs. tally (called x) hs ≡ 0) (sym (met_free o b bs u)) rest
    ]

used_below : (b : Block) (o : Option Place) → is_used_at (option_map (λ (p : Place). record p { before = b ∷ p.before }) o) ≡ is_used_at o
used_below b None = refl
used_below b (Some p) = refl

met_once : (x o : ℕ) (bs : List Block) → count_named x bs ≤ 1 → tally (called x) (handles_from o bs) ≡ one (is_used_at (place_of x bs))
met_once x o [] l = refl
met_once x o (b ∷ bs) l = elim (hit_cases x b.name) [
  | inl hit ↦
      let rest : tally (called x) (handles_from (o + b.size) bs) ≡ 0 = none_met x (o + b.size) bs (omega (arith, l, hit.1)) in
      let here : one (is_used_at (place_of x (b ∷ bs))) ≡ one b.used = rw (eq-eqb x b.name hit.0) refl in
      elim (cases_Bool b.used) [
        | inl u ↦ subst (λ hs. tally (called x) hs ≡ one (is_used_at (place_of x (b ∷ bs)))) (sym (met_used o b bs u)) (omega (arith, rest, hit.1, here, ap one u))
        | inr u ↦ subst (λ hs. tally (called x) hs ≡ one (is_used_at (place_of x (b ∷ bs)))) (sym (met_free o b bs u)) (omega (arith, rest, here, ap one u))
      ]
  | inr miss ↦
      let rest : tally (called x) (handles_from (o + b.size) bs) ≡ one (is_used_at (place_of x bs)) = met_once x (o + b.size) bs (omega (arith, l, miss.1)) in
      let below : one (is_used_at (place_of x (b ∷ bs))) ≡ one (is_used_at (place_of x bs)) = rw (ne_eqb x b.name miss.0) (ap one (used_below b (place_of x bs))) in
      elim (cases_Bool b.used) [
        | inl u ↦ subst (λ hs. tally (called x) hs ≡ one (is_used_at (place_of x (b ∷ bs)))) (sym (met_used o b bs u)) (omega (arith, rest, miss.1, below))
        | inr u ↦ subst (λ hs. tally (called x) hs ≡ one (is_used_at (place_of x (b ∷ bs)))) (sym (met_free o b bs u)) (omega (arith, rest, below))
      ]
]

module _ (v : View) (w : IsWellFormed v) where
  -- a block is where its name is
  at_name : (before : List Block) (b : Block) (after : List Block) → v.blocks ≡ before ++ b ∷ after → place_of b.name v.blocks ≡ Some (record { before = before; block = b; after = after })
  at_name before b after e =
      ap (place_of b.name) e
      ∙ place_here b.name before b after (omega (arith, w.distinct b.name, ap (count_named b.name) e, times-append b.name before (b ∷ after), one-same b.name)) refl

  after_used : (before : List Block) (b : Block) (after : List Block) → v.blocks ≡ before ++ b ∷ after → b.used ≡ true
      → live_after b.name v ≡ first_handle (placed (units before + b.size) after)
  after_used before b after e u = rw (at_name before b after e, u) refl

  before_used : (before : List Block) (b : Block) (after : List Block) → v.blocks ≡ before ++ b ∷ after → b.used ≡ true → live_before b.name v ≡ first_handle (reverse (placed 0 before))
  before_used before b after e u = rw (at_name before b after e, u) refl

  -- from a block on
  walk_on : (o : ℕ) (before after : List Block) → v.blocks ≡ before ++ after → o ≡ units before → IsWalk (λ x. live_after x v) (first_handle (placed o after)) (handles_from o after)
  walk_on o before [] e at = refl
  walk_on o before (b ∷ after) e at =
      let rest : IsWalk (λ x. live_after x v) (first_handle (placed (o + b.size) after)) (handles_from (o + b.size) after)
      = walk_on (o + b.size) (before ++ b ∷ []) after (e ∙ sym (append_assoc before (b ∷ []) after)) (omega (arith, at, units-append before (b ∷ []))) in
      elim (cases_Bool b.used) [
        | inl u ↦
            let next : first_handle (placed (o + b.size) after) ≡ live_after b.name v = ap (λ (n : ℕ). first_handle (placed (n + b.size) after)) at ∙ sym (after_used before b after e u) in
            subst (λ hs. IsWalk (λ x. live_after x v) (first_handle (placed o (b ∷ after))) hs) (sym (met_used o b after u))
            (used_first o b (placed (o + b.size) after) u, subst (λ h. IsWalk (λ x. live_after x v) h (handles_from (o + b.size) after)) next rest)
        | inr u ↦
            subst (λ hs. IsWalk (λ x. live_after x v) (first_handle (placed o (b ∷ after))) hs) (sym (met_free o b after u))
            (subst (λ h. IsWalk (λ x. live_after x v) h (handles_from (o + b.size) after)) (sym (free_first o b (placed (o + b.size) after) u)) rest)
      ]

  pub forward : IsWalk (λ x. live_after x v) (first_live v) (live_handles v)
  forward = walk_on 0 [] v.blocks refl refl

  -- and back, from one block more
  one_more : (fs : List Block) (b : Block) (after : List Block) → v.blocks ≡ fs ++ b ∷ after
      → IsWalk (λ x. live_before x v) (first_handle (reverse (placed 0 fs))) (reverse (handles_from 0 fs))
      → IsWalk (λ x. live_before x v) (first_handle (reverse (placed 0 (fs ++ b ∷ [])))) (reverse (handles_from 0 (fs ++ b ∷ [])))
  one_more fs b after split rest = elim (cases_Bool b.used) [
    | inl u ↦
        let met : reverse (handles_from 0 (fs ++ b ∷ [])) ≡ record { name = b.name; offset = units fs } ∷ reverse (handles_from 0 fs)
        = ap (reverse {A = Handle}) (met_push 0 fs b ∙ ap (λ (hs : List Handle). handles_from 0 fs ++ hs) (met_used (0 + units fs) b [] u))
        ∙ reverse-append (handles_from 0 fs) (record { name = b.name; offset = 0 + units fs } ∷ [])
        ∙ ap (λ (o : ℕ). record { name = b.name; offset = o } ∷ reverse (handles_from 0 fs)) (let zero_first : 0 + units fs ≡ units fs = omega arith in zero_first) in
        subst (λ hs. IsWalk (λ x. live_before x v) (first_handle (reverse (placed 0 (fs ++ b ∷ [])))) hs) (sym met) (
          ap first_handle (back fs b) ∙ used_first (units fs) b (reverse (placed 0 fs)) u,
          subst (λ h. IsWalk (λ x. live_before x v) h (reverse (handles_from 0 fs))) (sym (before_used fs b after split u)) rest,
        )
    | inr u ↦
        let met : reverse (handles_from 0 (fs ++ b ∷ [])) ≡ reverse (handles_from 0 fs)
        = ap (reverse {A = Handle}) (met_push 0 fs b ∙ ap (λ (hs : List Handle). handles_from 0 fs ++ hs) (met_free (0 + units fs) b [] u) ∙ append-nil (handles_from 0 fs)) in
        subst (λ hs. IsWalk (λ x. live_before x v) (first_handle (reverse (placed 0 (fs ++ b ∷ [])))) hs) (sym met)
        (subst (λ h. IsWalk (λ x. live_before x v) h (reverse (handles_from 0 fs))) (sym (ap first_handle (back fs b) ∙ free_first (units fs) b (reverse (placed 0 fs)) u)) rest)
  ]

  walk_back : (n : ℕ) (before after : List Block) → length before ≤ n → v.blocks ≡ before ++ after
      → IsWalk (λ x. live_before x v) (first_handle (reverse (placed 0 before))) (reverse (handles_from 0 before))
  walk_back zero [] after l e = refl
  walk_back zero (b ∷ before) after l e = absurd (omega arith)
  walk_back (suc n) before after l e = elim (last_or_none before) [
    | inl none ↦ subst (λ bs. IsWalk (λ x. live_before x v) (first_handle (reverse (placed 0 bs))) (reverse (handles_from 0 bs))) (sym none) refl
    | inr last ↦
        let fs = last.0 in
        let b = last.1 in
        let split : v.blocks ≡ fs ++ b ∷ after = e ∙ ap (λ (bs : List Block). bs ++ after) last.2 ∙ append_assoc fs (b ∷ []) after in
        let rest : IsWalk (λ x. live_before x v) (first_handle (reverse (placed 0 fs))) (reverse (handles_from 0 fs))
        = walk_back n fs (b ∷ after) (omega (arith, l, ap (λ (bs : List Block). length bs) last.2, length-append fs (b ∷ []))) split in
        subst (λ bs. IsWalk (λ x. live_before x v) (first_handle (reverse (placed 0 bs))) (reverse (handles_from 0 bs))) (sym last.2) (one_more fs b after split rest)
  ]

  pub backward : IsWalk (λ x. live_before x v) (last_live v) (reverse (live_handles v))
  backward = walk_back (length v.blocks) v.blocks [] (omega arith) (sym (append-nil v.blocks))

  -- each handle has the offset of its range
  offsets_on : (o : ℕ) (before after : List Block) → v.blocks ≡ before ++ after → o ≡ units before → AllByRecursion (HasOffset v) (handles_from o after)
  offsets_on o before [] e at = tt
  offsets_on o before (b ∷ after) e at =
      let rest : AllByRecursion (HasOffset v) (handles_from (o + b.size) after)
      = offsets_on (o + b.size) (before ++ b ∷ []) after (e ∙ sym (append_assoc before (b ∷ []) after)) (omega (arith, at, units-append before (b ∷ []))) in
      elim (cases_Bool b.used) [
        | inl u ↦ subst (AllByRecursion (HasOffset v)) (sym (met_used o b after u)) (rw (at_name before b after e, u) (ap (λ (n : ℕ). Some n) (sym at)), rest)
        | inr u ↦ subst (AllByRecursion (HasOffset v)) (sym (met_free o b after u)) rest
      ]

  pub all_met : AreOfLive (live_handles v) v
  all_met = record {
    once = λ x. met_once x 0 v.blocks (w.distinct x) ∙ sym (ap one (live_is x v));
    offsets = offsets_on 0 [] v.blocks refl refl;
  }
