-- A life is what the plain machine shows.
use Rattle.std.proofs.Common.{◌≡◌, ◌≢◌, ℕ, zero, suc, ◌+◌, ◌≤◌, Bool, true, false, not, ◌&&◌, ◌||◌, List, [], ◌∷◌, Option, Some, None, nat_eq, nat_lt, if◌then◌else◌, refl, sym, ap, subst, ◌∙◌, inl}
use Rattle.std.proofs.Common.{inr, arith, eq-eqb, ne_eqb}
use Rattle.std.proofs.lemmas.Bool.{cases_eq, true≢false, false≢true}
use Rattle.offset_allocator.specs.View.{max_size}
use Rattle.offset_script.specs.declared.scripts.Command.{Command}
use Rattle.offset_script.specs.declared.scripts.Command.TheVariants as command
use Rattle.offset_script.specs.Machine.{Live, Block, total, Place, place_of, ends_live, coalesce, State, Answer, Outcome, start, step, answers, after, returns_only, leaves, grant, release, reset}
use Rattle.offset_script.specs.{Machine.stamp_of_call, Machine.stamp_of_padding, Machine.is_short_of, Histories.KeepsSpace, Totals.requested_units}
use Rattle.offset_script.specs.Machine as machine
use Rattle.offset_script.proofs.{Lists.count, Lists.whole, Lists.count-append, Found.chosen_at, Found.not_found, Well.IsWell, Well.not_there, Nests.IsQuiet, Nests.does, Nests.IsGranted}
use Rattle.offset_pictures.specs.Lives.{Life, life_of_answer, lives_from, lives_of, range_of, blocks_after, is_on, IsSeen}
use Rattle.offset_pictures.specs.Lives as lives
use Rattle.offset_pictures.proofs.Ranges.{either_of, range_none, range_coalesce, range_released, range_gone, range_kept, range_granted}

-- ---- one call

-- the range of grant k after a call
abbrev left : ℕ → Outcome → Option (ℕ × ℕ)
left k o = range_of k 0 o.state.blocks

released_keeps : (s : State) (k j : ℕ) → k ≢ j → (o : Option Place) → place_of j s.blocks ≡ o → left k (release s o) ≡ range_of k 0 s.blocks
released_keeps s k j n None e = refl
released_keeps s k j n (Some p) e = range_released k j p.block.size (stamp_of_call s) s.blocks p e refl n

released_ends : (s : State) → IsWell s → (k : ℕ) (o : Option Place) → place_of k s.blocks ≡ o → left k (release s o) ≡ None
released_ends s w k None e = range_none k 0 s.blocks (not_found k s.blocks e)
released_ends s w k (Some p) e = range_gone k p.block.size (stamp_of_call s) s.blocks p (w.once (Live k)) e

not_same : (j k : ℕ) → not (nat_eq j k) ≡ true → k ≢ j
not_same j k e same = true≢false (sym e ∙ ap not (eq-eqb j k (sym same)))

is_same : (j k : ℕ) → not (nat_eq j k) ≡ false → j ≡ k
is_same j k e = elim (cases_eq j k) [ inl same ↦ same | inr other ↦ absurd (true≢false (sym (ap not (ne_eqb j k other)) ∙ e)) ]

-- a grant made before this call
quiet_keeps : (c : Command) (s : State) (k : ℕ) → k ≤ s.grants → KeepsSpace c → lives.leaves k c ≡ true → left k (step c s) ≡ range_of k 0 s.blocks
quiet_keeps c s k made keeps stays = elim (does c s keeps) [
  | inl q ↦ ap (left k) q.is
  | inr (inl d) ↦
      let chosen_place = chosen_at d.needed s.blocks d.place d.chose in
      ap (left k) d.is
      ∙ range_kept k d.place (requested_units c) d.padding (stamp_of_padding s) (s.grants + 1) (stamp_of_call s) (both_left _ _ chosen_place.1) d.within (λ e. absurd (omega arith))
      ∙ ap (range_of k 0) (sym chosen_place.0)
  | inr (inr d) ↦ ap (left k) d.is ∙ range_released k d.number d.place.block.size (stamp_of_call s) s.blocks d.place d.found refl (not_same d.number k (ap (lives.leaves k) (sym d.frees) ∙ stays))
]
  where
    both_left : (x y : Bool) → (x && y) ≡ true → x ≡ true
    both_left true y e = refl
    both_left false y e = absurd (false≢true e)

either_side : (b : Bool) (o p : Outcome) (k : ℕ) (r : Option (ℕ × ℕ)) → left k o ≡ r → left k p ≡ r → left k (if b then o else p) ≡ r
either_side true o p k r f g = f
either_side false o p k r f g = g

extend_keeps : (s : State) (k more : ℕ) → left k (step (command.Extend more) s) ≡ range_of k 0 s.blocks
extend_keeps s k zero = refl
extend_keeps s k (suc more) = either_side (nat_lt max_size (total s.blocks + suc more) || (ends_live s.blocks && is_short_of 1 s)) (returns_only s machine.Refused)
    (leaves s (coalesce s.blocks (suc more) (stamp_of_call s) []) machine.Extended) k _
    refl (range_coalesce k s.blocks (suc more) (stamp_of_call s) [] ∙ none_after (range_of k 0 s.blocks))
  where
    none_after : (r : Option (ℕ × ℕ)) → either_of r None ≡ r
    none_after None = refl
    none_after (Some x) = refl

pub call_keeps : (c : Command) (s : State) (k : ℕ) → k ≤ s.grants → lives.leaves k c ≡ true → left k (step c s) ≡ range_of k 0 s.blocks
call_keeps (command.Alloc n) s k made stays = quiet_keeps (command.Alloc n) s k made tt stays
call_keeps (command.Free j) s k made stays = released_keeps s k j (not_same j k stays) (place_of j s.blocks) refl
call_keeps (command.Size j) s k made stays = refl
call_keeps command.Report s k made stays = refl
call_keeps command.Full s k made stays = refl
call_keeps command.Reset s k made stays = absurd (false≢true stays)
call_keeps (command.Align n align) s k made stays = quiet_keeps (command.Align n align) s k made tt stays
call_keeps (command.Extend more) s k made stays = extend_keeps s k more

pub call_ends : (c : Command) (s : State) → IsWell s → (k : ℕ) → lives.leaves k c ≡ false → left k (step c s) ≡ None
call_ends (command.Alloc n) s w k e = absurd (true≢false e)
call_ends (command.Free j) s w k e = subst (λ i. left k (release s (place_of i s.blocks)) ≡ None) (sym (is_same j k e)) (released_ends s w k (place_of k s.blocks) refl)
call_ends (command.Size j) s w k e = absurd (true≢false e)
call_ends command.Report s w k e = absurd (true≢false e)
call_ends command.Full s w k e = absurd (true≢false e)
call_ends command.Reset s w k e = refl
call_ends (command.Align n align) s w k e = absurd (true≢false e)
call_ends (command.Extend more) s w k e = absurd (true≢false e)

-- how many grants an answer is
abbrev pub grants_of : Answer → ℕ
grants_of (machine.Grant k offset) = 1
grants_of other = 0

-- what an answer says of the range of the next grant
HasGrantedRange : Command → State → Outcome → Type 0
HasGrantedRange c s o = (o.state.grants ≡ s.grants + grants_of o.answer)
    × ((k offset : ℕ) → o.answer ≡ machine.Grant k offset → (k ≡ s.grants + 1) × (left k o ≡ Some (offset, requested_units c)))

no_grant : (a : Answer) → IsQuiet a → (grants_of a ≡ 0) × ((k offset : ℕ) → a ≡ machine.Grant k offset → ⊥)
no_grant (machine.Grant k offset) q = absurd q
no_grant machine.Refused q = (refl, λ k o e. cc)
no_grant machine.Freed q = (refl, λ k o e. cc)
no_grant machine.Gone q = (refl, λ k o e. cc)
no_grant (machine.Size n) q = (refl, λ k o e. cc)
no_grant (machine.Report free largest) q = (refl, λ k o e. cc)
no_grant (machine.Full rows) q = (refl, λ k o e. cc)
no_grant machine.Reset q = (refl, λ k o e. cc)
no_grant machine.Extended q = (refl, λ k o e. cc)

quiet_says : (c : Command) (s : State) (a : Answer) → IsQuiet a → HasGrantedRange c s (returns_only s a)
unfolding HasGrantedRange
quiet_says c s a q = let n = no_grant a q in (omega (arith, n.0), λ k o e. absurd (n.1 k o e))

left_says : (c : Command) (s : State) (bs : List Block) (a : Answer) → grants_of a ≡ 0 → ((k offset : ℕ) → a ≡ machine.Grant k offset → ⊥) → HasGrantedRange c s (leaves s bs a)
unfolding HasGrantedRange
left_says c s bs a n none = (omega (arith, n), λ k o e. absurd (none k o e))

same_grant : (k j o p : ℕ) → machine.Grant k o ≡ machine.Grant j p → (k ≡ j) × (o ≡ p)
same_grant k j o p e = (cc, cc)

grant_says : (c : Command) (s : State) → IsWell s → (d : IsGranted (requested_units c) s (step c s)) → HasGrantedRange c s (step c s)
unfolding HasGrantedRange
grant_says c s w d =
    let p = d.place in
    let chosen_place = chosen_at d.needed s.blocks p d.chose in
    subst (HasGrantedRange c s) (sym d.is) (
      refl,
      λ k offset e.
          let same = same_grant (s.grants + 1) k (total p.before + d.padding) offset e in (
            sym same.0,
            ap (λ j. left j (grant s (requested_units c) d.padding p)) (sym same.0)
                ∙ range_granted p (requested_units c) d.padding (stamp_of_padding s) (s.grants + 1) (stamp_of_call s) (none p chosen_place.0)
                ∙ ap (λ o. Some (o, requested_units c)) same.1,
          ),
    )
  where
    none : (p : Place) → s.blocks ≡ whole p → count (Live (s.grants + 1)) p.before ≡ 0
    none p e = let g = not_there s w (Live (s.grants + 1)) (λ o. absurd (let l = o.1 in omega arith)) in let a = count-append (Live (s.grants + 1)) p.before (p.block ∷ p.after) in
        omega (arith, g, a, ap (count (Live (s.grants + 1))) e)

keeping_says : (c : Command) (s : State) → IsWell s → KeepsSpace c → HasGrantedRange c s (step c s)
keeping_says c s w keeps = elim (does c s keeps) [
  | inl q ↦ subst (HasGrantedRange c s) (sym q.is) (quiet_says c s q.answer q.quiet)
  | inr (inl d) ↦ grant_says c s w d
  | inr (inr d) ↦ subst (HasGrantedRange c s) (sym d.is) (left_says c s _ machine.Freed refl (λ k o e. cc))
]

says_if : (c : Command) (s : State) (b : Bool) (o p : Outcome) → HasGrantedRange c s o → HasGrantedRange c s p → HasGrantedRange c s (if b then o else p)
says_if c s true o p f g = f
says_if c s false o p f g = g

call_says : (c : Command) (s : State) → IsWell s → HasGrantedRange c s (step c s)
call_says (command.Alloc n) s w = keeping_says (command.Alloc n) s w tt
call_says (command.Free j) s w = keeping_says (command.Free j) s w tt
call_says (command.Size j) s w = keeping_says (command.Size j) s w tt
call_says command.Report s w = keeping_says command.Report s w tt
call_says command.Full s w = keeping_says command.Full s w tt
call_says command.Reset s w = left_says command.Reset s _ machine.Reset refl (λ k o e. cc)
call_says (command.Align n align) s w = keeping_says (command.Align n align) s w tt
call_says (command.Extend zero) s w = quiet_says (command.Extend zero) s machine.Extended tt
call_says (command.Extend (suc more)) s w = says_if (command.Extend (suc more)) s (nat_lt max_size (total s.blocks + suc more) || (ends_live s.blocks && is_short_of 1 s))
    (returns_only s machine.Refused) (leaves s (coalesce s.blocks (suc more) (stamp_of_call s) []) machine.Extended)
    (quiet_says (command.Extend (suc more)) s machine.Refused tt) (left_says (command.Extend (suc more)) s _ machine.Extended refl (λ k o e. cc))

-- the grants after a call
pub call_counts : (c : Command) (s : State) → IsWell s → (step c s).state.grants ≡ s.grants + grants_of (step c s).answer
unfolding HasGrantedRange
call_counts c s w = (call_says c s w).0

-- the range of a new grant
pub call_grants : (c : Command) (s : State) → IsWell s → (k offset : ℕ) → (step c s).answer ≡ machine.Grant k offset
    → (k ≡ s.grants + 1) × (range_of k 0 (step c s).state.blocks ≡ Some (offset, requested_units c))
unfolding HasGrantedRange
call_grants c s w k offset e = (call_says c s w).1 k offset e
