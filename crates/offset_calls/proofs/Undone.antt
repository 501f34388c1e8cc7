-- Units that are added at the end, and taken off again.
use Rattle.offset_calls.proofs.Common.{◌≡◌, ℕ, zero, suc, ◌+◌, ◌-◌, ◌≤◌, Bool, true, false, not, ◌&&◌, ◌||◌, List, [], ◌∷◌, ◌++◌, nat_lt, IsTrue, if◌then◌else◌, refl, sym, ap, ap₂, subst, ◌∙◌, arith}
use Rattle.offset_calls.proofs.Common.{append-nil, le-leb, map-append, false≢true, outline, State, is_free, is_short_of, total, stamp_of_call, start, Free, Call, Answer, after, replies, step, Resized}
use Rattle.offset_calls.proofs.{Common.None, Followed.well_call, Followed.well_calls, Histories.traceless_replies, Histories.as_before, Retracted.end_is, Retracted.end_of}
use Rattle.offset_allocator.specs.View.{max_size}
use Rattle.offset_script.specs.Histories.{holder}
use Rattle.offset_script.proofs.{Nests.AreTraceless, Similar.similar_refl, Well.IsWell, Well.well_start}
use Rattle.offset_calls.specs.{Calls.Outcome, Calls.answered, Calls.remakes, Calls.replies_only, Ending.end_block, Ending.with_end, Ending.retracted, Histories.retract_again}
use Rattle.offset_script.specs.declared.scripts.Command.TheVariants as command
use Rattle.offset_script.specs.Machine as machine
use Rattle.offset_calls.specs.declared.calls.Call.TheVariants as call

-- a list that ends live
ends_with_none : (bs : List machine.Block) → machine.ends_live bs ≡ true → (machine.without_end bs ≡ bs) × (machine.units_at_end bs ≡ 0)
ends_with_none [] e = absurd (false≢true e)
ends_with_none (b ∷ []) e = elim (is_free b.tag) as (λ x. not x ≡ true → ((if x then [] else b ∷ []) ≡ b ∷ []) × ((if x then b.size else 0) ≡ 0)) [
  | true ↦ λ h. absurd (false≢true h)
  | false ↦ λ h. (refl, refl)
] e
ends_with_none (b ∷ c ∷ bs) e = let r = ends_with_none (c ∷ bs) e in (ap (λ l. b ∷ l) r.0, r.1)

-- a list that ends live has some block
end_of_live : (bs : List machine.Block) (t : ℕ) → machine.ends_live bs ≡ true → with_end 0 t bs ≡ bs
end_of_live [] t e = absurd (false≢true e)
end_of_live (b ∷ bs) t e = ap (λ l. l ++ end_block l 0 t) (ends_with_none (b ∷ bs) e).0 ∙ append-nil (b ∷ bs)

-- what is left of a free last block, where that has units
free_holder : (t : machine.Tag) → is_free t ≡ true → holder t ≡ None
free_holder (machine.Live j) e = absurd (false≢true e)
free_holder (machine.Free s) e = refl

module _ (s : State) (m : ℕ) where
  abbrev fits : Bool
  fits = nat_lt max_size (total s.blocks + suc m) || (machine.ends_live s.blocks && is_short_of 1 s)

  abbrev extended_if : Bool → machine.Outcome
  extended_if b = if b then machine.returns_only s machine.Refused else machine.leaves s (machine.coalesce s.blocks (suc m) (stamp_of_call s) []) machine.Extended

  -- it was done
  is_done : (b : Bool) → (answered (extended_if b)).reply ≡ Answer machine.Extended → b ≡ false
  is_done true e = absurd (cc)
  is_done false e = refl

  abbrev grown : State
  grown = (machine.leaves s (machine.coalesce s.blocks (suc m) (stamp_of_call s) []) machine.Extended).state

  grown_is : (step (call.Command (command.Extend (suc m))) s).reply ≡ Answer machine.Extended → (step (call.Command (command.Extend (suc m))) s).state ≡ grown
  grown_is e = ap (λ b. (extended_if b).state) (is_done fits e)

  -- the blocks after it
  ended : (machine.without_end grown.blocks ≡ machine.without_end s.blocks) × (machine.units_at_end grown.blocks ≡ machine.units_at_end s.blocks + suc m + 0)
  ended = end_is (machine.without_end s.blocks) (machine.block (machine.units_at_end s.blocks + suc m + 0) (Free (stamp_of_call s))) refl

  back : step (call.Retract (suc m)) grown ≡ remakes grown (with_end (machine.units_at_end s.blocks) (stamp_of_call grown) s.blocks) Resized
  back =
      ap (λ b. if b then remakes grown (retracted (suc m) (stamp_of_call grown) grown.blocks) Resized else replies_only grown (Answer machine.Refused))
      (le-leb (suc m) (machine.units_at_end grown.blocks) (omega (arith, ended.1)))
      ∙ ap₂ (λ xs n. remakes grown (xs ++ end_block xs n (stamp_of_call grown)) Resized) ended.0 (omega (arith, ended.1))

  pub undone : (step (call.Command (command.Extend (suc m))) s).reply ≡ Answer machine.Extended
      → retract_again (suc m) s ≡ remakes grown (with_end (machine.units_at_end s.blocks) (stamp_of_call grown) s.blocks) Resized
  undone e = ap (step (call.Retract (suc m))) (grown_is e) ∙ back

-- sizes and live grants
same_outline : (bs : List machine.Block) (t : ℕ) → 1 ≤ machine.units_at_end bs → outline (with_end (machine.units_at_end bs) t bs) ≡ outline bs
same_outline bs t l =
    let r = end_of bs l in
    let e = end_is r.0 r.1 r.3 in
    ap₂ (λ xs n. outline (xs ++ end_block xs n t)) (ap machine.without_end r.2 ∙ e.0) (ap machine.units_at_end r.2 ∙ e.1)
    ∙ same r.0 r.1 r.3 (subst (λ n. 1 ≤ n) (ap machine.units_at_end r.2 ∙ e.1) l) ∙ sym (ap outline r.2)
  where
    one : (b : machine.Block) → is_free b.tag ≡ true → (n : ℕ) → b.size ≡ n → outline (machine.block n (Free t) ∷ []) ≡ outline (b ∷ [])
    one b f n e = ap₂ (λ m h. (m, h) ∷ []) (sym e) (sym (free_holder b.tag f))

    cut : (b : machine.Block) → is_free b.tag ≡ true → (n : ℕ) → b.size ≡ n → 1 ≤ n → outline (machine.free_part n t) ≡ outline (b ∷ [])
    cut b f zero e l = absurd (omega arith)
    cut b f (suc n) e l = one b f (suc n) e

    same : (xs : List machine.Block) (b : machine.Block) → is_free b.tag ≡ true → 1 ≤ b.size → outline (xs ++ end_block xs b.size t) ≡ outline (xs ++ b ∷ [])
    same [] b f l = one b f b.size refl
    same (x ∷ xs) b f l =
        map-append (λ (c : machine.Block). (c.size, holder c.tag)) (x ∷ xs) (machine.free_part b.size t)
        ∙ ap (λ o. outline (x ∷ xs) ++ o) (cut b f b.size refl l)
        ∙ sym (map-append (λ (c : machine.Block). (c.size, holder c.tag)) (x ∷ xs) (b ∷ []))

module _ (size limit : ℕ) (h : 2 ≤ limit) (cs : List Call) where
  abbrev s : State
  s = after cs (start size limit)

  pub state_law : (n : ℕ) → 1 ≤ n → (step (call.Command (command.Extend n)) s).reply ≡ Answer machine.Extended
      → ((retract_again n s).reply ≡ Resized)
      × ((retract_again n s).state ≡ record s { calls = s.calls + 2; blocks = with_end (machine.units_at_end s.blocks) (stamp_of_call (step (call.Command (command.Extend n)) s).state) s.blocks })
  state_law zero l e = absurd (omega arith)
  state_law (suc m) l e =
      let u = undone s m e in (
        ap (λ (o : Outcome). o.reply) u,
        ap (λ (o : Outcome). o.state) u
            ∙ ap₂ (λ c (g : State). record s { calls = c; blocks = with_end (machine.units_at_end s.blocks) (stamp_of_call g) s.blocks }) (omega arith) (sym (grown_is s m e)),
      )

  pub free_law : (n : ℕ) → 1 ≤ n → (step (call.Command (command.Extend n)) s).reply ≡ Answer machine.Extended → 1 ≤ machine.units_at_end s.blocks
      → outline (retract_again n s).state.blocks ≡ outline s.blocks
  free_law n l e some = ap (λ (t : State). outline t.blocks) (state_law n l e).1 ∙ same_outline s.blocks _ some

  pub live_law : (n : ℕ) → 1 ≤ n → (step (call.Command (command.Extend n)) s).reply ≡ Answer machine.Extended → IsTrue (machine.ends_live s.blocks) → (next : List Call)
      → replies next (retract_again n s).state ≡ replies next s
  live_law n l e live next =
      let t : State = record s { calls = s.calls + 2 } in
      let is : (retract_again n s).state ≡ t =
      (state_law n l e).1
      ∙ ap (λ bs. record s { calls = s.calls + 2; blocks = bs })
      (ap (λ k. with_end k (stamp_of_call (step (call.Command (command.Extend n)) s).state) s.blocks) (ends_with_none s.blocks live).1 ∙ end_of_live s.blocks _ live) in
      let w : IsWell s = well_calls cs (start size limit) (well_start size limit h) in
      let v : IsWell t = subst IsWell is (well_call (call.Retract n) _ (well_call (call.Command (command.Extend n)) s w)) in
      let m : AreTraceless s t = record { limit = refl; blocks = similar_refl s.blocks; grants = omega arith } in
      ap (replies next) is ∙ traceless_replies s t w v m next ∙ as_before s.grants (s.grants - s.grants) next s (omega arith)
