-- What calls on a fresh space have led to, and one more call.
use Rattle.offset_calls.proofs.Common.{◌≡◌, ℕ, ◌≤◌, List, [], ◌∷◌, ◌++◌, Option, IsTrue, inl, inr, refl, subst, subst₂, sym, AllByRecursion, View, Handle, IsWellFormed, IsFresh, State, start, step, after}
use Rattle.offset_calls.proofs.Common.{Call, Reply, AreKept, Takes, is_valid, reply_view}
use Rattle.std.specs.Prelude.{Result, Ok, Err, IfOk, OnErr}
use Rattle.offset_script.specs.Steps.{AreLive}
use Rattle.offset_script.specs.Agreement.{IsAtState}
use Rattle.offset_script.proofs.{Simulation.all_live, Simulation.fresh_represents, Well.IsWell, Well.well_start}
use Rattle.offset_calls.specs.{Calling.IsLost, Calling.IsReached, Histories.Runs, Steps.AreNumbers}
use Rattle.offset_calls.specs.declared.calls.Reply as program
use Rattle.offset_calls.proofs.{Compacted.all_kept, Followed.follows, Followed.well_call, Followed.well_calls, Kept.next_call, Kept.numbers_next}

-- ---- runs

abbrev AreValid : List Call → Type 0
AreValid cs = AllByRecursion (λ c. IsTrue (is_valid c)) cs

valid_more : (cs : List Call) (c : Call) → AreValid cs → IsTrue (is_valid c) → AreValid (cs ++ c ∷ [])
valid_more [] c a valid = (valid, tt)
valid_more (d ∷ cs) c a valid = (a.0, valid_more cs c a.1 valid)

-- one more call
runs_more : (cs : List Call) (rs : List Reply) (c : Call) (r : Reply) (v u w : View) (hs now kept : List (Option Handle)) → Runs v hs cs rs u now → Takes c u now w kept r → IsWellFormed w
    → Runs v hs (cs ++ c ∷ []) (rs ++ r ∷ []) w kept
runs_more [] [] c r v u w hs now kept t k formed = (w, kept, subst₂ (λ x l. Takes c x l w kept r) t.0 t.1 k, formed, (refl, refl))
runs_more [] (q ∷ rs) c r v u w hs now kept t k formed = absurd t
runs_more (d ∷ cs) [] c r v u w hs now kept t k formed = absurd t
runs_more (d ∷ cs) (q ∷ rs) c r v u w hs now kept t k formed = (t.0, t.1, t.2, t.3, runs_more cs rs c r t.0 u w t.1 now kept t.4 k formed)

-- what it leaves shows the state of the plain machine after the calls
runs_shown : (cs : List Call) (rs : List Reply) (v w : View) (hs kept : List (Option Handle)) (s : State) → IsWell s → IsAtState v hs s → AreValid cs → Runs v hs cs rs w kept
    → IsAtState w kept (after cs s)
runs_shown [] [] v w hs kept s ws p valid t = subst₂ (λ w l. IsAtState w l s) (sym t.0) (sym t.1) p
runs_shown [] (r ∷ rs) v w hs kept s ws p valid t = absurd t
runs_shown (c ∷ cs) [] v w hs kept s ws p valid t = absurd t
runs_shown (c ∷ cs) (r ∷ rs) v w hs kept s ws p valid t =
    runs_shown cs rs t.0 w t.1 kept (step c s).state (well_call c s ws) (follows v t.0 hs t.1 r s t.3 ws p c valid.0 t.2).1 valid.1 t.4

-- ---- the player

-- at the start
pub reached_fresh : (v : View) (hs : List (Option Handle)) (size limit : ℕ) → IsWellFormed v → 2 ≤ limit → IsFresh size limit v → hs ≡ [] → IsReached v hs
reached_fresh v hs size limit formed low fresh none = record {
  size = size;
  limit = limit;
  low = low;
  fresh = v;
  is_fresh = fresh;
  formed = formed;
  calls = [];
  replies = [];
  valid = tt;
  run = (refl, none);
}

module _ (v : View) (hs : List (Option Handle)) (is : IsReached v hs) where
  abbrev state : State
  state = after is.calls (start is.size is.limit)

  well : IsWell state
  well = well_calls is.calls _ (well_start is.size is.limit is.low)

  shown : IsAtState v hs state
  shown = runs_shown is.calls is.replies is.fresh v [] hs _ (well_start is.size is.limit is.low) (fresh_represents is.fresh is.formed is.size is.limit [] is.is_fresh refl) is.valid is.run

  pub reached_live : AreLive v hs
  reached_live = all_live v hs state well shown

  pub reached_kept : AreKept v hs
  reached_kept = all_kept v hs state shown.formed well shown.agrees

  module _ (c : Call) (w : View) (left : List (Option Handle)) (read : ℕ) (numbers : List ℕ) (formed : IsWellFormed w) (valid : IsTrue (is_valid c)) (a : AreNumbers hs read numbers) where
    next : (r : Reply) → Takes c v hs w left r → IsReached w left × AreNumbers left read numbers
    next r t = (
      record {
        size = is.size;
        limit = is.limit;
        low = is.low;
        fresh = is.fresh;
        is_fresh = is.is_fresh;
        formed = is.formed;
        calls = is.calls ++ c ∷ [];
        replies = is.replies ++ r ∷ [];
        valid = valid_more is.calls c is.valid valid;
        run = runs_more is.calls is.replies c r is.fresh v w [] hs left is.run t formed;
      },
      numbers_next hs left read numbers (next_call v w hs left shown.formed formed reached_live c r valid t) a,
    )

    lost : IsLost c v hs w left → IsReached w left × AreNumbers left read numbers
    lost (inl same) = (subst₂ IsReached (sym same.0) (sym same.1) is, subst (λ l. AreNumbers l read numbers) (sym same.1) a)
    lost (inr moved) = next moved.1 moved.2

    -- after a call, whatever it returns
    pub reached_after : {E : Type 0} (result : Result program.Reply E) → IfOk result (λ r. Takes c v hs w left (reply_view r)) → OnErr result (IsLost c v hs w left)
        → IsReached w left × AreNumbers left read numbers
    reached_after (Ok r) t l = next (reply_view r) t
    reached_after (Err e) t l = lost l
