-- The laws over whole histories of calls.
use Rattle.offset_calls.proofs.Common.{◌≡◌, ℕ, ◌+◌, ◌-◌, ◌≤◌, List, ◌∷◌, ◌++◌, map, refl, ap, ◌∙◌, arith, le-leb, cases_lt, lt-leb, Command, HasNoLive, IsNest, number_without, Free, State, start}
use Rattle.offset_calls.proofs.Common.{total, Call, Reply, Answer, Compacted, after, replies, step, IsQuestion, number_with, raise, raise_move, renumber, replies_renumbered}
use Rattle.offset_calls.proofs.Common.{Option, Some, None, option_map}
use Rattle.offset_calls.proofs.{Along.replies-append, Alike.same_replies, Alike.number_back_again, Followed.well_call, Followed.well_calls}
use Rattle.offset_script.proofs.{Fresh.IsOneFree, Fresh.one_free, Fresh.alike_fresh, Fresh.raise_none, Fresh.renumber_same, Members.map_same, Nests.AreTraceless, Nests.traceless, Nests.alike_after}
use Rattle.offset_script.proofs.{Nests.number_without_none, Similar.similar_refl, Lists.count, Lists.hit_self, Well.IsWell, Well.well_start, Well.well_after}
use Rattle.offset_calls.specs.{Calls.CompactedWithin, Calls.Move, Calls.RoomMade, Calls.Found, Histories.raise_range}
use Rattle.offset_calls.specs.declared.calls.LiveRange.{LiveRange}
use Rattle.offset_script.specs.declared.scripts.Command.TheVariants as command
use Rattle.offset_script.specs.Machine as machine
use Rattle.offset_calls.specs.declared.calls.Call.TheVariants as call

-- a space without live grants
pub fresh_law : (size limit : ℕ) → 2 ≤ limit → (cs : List Call) → let s = after cs (start size limit) in
    HasNoLive s → (next : List Call) → replies next s ≡ replies_renumbered (start (total s.blocks) s.limit) s next
fresh_law size limit h cs none =
    let s = after cs (start size limit) in
    let w : IsWell s = well_calls cs _ (well_start size limit h) in
    let f : IsOneFree s.blocks = one_free s.blocks w.some w.apart none in
    λ next. same_replies (number_without 0 (s.grants - 0)) 0 (s.grants - 0) (number_back_again 0 (s.grants - 0)) next s (start (total s.blocks) s.limit)
    (alike_fresh s f.0 f.1 (s.grants - 0) (omega arith) f.2 (w.old (Free f.1) (let c = ap (count (Free f.1)) f.2 in let h = hit_self (Free f.1) in omega arith)))

-- what leaves no trace
pub traceless_replies : (s t : State) → IsWell s → IsWell t → AreTraceless s t → (next : List Call) → replies next t ≡ replies_renumbered s t next
traceless_replies s t w v m next = search (arith, same_replies, number_back_again, alike_after)

pub nest_law : (size limit : ℕ) → 2 ≤ limit → (cs : List Call) (nest : List Command) → let s = after cs (start size limit) in
    IsNest s nest → (next : List Call) → replies next (machine.after nest s) ≡ replies_renumbered s (machine.after nest s) next
nest_law size limit h cs nest n = search (arith, well_calls, well_start, traceless_replies, well_after, traceless)

-- no grants are left out
with_none : (g k : ℕ) → number_with g 0 k ≡ k
with_none g k = search (arith, cases_lt, lt-leb, le-leb)

moves_none : (g : ℕ) (ms : List Move) → map (raise_move g 0) ms ≡ ms
moves_none g ms = map_same (raise_move g 0) (λ m. ap (λ (k : ℕ). record { number = k; from = m.from; to = m.to; size = m.size }) (with_none g m.number)) ms

raised_none : (g : ℕ) (r : Reply) → raise g 0 r ≡ r
raised_none g (Answer a) = ap Answer (raise_none a)
raised_none g (Compacted ms) = ap Compacted (moves_none g ms)
raised_none g (CompactedWithin p ms) = ap (CompactedWithin p) (moves_none g ms)
raised_none g (RoomMade c ms) = ap (RoomMade c) (moves_none g ms)
raised_none g (Found r) = ap Found (same_range r)
  where
    same_range : (r : Option LiveRange) → option_map (raise_range g 0) r ≡ r
    same_range None = refl
    same_range (Some r) = ap (λ k. Some (record { number = k; offset = r.offset })) (with_none g r.number)
raised_none g other = refl

renumbered_none : (g : ℕ) (c : Call) → renumber (number_without g 0) c ≡ c
renumbered_none g (call.Command c) = ap call.Command (renumber_same (number_without g 0) (number_without_none g) c)
renumbered_none g (call.Shrink k n) = ap (λ k. call.Shrink k n) (number_without_none g k)
renumbered_none g (call.Grow k n) = ap (λ k. call.Grow k n) (number_without_none g k)
renumbered_none g (call.Offset k) = ap call.Offset (number_without_none g k)
renumbered_none g (call.Relocate k) = ap call.Relocate (number_without_none g k)
renumbered_none g (call.RelocateAligned k align) = ap (λ k. call.RelocateAligned k align) (number_without_none g k)
renumbered_none g (call.LiveBefore k) = ap call.LiveBefore (number_without_none g k)
renumbered_none g (call.LiveAfter k) = ap call.LiveAfter (number_without_none g k)
renumbered_none g other = refl

pub as_before : (g j : ℕ) (cs : List Call) (s : State) → j ≡ 0 → map (raise g j) (replies (map (renumber (number_without g j)) cs) s) ≡ replies cs s
as_before g j cs s e = rw e (map_same (raise g 0) (raised_none g) _ ∙ ap (λ l. replies l s) (map_same (renumber (number_without g 0)) (renumbered_none g) cs))

-- a question only counts as a call
counts_only : (q : Call) (s : State) → IsQuestion q → (step q s).state ≡ record s { calls = s.calls + 1 }
counts_only (call.Command (command.Size k)) s h = refl
counts_only (call.Command command.Report) s h = refl
counts_only (call.Command command.Full) s h = refl
counts_only (call.Command other) s h = absurd h
counts_only (call.Offset k) s h = refl
counts_only (call.Refusal n) s h = refl
counts_only (call.RefusalAligned n align) s h = refl
counts_only (call.RefusalTight n) s h = refl
counts_only (call.RefusalTightAligned n align) s h = refl
counts_only (call.WouldBegin n align) s h = refl
counts_only (call.RoomCost n) s h = refl
counts_only (call.RoomCostBy n align m) s h = refl
counts_only call.FirstLive s h = refl
counts_only call.LastLive s h = refl
counts_only (call.LiveBefore k) s h = refl
counts_only (call.LiveAfter k) s h = refl
counts_only other s h = absurd h

pub question_law : (size limit : ℕ) → 2 ≤ limit → (before : List Call) (q : Call) (rest : List Call) → IsQuestion q
    → let s = after before (start size limit) in replies (before ++ q ∷ rest) (start size limit) ≡ replies before (start size limit) ++ ((step q s).reply ∷ replies rest s)
question_law size limit h before q rest asks =
    let s = after before (start size limit) in
    let t : State = record s { calls = s.calls + 1 } in
    let w : IsWell s = well_calls before (start size limit) (well_start size limit h) in
    let v : IsWell t = well_call (call.Refusal 0) s w in
    let m : AreTraceless s t = record { limit = refl; blocks = similar_refl s.blocks; grants = omega arith } in
    replies-append before (q ∷ rest) (start size limit)
    ∙ ap (λ l. replies before (start size limit) ++ ((step q s).reply ∷ l))
    (ap (replies rest) (counts_only q s asks) ∙ traceless_replies s t w v m rest ∙ as_before s.grants (s.grants - s.grants) rest s (omega arith))
