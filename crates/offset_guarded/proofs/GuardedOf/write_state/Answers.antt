use Rattle.std.proofs.Common.{◌≡◌, ◌∙◌, ◌+◌, ◌*◌, ◌++◌, ◌∷◌, [], ap, sym, subst, arith, drop, length, List, ℕ}
use Rattle.std.proofs.Math.Seq.{drop-append_seam}
use Rattle.offset_allocator.specs.Saving.State as allocator
use Rattle.offset_guarded.specs.{Guard.Guard, Numbers.checksum_from, Numbers.numbers, State.IsStateOf, State.state_form, State.state_version, State.ticket_numbers}
use Rattle.offset_guarded.proofs.{Bytes.numbers_front, Guards.guard}
use Rattle.offset_guarded.proofs.GuardedOf.write_state.Goals as goal

pub returns : goal.returns
returns g c =
    let v : Guard = guard c.self.inside.space c.self.inside.serials c.self.inside.realm c.self.inside.step in
    let n : ℕ = length v.serials in
    let cells : List ℕ = c.cells-serials.result.now in
    let x = c.cells-serials.ensures in
    let k : length cells ≡ n = ap length x in
    let w = c.count.ensures in
    let front : List ℕ = c.in_ok-bytes.bytes.items in
    let rest : List ℕ = c.deref.result.now in
    let long : length front ≡ 56 + 8 * n = c.in_ok-bytes.ensures.length ∙ omega (arith, k) in
    let all : state_form ∷ state_version ∷ length cells ∷ c.count.result ∷ c.self.inside.realm ∷ c.self.inside.step ∷ cells ≡ ticket_numbers v =
    λ i. state_form ∷ state_version ∷ k i ∷ w i ∷ c.self.inside.realm ∷ c.self.inside.step ∷ x i in
    let items : c.extend_from_slice.new.self.items ≡ front ++ rest = c.in_ok-extend_from_slice.ensures.items in
    let state : IsStateOf v c.extend_from_slice.new.self.items = record {
      tickets = ap (numbers (7 + n)) items ∙ numbers_front (7 + n) front rest (long ∙ omega arith) ∙ ap (λ m. numbers m front) {x = 7 + n} {y = 6 + length cells + 1} (omega (arith, k))
          ∙ c.in_ok-bytes.ensures.numbers ∙ ap (λ (l : List ℕ). l ++ checksum_from 0 l ∷ []) all;
      space = subst (allocator.IsStateOf v.space)
          (sym (ap (drop (56 + 8 * n)) items ∙ ap (λ m. drop m (front ++ rest)) (sym long) ∙ drop-append_seam front rest ∙ c.deref.ensures.value)) c.in_ok-write_state.ensures;
    } in
    subst (λ u. IsStateOf u c.extend_from_slice.new.self.items) c.self.view_is state
