use Rattle.std.proofs.Common.{◌≡◌, ◌∙◌, ◌+◌, ◌*◌, ◌++◌, ◌∷◌, [], ap, sym, subst, arith, drop, length, length-append, List, ℕ}
use Rattle.std.proofs.Math.Seq.{drop-append_seam}
use Rattle.offset_guarded.specs.Numbers.{checksum_from, numbers}
use Rattle.offset_guarded.proofs.Bytes.{numbers_front}
use Rattle.offset_heaps.specs.{Heaps.Heaps, State.AreStatesOf, State.IsStateOf, State.heaps_numbers}
use Rattle.offset_heaps.proofs.Places.{shown}
use Rattle.offset_heaps.proofs.HeapsOf.write_state.Goals as goal

pub returns : goal.returns
returns g c =
    let inner = c.self.inside in
    let v : Heaps = shown inner.slots inner.limits inner.made inner.realm inner.accesses in
    let n : ℕ = length inner.slots in
    let count : n ≡ inner.limits.most + inner.limits.most_larger = c.self.invariant.numbers in
    let places : List ℕ = c.in_ok-places.places.items in
    let given : List ℕ = c.deref.result.now in
    let long_places : length given ≡ n + 1 = ap length c.deref.ensures.value ∙ c.in_ok-places.ensures.count in
    let front : List ℕ = c.in_ok-bytes.bytes.items in
    let rest : List ℕ = c.deref-2.result.now in
    let long : length front ≡ 96 + 8 * n = c.in_ok-bytes.ensures.length ∙ omega (arith, long_places) in
    let items : c.extend_from_slice.new.self.items ≡ front ++ rest = c.in_ok-extend_from_slice.ensures.items in
    let state : IsStateOf v c.extend_from_slice.new.self.items = record {
      places = places;
      count = count;
      long = omega (arith, ap length items, length-append front rest, long);
      head = ap (numbers (12 + n)) items ∙ numbers_front (12 + n) front rest (long ∙ omega arith) ∙ ap (λ i. numbers i front) {x = 12 + n} {y = 10 + length given + 1} (omega (arith, long_places))
          ∙ c.in_ok-bytes.ensures.numbers ∙ ap (λ l. heaps_numbers v l ++ checksum_from 0 (heaps_numbers v l) ∷ []) c.deref.ensures.value;
      heaps = subst (AreStatesOf v.slots places)
          (sym (ap (drop (96 + 8 * n)) items ∙ ap (λ i. drop i (front ++ rest)) (sym long) ∙ drop-append_seam front rest ∙ c.deref-2.ensures.value)) c.in_ok-places.ensures;
    } in
    subst (λ u. IsStateOf u c.extend_from_slice.new.self.items) c.self.view_is state
