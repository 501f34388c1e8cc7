use Rattle.std.proofs.Common.{◌≡◌, ◌∙◌, ◌+◌, ◌*◌, ap, arith, drop, inl, inr, length, refl, subst, sym, List, ℕ}
use Rattle.offset_allocator.proofs.Saving.Reads.{no_fault}
use Rattle.offset_guarded.specs.Numbers.{number_at}
use Rattle.offset_guarded.proofs.Bytes.{rest_of}
use Rattle.offset_heaps.specs.declared.limits.Limits.{Limits}
use Rattle.offset_heaps.specs.{Heaps.slot, State.AreRead, State.IsHeapAt, State.IsHeapFormed, StateFaults.IsStatesFault}
use Rattle.offset_heaps.proofs.States.{heap_between, parts, read_restored, read_sound, read_well_formed}
use Rattle.offset_heaps.proofs.HeapsOf.read_state.Goals as goal

pub returns-then-number-ne0-clause-refused : goal.returns-then-number-ne0-clause-refused
returns-then-number-ne0-clause-refused g c hs w adm st =
    let p = parts hs c.args.bytes.now st in
    c.if-number-ne0.true (c.number.ensures ∙ p.places 0 (omega arith) ∙ st.heaps.first)

pub returns-then-number-states-clause-refused : goal.returns-then-number-states-clause-refused
returns-then-number-states-clause-refused g c hs w adm st =
    let bs : List ℕ = c.args.bytes.now in
    let p = parts hs bs st in
    let lim = c.in-Ok.header.limits in
    let hd = c.in-Ok.ensures.header in
    let count : length hs.slots ≡ lim.most + lim.most_larger = omega (arith, st.count, p.most, p.larger, hd.most, hd.larger) in
    c.if-number-states.true
    (c.number-2.ensures ∙ subst (λ n. number_at bs (10 + n) ≡ length (drop (96 + 8 * n) bs)) count (p.places (length hs.slots) (omega arith) ∙ st.heaps.last)
    ∙ sym (ap length (rest_of (96 + 8 * (lim.most + lim.most_larger)) bs)))

pub returns-in-Err-2-clause-refused : goal.returns-in-Err-2-clause-refused
returns-in-Err-2-clause-refused g c hs w adm st =
    let bs : List ℕ = c.args.bytes.now in
    let p = parts hs bs st in
    let lim = c.in-Ok.header.limits in
    let m : ℕ = lim.most + lim.most_larger in
    let hd = c.in-Ok.ensures.header in
    let count : length hs.slots ≡ m = omega (arith, st.count, p.most, p.larger, hd.most, hd.larger) in
    let made : hs.made ≡ c.in-Ok.header.made = sym p.made ∙ hd.made in
    let size : hs.limits.size ≡ lim.size = sym p.size ∙ hd.size in
    let first_size : hs.limits.first_size ≡ lim.first_size = sym p.first_size ∙ hd.first_size in
    let limit : hs.limits.max_allocs ≡ lim.max_allocs = sym p.limit ∙ hd.limit in
    let first : hs.limits.first_allocs ≡ lim.first_allocs = sym p.first ∙ hd.first in
    let most : hs.limits.most ≡ lim.most = sym p.most ∙ hd.most in
    let larger : hs.limits.most_larger ≡ lim.most_larger = sym p.larger ∙ hd.larger in
    let limits : hs.limits ≡ lim = λ i. record { size = size i; first_size = first_size i; max_allocs = limit i; first_allocs = first i; most = most i; most_larger = larger i } in
    let b = rw c.in-Err-2.is at c.in_ok-fault.ensures.refused in
    b refl hs.slots count
    (λ k l. subst (λ r. IsHeapAt (slot k hs.slots) (number_at bs (10 + k)) (number_at bs (11 + k)) r) (sym (rest_of (96 + 8 * m) bs))
    (subst (λ n. IsHeapAt (slot k hs.slots) (number_at bs (10 + k)) (number_at bs (11 + k)) (drop (96 + 8 * n) bs)) count (heap_between hs bs st k (omega (arith, l, count)))))
    (λ k. subst (λ (l : Limits). IsHeapFormed l c.in-Ok.header.made k (slot k hs.slots)) limits (subst (λ n. IsHeapFormed hs.limits n k (slot k hs.slots)) made (w.heaps k))) adm.heaps

pub invariant_of-result : goal.invariant_of-result
invariant_of-result g c =
    let bs : List ℕ = c.args.bytes.now in
    let h = c.in-Ok.header in
    let m : ℕ = h.limits.most + h.limits.most_larger in
    let b = rw c.in-Ok-2.is at c.in_ok-fault.ensures.read in
    let are : AreRead h.limits g.T.Index.NodeIndex.MAX h.made c.args.most_allocs m bs (drop (96 + 8 * m) bs) c.in-Ok-2.slots =
    subst (λ r. AreRead h.limits g.T.Index.NodeIndex.MAX h.made c.args.most_allocs m bs r c.in-Ok-2.slots) (rest_of (96 + 8 * m) bs) b in
    read_sound g.T.Index.NodeIndex.MAX c.args.most_heaps c.args.most_allocs bs h c.in-Ok-2.slots 0 c.in-Ok.ensures.header (sym c.number.ensures ∙ c.if-number-ne0.false)
    (sym c.number-2.ensures ∙ c.if-number-states.false ∙ ap length (rest_of (96 + 8 * m) bs)) are refl c.in_ok-index.index (omega (arith, c.ranges.most_heaps)) c.in_ok-index.ensures.wide
    c.in_ok-index.ensures.noted c.in_ok-index.ensures.low

pub returns-clause-read : goal.returns-clause-read
returns-clause-read g c =
    let bs : List ℕ = c.args.bytes.now in
    let h = c.in-Ok.header in
    let m : ℕ = h.limits.most + h.limits.most_larger in
    let b = rw c.in-Ok-2.is at c.in_ok-fault.ensures.read in
    let are : AreRead h.limits g.T.Index.NodeIndex.MAX h.made c.args.most_allocs m bs (drop (96 + 8 * m) bs) c.in-Ok-2.slots =
    subst (λ r. AreRead h.limits g.T.Index.NodeIndex.MAX h.made c.args.most_allocs m bs r c.in-Ok-2.slots) (rest_of (96 + 8 * m) bs) b in
    read_restored g.T.Index.NodeIndex.MAX c.args.most_heaps c.args.most_allocs bs h c.in-Ok-2.slots c.new.result c.in-Ok.ensures.header (sym c.number.ensures ∙ c.if-number-ne0.false)
    (sym c.number-2.ensures ∙ c.if-number-states.false ∙ ap length (rest_of (96 + 8 * m) bs)) are c.new.ensures

pub returns-clause-formed : goal.returns-clause-formed
returns-clause-formed g c =
    let bs : List ℕ = c.args.bytes.now in
    let h = c.in-Ok.header in
    let m : ℕ = h.limits.most + h.limits.most_larger in
    let b = rw c.in-Ok-2.is at c.in_ok-fault.ensures.read in
    let are : AreRead h.limits g.T.Index.NodeIndex.MAX h.made c.args.most_allocs m bs (drop (96 + 8 * m) bs) c.in-Ok-2.slots =
    subst (λ r. AreRead h.limits g.T.Index.NodeIndex.MAX h.made c.args.most_allocs m bs r c.in-Ok-2.slots) (rest_of (96 + 8 * m) bs) b in
    read_well_formed g.T.Index.NodeIndex.MAX c.args.most_heaps c.args.most_allocs bs h c.in-Ok-2.slots c.new.result c.in-Ok.ensures.header (sym c.number.ensures ∙ c.if-number-ne0.false)
    (sym c.number-2.ensures ∙ c.if-number-states.false ∙ ap length (rest_of (96 + 8 * m) bs)) are c.new.ensures (omega (arith, c.ranges.most_heaps))

pub returns-then-number-ne0-clause-fault : goal.returns-then-number-ne0-clause-fault
returns-then-number-ne0-clause-fault g c = inr (c.in-Ok.header, c.in-Ok.ensures.header, inl (refl, inl (refl, λ e. c.if-number-ne0.true (c.number.ensures ∙ e))))

pub returns-then-number-states-clause-fault : goal.returns-then-number-states-clause-fault
returns-then-number-states-clause-fault g c =
    let bs : List ℕ = c.args.bytes.now in
    let lim = c.in-Ok.header.limits in
    let rest = ap length (rest_of (96 + 8 * (lim.most + lim.most_larger)) bs) in
    inr (
      c.in-Ok.header,
      c.in-Ok.ensures.header,
      inl (refl, inr (refl, sym c.number.ensures ∙ c.if-number-ne0.false, λ e. c.if-number-states.true (c.number-2.ensures ∙ e ∙ sym rest))),
    )

pub returns-in-Err-2-clause-fault : goal.returns-in-Err-2-clause-fault
returns-in-Err-2-clause-fault g c =
    let bs : List ℕ = c.args.bytes.now in
    let h = c.in-Ok.header in
    let m : ℕ = h.limits.most + h.limits.most_larger in
    let wrong = c.in-Err-2.fault in
    let f = rw c.in-Err-2.is at c.in_ok-fault.ensures.fault in
    inr (
      h,
      c.in-Ok.ensures.header,
      subst (λ r. IsStatesFault h.limits g.T.Index.NodeIndex.MAX h.made c.args.most_allocs m bs r wrong.at wrong.kind) (rest_of (96 + 8 * m) bs)
          (inr (sym c.number.ensures ∙ c.if-number-ne0.false, sym c.number-2.ensures ∙ c.if-number-states.false, f)),
    )

pub returns-in-Err-clause-refused : goal.returns-in-Err-clause-refused
returns-in-Err-clause-refused g c = c.in-Err.ensures.wrong refl

pub returns-in_err-index-clause-refused : goal.returns-in_err-index-clause-refused
returns-in_err-index-clause-refused g c = no_fault _ c.from_residual-in_err-index.result c.from_residual-in_err-index.ensures.1

pub returns-in_err-index-clause-fault : goal.returns-in_err-index-clause-fault
returns-in_err-index-clause-fault g c = no_fault _ c.from_residual-in_err-index.result c.from_residual-in_err-index.ensures.1
