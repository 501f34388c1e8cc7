use Rattle.offset_allocator.proofs.Common.{◌≡◌, ℕ, suc, inl, inr, List, ◌+◌, ◌*◌, ◌%◌, ◌^◌, ◌<◌, ◌≤◌, length, sum, slice_index, slice_index_or, slice_set, bin_at, bins_in, cases_eq, length-set}
use Rattle.offset_allocator.proofs.Common.{get_or-set_same, get_or-set_other, subst, ap, ◌∙◌, arith, value, count_of, View, free_sizes}
use Rattle.offset_allocator.proofs.{Sound.shown, Sound.fields_of, Reporting.Counting.length_names, Reporting.Counting.accesses_most, Reporting.Counting.names_below}
use Rattle.offset_allocator.specs.declared.reports.StorageReportFullRegion.{StorageReportFullRegion}
use Rattle.offset_allocator.proofs.reports.storage_report_full_counted.Goals as goal

pub returns-clause-report : goal.returns-clause-report
returns-clause-report g c k d h =
    let P : View → Type 0 = λ u. slice_index_or c.loop-group.report.free_regions k d ≡ record { size = value k % 2 ^ 32; count = count_of k (free_sizes u.blocks) } in
    let row : ℕ → StorageReportFullRegion = λ n. record { size = value k % 2 ^ 32; count = n } in
    subst P c.allocator.view_is
    (c.loop-group.invariant.filled k d (omega arith)
    ∙ ap row (length_names (shown (record (fields_of g.T.Tables.cells g.T.Index.NodeIndex.MAX c.allocator.inside) { accesses = 0 })) c.allocator.invariant.well k))

pub returns-clause-accesses : goal.returns-clause-accesses
returns-clause-accesses g c =
    let P : View → Type 0 = λ u. c.loop-group.count ≤ c.args.count.now + 512 + 2 * length (free_sizes u.blocks) in
    let most = subst P c.allocator.view_is (accesses_most (shown (record (fields_of g.T.Tables.cells g.T.Index.NodeIndex.MAX c.allocator.inside) { accesses = 0 })) c.allocator.invariant.well
    (4 * c.loop-group.group) c.loop-group.count c.args.count.now (omega arith) c.loop-group.invariant.accesses) in
    (omega (arith, c.loop-group.invariant.grows), omega (arith, most))

-- one more region
put_one : (rs : List StorageReportFullRegion) (c : ℕ) (row : ℕ → StorageReportFullRegion) → c < length rs → ((k : ℕ) (d : StorageReportFullRegion) → k < c → slice_index_or rs k d ≡ row k)
    → (k : ℕ) (d : StorageReportFullRegion) → k < c + 1 → slice_index_or (slice_set rs c (row c)) k d ≡ row k
put_one rs c row l before k d h = elim (cases_eq k c) [
  | inl e ↦ rw e (get_or-set_same rs c (row c) d l)
  | inr n ↦ get_or-set_other rs c k (row c) d n ∙ before k d (omega (arith, n, h))
]

names_four : (c : ℕ) (bins : List (List ℕ))
    → names_below (c + 4) bins ≡ names_below c bins + length (bin_at bins c) + length (bin_at bins (c + 1)) + length (bin_at bins (c + 2)) + length (bin_at bins (c + 3))
names_four c bins = ap (λ n. names_below n bins) four ∙ omega (arith, ap at one, ap at two, ap at three)
  where
    at : ℕ → ℕ
    at n = length (bin_at bins n)

    four : c + 4 ≡ suc (suc (suc (suc c)))
    four = omega arith

    one : suc c ≡ c + 1
    one = omega arith

    two : suc (suc c) ≡ c + 2
    two = omega arith

    three : suc (suc (suc c)) ≡ c + 3
    three = omega arith

pub loop-group-preserved : goal.loop-group-preserved
loop-group-preserved g c =
    let i = c.loop-group.invariant in
    let n = 4 * c.loop-group.group in
    let ls : List (List ℕ) = bins_in g.T.Index.NodeIndex.MAX (g.T.Tables.cells c.allocator.inside.store.tables).bins in
    let row : ℕ → StorageReportFullRegion = λ k. record { size = value k % 2 ^ 32; count = length (bin_at ls k) } in
    let names = c.lengths_of-counts.ensures.names in
    let is : (k j m : ℕ) → slice_index c.lengths_of-counts.result j ≡ m → (rs : List StorageReportFullRegion)
    → slice_set rs k (record { size = value k % 2 ^ 32; count = slice_index c.lengths_of-counts.result j })
    ≡ slice_set rs k (record { size = value k % 2 ^ 32; count = m }) = λ k j m e rs. ap (λ z. slice_set rs k (record { size = value k % 2 ^ 32; count = z })) e in
    let r0 = c.loop-group.report.free_regions in
    let r1 = c.put_region.new.report.free_regions in
    let r2 = c.put_region-in-loop-group.new.report.free_regions in
    let r3 = c.put_region-in-loop-group-2.new.report.free_regions in
    let r4 = c.put_region-in-loop-group-3.new.report.free_regions in
    let e1 : r1 ≡ slice_set r0 n (row n) = c.put_region.ensures ∙ is n 0 _ (ap (λ l. slice_index l 0) names) r0 in
    let e2 : r2 ≡ slice_set r1 (n + 1) (row (n + 1)) = c.put_region-in-loop-group.ensures ∙ is (n + 1) 1 _ (ap (λ l. slice_index l 1) names) r1 in
    let e3 : r3 ≡ slice_set r2 (n + 2) (row (n + 2)) = c.put_region-in-loop-group-2.ensures ∙ is (n + 2) 2 _ (ap (λ l. slice_index l 2) names) r2 in
    let e4 : r4 ≡ slice_set r3 (n + 3) (row (n + 3)) = c.put_region-in-loop-group-3.ensures ∙ is (n + 3) 3 _ (ap (λ l. slice_index l 3) names) r3 in
    let l1 : length r1 ≡ 256 = ap (λ (l : List StorageReportFullRegion). length l) e1 ∙ length-set r0 n (row n) ∙ i.wide in
    let l2 : length r2 ≡ 256 = ap (λ (l : List StorageReportFullRegion). length l) e2 ∙ length-set r1 (n + 1) (row (n + 1)) ∙ l1 in
    let l3 : length r3 ≡ 256 = ap (λ (l : List StorageReportFullRegion). length l) e3 ∙ length-set r2 (n + 2) (row (n + 2)) ∙ l2 in
    let l4 : length r4 ≡ 256 = ap (λ (l : List StorageReportFullRegion). length l) e4 ∙ length-set r3 (n + 3) (row (n + 3)) ∙ l3 in
    let Filled : List StorageReportFullRegion → ℕ → Type 0 = λ rs most. (k : ℕ) (d : StorageReportFullRegion) → k < most → slice_index_or rs k d ≡ row k in
    let f1 : Filled r1 (n + 1) = λ k d h. ap (λ (l : List StorageReportFullRegion). slice_index_or l k d) e1 ∙ put_one r0 n row (omega (arith, i.wide)) i.filled k d h in
    let f2 : Filled r2 (n + 2) = λ k d h. ap (λ (l : List StorageReportFullRegion). slice_index_or l k d) e2 ∙ put_one r1 (n + 1) row (omega (arith, l1)) f1 k d (omega (arith, h)) in
    let f3 : Filled r3 (n + 3) = λ k d h. ap (λ (l : List StorageReportFullRegion). slice_index_or l k d) e3 ∙ put_one r2 (n + 2) row (omega (arith, l2)) f2 k d (omega (arith, h)) in
    let sum_is : sum c.lengths_of-counts.result ≡ length (bin_at ls n) + length (bin_at ls (n + 1)) + length (bin_at ls (n + 2)) + length (bin_at ls (n + 3)) = ap (λ (l : List ℕ). sum l) names
    ∙ omega arith in
    let more = ap (λ m. names_below m ls) (let e : 4 * (c.loop-group.group + 1) ≡ n + 4 = omega arith in e) ∙ names_four n ls in
    record {
      wide = l4;
      filled = λ k d h. ap (λ (l : List StorageReportFullRegion). slice_index_or l k d) e4 ∙ put_one r3 (n + 3) row (omega (arith, l3)) f3 k d (omega (arith, h));
      grows = omega (arith, i.grows, c.lengths_of-counts.ensures.accesses);
      accesses = omega (arith, i.accesses, c.lengths_of-counts.ensures.accesses, sum_is, more);
    }
