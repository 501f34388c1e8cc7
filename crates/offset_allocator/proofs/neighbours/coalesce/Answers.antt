use Rattle.offset_allocator.proofs.Common.{ap₂, ◌++◌, ℕ, List, append-nil, append_assoc, free_end, free_start, ◌≡◌, ◌+◌, refl, sym, ap, arith, ◌∙◌, Node, node, push}
use Rattle.offset_allocator.proofs.Linking.Places.{at_place, next_place, previous_place, kept_before, kept_after, kept_place, free_before, free_after, before_fits, after_fits}
use Rattle.offset_allocator.proofs.{Classes.down_small, Filing.Filed.unlisted, Filing.Filed.previous_filed, Filing.Filed.next_filed, Filing.Filed.filed_before, Filing.Filed.next_same}
use Rattle.offset_allocator.proofs.Linking.Names.{kept_unused, name_after, name_before, names-append}
use Rattle.offset_allocator.specs.{Names.names_of, Store.unused_of}
use Rattle.offset_allocator.proofs.Common.{ChainCells, HasPlace, Place, units, coalesced_after, coalesced_before}
use Rattle.offset_allocator.proofs.neighbours.coalesce.Goals as goal
use Rattle.offset_allocator.proofs.neighbours.coalesce.Goals.{in-Some, in_default+in-Some-free_before}

-- the units of a block and of the free block after it are those of the whole
whole_after : {c d : ChainCells} {m last count last' count' x a b n : ℕ} {p : Place} → HasPlace c m last count x p → HasPlace d m last' count' x (coalesced_after p)
    → units (free_start p.after) ≡ n → a ≡ (node c x).size → b ≡ n → a + b ≡ (node d x).size
whole_after h k gone first more = omega (arith, gone, first, more, ap (λ (v : Node). v.size) (at_place h), ap (λ (v : Node). v.size) (at_place k))

-- and those of the free block before it and of a block
whole_before : {c d : ChainCells} {m last count last' count' x a b n : ℕ} {p : Place} → HasPlace c m last count x p → HasPlace d m last' count' x (coalesced_before p)
    → units (free_end p.before) ≡ n → a ≡ n → b ≡ (node c x).size → a + b ≡ (node d x).size
whole_before h k gone more first = omega (arith, gone, more, first, ap (λ (v : Node). v.size) (at_place h), ap (λ (v : Node). v.size) (at_place k))

-- a free block after it
pub size-more-requires : goal.size-more-requires
size-more-requires g c =
    let h = c.requires.place.2 in
    let merged = c.with_before-size.ensures.place _ _ h in
    (next_place merged (next_same h merged refl c.in-Some.ensures.free.0).0).place.below

pub overflow_add-whole : goal.overflow_add-whole
overflow_add-whole g c =
    let h = c.requires.place.2 in
    let merged = c.with_before-size.ensures.place _ _ h in
    omega (arith, c.size-more.ensures.cell, c.with_before-size.ensures.size, after_fits merged (next_same h merged refl c.in-Some.ensures.free.0).0)

pub coalesce_after-requires-clause-place : goal.coalesce_after-requires-clause-place
coalesce_after-requires-clause-place g c = (_, _, c.with_before-size.ensures.place _ _ c.requires.place.2)

pub coalesce_after-requires-clause-next : goal.coalesce_after-requires-clause-next
coalesce_after-requires-clause-next g c = let h = c.requires.place.2 in (next_same h (c.with_before-size.ensures.place _ _ h) refl c.in-Some.ensures.free.0).0

pub coalesce_after-requires-clause-free : goal.coalesce_after-requires-clause-free
coalesce_after-requires-clause-free g c = let h = c.requires.place.2 in (next_same h (c.with_before-size.ensures.place _ _ h) refl c.in-Some.ensures.free.0).1 ∙ c.in-Some.ensures.free.1

-- a free block before it alone
pub size-more-requires-in-Some-free_before : goal.size-more-requires-in-Some-free_before
size-more-requires-in-Some-free_before g c = (previous_place c.requires.place.2 c.in-Some-free_before.ensures.free.0).place.below

pub overflow_add-whole-in-Some-free_before : goal.overflow_add-whole-in-Some-free_before
overflow_add-whole-in-Some-free_before g c = omega (arith, c.size-more-in-Some-free_before.ensures.cell, c.requires.size, before_fits c.requires.place.2 c.in-Some-free_before.ensures.free.0)

-- no free block beside it
pub push-requires-clause-classed : goal.push-requires-clause-classed
push-requires-clause-classed g c = let s = down_small c.args.size in omega (arith, s, c.uint_to_float_round_down.ensures.is)

pub push-requires-clause-unlisted : goal.push-requires-clause-unlisted
push-requires-clause-unlisted g c = unlisted c.requires.place.2 _ c.requires.place.3

pub returns-in_default-free_before-clause-place : goal.returns-in_default-free_before-clause-place
returns-in_default-free_before-clause-place g c m p h =
    kept_place c.push.ensures.chain (kept_after (kept_before h (c.in_default-free_before.ensures.free _ _ _ _ h)) (c.in_default.ensures.free _ _ _ _ h))

pub returns-in_default-free_before-clause-lists : goal.returns-in_default-free_before-clause-lists
returns-in_default-free_before-clause-lists g c m p h =
    rw (
      c.push.ensures.chain.0,
      c.push.ensures.lists,
      c.uint_to_float_round_down.ensures.is,
      ← c.requires.size,
      c.in_default-free_before.ensures.free _ _ _ _ h,
      c.in_default.ensures.free _ _ _ _ h,
    ) refl

-- a free block beside it
pub exchange-requires-clause-listed : goal.exchange-requires-clause-listed
exchange-requires-clause-listed g c =
    let h = c.requires.place.2 in
    elim c.match-next.branch [
      | in-Some w ↦
          let merged = w.with_before-size.ensures.place _ _ h in
          let same = next_same h merged refl w.in-Some.ensures.free.0 in
          rw (w.store-is, w.gone-is, w.coalesce_after.ensures.bins.0, w.with_before-size.ensures.lists _ _ h, w.size-more.ensures.cell)
          (next_filed merged _ (filed_before h _ c.requires.place.3 c.requires.binned.linked.lists_len) same.0 (same.1 ∙ w.in-Some.ensures.free.1))
      | in_default+in-Some-free_before w ↦
          let before = w.in-Some-free_before.ensures.free in
          rw (w.store-is, w.gone-is, w.coalesce_before.ensures.bins.0, w.size-more-in-Some-free_before.ensures.cell) (previous_filed h _ c.requires.place.3 before.0 before.1)
    ]

pub exchange-requires-clause-classed : goal.exchange-requires-clause-classed
exchange-requires-clause-classed g c = let s = down_small c.match-next.gone.2 in omega (arith, s, c.uint_to_float_round_down-2.ensures.is)

pub exchange-requires-clause-idle : goal.exchange-requires-clause-idle
exchange-requires-clause-idle g c =
    let h = c.requires.place.2 in
    let used = λ (v : Node). v.used in
    let idle = sym (ap used (at_place h)) ∙ c.requires.idle in
    elim c.match-next.branch [
      | in-Some w ↦ rw w.store-is (ap used (at_place (w.coalesce_after.ensures.place _ _ (w.with_before-size.ensures.place _ _ h))) ∙ idle)
      | in_default+in-Some-free_before w ↦ rw w.store-is (ap used (at_place (w.coalesce_before.ensures.place _ _ h)) ∙ idle)
    ]

pub exchange-requires-clause-unlisted : goal.exchange-requires-clause-unlisted
exchange-requires-clause-unlisted g c =
    let h = c.requires.place.2 in
    elim c.match-next.branch [
      | in-Some w ↦ rw (w.store-is, w.coalesce_after.ensures.bins.0, w.with_before-size.ensures.lists _ _ h)
          (unlisted (w.with_before-size.ensures.place _ _ h) _ (filed_before h _ c.requires.place.3 c.requires.binned.linked.lists_len))
      | in_default+in-Some-free_before w ↦ rw (w.store-is, w.coalesce_before.ensures.bins.0) (unlisted h _ c.requires.place.3)
    ]

pub returns-clause-place : goal.returns-clause-place
returns-clause-place g c m p h = elim c.match-next.branch [
  | in-Some w ↦ kept_place c.exchange.ensures.chain (rw w.store-is (w.coalesce_after.ensures.place _ _ (w.with_before-size.ensures.place _ _ h)))
  | in_default+in-Some-free_before w ↦ kept_place c.exchange.ensures.chain (rw w.store-is (kept_after (w.coalesce_before.ensures.place _ _ h) (w.in_default.ensures.free _ _ _ _ h)))
]

pub returns-clause-lists : goal.returns-clause-lists
returns-clause-lists g c m p h = elim c.match-next.branch [
  | in-Some w ↦
      let merged = w.with_before-size.ensures.place _ _ h in
      let same = next_same h merged refl w.in-Some.ensures.free.0 in
      let gone = free_after merged same.0 (same.1 ∙ w.in-Some.ensures.free.1) in
      let left = w.coalesce_after.ensures.place _ _ merged in
      let whole : w.with_before-size.result + w.size-more.result ≡ (node (g.T.Tables.cells w.coalesce_after.new.store.tables).chain c.args.name).size =
      whole_after merged left gone.0 w.with_before-size.ensures.size w.size-more.ensures.cell in
      rw (
        c.exchange.ensures.chain.0,
        c.exchange.ensures.lists,
        c.uint_to_float_round_down-2.ensures.is,
        w.store-is,
        w.gone-is,
        whole,
        w.coalesce_after.ensures.bins.0,
        w.with_before-size.ensures.lists _ _ h,
        w.size-more.ensures.cell,
      ) (ap (push _ c.args.name) (sym (gone.1 _)))
  | in_default+in-Some-free_before w ↦
      let before = w.in-Some-free_before.ensures.free in
      let gone = free_before h before.0 before.1 in
      let left = w.coalesce_before.ensures.place _ _ h in
      let whole : w.size-more-in-Some-free_before.result + c.args.size ≡ (node (g.T.Tables.cells w.coalesce_before.new.store.tables).chain c.args.name).size =
      whole_before h left gone.0 w.size-more-in-Some-free_before.ensures.cell c.requires.size in
      rw (
        c.exchange.ensures.chain.0,
        c.exchange.ensures.lists,
        c.uint_to_float_round_down-2.ensures.is,
        w.store-is,
        w.gone-is,
        whole,
        w.coalesce_before.ensures.bins.0,
        w.size-more-in-Some-free_before.ensures.cell,
        w.in_default.ensures.free _ _ _ _ h,
      ) (ap (push _ c.args.name) (sym (gone.1 _)))
]

pub free_after-next-requires : goal.free_after-next-requires
free_after-next-requires g c = record { place = (_, _, _, _, c.requires.place.2) }

pub free_before-requires : goal.free_before-requires
free_before-requires g c = record { place = (_, _, _, _, c.requires.place.2) }

pub returns-clause-binned : goal.returns-clause-binned
returns-clause-binned g c = c.exchange.ensures.binned

pub exchange-requires-clause-binned : goal.exchange-requires-clause-binned
exchange-requires-clause-binned g c = elim c.match-next.branch [
  | in-Some w ↦ rw (w.store-is, w.coalesce_after.ensures.bins.0, w.coalesce_after.ensures.bins.1) w.with_before-size.ensures.binned
  | in_default+in-Some-free_before w ↦ rw (w.store-is, w.coalesce_before.ensures.bins.0, w.coalesce_before.ensures.bins.1) c.requires.binned
]

pub returns-in_default-free_before-clause-unused : goal.returns-in_default-free_before-clause-unused
returns-in_default-free_before-clause-unused g c m p h =
    rw (c.in_default-free_before.ensures.free _ _ _ _ h, c.in_default.ensures.free _ _ _ _ h) (kept_unused c.push.ensures.chain ∙ sym (append-nil _))

pub returns-clause-unused : goal.returns-clause-unused
returns-clause-unused g c m p h = kept_unused c.exchange.ensures.chain ∙ elim c.match-next.branch [
  | in-Some w ↦
      let merged = w.with_before-size.ensures.place _ _ h in
      let same = next_same h merged refl w.in-Some.ensures.free.0 in
      rw w.store-is (w.coalesce_after.ensures.unused
      ∙ ap₂ (λ (u xs : List ℕ). u ++ xs) (w.with_before-size.ensures.unused _ _ h) (sym (name_after merged same.0 (same.1 ∙ w.in-Some.ensures.free.1)))
      ∙ append_assoc _ (names_of (free_end p.before)) (names_of (free_start p.after)) ∙ ap (λ (xs : List ℕ). unused_of g.T.Tables.cells c.args.store.now ++ xs) (sym (names-append (free_end p.before) (free_start p.after))))
  | in_default+in-Some-free_before w ↦
      let before = w.in-Some-free_before.ensures.free in
      rw (w.store-is, w.in_default.ensures.free _ _ _ _ h, append-nil) (w.coalesce_before.ensures.unused
      ∙ ap (λ (xs : List ℕ). unused_of g.T.Tables.cells c.args.store.now ++ xs) (sym (name_before h before.0 before.1)))
]
