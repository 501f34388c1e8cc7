-- The index stays right when the heap of one number changes.
use Rattle.std.proofs.Common.{◌≡◌, ◌≢◌, ℕ, ◌+◌, ◌^◌, ◌<◌, ◌≤◌, ◌⊎◌, length, List, Option, Some, None, IfSome, replicate, slice_set, sym, ap, ◌∙◌, subst, inl, inr, arith}
use Rattle.std.proofs.lemmas.Bool.{cases_eq, cases_lt, le-ltb}
use Rattle.std.proofs.lemmas.List.{get_or-replicate, get_or_past, length-replicate, length-set}
use Rattle.offset_guarded.specs.Guard.{Guard}
use Rattle.offset_heaps.specs.declared.limits.Limits.{Limits}
use Rattle.offset_heaps.specs.declared.index.Index.{Index}
use Rattle.offset_heaps.specs.{Heaps.IsOfKind, Heaps.slot, Heaps.room_of, Slots.Changes, Soundness.IsNoted, Soundness.IsSound, Soundness.IsWide, Soundness.empty_key, Soundness.spare_of, Maxima.cell}
use Rattle.offset_heaps.proofs.Numbers.{slot_other, slot_past, slot_same}

pub wide_put : (slots : List (Option Guard)) (index : Index) (k : ℕ) (o : Option Guard) → IsWide slots index → IsWide (slice_set slots k o) index
wide_put slots index k o w =
    let same = length-set slots k o in
    let one = w.one in
    let two = w.two in
    let spare = w.spare in
    let empty = w.empty in
    record {
      one = omega arith;
      two = omega arith;
      spare = omega arith;
      empty = omega arith;
      level_two = w.level_two;
      level_spare = w.level_spare;
      level_empty = w.level_empty;
    }

pub noted_other : (limits : Limits) (slots : List (Option Guard)) (index : Index) (k j : ℕ) (o : Option Guard) → j ≢ k → IsNoted limits slots index j
    → IsNoted limits (slice_set slots k o) index j
noted_other limits slots index k j o n is =
    let e = sym (slot_other slots k j o n) in
    record {
      one = is.one ∙ ap (room_of limits j 1) e;
      two = is.two ∙ ap (room_of limits j 2) e;
      spare = is.spare ∙ ap (spare_of limits j) e;
      empty = is.empty ∙ ap empty_key e;
    }

module _ (max : ℕ) (slots : List (Option Guard)) (limits : Limits) (made then : ℕ) (old new : Index) (k : ℕ) (o : Option Guard) (is : IsSound max slots limits made old) (later : made ≤ then) where
  realms_put : IfSome o (λ g. g.realm ≤ then) → k < length slots → (j : ℕ) → IfSome (slot j (slice_set slots k o)) (λ g. g.realm ≤ then)
  realms_put below l j = elim (cases_eq j k) [
    | inl e ↦ rw (e, slot_same slots k o l) below
    | inr n ↦ rw (slot_other slots k j o n) (weaker (slot j slots) (is.realms j))
  ]
    where
      weaker : (p : Option Guard) → IfSome p (λ g. g.realm ≤ made) → IfSome p (λ g. g.realm ≤ then)
      weaker None h = tt
      weaker (Some g) h = omega (arith, h, later)

  kinds_put : IfSome o (IsOfKind limits k) → k < length slots → (j : ℕ) → IfSome (slot j (slice_set slots k o)) (IsOfKind limits j)
  kinds_put kind l j = elim (cases_eq j k) [
    | inl e ↦ rw (e, slot_same slots k o l) kind
    | inr n ↦ rw (slot_other slots k j o n) (is.kinds j)
  ]

  pub sound_put : IfSome o (λ g. g.realm ≤ then) → IfSome o (IsOfKind limits k) → k < length slots → IsWide (slice_set slots k o) new → IsNoted limits (slice_set slots k o) new k
      → ((j : ℕ) → (j ≡ k → ⊥) → IsNoted limits (slice_set slots k o) old j → IsNoted limits (slice_set slots k o) new j)
      → new.one.height ≡ old.one.height → IsSound max (slice_set slots k o) limits then new
  sound_put below kind l wide here others levels =
      let same = length-set slots k o in
      record {
        wide = wide;
        noted = λ j. elim (cases_eq j k) [
          | inl e ↦ rw e here
          | inr n ↦ others j n (noted_other limits slots old k j o n (is.noted j))
        ];
        numbers = same ∙ is.numbers;
        few = rw same is.few;
        low = λ bits fits. rw levels (is.low bits (subst (λ n. n ≤ 2 ^ bits) same fits));
        limit_min = is.limit_min;
        limit_max = is.limit_max;
        limit_first = is.limit_first;
        size_first = is.size_first;
        realms = realms_put below l;
        kinds = kinds_put kind l;
      }

-- what a heap that was there is changed to has the same realm
pub realm_kept : (made : ℕ) (old new : Option Guard) (before after : Guard) → old ≡ Some before → new ≡ Some after → after.realm ≡ before.realm
    → IfSome old (λ g. g.realm ≤ made) → IfSome new (λ g. g.realm ≤ made)
realm_kept made old new before after was is same below = rw is (let l = rw was at below in omega (arith, l, same))

-- with no heap and keys of 0, what is behind the last number is noted
pub empty_cell : (p k : ℕ) → cell k (replicate p 0) ≡ 0
empty_cell p k = elim (cases_lt k p) [
  | inl l ↦ get_or-replicate p k 0 0 l
  | inr past ↦ get_or_past (replicate p 0) k 0 (let same = length-replicate {A = ℕ} p 0 in omega arith)
]

pub empty_slot : (n k : ℕ) → slot k (replicate n None) ≡ None
empty_slot n k = elim (cases_lt k n) [
  | inl l ↦ get_or-replicate n k None None l
  | inr past ↦ get_or_past (replicate n None) k None (let same = length-replicate {A = Option Guard} n None in omega arith)
]

-- before any number is noted, what is behind the last one is
past_noted : (limits : Limits) (p k : ℕ) (slots : List (Option Guard)) (index : Index) → index.one.keys ≡ replicate p 0 → index.two.keys ≡ index.one.keys → index.spare.keys ≡ index.one.keys
    → index.empty.keys ≡ index.one.keys → length slots ≡ limits.most + limits.most_larger → limits.most + limits.most_larger ≤ k → IsNoted limits slots index k
past_noted limits p k slots index one two spare empty count past =
    let zero_key : cell k index.one.keys ≡ 0 = ap (cell k) one ∙ empty_cell p k in
    let none : slot k slots ≡ None = slot_past slots k (omega (arith, count, past)) in
    let before : limits.most ≤ k = omega (arith, past) in
    record {
      one = rw none zero_key;
      two = rw none (ap (cell k) two ∙ zero_key);
      spare = rw (none, le-ltb k limits.most before, le-ltb k (limits.most + limits.most_larger) past) (ap (cell k) spare ∙ zero_key);
      empty = rw none (ap (cell k) empty ∙ zero_key);
    }

pub started_at : (limits : Limits) (p : ℕ) (slots : List (Option Guard)) (index : Index) → length slots ≡ limits.most + limits.most_larger → limits.most + limits.most_larger ≤ p
    → index.one.keys ≡ replicate p 0 → (index.two.keys ≡ index.one.keys) × (index.two.height ≡ index.one.height) → (index.spare.keys ≡ index.one.keys) × (index.spare.height ≡ index.one.height)
    → (index.empty.keys ≡ index.one.keys) × (index.empty.height ≡ index.one.height)
    → IsWide slots index × ((k : ℕ) → limits.most + limits.most_larger ≤ k → IsNoted limits slots index k)
started_at limits p slots index count room one two spare empty =
    let wide : length index.one.keys ≡ p = ap length one ∙ length-replicate {A = ℕ} p 0 in
    let wide_two : length index.two.keys ≡ length index.one.keys = ap length two.0 in
    let wide_spare : length index.spare.keys ≡ length index.one.keys = ap length spare.0 in
    let wide_empty : length index.empty.keys ≡ length index.one.keys = ap length empty.0 in (
      record {
        one = omega (arith, wide, count, room);
        two = omega (arith, wide, wide_two, count, room);
        spare = omega (arith, wide, wide_spare, count, room);
        empty = omega (arith, wide, wide_empty, count, room);
        level_two = two.1;
        level_spare = spare.1;
        level_empty = empty.1;
      },
      λ k past. past_noted limits p k slots index one two.0 spare.0 empty.0 count past,
    )

pub noted_more : (limits : Limits) (slots : List (Option Guard)) (old new : Index) (n count : ℕ) → IsNoted limits slots new n
    → ((k : ℕ) → (k ≡ n → ⊥) → IsNoted limits slots old k → IsNoted limits slots new k) → ((k : ℕ) → (k < n) ⊎ (count ≤ k) → IsNoted limits slots old k)
    → (k : ℕ) → (k < n + 1) ⊎ (count ≤ k) → IsNoted limits slots new k
noted_more limits slots old new n count here others known k within = elim (cases_eq k n) [
  | inl e ↦ rw e here
  | inr d ↦ others k d (known k (nearer d within))
]
  where
    nearer : k ≢ n → (k < n + 1) ⊎ (count ≤ k) → (k < n) ⊎ (count ≤ k)
    nearer d (inl l) = inl (omega arith)
    nearer d (inr l) = inr l

-- a heap that was made has the next realm
pub realm_new : (made : ℕ) (o : Option Guard) → IfSome o (λ g. g.realm ≡ made) → IfSome o (λ g. g.realm ≤ made)
realm_new made None h = tt
realm_new made (Some g) h = omega (arith, h)

-- one more heap is changed, as each is
pub changes_more : (P : Option Guard → Option Guard → Type 0) (first slots now : List (Option Guard)) (n : ℕ) → n < length slots → Changes n P slots now → ((k : ℕ) → k < n → P (slot k first) (slot k slots))
    → ((k : ℕ) → n ≤ k → slot k slots ≡ slot k first)
    → ((k : ℕ) → k < n + 1 → P (slot k first) (slot k now)) × ((k : ℕ) → n + 1 ≤ k → slot k now ≡ slot k first)
changes_more P first slots now n l change done left = (
  λ k below. elim (cases_eq k n) [
    | inl e ↦ rw (e, change.slots, slot_same slots n change.now l) (subst (λ o. P o change.now) (left n (omega arith)) change.by)
    | inr d ↦ rw (change.slots, slot_other slots n k change.now d) (done k (omega arith))
  ],
  λ k past. rw change.slots (slot_other slots n k change.now (λ e. omega arith) ∙ left k (omega arith)),
)

pub noted_changed : (P : Option Guard → Option Guard → Type 0) (limits : Limits) (slots now : List (Option Guard)) (n : ℕ) (old new : Index) → Changes n P slots now → ((k : ℕ) → IsNoted limits slots old k)
    → IsNoted limits now new n → ((k : ℕ) → (k ≡ n → ⊥) → IsNoted limits now old k → IsNoted limits now new k) → (k : ℕ) → IsNoted limits now new k
noted_changed P limits slots now n old new change noted here others k = elim (cases_eq k n) [
  | inl e ↦ rw e here
  | inr d ↦ others k d (rw change.slots (noted_other limits slots old n k change.now d (noted k)))
]
