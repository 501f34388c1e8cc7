-- The bytes of a state, and the heaps that they are of.
use Rattle.std.proofs.Common.{◌≡◌, ℕ, zero, suc, ◌+◌, ◌*◌, ◌-◌, ◌^◌, ◌<◌, ◌≤◌, [], ◌∷◌, ◌++◌, length, List, Option, Some, None, IfSome, map, slice_set, take, drop, get_or, refl, sym, ap}
use Rattle.std.proofs.Common.{ap₂, ◌∙◌, subst, inl, inr, arith, length-append, ext_get_or}
use Rattle.std.proofs.lemmas.Bool.{cases_eq, cases_lt}
use Rattle.std.proofs.Math.Seq.{drop-append_seam, take-add, take-append_seam}
use Rattle.std.proofs.lemmas.List.{drop-drop, get_or_append_left, get_or-append-add, get_or_push, take_all, length-drop, length-map, take-append-le, drop-append-le, length-take-le}
use Rattle.std.proofs.lemmas.List.{take-append-drop}
use Rattle.offset_allocator.specs.Saving.State.{words_in}
use Rattle.offset_allocator.proofs.{Saving.Restored.one_view, Saving.Bytes.same_bytes}
use Rattle.offset_guarded.specs.{Guard.Guard, Numbers.checksum_from, Numbers.number_at, State.SameGuard}
use Rattle.offset_guarded.specs.State as guarded
use Rattle.std.specs.{Int.w64, Int.from_le_bytes, List.AllByRecursion}
use Rattle.offset_guarded.specs.Numbers as words
use Rattle.offset_guarded.proofs.States as guards
use Rattle.offset_guarded.proofs.Bytes.{length-numbers, number_in, numbers-add, numbers_more, all_take, all_drop, same_front}
use Rattle.offset_heaps.specs.declared.limits.Limits.{Limits}
use Rattle.offset_heaps.specs.declared.index.Index.{Index}
use Rattle.offset_heaps.specs.declared.restore.Header.{Header}
use Rattle.offset_heaps.specs.{Heaps.Heaps, Heaps.IsOfKind, Heaps.slot, Maxima.cell, Soundness.IsNoted, Soundness.IsSound, Soundness.IsWide, State.quiet, State.state_form, State.state_version}
use Rattle.offset_heaps.specs.State.{AreRead, AreStatesOf, IsAdmitted, IsHeader, IsHeapAdmitted, IsHeapAt, IsHeapFormed, IsHeapState, IsRestored, IsStateOf, IsWellFormed, SameHeaps, heaps_numbers}
use Rattle.offset_heaps.proofs.{Limited.quiet_limited, Limited.sound_all, Numbers.slot_other, Numbers.slot_past, Numbers.slot_same, Places.shown}

-- the heaps of which no access was counted
pub slot_quiet : (k : ℕ) (slots : List (Option Guard)) → slot k (map quiet slots) ≡ quiet (slot k slots)
slot_quiet k [] = refl
slot_quiet zero (o ∷ slots) = refl
slot_quiet (suc k) (o ∷ slots) = slot_quiet k slots

pub all_quiet : (slots copies : List (Option Guard)) → length copies ≡ length slots → ((k : ℕ) → k < length slots → slot k copies ≡ quiet (slot k slots)) → copies ≡ map quiet slots
all_quiet slots copies long each =
    ext_get_or None copies (map quiet slots) (long ∙ sym (length-map slots quiet)) (λ k l. each k (omega (arith, long, l)) ∙ sym (slot_quiet k slots))

-- one more slot is as it should be
pub put_more : (P : ℕ → Option Guard → Type 0) (slots : List (Option Guard)) (n : ℕ) (o : Option Guard) → n < length slots → P n o → ((k : ℕ) → k < n → P k (slot k slots))
    → (k : ℕ) → k < n + 1 → P k (slot k (slice_set slots n o))
put_more P slots n o l here before k below = elim (cases_eq k n) [
  | inl e ↦ rw (e, slot_same slots n o l) here
  | inr d ↦ rw (slot_other slots n k o d) (before k (omega (arith, below, d)))
]

-- copies are as sound
pub copied_sound : (max : ℕ) (slots copies : List (Option Guard)) (limits : Limits) (made : ℕ) (old new : Index) → IsSound max slots limits made old → copies ≡ map quiet slots
    → IsWide copies new → ((k : ℕ) → IsNoted limits copies new k) → ((bits : ℕ) → length copies ≤ 2 ^ bits → new.one.height ≤ bits) → IsSound max copies limits made new
copied_sound max slots copies limits made old new is same wide noted low = sound_all max slots copies limits made old new is (ap length same ∙ length-map slots quiet) wide noted low
    (λ k. rw (same, slot_quiet k slots) (quiet_limited (slot k slots)))

-- the states of the first n heaps
pub record ArePushed (n : ℕ) (slots : List (Option Guard)) (places bytes : List ℕ) : Type 0 where
  pub count : length places ≡ n + 1
  pub first : cell 0 places ≡ 0
  pub heaps : (k : ℕ) → k < n → IsHeapAt (slot k slots) (cell k places) (cell (k + 1) places) bytes
  pub last : cell n places ≡ length bytes

-- more bytes behind those of a heap do not count
before : (o : Option Guard) (a b : ℕ) (bytes more : List ℕ) → IsHeapAt o a b bytes → IsHeapAt o a b (bytes ++ more)
before o a b bytes more is =
    let from : a ≤ b = is.order in
    let to : b ≤ length bytes = is.within in
    record {
      order = from;
      within = omega (arith, to, length-append bytes more);
      state = subst (IsHeapState o) (sym (ap (take (b - a)) (drop-append-le a bytes more (omega (arith, from, to)))
          ∙ take-append-le (b - a) (drop a bytes) more (omega (arith, from, to, length-drop a bytes)))) is.state;
    }

-- one more state
pub pushed_more : (n : ℕ) (slots : List (Option Guard)) (places bytes more places' bytes' : List ℕ) → ArePushed n slots places bytes → IsHeapState (slot n slots) more → bytes' ≡ bytes ++ more
    → places' ≡ places ++ length bytes' ∷ [] → ArePushed (n + 1) slots places' bytes'
pushed_more n slots places bytes more places' bytes' is state e f =
    let count : length places ≡ n + 1 = is.count in
    let long : length bytes' ≡ length bytes + length more = ap length e ∙ length-append bytes more in
    let old : (k : ℕ) → k < n + 1 → cell k places' ≡ cell k places = λ k l. ap (cell k) f ∙ get_or_append_left places (length bytes' ∷ []) 0 k (omega (arith, l, count)) in
    let next : cell (n + 1) places' ≡ length bytes' = ap (cell (n + 1)) f ∙ get_or_push places (length bytes') 0 (n + 1) count in
    let from : cell n places' ≡ length bytes = old n (omega arith) ∙ is.last in
    let here : IsHeapAt (slot n slots) (cell n places') (cell (n + 1) places') bytes' = record {
      order = omega (arith, from, next, long);
      within = omega (arith, next);
      state = subst (IsHeapState (slot n slots)) (sym (ap₂ (λ a b. take (b - a) (drop a bytes')) from next ∙ ap (λ l. take (length bytes' - length bytes) (drop (length bytes) l)) e
          ∙ ap (take (length bytes' - length bytes)) (drop-append_seam bytes more) ∙ take_all (length bytes' - length bytes) more (omega (arith, long)))) state;
    } in
    record {
      count = ap length f ∙ length-append places (length bytes' ∷ []) ∙ omega (arith, count);
      first = old 0 (omega arith) ∙ is.first;
      heaps = λ k l. elim (cases_eq k n) [
        | inl same ↦ rw same here
        | inr d ↦
            subst (λ a. IsHeapAt (slot k slots) a (cell (k + 1) places') bytes') (sym (old k (omega (arith, l))))
            (subst (λ b. IsHeapAt (slot k slots) (cell k places) b bytes') (sym (old (k + 1) (omega (arith, l, d))))
            (subst (IsHeapAt (slot k slots) (cell k places) (cell (k + 1) places)) (sym e) (before (slot k slots) (cell k places) (cell (k + 1) places) bytes more (is.heaps k (omega (arith, l, d))))))
      ];
      last = next;
    }

-- all of them
pub all_pushed : (n : ℕ) (slots : List (Option Guard)) (places bytes : List ℕ) → length slots ≡ n → ArePushed n slots places bytes → AreStatesOf slots places bytes
all_pushed n slots places bytes long is =
    let p : ArePushed (length slots) slots places bytes = subst (λ m. ArePushed m slots places bytes) (sym long) is in
    record { count = p.count; first = p.first; heaps = p.heaps; last = p.last }

-- what the bytes of a state have
pub record HasParts (hs : Heaps) (ps bs : List ℕ) : Type 0 where
  pub form : number_at bs 0 ≡ state_form
  pub version : number_at bs 1 ≡ state_version
  pub size : number_at bs 2 ≡ hs.limits.size
  pub first_size : number_at bs 3 ≡ hs.limits.first_size
  pub limit : number_at bs 4 ≡ hs.limits.max_allocs
  pub first : number_at bs 5 ≡ hs.limits.first_allocs
  pub most : number_at bs 6 ≡ hs.limits.most
  pub larger : number_at bs 7 ≡ hs.limits.most_larger
  pub made : number_at bs 8 ≡ hs.made
  pub realm : number_at bs 9 ≡ hs.realm
  pub places : (i : ℕ) → i < length hs.slots + 1 → number_at bs (10 + i) ≡ cell i ps
  pub sum : number_at bs (11 + length hs.slots) ≡ checksum_from 0 (words.numbers (11 + length hs.slots) bs)

pub parts : (hs : Heaps) (bs : List ℕ) (st : IsStateOf hs bs) → HasParts hs st.places bs
parts hs bs st =
    let n : ℕ = length hs.slots in
    let p : List ℕ = st.places in
    let s : ℕ = checksum_from 0 (heaps_numbers hs p) in
    let count : length p ≡ n + 1 = st.heaps.count in
    let at : (i : ℕ) → i < 12 + n → number_at bs i ≡ get_or (heaps_numbers hs p ++ s ∷ []) i 0 = λ i l. sym (number_in (12 + n) i bs l) ∙ ap (λ l. get_or l i 0) st.head in
    let long : length (words.numbers (11 + n) bs) ≡ length (heaps_numbers hs p) = length-numbers (11 + n) bs ∙ omega (arith, count) in
    let seam : words.numbers (11 + n) bs ++ number_at bs (11 + n) ∷ [] ≡ heaps_numbers hs p ++ s ∷ [] =
    sym (numbers_more (11 + n) bs) ∙ ap (λ m. words.numbers m bs) {x = 11 + n + 1} {y = 12 + n} (omega arith) ∙ st.head in
    let first : words.numbers (11 + n) bs ≡ heaps_numbers hs p =
    sym (take-append_seam (words.numbers (11 + n) bs) (number_at bs (11 + n) ∷ [])) ∙ ap₂ (λ (k : ℕ) (l : List ℕ). take k l) long seam ∙ take-append_seam (heaps_numbers hs p) (s ∷ []) in
    record {
      form = at 0 (omega arith);
      version = at 1 (omega arith);
      size = at 2 (omega arith);
      first_size = at 3 (omega arith);
      limit = at 4 (omega arith);
      first = at 5 (omega arith);
      most = at 6 (omega arith);
      larger = at 7 (omega arith);
      made = at 8 (omega arith);
      realm = at 9 (omega arith);
      places = λ i l.
          at (10 + i) (omega (arith, l)) ∙ get_or_append_left (heaps_numbers hs p) (s ∷ []) 0 (10 + i) (omega (arith, l, count))
          ∙ get_or-append-add (state_form ∷ state_version ∷ hs.limits.size ∷ hs.limits.first_size ∷ hs.limits.max_allocs ∷ hs.limits.first_allocs ∷ hs.limits.most ∷ hs.limits.most_larger ∷ hs.made ∷ hs.realm ∷ []) p i 0;
      sum = at (11 + n) (omega arith) ∙ get_or_push (heaps_numbers hs p) s 0 (11 + n) (omega (arith, count)) ∙ ap (checksum_from 0) (sym first);
    }

-- the heap of each number is between two of the places
pub heap_between : (hs : Heaps) (bs : List ℕ) → IsStateOf hs bs → (k : ℕ) → k < length hs.slots
    → IsHeapAt (slot k hs.slots) (number_at bs (10 + k)) (number_at bs (11 + k)) (drop (96 + 8 * length hs.slots) bs)
heap_between hs bs st k l =
    let p = parts hs bs st in
    let from : number_at bs (10 + k) ≡ cell k st.places = p.places k (omega (arith, l)) in
    let to : number_at bs (11 + k) ≡ cell (k + 1) st.places = ap (number_at bs) {x = 11 + k} {y = 10 + (k + 1)} (omega arith) ∙ p.places (k + 1) (omega (arith, l)) in
    subst (λ a. IsHeapAt (slot k hs.slots) a (number_at bs (11 + k)) (drop (96 + 8 * length hs.slots) bs)) (sym from)
    (subst (λ b. IsHeapAt (slot k hs.slots) (cell k st.places) b (drop (96 + 8 * length hs.slots) bs)) (sym to) (st.heaps.heaps k l))

-- bytes are of one heap
heap_formed : (limits : Limits) (made k : ℕ) (o : Option Guard) → IsHeapFormed limits made k o → IfSome o (λ g. guarded.IsWellFormed g)
heap_formed limits made k None f = tt
heap_formed limits made k (Some g) f = f.0

same_heap : (o p : Option Guard) (bytes : List ℕ) → IfSome o (λ g. guarded.IsWellFormed g) → IfSome p (λ g. guarded.IsWellFormed g) → IsHeapState o bytes → IsHeapState p bytes → quiet p ≡ quiet o
same_heap None None bytes f h s t = refl
same_heap None (Some g) bytes f h s t = absurd (omega (arith, ap length s, (guards.parts g bytes t).long))
same_heap (Some g) None bytes f h s t = absurd (omega (arith, ap length t, (guards.parts g bytes s).long))
same_heap (Some g) (Some k) bytes f h s t =
    ap (λ (o : Option Guard). quiet o) {x = Some k} {y = Some (record g { space = record g.space { accesses = k.space.accesses } })}
    (ap Some (guards.one_guard g k bytes s t (λ bs a b. one_view g.space k.space (words_in bs) f.space h.space a.text b.text)))

-- and of many heaps
pub one_of_many : (hs ks : Heaps) (bs : List ℕ) → IsWellFormed hs → IsWellFormed ks → IsStateOf hs bs → IsStateOf ks bs → SameHeaps hs ks
one_of_many hs ks bs w v s t =
    let p = parts hs bs s in
    let q = parts ks bs t in
    let size : ks.limits.size ≡ hs.limits.size = sym q.size ∙ p.size in
    let first_size : ks.limits.first_size ≡ hs.limits.first_size = sym q.first_size ∙ p.first_size in
    let limit : ks.limits.max_allocs ≡ hs.limits.max_allocs = sym q.limit ∙ p.limit in
    let first : ks.limits.first_allocs ≡ hs.limits.first_allocs = sym q.first ∙ p.first in
    let most : ks.limits.most ≡ hs.limits.most = sym q.most ∙ p.most in
    let larger : ks.limits.most_larger ≡ hs.limits.most_larger = sym q.larger ∙ p.larger in
    let made : ks.made ≡ hs.made = sym q.made ∙ p.made in
    let realm : ks.realm ≡ hs.realm = sym q.realm ∙ p.realm in
    let long : length ks.slots ≡ length hs.slots = t.count ∙ ap₂ (λ a b. a + b) most larger ∙ sym s.count in
    let each : (k : ℕ) → k < length hs.slots → quiet (slot k ks.slots) ≡ quiet (slot k hs.slots) = λ k l.
    same_heap (slot k hs.slots) (slot k ks.slots) _ (heap_formed hs.limits hs.made k (slot k hs.slots) (w.heaps k)) (heap_formed ks.limits ks.made k (slot k ks.slots) (v.heaps k)) (heap_between hs bs s k l).state
    (subst (λ n. IsHeapState (slot k ks.slots) (take (number_at bs (11 + k) - number_at bs (10 + k)) (drop (number_at bs (10 + k)) (drop (96 + 8 * n) bs)))) long
    (heap_between ks bs t k (omega (arith, l, long))).state) in
    let slots : map quiet ks.slots ≡ map quiet hs.slots =
    ext_get_or None (map quiet ks.slots) (map quiet hs.slots) (length-map ks.slots quiet ∙ long ∙ sym (length-map hs.slots quiet))
    (λ k l. slot_quiet k ks.slots ∙ each k (omega (arith, l, long, length-map ks.slots quiet)) ∙ sym (slot_quiet k hs.slots)) in
    λ i. record {
      slots = slots i;
      limits = record { size = size i; first_size = first_size i; max_allocs = limit i; first_allocs = first i; most = most i; most_larger = larger i };
      made = made i;
      realm = realm i;
      accesses = 0;
    }

-- the numbers before the places
ten : (bs : List ℕ) → words.numbers 10 bs
    ≡ number_at bs 0 ∷ number_at bs 1 ∷ number_at bs 2 ∷ number_at bs 3 ∷ number_at bs 4 ∷ number_at bs 5 ∷ number_at bs 6 ∷ number_at bs 7 ∷ number_at bs 8 ∷ number_at bs 9 ∷ []
ten bs =
    let a = number_in 10 0 bs (omega arith) in
    let b = number_in 10 1 bs (omega arith) in
    let c = number_in 10 2 bs (omega arith) in
    let d = number_in 10 3 bs (omega arith) in
    let e = number_in 10 4 bs (omega arith) in
    let f = number_in 10 5 bs (omega arith) in
    let g = number_in 10 6 bs (omega arith) in
    let h = number_in 10 7 bs (omega arith) in
    let j = number_in 10 8 bs (omega arith) in
    let k = number_in 10 9 bs (omega arith) in
    λ i. a i ∷ b i ∷ c i ∷ d i ∷ e i ∷ f i ∷ g i ∷ h i ∷ j i ∷ k i ∷ []

-- what is true of the heaps of all numbers, is true of no heap behind them
past_too : (P : ℕ → Option Guard → Type 0) (slots : List (Option Guard)) → ((k : ℕ) → P k None) → ((k : ℕ) → k < length slots → P k (slot k slots)) → (k : ℕ) → P k (slot k slots)
past_too P slots none each k = elim (cases_lt k (length slots)) [ inl l ↦ each k l | inr past ↦ subst (P k) (sym (slot_past slots k past)) (none k) ]

-- what was read is of these bytes
module _ (max mh ma : ℕ) (bs : List ℕ) (h : Header) (slots : List (Option Guard)) (accesses : ℕ) (hd : IsHeader max mh ma bs h)
    (start : number_at bs 10 ≡ 0) (end : number_at bs (10 + (h.limits.most + h.limits.most_larger)) ≡ length (drop (96 + 8 * (h.limits.most + h.limits.most_larger)) bs))
    (are : AreRead h.limits max h.made ma (h.limits.most + h.limits.most_larger) bs (drop (96 + 8 * (h.limits.most + h.limits.most_larger)) bs) slots) (none : accesses ≡ 0) where
  abbrev pub m : ℕ
  m = h.limits.most + h.limits.most_larger

  abbrev pub v : Heaps
  v = shown slots h.limits h.made h.realm accesses

  abbrev pub places : List ℕ
  places = words.numbers (m + 1) (drop 80 bs)

  place : (k : ℕ) → k < m + 1 → cell k places ≡ number_at bs (10 + k)
  place k l = number_in (m + 1) k (drop 80 bs) l ∙ ap (λ (b : List ℕ). from_le_bytes w64 (take 8 b)) (drop-drop (8 * k) 80 bs ∙ ap (λ i. drop i bs) (omega arith))

  -- all numbers but the checksum
  all : words.numbers (11 + m) bs ≡ heaps_numbers v places
  all =
      let a = hd.form in
      let b = hd.version in
      let c = hd.size in
      let s = hd.first_size in
      let d = hd.limit in
      let first = hd.first in
      let e = hd.most in
      let f = hd.larger in
      let g = hd.made in
      let r = hd.realm in
      ap (λ i. words.numbers i bs) {x = 11 + m} {y = 10 + (m + 1)} (omega arith) ∙ numbers-add 10 (m + 1) bs ∙ ap (λ l. l ++ places) (ten bs)
      ∙ (λ i. a i ∷ b i ∷ c i ∷ s i ∷ d i ∷ first i ∷ e i ∷ f i ∷ g i ∷ r i ∷ places)

  pub read_state_of : IsStateOf v bs
  read_state_of =
      let many : length slots ≡ m = are.many in
      record {
        places = places;
        count = many;
        long = omega (arith, hd.long, many);
        head = ap (λ i. words.numbers i bs) {x = 12 + length slots} {y = 11 + m + 1} (omega (arith, many)) ∙ numbers_more (11 + m) bs
            ∙ ap₂ (λ (l : List ℕ) (i : ℕ). l ++ i ∷ []) all (hd.sum ∙ ap (checksum_from 0) all);
        heaps = subst (λ n. AreStatesOf slots places (drop (96 + 8 * n) bs)) (sym many) record {
          count = length-numbers (m + 1) (drop 80 bs) ∙ omega (arith, many);
          first = place 0 (omega arith) ∙ start;
          heaps = λ k l.
              subst (λ a. IsHeapAt (slot k slots) a (cell (k + 1) places) (drop (96 + 8 * m) bs)) (sym (place k (omega (arith, l, many))))
              (subst (λ b. IsHeapAt (slot k slots) (number_at bs (10 + k)) b (drop (96 + 8 * m) bs))
              (ap (number_at bs) {x = 11 + k} {y = 10 + (k + 1)} (omega arith) ∙ sym (place (k + 1) (omega (arith, l, many)))) (are.heaps k (omega (arith, l, many))).state);
          last = ap (λ k. cell k places) many ∙ place m (omega arith) ∙ end;
        };
      }

  pub read_admitted : IsAdmitted max mh ma v
  read_admitted = record {
    few = hd.few;
    limit = hd.limit_max;
    heaps = past_too (λ k o. IsHeapAdmitted max ma o) slots (λ k. tt) (λ k l. (are.heaps k (omega (arith, l, are.many))).admitted);
  }

  pub read_restored : IsRestored bs max mh ma v
  read_restored = record {
    state = read_state_of;
    admitted = read_admitted;
    rests = ap₂ (λ s a. record v { slots = s; accesses = a }) (sym (all_quiet slots slots refl (λ k l. sym (are.heaps k (omega (arith, l, are.many))).rests))) (sym none);
  }

  read_formed : (k : ℕ) → IsHeapFormed h.limits h.made k (slot k slots)
  read_formed = past_too (λ k o. IsHeapFormed h.limits h.made k o) slots (λ k. tt) (λ k l. (are.heaps k (omega (arith, l, are.many))).formed)

  pub read_well_formed : mh ≤ 4294967295 → IsWellFormed v
  read_well_formed few = record {
    count = are.many;
    few = omega (arith, are.many, hd.few, few);
    size = hd.fits.0;
    first_size = hd.size_first;
    limit = hd.limit_min;
    first = hd.limit_first;
    made = hd.fits.1;
    realm = hd.fits.2;
    heaps = read_formed;
  }

  realm_formed : (k : ℕ) (o : Option Guard) → IsHeapFormed h.limits h.made k o → IfSome o (λ g. g.realm ≤ h.made)
  realm_formed k None f = tt
  realm_formed k (Some g) f = f.1

  kind_formed : (k : ℕ) (o : Option Guard) → IsHeapFormed h.limits h.made k o → IfSome o (IsOfKind h.limits k)
  kind_formed k None f = tt
  kind_formed k (Some g) f = f.2

  pub read_sound : (index : Index) → mh ≤ 4294967295 → IsWide slots index → ((k : ℕ) → IsNoted h.limits slots index k) → ((bits : ℕ) → length slots ≤ 2 ^ bits → index.one.height ≤ bits)
      → IsSound max slots h.limits h.made index
  read_sound index few wide noted low = record {
    wide = wide;
    noted = noted;
    numbers = are.many;
    few = omega (arith, are.many, hd.few, few);
    low = low;
    limit_min = hd.limit_min;
    limit_max = hd.limit_max.0;
    limit_first = hd.limit_first;
    size_first = hd.size_first;
    realms = λ k. realm_formed k (slot k slots) (read_formed k);
    kinds = λ k. kind_formed k (slot k slots) (read_formed k);
  }

-- each of many heaps is well formed
pub formed : (max : ℕ) (slots : List (Option Guard)) (limits : Limits) (made realm accesses : ℕ) (index : Index) → IsSound max slots limits made index
    → ((k : ℕ) → k < length slots → IfSome (slot k slots) (λ g. guarded.IsWellFormed g × (g.space.max_allocs + 1 < max)))
    → limits.size ≤ 4294967295 → made ≤ 4294967295 → realm ≤ 4294967295 → IsWellFormed (shown slots limits made realm accesses)
formed max slots limits made realm accesses index is each size few small = record {
  count = is.numbers;
  few = omega (arith, is.few);
  size = size;
  first_size = is.size_first;
  limit = is.limit_min;
  first = is.limit_first;
  made = few;
  realm = small;
  heaps = past_too (λ k o. IsHeapFormed limits made k o) slots (λ k. tt) (λ k l. both k (slot k slots) (each k l) (is.realms k) (is.kinds k));
}
  where
    both : (k : ℕ) (o : Option Guard) → IfSome o (λ g. guarded.IsWellFormed g × (g.space.max_allocs + 1 < max)) → IfSome o (λ g. g.realm ≤ made) → IfSome o (IsOfKind limits k)
        → IsHeapFormed limits made k o
    both k None a b c = tt
    both k (Some g) a b c = (a.0, b, c)

-- a heap has one list of bytes
one_state : (o : Option Guard) (ks bs : List ℕ) → AllByRecursion (λ x. x < 256) ks → AllByRecursion (λ x. x < 256) bs → IsHeapState o ks → IsHeapState o bs → ks ≡ bs
one_state None ks bs small few s t = s ∙ sym t
one_state (Some g) ks bs small few s t = guards.one_text g ks bs small few s t (λ xs ys a b u v. same_bytes xs ys u.whole v.whole a b (u.text ∙ sym v.text))

-- so many heaps have one: their states begin at the same places
states_same : (slots : List (Option Guard)) (ps qs ks bs : List ℕ) → AllByRecursion (λ x. x < 256) ks → AllByRecursion (λ x. x < 256) bs → AreStatesOf slots ps ks → AreStatesOf slots qs bs
    → (n : ℕ) → n ≤ length slots → (cell n ps ≡ cell n qs) × (cell n ps ≤ length ks) × (cell n qs ≤ length bs) × (take (cell n ps) ks ≡ take (cell n ps) bs)
states_same slots ps qs ks bs small few s t zero l =
    (s.first ∙ sym t.first, omega (arith, s.first), omega (arith, t.first), ap (λ i. take i ks) s.first ∙ sym (ap (λ i. take i bs) s.first))
states_same slots ps qs ks bs small few s t (suc n) l =
    let r = states_same slots ps qs ks bs small few s t n (omega (arith, l)) in
    let a = subst (λ i. IsHeapAt (slot n slots) (cell n ps) (cell i ps) ks) {x = n + 1} {y = suc n} (omega arith) (s.heaps n (omega (arith, l))) in
    let b = subst (λ i. IsHeapAt (slot n slots) (cell n qs) (cell i qs) bs) {x = n + 1} {y = suc n} (omega arith) (t.heaps n (omega (arith, l))) in
    let x : ℕ = cell (suc n) ps - cell n ps in
    let y : ℕ = cell (suc n) qs - cell n qs in
    let here : take x (drop (cell n ps) ks) ≡ take y (drop (cell n qs) bs) =
    one_state (slot n slots) _ _ (all_take x _ (all_drop (cell n ps) ks small)) (all_take y _ (all_drop (cell n qs) bs few)) a.state b.state in
    let lx : length (take x (drop (cell n ps) ks)) ≡ x = length-take-le x (drop (cell n ps) ks) (omega (arith, a.order, a.within, length-drop (cell n ps) ks)) in
    let ly : length (take y (drop (cell n qs) bs)) ≡ y = length-take-le y (drop (cell n qs) bs) (omega (arith, b.order, b.within, length-drop (cell n qs) bs)) in
    let same : x ≡ y = sym lx ∙ ap length here ∙ ly in
    let next : cell (suc n) ps ≡ cell (suc n) qs = omega (arith, same, r.0, a.order, b.order) in
    let parted : (ls : List ℕ) → take (cell (suc n) ps) ls ≡ take (cell n ps) ls ++ take x (drop (cell n ps) ls) = λ ls. ap (λ k. take k ls) {x = cell (suc n) ps} {y = cell n ps + x} (omega (arith, a.order))
    ∙ take-add (cell n ps) x ls in
    let there : take x (drop (cell n ps) ks) ≡ take x (drop (cell n ps) bs) = here ∙ ap₂ (λ i j. take i (drop j bs)) (sym same) (sym r.0) in
    (next, a.within, b.within, parted ks ∙ ap₂ (λ (f g : List ℕ). f ++ g) r.3 there ∙ sym (parted bs))

pub text_of_many : (hs : Heaps) (ks bs : List ℕ) → AllByRecursion (λ x. x < 256) ks → AllByRecursion (λ x. x < 256) bs → IsStateOf hs ks → IsStateOf hs bs → ks ≡ bs
text_of_many hs ks bs small few s t =
    let n : ℕ = length hs.slots in
    let m : ℕ = 96 + 8 * n in
    let ls : List ℕ = drop m ks in
    let rs : List ℕ = drop m bs in
    let all = states_same hs.slots s.places t.places ls rs (all_drop m ks small) (all_drop m bs few) s.heaps t.heaps in
    let end = all n (omega arith) in
    let rest : ls ≡ rs =
    sym (take_all (cell n s.places) ls (omega (arith, s.heaps.last))) ∙ end.3 ∙ take_all (cell n s.places) rs (omega (arith, end.0, t.heaps.last)) in
    let places : s.places ≡ t.places = ext_get_or 0 s.places t.places (s.heaps.count ∙ sym t.heaps.count) (λ k l. (all k (omega (arith, l, s.heaps.count))).0) in
    let numbers : words.numbers (12 + n) ks ≡ words.numbers (12 + n) bs = s.head ∙ ap (λ ps. heaps_numbers hs ps ++ checksum_from 0 (heaps_numbers hs ps) ∷ []) places ∙ sym t.head in
    let front : take (8 * (12 + n)) ks ≡ take (8 * (12 + n)) bs = same_front (12 + n) ks bs (omega (arith, s.long)) (omega (arith, t.long)) small few numbers in
    let at : 8 * (12 + n) ≡ m = omega arith in
    sym (take-append-drop m ks) ∙ ap₂ (λ (l r : List ℕ). l ++ r) (subst (λ k. take k ks ≡ take k bs) at front) rest ∙ take-append-drop m bs
