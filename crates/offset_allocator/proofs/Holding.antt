-- Requests for any free block that is large enough.
use Rattle.offset_allocator.proofs.{Sound.Fields, Sound.AreSound, Sound.shown, Sound.known_sound, Joints.stepped, Linking.Places.placed, Linking.Places.at_place, Taken.taken_among, Taken.fitting}
use Rattle.offset_allocator.proofs.{Ranges.beside, Ranges.split_grants, Views.ViewPlaces.place_here, Granting.within, Views.Split.well_split, Views.Split.part_room, Served.split_as, Served.can_grant}
use Rattle.offset_allocator.proofs.{Served.grants, Served.multiple, Padding.reaches, Reporting.Largest.free_most, Advice.free_within, Advice.open_still}
use Rattle.offset_allocator.proofs.Common.{◌≡◌, ℕ, zero, suc, ◌+◌, ◌-◌, ◌%◌, ◌<◌, ◌≤◌, ◌^◌, ◌↔◌, Bool, true, false, List, [], ◌∷◌, ◌++◌, length, Option, Some, None, IsSome, IfSome, is_some, nat_eq}
use Rattle.offset_allocator.proofs.Common.{nat_le, cond, refl, sym, ap, ap₂, subst, ◌∙◌, inl, inr, arith, append-nil, get_or_past, cases_lt, le-leb, leb-true, false≢true, if◌then◌else◌, value, up}
use Rattle.offset_allocator.proofs.Common.{down, Block, View, Place, Handle, one, units, times, count_named, count_in_bin, bin_at, push, remove, place_of, padding_to, free_sizes, IsWellFormed, Cells}
use Rattle.offset_allocator.proofs.Common.{Node, bins_in, IsBinned, IsFoundFrom, AdmitsBlocks, CanGrant, blocks_needed, units_needed, Splits, Aligns, Grants, blocks, live, gathered, Compacts}
use Rattle.offset_allocator.proofs.Common.{IsFresh, free_block, common_steps, max, sum, sum_by-cons}
use Rattle.offset_allocator.proofs.Classes.{down_law, down_small, value_down, fits_size, value_clauses, up_after, up_itself, up_reached, value_rises}
use Rattle.offset_allocator.proofs.Tallies.{hit_cases, one-same, one-eq, times-join, free_sum, tally_append, units-append, listed_named}
use Rattle.offset_allocator.proofs.Views.ViewBins.{times_put, times_remove, length_put, length_remove, names_same}
use Rattle.offset_allocator.specs.{Relations.SameState, Reporting.Statistics.greatest, Requests.Holds}
use Rattle.offset_allocator.specs.Tight.{CanHold, holds, holds_in, listed_from, first_holding, with_first, AlignsTight, FillsFirst, IsWhyTight}
use Rattle.offset_allocator.specs.declared.reports.Refusal.{Refusal}
use Rattle.offset_allocator.specs.declared.reports.Refusal.TheVariants.{Nodes, TooLarge, Space, Fragmented}
use Rattle.std.specs.List.{concat, find}

-- ---- the first of a list that passes
pub find_met : (p : ℕ → Bool) (xs : List ℕ) (x : ℕ) → find p xs ≡ Some x → (1 ≤ times x xs) × (p x ≡ true)
find_met p [] x e = absurd (cc)
find_met p (y ∷ xs) x e = elim (p y) as (λ b. p y ≡ b → cond b (Some y) (find p xs) ≡ Some x → (1 ≤ one (nat_eq x y) + times x xs) × (p x ≡ true)) [
  | true ↦ λ h f. let same : y ≡ x = cc in (omega (arith, one-eq x y same), subst (λ z. p z ≡ true) same h)
  | false ↦ λ h f. let r = find_met p xs x f in (omega (arith, r.0), r.1)
] refl e

pub find_none : (p : ℕ → Bool) (xs : List ℕ) → find p xs ≡ None → (x : ℕ) → 1 ≤ times x xs → p x ≡ false
find_none p [] e x l = absurd (omega arith)
find_none p (y ∷ xs) e x l = elim (p y) as (λ b. p y ≡ b → cond b (Some y) (find p xs) ≡ None → p x ≡ false) [
  | true ↦ λ h f. absurd (cc)
  | false ↦ λ h f. elim (hit_cases x y) [ inl i ↦ ap p i.0 ∙ h | inr i ↦ find_none p xs f x (omega (arith, l, i.1)) ]
] refl e

pub find_same : (p q : ℕ → Bool) (xs : List ℕ) → ((x : ℕ) → 1 ≤ times x xs → p x ≡ q x) → find p xs ≡ find q xs
find_same p q [] h = refl
find_same p q (y ∷ xs) h = ap₂ (λ (b : Bool) (r : Option ℕ). cond b (Some y) r) (h y (omega (arith, one-same y))) (find_same p q xs (λ x l. h x (omega (arith, l))))

pub find_past : (p : ℕ → Bool) (xs ys : List ℕ) → find p xs ≡ None → find p (xs ++ ys) ≡ find p ys
find_past p [] ys e = refl
find_past p (x ∷ xs) ys e = elim (p x) as (λ b. cond b (Some x) (find p xs) ≡ None → cond b (Some x) (find p (xs ++ ys)) ≡ find p ys) [
  | true ↦ λ f. absurd (cc)
  | false ↦ λ f. find_past p xs ys f
] e

pub find_here : (p : ℕ → Bool) (xs ys : List ℕ) (x : ℕ) → find p xs ≡ Some x → find p (xs ++ ys) ≡ Some x
find_here p [] ys x e = absurd (cc)
find_here p (y ∷ xs) ys x e = elim (p y) as (λ b. cond b (Some y) (find p xs) ≡ Some x → cond b (Some y) (find p (xs ++ ys)) ≡ Some x) [
  | true ↦ λ f. f
  | false ↦ λ f. find_here p xs ys x f
] e

pub find_first : (p : ℕ → Bool) (x : ℕ) (ys : List ℕ) → p x ≡ true → find p (x ∷ ys) ≡ Some x
find_first p x ys e = ap (λ (b : Bool). cond b (Some x) (find p ys)) e

pub find_later : (p : ℕ → Bool) (x : ℕ) (ys : List ℕ) → p x ≡ false → find p (x ∷ ys) ≡ find p ys
find_later p x ys e = ap (λ (b : Bool). cond b (Some x) (find p ys)) e

pub find_some_here : (p : ℕ → Bool) (xs ys : List ℕ) (r : Option ℕ) → is_some r ≡ true → r ≡ find p xs → r ≡ find p (xs ++ ys)
find_some_here p xs ys None t e = absurd (false≢true t)
find_some_here p xs ys (Some x) t e = sym (find_here p xs ys x (sym e))

pub none_of : (r : Option ℕ) → is_some r ≡ false → r ≡ None
none_of None e = refl
none_of (Some x) e = absurd (false≢true (sym e))

-- ---- the names from a class on
pub listed_skip : (ls : List (List ℕ)) (c d : ℕ) → c ≤ d → ((e : ℕ) → c ≤ e → e < d → bin_at ls e ≡ []) → listed_from c ls ≡ listed_from d ls
listed_skip ls zero zero l h = refl
listed_skip ls (suc c) zero l h = absurd (omega arith)
listed_skip [] zero (suc d) l h = refl
listed_skip [] (suc c) (suc d) l h = refl
listed_skip (b ∷ ls) zero (suc d) l h =
    let e : b ≡ [] = h 0 (omega arith) (omega arith) in
    ap (λ (x : List ℕ). x ++ concat ls) e ∙ listed_skip ls zero d (omega arith) (λ k a m. h (suc k) (omega arith) (omega (arith, m)))
listed_skip (b ∷ ls) (suc c) (suc d) l h = listed_skip ls c d (omega (arith, l)) (λ k a m. h (suc k) (omega (arith, a)) (omega (arith, m)))

pub listed_here : (ls : List (List ℕ)) (c : ℕ) → c < length ls → listed_from c ls ≡ bin_at ls c ++ listed_from (c + 1) ls
listed_here [] c l = absurd (omega arith)
listed_here (b ∷ ls) zero l = refl
listed_here (b ∷ ls) (suc c) l =
    let e : suc c + 1 ≡ suc (c + 1) = omega arith in
    listed_here ls c (omega (arith, l)) ∙ ap (λ n. bin_at ls c ++ listed_from n (b ∷ ls)) (sym e)

pub listed_past : (ls : List (List ℕ)) (c : ℕ) → length ls ≤ c → listed_from c ls ≡ []
listed_past [] zero l = refl
listed_past [] (suc c) l = refl
listed_past (b ∷ ls) zero l = absurd (omega arith)
listed_past (b ∷ ls) (suc c) l = listed_past ls c (omega (arith, l))

-- from the first class on that has a name
pub listed_parts : (ls : List (List ℕ)) (c d : ℕ) → length ls ≡ 256 → IsFoundFrom c ls (Some d) → listed_from c ls ≡ bin_at ls d ++ listed_from (d + 1) ls
listed_parts ls c d long f = listed_skip ls c d f.0 f.3 ∙ listed_here ls d (omega (arith, long, f.1))

pub listed_none : (ls : List (List ℕ)) (c : ℕ) → length ls ≡ 256 → c ≤ 256 → IsFoundFrom c ls None → listed_from c ls ≡ []
listed_none ls c long l f = listed_skip ls c 256 l f ∙ listed_past ls 256 (omega (arith, long))

pub some_names : (xs : List ℕ) → (xs ≡ [] → ⊥) → 1 ≤ length xs
some_names [] n = absurd (n refl)
some_names (x ∷ xs) n = omega arith

pub listed_among : (ls : List (List ℕ)) (c x : ℕ) → 1 ≤ times x (listed_from c ls) → (d : ℕ) × (1 ≤ times x (bin_at ls d))
listed_among [] zero x l = absurd (omega arith)
listed_among [] (suc c) x l = absurd (omega arith)
listed_among (b ∷ ls) zero x l = elim (cases_lt 0 (times x b)) [
  | inl h ↦ (0, h)
  | inr h ↦ let r = listed_among ls zero x (omega (arith, l, h, times-join x b (concat ls))) in (suc r.0, r.1)
]
listed_among (b ∷ ls) (suc c) x l = let r = listed_among ls c x l in (suc r.0, r.1)

pub among_listed : (ls : List (List ℕ)) (c d x : ℕ) → c ≤ d → 1 ≤ times x (bin_at ls d) → 1 ≤ times x (listed_from c ls)
among_listed [] c d x l h = absurd (let none : List (List ℕ) = [] in omega (arith, h, ap (times x) (get_or_past none d [] (omega arith))))
among_listed (b ∷ ls) zero zero x l h = omega (arith, h, times-join x b (concat ls))
among_listed (b ∷ ls) zero (suc d) x l h = omega (arith, among_listed ls zero d x (omega arith) h, times-join x b (concat ls))
among_listed (b ∷ ls) (suc c) zero x l h = absurd (omega arith)
among_listed (b ∷ ls) (suc c) (suc d) x l h = among_listed ls c d x (omega (arith, l)) h

-- ---- the block of a name
pub place_there : (v : View) → IsWellFormed v → (p : Place) (x : ℕ) → v.blocks ≡ p.before ++ (p.block ∷ p.after) → p.block.name ≡ x → place_of x v.blocks ≡ Some p
place_there v w p x is e =
    let alone = beside x p.before p.block p.after (sym e) (omega (arith, w.distinct x, ap (count_named x) is)) in
    ap (place_of x) is ∙ place_here x p.before p.block p.after alone.0 (sym e)

pub block_listed : (v : View) → IsWellFormed v → (p : Place) → v.blocks ≡ p.before ++ (p.block ∷ p.after) → p.block.used ≡ false → 1 ≤ times p.block.name (bin_at v.bins (down p.block.size))
block_listed v w p is u = omega (arith, w.binned (down p.block.size) p.block.name, ap (count_in_bin (down p.block.size) p.block.name) is, counted p.before p.block p.after u)
  where
    counted : (fs : List Block) (b : Block) (cs : List Block) → b.used ≡ false → 1 ≤ count_in_bin (down b.size) b.name (fs ++ b ∷ cs)
    counted fs b cs u = grind (arith, tally_append, one-same)

pub block_word : (v : View) → IsWellFormed v → (p : Place) → v.blocks ≡ p.before ++ (p.block ∷ p.after) → p.block.size < 2 ^ 32
block_word v w p is = omega (arith, w.whole, w.fits, ap units is, units-append p.before (p.block ∷ p.after))

-- the block that is found
pub record IsHolder (n align : ℕ) (v : View) (x : ℕ) : Type 0 where
  pub place : Place
  pub there : v.blocks ≡ place.before ++ (place.block ∷ place.after)
  pub name : place.block.name ≡ x
  pub free : place.block.used ≡ false
  pub holds : Holds n align place

module _ (v : View) (w : IsWellFormed v) (n align : ℕ) where
  pub holder : (x : ℕ) → first_holding n align v ≡ Some x → IsHolder n align v x
  holder x e =
      let m = find_met (λ y. holds n align (place_of y v.blocks)) (listed_from (down n) v.bins) x e in
      let d = listed_among v.bins (down n) x m.0 in
      let t = taken_among v w d.0 x d.1 in
      let at = place_there v w t.place x t.list_is t.name in
      record {
        place = t.place;
        there = t.list_is;
        name = t.name;
        free = t.free;
        holds = leb-true (padding_to align (units t.place.before) + n) t.place.block.size (ap (holds n align) (sym at) ∙ m.1);
      }

  pub none_holds : first_holding n align v ≡ None → (p : Place) → v.blocks ≡ p.before ++ (p.block ∷ p.after) → p.block.used ≡ false → Holds n align p → ⊥
  none_holds e p is u h =
      let low = (down_law p.block.size (down n) (block_word v w p is)).1 (omega (arith, value_down n, h)) in
      let listed = among_listed v.bins (down n) (down p.block.size) p.block.name low (block_listed v w p is u) in
      let no = find_none (λ y. holds n align (place_of y v.blocks)) (listed_from (down n) v.bins) e p.block.name listed in
      false≢true (sym no ∙ ap (holds n align) (place_there v w p p.block.name is refl) ∙ le-leb (padding_to align (units p.before) + n) p.block.size h)

  -- what a request by classes takes holds it too
  pub grant_holds : 1 ≤ align → CanGrant (blocks_needed align) (units_needed n align) v → CanHold n align v
  grant_holds some c =
      let t = fitting (units_needed n align) v w c.1 in
      (c.0, (t.0, t.1, t.2, omega (arith, within n align (units t.0.before) some, fits_size (units_needed n align) t.0.block.size (le-leb (up (units_needed n align)) (down t.0.block.size) t.3))))

-- by the tables
pub chosen_is : (f : Fields) → AreSound f → (n align : ℕ) → find (holds_in f.cells.chain n align) (listed_from (down n) (bins_in f.max f.cells.bins)) ≡ first_holding n align (shown f)
chosen_is f s n align =
    let v = shown f in
    let w = (known_sound f s v refl).0 in
    find_same (holds_in f.cells.chain n align) (λ y. holds n align (place_of y v.blocks)) (listed_from (down n) v.bins)
    (λ x l.
    let d = listed_among v.bins (down n) x l in
    let t = taken_among v w d.0 x d.1 in
    let at = at_place (placed (rw t.list_is at s.space) t.name) in
    ap₂ (λ (o m : ℕ). nat_le (padding_to align o + n) m) (ap (λ (i : Node). i.offset) at) (ap (λ (i : Node). i.size) at)
    ∙ sym (ap (holds n align) (place_there v w t.place x t.list_is t.name)))

-- ---- a name that is brought to the front of its bin
pub well_first : (v : View) → IsWellFormed v → (c x : ℕ) → c < 256 → 1 ≤ times x (bin_at v.bins c) → IsWellFormed (with_first c x v)
well_first v w c x l there = record {
  some = w.some;
  distinct = w.distinct;
  below = w.below;
  whole = w.whole;
  fits = w.fits;
  apart = w.apart;
  classes = length_put c x (remove c x v.bins) ∙ length_remove c x v.bins ∙ w.classes;
  binned = λ d y.
      let once : times x (bin_at v.bins c) ≡ 1 = omega (arith, there, w.binned c x, w.distinct x, listed_named c x v.blocks) in
      omega (arith, times_put c x d y (remove c x v.bins) (length_remove c x v.bins ∙ w.classes) l, times_remove c x d y v.bins w.classes l once, w.binned d y);
  room = w.room;
  few_used = w.few_used;
}

pub brought : (f : Fields) → AreSound f → (c x : ℕ) → c < 256 → 1 ≤ times x (bin_at (bins_in f.max f.cells.bins) c) → (d : Cells) (last count top k : ℕ) → d.chain ≡ f.cells.chain → last ≡ f.last
    → count ≡ f.count → IsBinned f.max d.bins top → bins_in f.max d.bins ≡ push c x (remove c x (bins_in f.max f.cells.bins))
    → AreSound (record f { cells = d; last = last; count = count; top = top })
brought f s c x l there d last count top k chain lasts counts bins lists =
    let v = with_first c x (shown f) in
    let well = well_first (shown f) (known_sound f s (shown f) refl).0 c x l there in
    (stepped f s v d f.free k {last = last} {count = count} {top = top} {bs = blocks f.cells.chain f.last} well refl (rw (chain, lasts, counts) s.space) refl bins lists
    (sym (free_sum (blocks f.cells.chain f.last)) ∙ s.total)).0

pub first_is : (v : View) → IsWellFormed v → (c x : ℕ) → c < 256 → bin_at (with_first c x v).bins c ≡ x ∷ bin_at (remove c x v.bins) c
first_is v w c x l = names_same (remove c x v.bins) c (x ∷ bin_at (remove c x v.bins) c) (length_remove c x v.bins ∙ w.classes) l

-- what is split is the block that was brought to the front, and the class is its own
pub record IsBrought (c x : ℕ) (b : Block) : Type 0 where
  pub small : c < 256
  pub class : down b.size ≡ c
  pub name : b.name ≡ x

pub at_first : (v : View) → IsWellFormed v → (c n x : ℕ) (padding_at : ℕ → ℕ) {w : View} {g : Handle} (s : Splits (value c) n padding_at (with_first c x v) w g) → IsBrought c x s.block
at_first v known c n x padding_at s =
    let first_bins : List (List ℕ) = (with_first c x v).bins in
    let again = up_reached (value c) (omega (arith, s.fits, down_small s.block.size)) in
    let small : c < 256 = elim (cases_lt (up (value c)) c) [
      | inl l ↦ absurd (omega (arith, again, value_rises (up (value c)) c l))
      | inr l ↦ omega (arith, l, s.fits, down_small s.block.size)
    ] in
    let first = first_is v known c x small in
    let itself = (value_clauses c (value c % 2 ^ 32) small refl).up_again in
    let same : down s.block.size ≡ c = elim (cases_lt c (down s.block.size)) [
      | inl m ↦ absurd (let q = sym first ∙ s.smallest c (omega (arith, itself)) m in cc)
      | inr m ↦ omega (arith, m, s.fits, itself)
    ] in
    let lists : x ∷ bin_at (remove c x v.bins) c ≡ s.block.name ∷ s.older = sym first ∙ sym (ap (bin_at first_bins) same) ∙ s.newest in
    let named : s.block.name ≡ x = cc in
    record { small = small; class = same; name = named }

-- ---- what contracts say of a request, from the relation that says it all
-- what was counted before changes nothing
pub fills_counted : (n align : ℕ) (v w : View) (k : ℕ) (r : Option Handle) → FillsFirst n align (record v { accesses = k }) w r → FillsFirst n align v w r
fills_counted n align v w k None a = a
fills_counted n align v w k (Some g) a = (a.0, (a.1.0, a.1.1, a.1.2, split_as a.1.3 v.accesses w.accesses (padding_to align) (λ o. refl)))

pub tight_of : (n align : ℕ) (v m w : View) (r : Option Handle) → (CanGrant (blocks_needed align) (units_needed n align) v → ⊥) → SameState v m → FillsFirst n align m w r → AlignsTight n align v w r
tight_of n align v m w None refuses same a = fills_counted n align v w m.accesses None (subst (λ (u : View). FillsFirst n align u w None) same a)
tight_of n align v m w (Some g) refuses same a = inr (refuses, fills_counted n align v w m.accesses (Some g) (subst (λ (u : View). FillsFirst n align u w (Some g)) same a))

module _ (n align : ℕ) (v w : View) (known : IsWellFormed v) (some : 1 ≤ align) where
  filled_holds : (g : Handle) → FillsFirst n align v w (Some g) → CanHold n align v
  filled_holds g a = let h = holder v known n align a.1.1 a.1.2 in (a.0, (h.place, h.there, h.free, h.holds))

  pub can_hold : (r : Option Handle) → AlignsTight n align v w r → IsSome r ↔ CanHold n align v
  can_hold None a = (λ h. absurd (false≢true h), λ h. absurd (a.0 h))
  can_hold (Some g) (inl a) = (λ h. grant_holds v known n align some ((can_grant (blocks_needed align) (units_needed n align) n (padding_to align) v w known (Some g) a).0 refl), λ h. refl)
  can_hold (Some g) (inr a) = (λ h. filled_holds g a.1, λ h. refl)

  pub plain : (r : Option Handle) → AlignsTight n align v w r → CanGrant (blocks_needed align) (units_needed n align) v → Aligns n align v w r
  plain None a c = absurd (a.0 (grant_holds v known n align some c))
  plain (Some g) (inl a) c = a
  plain (Some g) (inr a) c = absurd (a.0 c)

  pub grants_tight : (r : Option Handle) → AlignsTight n align v w r → IfSome r (Grants n v w)
  grants_tight None a = tt
  grants_tight (Some g) (inl a) = grants (blocks_needed align) (units_needed n align) n (padding_to align) v w known (omega arith) (λ o l. omega arith) (Some g) a
  grants_tight (Some g) (inr a) =
      let c = a.1.1.0 in
      let x = a.1.1.1 in
      let s = a.1.1.3 in
      let h = holder v known n align x a.1.1.2 in
      let at = at_first v known c n x (padding_to align) s in
      let listed = block_listed v known (record { before = s.before; block = s.block; after = s.after }) s.blocks s.free in
      let there = subst (λ d. 1 ≤ times x (bin_at v.bins d)) at.class (subst (λ y. 1 ≤ times y (bin_at v.bins (down s.block.size))) at.name listed) in
      let first = well_first v known c x at.small there in
      let k = split_grants s first (well_split s (blocks_needed align) first a.1.0 (part_room s.padding_name s.padding (blocks_needed align) (omega arith) (λ l. omega (arith, l, s.padded)))) in
      record { not_live = k.not_live; range = k.range; within = k.within; disjoint = k.disjoint; others = k.others }

  pub aligned_tight : (r : Option Handle) → AlignsTight n align v w r → IfSome r (λ h. h.offset % align ≡ 0)
  aligned_tight None a = tt
  aligned_tight (Some g) (inl a) = multiple n align v w (Some g) some a
  aligned_tight (Some g) (inr a) = let s = a.1.1.3 in subst (λ (h : Handle). h.offset % align ≡ 0) (sym s.grant) (rw s.padded (reaches align (units s.before) some))

-- ---- a plain request
unpadded : (o : ℕ) → padding_to 1 o ≡ 0
unpadded o = omega arith

greatest_of : (n : ℕ) (bs : List Block) → 1 ≤ n → n ≤ greatest (free_sizes bs) → (p : Place) × (bs ≡ p.before ++ (p.block ∷ p.after)) × (p.block.used ≡ false) × (n ≤ p.block.size)
greatest_of n [] l h = absurd (omega arith)
greatest_of n (b ∷ bs) l h = elim b.used as (λ u. b.used ≡ u → n ≤ greatest (if u then free_sizes bs else b.size ∷ free_sizes bs)
    → (p : Place) × (b ∷ bs ≡ p.before ++ (p.block ∷ p.after)) × (p.block.used ≡ false) × (n ≤ p.block.size)) [
      | true ↦ λ u k. let r = greatest_of n bs l k in (record { before = b ∷ r.0.before; block = r.0.block; after = r.0.after }, ap (λ (cs : List Block). b ∷ cs) r.1, r.2, r.3)
      | false ↦ λ u k. elim (cases_lt b.size n) [
        | inl m ↦ let r = greatest_of n bs l (omega arith) in (record { before = b ∷ r.0.before; block = r.0.block; after = r.0.after }, ap (λ (cs : List Block). b ∷ cs) r.1, r.2, r.3)
        | inr m ↦ (record { before = []; block = b; after = bs }, refl, u, m)
      ]
    ] refl h

pub largest_holds : (v : View) (n : ℕ) → 1 ≤ n → CanHold n 1 v ↔ (AdmitsBlocks 1 v × (n ≤ greatest (free_sizes v.blocks)))
largest_holds v n l = (
  λ h.
      let p = h.1.0 in
      let most = subst (λ (bs : List Block). p.block.size ≤ greatest (free_sizes bs)) (sym h.1.1) (free_most p.before p.block p.after h.1.2) in
      (h.0, omega (arith, most, h.1.3, unpadded (units p.before))),
  λ h. let r = greatest_of n v.blocks l h.1 in (h.0, (r.0, r.1, r.2, omega (arith, r.3, unpadded (units r.0.before)))),
)

-- where a plain request by classes is refused, only the bin of its own class has a name from there on
pub plain_listed : (v : View) → IsWellFormed v → (n : ℕ) → n < 2 ^ 32 → (CanGrant 1 n v → ⊥) → AdmitsBlocks 1 v → listed_from (down n) v.bins ≡ bin_at v.bins (down n)
plain_listed v w n word refuses room =
    let after : up n ≤ down n + 1 = elim (cases_lt 0 n) [
      | inl l ↦ omega (arith, up_after n l word, (down_law n (down (n - 1)) word).1 (omega (arith, value_down (n - 1))))
      | inr l ↦ let z : n ≡ 0 = omega arith in omega (arith, ap up z, up_itself 0 (omega arith))
    ] in
    let none : IsFoundFrom (down n + 1) v.bins None = λ c l h. empty c (omega (arith, after, l)) (bin_at v.bins c) refl in
    listed_here v.bins (down n) (omega (arith, down_small n, w.classes))
    ∙ ap (λ (l : List ℕ). bin_at v.bins (down n) ++ l) (listed_none v.bins (down n + 1) w.classes (omega (arith, down_small n)) none)
    ∙ append-nil (bin_at v.bins (down n))
  where
    empty : (c : ℕ) → up n ≤ c → (xs : List ℕ) → bin_at v.bins c ≡ xs → bin_at v.bins c ≡ []
    empty c l [] e = e
    empty c l (x ∷ xs) e = absurd (refuses (room, (c, l, λ f. let q = sym e ∙ f in absurd (cc))))

-- what a block holds, the space has
pub hold_fits : (v : View) → IsWellFormed v → (n align : ℕ) → CanHold n align v → n ≤ v.size
hold_fits v w n align h = omega (arith, h.1.3, ap units h.1.1, units-append h.1.0.before (h.1.0.block ∷ h.1.0.after), w.whole)

-- ---- a compacted space, and a fresh one
free_of_live : (bs cs : List Block) → free_sizes (live bs ++ cs) ≡ free_sizes cs
free_of_live [] cs = refl
free_of_live (b ∷ bs) cs = grind (arith, common_steps, free_of_live bs cs)

some_free : (bs : List Block) (m : ℕ) (ns : List ℕ) → free_sizes bs ≡ m ∷ ns → (p : Place) × (bs ≡ p.before ++ (p.block ∷ p.after)) × (p.block.used ≡ false)
some_free [] m ns e = absurd (cc)
some_free (b ∷ bs) m ns e =
    elim b.used as (λ u. b.used ≡ u → (if u then free_sizes bs else b.size ∷ free_sizes bs) ≡ m ∷ ns → (p : Place) × (b ∷ bs ≡ p.before ++ (p.block ∷ p.after)) × (p.block.used ≡ false)) [
      | true ↦ λ u f. let r = some_free bs m ns f in (record { before = b ∷ r.0.before; block = r.0.block; after = r.0.after }, ap (λ (cs : List Block). b ∷ cs) r.1, r.2)
      | false ↦ λ u f. (record { before = []; block = b; after = bs }, refl, u)
    ] refl e

-- the largest free block is at least as large as one that holds a request
holds_within : (v : View) (n : ℕ) → CanHold n 1 v → n ≤ greatest (free_sizes v.blocks)
holds_within v n h =
    let p = h.1.0 in
    let most = subst (λ (bs : List Block). p.block.size ≤ greatest (free_sizes bs)) (sym h.1.1) (free_most p.before p.block p.after h.1.2) in
    omega (arith, most, h.1.3, unpadded (units p.before))

one_free : (v : View) (n : ℕ) → CanHold n 1 v → free_sizes v.blocks ≡ [] → ⊥
one_free v n h e = gone h.1.0.before h.1.0.block h.1.0.after h.1.2 (ap free_sizes (sym h.1.1) ∙ e)
  where
    gone : (fs : List Block) (b : Block) (cs : List Block) → b.used ≡ false → free_sizes (fs ++ b ∷ cs) ≡ [] → ⊥
    gone [] b cs u f = absurd (let q : b.size ∷ free_sizes cs ≡ [] = sym (ap (λ (t : Bool). if t then free_sizes cs else b.size ∷ free_sizes cs) u) ∙ f in cc)
    gone (a ∷ fs) b cs u f = elim a.used as (λ t. (if t then free_sizes (fs ++ b ∷ cs) else a.size ∷ free_sizes (fs ++ b ∷ cs)) ≡ [] → ⊥) [ true ↦ λ g. gone fs b cs u g | false ↦ λ g. absurd (cc) ] f

module _ (v : View) (w : IsWellFormed v) (n : ℕ) (room : AdmitsBlocks 1 v) where
  pub tight_compacted : (u : View) → Compacts v u → (CanHold n 1 v → ⊥) → IsWhyTight n 1 v Fragmented ↔ CanHold n 1 u
  tight_compacted u c refuses = (λ y. from (free_sizes v.blocks) refl y.1, λ h. (room, back (free_sizes v.blocks) refl h, refuses))
    where
      blocks_are : u.blocks ≡ live v.blocks ++ gathered c.name (free_sizes v.blocks)
      blocks_are = ap (λ (x : View). x.blocks) c.view

      from : (ns : List ℕ) → free_sizes v.blocks ≡ ns → max 1 n ≤ sum (free_sizes v.blocks) → CanHold n 1 u
      from [] e l = absurd (omega (arith, l, ap (λ (k : List ℕ). sum k) e))
      from (m ∷ ns) e l =
          let s = ap (λ (k : List ℕ). sum k) e ∙ sum_by-cons (λ (k : ℕ). k) m ns in
          let at = blocks_are ∙ ap (λ (k : List ℕ). live v.blocks ++ gathered c.name k) e in
          (open_still v w 1 n room u c, (record { before = live v.blocks; block = free_block c.name (m + sum ns); after = [] }, at, refl, omega (arith, l, s, unpadded (units (live v.blocks)))))

      back : (ns : List ℕ) → free_sizes v.blocks ≡ ns → CanHold n 1 u → max 1 n ≤ sum (free_sizes v.blocks)
      back [] e h = absurd (one_free u n h (ap free_sizes (blocks_are ∙ ap (λ (k : List ℕ). live v.blocks ++ gathered c.name k) e) ∙ free_of_live v.blocks []))
      back (m ∷ ns) e h =
          let s = ap (λ (k : List ℕ). sum k) e ∙ sum_by-cons (λ (k : ℕ). k) m ns in
          let lone = ap free_sizes (blocks_are ∙ ap (λ (k : List ℕ). live v.blocks ++ gathered c.name k) e) ∙ free_of_live v.blocks (free_block c.name (m + sum ns) ∷ []) in
          let most : n ≤ m + sum ns = omega (arith, holds_within u n h, ap greatest lone) in
          elim (cases_lt 0 (m + sum ns)) [
            | inl l ↦ omega (arith, s, l, most)
            | inr l ↦ absurd (let p = some_free v.blocks m ns e in refuses (room, (p.0, p.1, p.2, omega (arith, l, most, unpadded (units p.0.before)))))
          ]

  pub tight_fresh : (u : View) → IsFresh v.size v.max_allocs u → IsWhyTight n 1 v TooLarge ↔ (CanHold n 1 u → ⊥)
  tight_fresh u f =
      let there : u.blocks ≡ free_block f.name v.size ∷ [] = ap (λ (x : View). x.blocks) f.view in (
        λ y h. absurd (omega (arith, y.1, holds_within u n h, ap (λ (bs : List Block). greatest (free_sizes bs)) there)),
        λ refuses. (
          room,
          elim (cases_lt v.size n) [
            | inl l ↦ l
            | inr l ↦ absurd (refuses (
              omega (arith, room, w.some, ap (λ (bs : List Block). length bs) there, ap (λ (x : View). x.max_allocs) f.view),
              (record { before = []; block = free_block f.name v.size; after = [] }, there, refl, omega (arith, l)),
            ))
          ],
        ),
      )

-- a block that holds a request has as many units, and the space too
holds_some : (v : View) (n align : ℕ) → IsWellFormed v → CanHold n align v → n ≤ v.size
holds_some v n align w h =
    let p = h.1.0 in
    omega (arith, h.1.3, w.whole, ap units h.1.1, units-append p.before (p.block ∷ p.after))

-- a request has one reason at most
pub tight_one_reason : (v : View) → IsWellFormed v → (n align : ℕ) (r s : Refusal) → IsWhyTight n align v r → IsWhyTight n align v s → r ≡ s
tight_one_reason v w n align Nodes Nodes a b = refl
tight_one_reason v w n align Nodes TooLarge a b = absurd (omega (arith, a, b.0))
tight_one_reason v w n align Nodes Space a b = absurd (omega (arith, a, b.0))
tight_one_reason v w n align Nodes Fragmented a b = absurd (omega (arith, a, b.0))
tight_one_reason v w n align TooLarge Nodes a b = absurd (omega (arith, a.0, b))
tight_one_reason v w n align TooLarge TooLarge a b = refl
tight_one_reason v w n align TooLarge Space a b = absurd (omega (arith, a.1, b.1))
tight_one_reason v w n align TooLarge Fragmented a b = absurd (omega (arith, a.1, b.1, free_within v w))
tight_one_reason v w n align Space Nodes a b = absurd (omega (arith, a.0, b))
tight_one_reason v w n align Space TooLarge a b = absurd (omega (arith, a.1, b.1))
tight_one_reason v w n align Space Space a b = refl
tight_one_reason v w n align Space Fragmented a b = absurd (omega (arith, a.2, b.1))
tight_one_reason v w n align Fragmented Nodes a b = absurd (omega (arith, a.0, b))
tight_one_reason v w n align Fragmented TooLarge a b = absurd (omega (arith, a.1, b.1, free_within v w))
tight_one_reason v w n align Fragmented Space a b = absurd (omega (arith, a.1, b.2))
tight_one_reason v w n align Fragmented Fragmented a b = refl

-- and none where it is granted
pub tight_no_reason : (v : View) → IsWellFormed v → (n align : ℕ) (r : Refusal) → IsWhyTight n align v r → CanHold n align v → ⊥
tight_no_reason v w n align Nodes a h = omega (arith, a, h.0)
tight_no_reason v w n align TooLarge a h = omega (arith, a.1, holds_some v n align w h)
tight_no_reason v w n align Space a h = a.3 h
tight_no_reason v w n align Fragmented a h = a.2 h
