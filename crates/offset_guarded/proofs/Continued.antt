-- What a call leaves continues what there was: so alignments that were asked for are kept by each, and by every list of them.
use Rattle.std.proofs.Common.{◌≡◌, ◌∙◌, ℕ, Bool, true, false, ◌&&◌, List, [], ◌∷◌, Option, Some, None, IsSome, nat_eq, option_map, if◌then◌else◌, refl, sym, ap, ap₂, subst, arith, inl, inr}
use Rattle.std.proofs.lemmas.Bool.{cases_eq}
use Rattle.std.proofs.Math.Nat.{dvd_of_mod-eq-zero, dvd_refl, dvd_trans}
use Rattle.std.specs.Int.{◌∣◌}
use Rattle.offset_allocator.specs.Moving.Compacting.{Move}
use Rattle.offset_allocator.specs.Ranges as named
use Rattle.offset_allocator.specs.Ranges.{Range, size_of}
use Rattle.offset_allocator.specs.View.{View}
use Rattle.offset_guarded.specs.Answers.{Aligns, Answer, Answers, Call, GoesByTheStep, Relocates, Requests, Resizes}
use Rattle.offset_guarded.specs.Answers.Call.{Allocate, Allocate_aligned, Allocate_tight, Allocate_tight_aligned, Allocate_at, Relocate, Relocate_aligned, Relocate_unaligned, Free, Shrink, Grow_in_place, Extend, Retract, Raise_step, Reset, Compact, Compact_by, Compact_unaligned, Compact_within, Compact_within_by, Make_room, Make_room_by, Make_room_unaligned}
use Rattle.offset_guarded.specs.Calls.{AllHappen, Continues, Event, Happens, HasAsked, KeepsAsked}
use Rattle.offset_guarded.specs.Calls.Event.{Called, Copied, Raised, Stored}
use Rattle.offset_guarded.specs.Guard.{AreAlike, Grants, Guard, HasUnits, IsLive, IsSame, KeepsAlignments, KeepsAll, KeepsDivisors, KeepsLive, KeepsOthers, KeepsSerials, KeepsSizes, Ticket, range_of, serial_of}
use Rattle.offset_guarded.proofs.Offsets.{kept_alignments, offset_in}
use Rattle.offset_guarded.proofs.Twins.{range_twin, same_twin}

-- ---- what calls that move no range leave of alignments
abbrev the_range : Option Range → Option Range
the_range o = o

pub alike_range : (t u : Ticket) (g : Guard) → AreAlike t u → range_of t g ≡ range_of u g
alike_range t u g a = ap₂ (λ (x : ℕ) (b : Bool). if b then named.range_of x g.space else None) a.0 (ap₂ (λ (r : ℕ) (c : Bool). nat_eq r g.realm && c) a.2 (ap₂ nat_eq a.1 (ap (λ (x : ℕ). serial_of x g) a.0)))

-- tickets that are live before and after have the range that they had
stayed : (g h : Guard) → g.step ∣ h.step → ((t : Ticket) (r : Range) → range_of t g ≡ Some r → IsSome (range_of t h) → range_of t h ≡ Some r) → KeepsAlignments g h
stayed g h divides same t r q a e f d p =
    let both : Some r ≡ Some q = sym (same t r e (subst IsSome (sym f) refl)) ∙ f in
    let one : r ≡ q = cc in
    (dvd_trans a d divides, subst (λ (k : Range). a ∣ k.offset) one p)

pub granted : (n : ℕ) (g h : Guard) (t : Ticket) → Grants n g h t → g.step ∣ h.step → KeepsAlignments g h
granted n g h t s divides = stayed g h divides (λ u r e l. s.others u (λ k. absurd (let none : Some r ≡ None = sym e ∙ alike_range u t g k ∙ s.not_live in cc)) ∙ e)

pub freed : (t : Ticket) (g h : Guard) → KeepsOthers t g h → range_of t h ≡ None → g.step ∣ h.step → KeepsAlignments g h
freed t g h others gone divides = stayed g h divides
    (λ u r e l. others u (λ k. absurd (let none : IsSome (the_range None) = subst IsSome (alike_range u t h k ∙ gone) l in cc)) ∙ e)

pub emptied : (g h : Guard) → ((t : Ticket) → range_of t h ≡ None) → KeepsAlignments g h
emptied g h none t r q a e f d p = absurd (let gone : Some q ≡ None = sym f ∙ none t in cc)

-- ---- and of which tickets are live
pub freed_live : (t u : Ticket) (g h : Guard) → KeepsOthers t g h → range_of t h ≡ None → IsLive u h → IsLive u g
freed_live t u g h others gone live =
    subst IsSome (others u (λ alike. absurd (let none : IsSome (the_range None) = subst IsSome (alike_range u t h alike ∙ gone) live in cc))) live

pub sized : (o q : Option Range) → option_map (λ (r : Range). r.size) o ≡ option_map (λ (r : Range). r.size) q → IsSome o → IsSome q
sized None q e l = absurd (cc)
sized (Some r) None e l = absurd (cc)
sized (Some r) (Some s) e l = refl

-- ---- so what each leaves continues what there was
divides : (g h : Guard) → h.step ≡ g.step → g.step ∣ h.step
divides g h e = subst (λ (n : ℕ). g.step ∣ n) (sym e) (dvd_refl g.step)

-- each ticket has the range that it had
all : (g h : Guard) → h.realm ≡ g.realm → h.given ≡ g.given → g.step ∣ h.step → KeepsAll g h → Continues g h
all g h realm given step same = record {
  realm = realm;
  given = omega (arith, given);
  live = λ t early live. subst IsSome (same t) live;
  aligned = stayed g h step (λ t r e live. same t ∙ e);
}

same : (g h : Guard) → IsSame g h → Continues g h
same g h s = all g h s.1.realm s.1.given (divides g h s.1.step) (λ t. range_twin t g h (same_twin g h s))

request : (n : ℕ) (g h : Guard) (r : Option Ticket) → Requests n g h r → (IsSome r → g.step ∣ h.step) → Continues g h
request n g h None s step = same g h (s.same refl)
request n g h (Some t) s step = let by = s.grants in record {
  realm = by.realm.1;
  given = omega (arith, by.given, by.serial);
  live = λ u early live. subst IsSome (by.others u (λ alike. let later : u.serial ≡ t.serial = alike.1 in omega (arith, later, early, by.serial))) live;
  aligned = granted n g h t by (step refl);
}

joined : (align : ℕ) (g h : Guard) (r : Option Ticket) → Aligns align g h r → IsSome r → g.step ∣ h.step
joined align g h None s e = absurd (cc)
joined align g h (Some t) s e = s.joined.first

-- a range has other units, from its first one on
pub units : (t : Ticket) (n : ℕ) (g h : Guard) → KeepsOthers t g h → KeepsLive g h → KeepsSerials g h → HasUnits t n g h → Continues g h
units t n g h others live serials has = record {
  realm = serials.realm;
  given = omega (arith, serials.given);
  live = λ u early now. sym (live u) ∙ now;
  aligned = λ u r q a e f d p. (dvd_trans a d (divides g h serials.step), subst (λ (o : ℕ). a ∣ o) (sym (begins u r q e f)) p);
}
  where
    one : (o p : Option Range) (r q : Range) → p ≡ o → o ≡ Some r → p ≡ Some q → q.offset ≡ r.offset
    one o p r q e f k = let both : Some q ≡ Some r = sym k ∙ e ∙ f in ap (λ (z : Range). z.offset) (let only : q ≡ r = cc in only)

    other : (u : Ticket) (r q : Range) → (AreAlike u t → ⊥) → range_of u g ≡ Some r → range_of u h ≡ Some q → q.offset ≡ r.offset
    other u r q not e f = one (range_of u g) (range_of u h) r q (others u not) e f

    own : (u : Ticket) (r q : Range) → AreAlike u t → range_of u g ≡ Some r → range_of u h ≡ Some q → q.offset ≡ r.offset
    own u r q alike e f = one (Some (record r { size = n })) (range_of u h) (record r { size = n }) q (alike_range u t h alike ∙ has r (sym (alike_range u t g alike) ∙ e)) refl f

    begins : (u : Ticket) (r q : Range) → range_of u g ≡ Some r → range_of u h ≡ Some q → q.offset ≡ r.offset
    begins u r q e f = elim (cases_eq u.name t.name) [
      | inr not ↦ other u r q (λ k. not k.0) e f
      | inl name ↦ elim (cases_eq u.serial t.serial) [
        | inr not ↦ other u r q (λ k. not k.1) e f
        | inl serial ↦ elim (cases_eq u.realm t.realm) [
          | inr not ↦ other u r q (λ k. not k.2) e f
          | inl realm ↦ own u r q (name, serial, realm) e f
        ]
      ]
    ]

resized : (t : Ticket) (n : ℕ) (Can : View → Type 0) (Step : View → View → Bool → Type 0) (g h : Guard) (r : Option Bool) → Resizes t n Can Step g h r → Continues g h
resized t n Can Step g h None s = subst (Continues g) (sym (s.not_live refl)) (all g g refl refl (dvd_refl g.step) (λ t. refl))
resized t n Can Step g h (Some false) s = same g h (s.same refl)
resized t n Can Step g h (Some true) s = units t n g h s.others s.kept s.serials (s.range refl)

-- ranges move, by the step or by a multiple of it
pub slid : (g h : Guard) → KeepsSizes g h → KeepsAlignments g h → h ≡ record g { space = h.space } → Continues g h
slid g h sizes aligned rest = record {
  realm = ap (λ (k : Guard). k.realm) rest;
  given = omega (arith, ap (λ (k : Guard). k.given) rest);
  live = λ t early live. sized (range_of t h) (range_of t g) (sizes t) live;
  aligned = aligned;
}

slid_by : (s : ℕ) (g h : Guard) → g.step ∣ s → KeepsSizes g h → KeepsDivisors s g h → h ≡ record g { space = h.space } → Continues g h
slid_by s g h by sizes kept rest = slid g h sizes (kept_alignments g h (ap (λ (k : Guard). k.step) rest) (λ t r q a e f d p. kept t r q a e f (dvd_trans a d by) p)) rest

-- another space is put in its place
placed : (g h : Guard) → h.realm ≡ g.realm → h.given ≡ g.given → h.step ≡ g.step → KeepsAll g h → Continues g h
placed g h realm given step kept = all g h realm given (divides g h step) kept

answered : (c : Call) (g h : Guard) (a : Answer) (ms : List Move) → GoesByTheStep c g → Answers c g h a ms → Continues g h
answered (Allocate n) g h a ms by x = request n g h x.0 x.2.request (λ _. divides g h x.2.same_step)
answered (Allocate_aligned n align) g h a ms by x = request n g h x.0 x.2.request (joined align g h x.0 x.2.aligns)
answered (Allocate_tight n) g h a ms by x = request n g h x.0 x.2.request (λ _. divides g h x.2.same_step)
answered (Allocate_tight_aligned n align) g h a ms by x = request n g h x.0 x.2.request (joined align g h x.0 x.2.aligns)
answered (Allocate_at offset n) g h a ms by x = request n g h x.0 x.2.request (λ _. divides g h x.2.same_step)
answered (Relocate t) g h a ms by x = request (size_of t.name g.space) g h x.0 x.2.second.request (λ _. divides g h x.2.same_step)
answered (Relocate_aligned t align) g h a ms by x = request (size_of t.name g.space) g h x.0 x.2.second.request (joined align g h x.0 x.2.aligns)
answered (Relocate_unaligned t) g h a ms by x = request (size_of t.name g.space) g h x.0 x.2.second.request (λ _. divides g h x.2.same_step)
answered (Free t) g h a ms by x = let rest = x.2.serials in record {
  realm = ap (λ (k : Guard). k.realm) rest;
  given = omega (arith, ap (λ (k : Guard). k.given) rest);
  live = λ u early live. freed_live t u g h x.2.others x.2.gone live;
  aligned = freed t g h x.2.others x.2.gone (divides g h (ap (λ (k : Guard). k.step) rest));
}
answered (Shrink t n) g h a ms by x = resized t n _ _ g h x.0 x.2
answered (Grow_in_place t n) g h a ms by x = resized t n _ _ g h x.0 x.2
answered (Extend more) g h a ms by x = let rest = x.2.serials in placed g h rest.realm rest.given rest.step x.2.kept
answered (Retract less) g h a ms by x = let rest = x.2.serials in placed g h (ap (λ (k : Guard). k.realm) rest) (ap (λ (k : Guard). k.given) rest) (ap (λ (k : Guard). k.step) rest) x.2.kept
answered (Raise_step align) g h a ms by x =
    all g h (ap (λ (k : Guard). k.realm) x.1.rest) (ap (λ (k : Guard). k.given) x.1.rest) x.1.joined.first (λ t. ap (λ (k : Guard). range_of t k) x.1.rest)
answered Reset g h a ms by x = record {
  realm = ap (λ (k : Guard). k.realm) x.1.serials;
  given = omega (arith, ap (λ (k : Guard). k.given) x.1.serials);
  live = λ t early live. absurd (let none : IsSome (the_range None) = subst IsSome (x.1.gone t) live in cc);
  aligned = emptied g h x.1.gone;
}
answered Compact g h a ms by x = slid g h x.2.sizes x.2.aligned x.2.serials
answered (Compact_by s) g h a ms by x = slid_by s g h by x.2.sizes x.2.divisors x.2.serials
answered Compact_unaligned g h a ms by x = absurd by
answered (Compact_within from most ranges) g h a ms by x = slid g h x.2.sizes x.2.aligned x.2.serials
answered (Compact_within_by s from most ranges) g h a ms by x = slid_by s g h by x.2.sizes x.2.divisors x.2.serials
answered (Make_room n align) g h a ms by x = slid g h x.2.sizes x.2.aligned x.2.serials
answered (Make_room_by n align s) g h a ms by x = slid_by s g h by x.2.sizes x.2.divisors x.2.serials
answered (Make_room_unaligned n) g h a ms by x = absurd by

pub happened : (e : Event) (g h : Guard) → Happens e g h → Continues g h
happened (Called c a ms) g h s = answered c g h a ms s.0 s.1
happened (Raised limit) g h s = placed g h (ap (λ (k : Guard). k.realm) s) (ap (λ (k : Guard). k.given) s) (ap (λ (k : Guard). k.step) s) (λ t. ap (λ (k : Guard). range_of t k) s)
happened Copied g h s = placed g h (ap (λ (k : Guard). k.realm) s) (ap (λ (k : Guard). k.given) s) (ap (λ (k : Guard). k.step) s) (λ t. ap (λ (k : Guard). range_of t k) s)
happened Stored g h s = placed g h (ap (λ (k : Guard). k.realm) s) (ap (λ (k : Guard). k.given) s) (ap (λ (k : Guard). k.step) s) (λ t. ap (λ (k : Guard). range_of t k) s)

-- ---- alignments that were asked for
some_of : (o : Option Range) → IsSome o → (r : Range) × (o ≡ Some r)
some_of None e = absurd (cc)
some_of (Some r) e = (r, refl)

offset_of_some : (q r : Range) → Some q ≡ Some r → q.offset ≡ r.offset
offset_of_some q r e = let one : q ≡ r = cc in ap (λ (k : Range). k.offset) one

pub keeps_asked : (g h : Guard) → Continues g h → KeepsAsked g h
keeps_asked g h s t a asked = (
  let l = asked.0 in omega (arith, l, s.given),
  λ q e.
      let was = some_of (range_of t g) (s.live t asked.0 (subst IsSome (sym e) refl)) in
      let k = asked.1 was.0 was.1 in
      s.aligned t was.0 q a was.1 e k.0 k.1,
)

pub all_happened : (g : Guard) (es : List Event) (h : Guard) → AllHappen g es h → KeepsAsked g h
all_happened g [] h s = subst (KeepsAsked g) (sym s) (λ t a k. k)
all_happened g (e ∷ es) h s = λ t a k. all_happened s.0 es h s.2 t a (keeps_asked g s.0 (happened e g s.0 s.1) t a k)

-- by a grant at a multiple, and by a second range by the step
pub asked : (n align : ℕ) (g h : Guard) (t : Ticket) → Requests n g h (Some t) → Aligns align g h (Some t) → HasAsked t align h
asked n align g h t s at =
    (let x = s.grants.given in omega (arith, x), λ r e. (at.joined.second, subst (λ (o : ℕ). align ∣ o) (offset_of_some (record { offset = t.offset; size = n }) r (sym s.grants.range ∙ e)) (dvd_of_mod-eq-zero align at.aligned)))

pub inherited : (t u : Ticket) (a : ℕ) (g h : Guard) → Relocates t g h (Some u) → HasAsked t a g → HasAsked u a h
inherited t u a g h s k =
    let by = s.second.request.grants in
    let was = some_of (range_of t g) (s.second.live refl).0 in
    let old = k.1 was.0 was.1 in
    let o = offset_in t g was.0.offset (sym (ap (λ (o : Option Range). option_map (λ (r : Range). r.offset) o) was.1)) in
    let new : a ∣ u.offset = s.aligned a old.0 (subst (λ (o : ℕ). a ∣ o) (sym o) old.1) in (
      let x = by.given in omega (arith, x),
      λ r e. (subst (λ (n : ℕ). a ∣ n) (sym s.same_step) old.0, subst (λ (o : ℕ). a ∣ o) (offset_of_some (record { offset = u.offset; size = size_of t.name g.space }) r (sym by.range ∙ e)) new),
    )
