-- The same call on twins has the same result, and leaves twins.
use Rattle.std.proofs.Common.{[], ◌∷◌, replicate, if◌then◌else◌}
use Rattle.std.proofs.Common.{◌≡◌, ℕ, ◌+◌, ◌<◌, ◌≤◌, Bool, true, length, List, Some, IfSome, Option, None, slice_set, refl, sym, ap, ap₂, subst, subst₂, ◌∙◌, inl, inr, arith}
use Rattle.offset_allocator.specs.{Requests.blocks_needed, View.View, View.IsWellFormed, View.free_block, View.push_all}
use Rattle.offset_allocator.proofs.Views.ViewTaken.{well_alone}
use Rattle.offset_guarded.specs.Answers as tickets
use Rattle.offset_guarded.specs.Answers.Answer.{Requested}
use Rattle.offset_guarded.specs.Guard.{Guard, Ticket}
use Rattle.offset_guarded.specs.Twins.{IsTwin}
use Rattle.offset_guarded.proofs.{Decided.answers_decided, Twins.joined_twins, Twins.own_twin, Twins.twin_sym}
use Rattle.offset_heaps.specs.declared.limits.Limits.{Limits}
use Rattle.offset_heaps.specs.declared.place.Granted.{Granted}
use Rattle.offset_heaps.specs.Heaps.{Heaps, GrantsBy, GrantsNew, GrantsOld, IsRaisedAsNeeded, IsNew, IsSame, Puts, heap_at, larger_limit, slot, ticket_in, usual_size}
use Rattle.offset_heaps.specs.Places.{place_of}
use Rattle.offset_heaps.specs.State as state
use Rattle.offset_heaps.specs.Twins.{AreTwins, IsTwinIn}
use Rattle.offset_heaps.proofs.{Doubling.size_low, Finders.raised_twins, Finders.usual_twins, Raising.raised_formed}
use Rattle.offset_heaps.proofs.Twins.{put_twins, some_twin, twins_sym}

-- ---- new heaps
one_new : (size max number : ℕ) (g h : Guard) → IsNew size max number g → IsNew size max number h → g ≡ h
one_new size max number g h a b =
    let space : g.space ≡ h.space =
    a.space.view
    ∙ ap (λ x. let v : View = record h.space { size = size; max_allocs = max; blocks = free_block x size ∷ []; bins = push_all (free_block x size ∷ []) (replicate 256 []); unused = []; accesses = 0 } in v) (a.space.first ∙ sym b.space.first)
    ∙ sym b.space.view in
    ap₂ (λ (v : View) (l : List ℕ). record g { space = v; serials = l }) space (a.serials.1 ∙ sym b.serials.1)
    ∙ ap (λ (s : ℕ). record g { space = h.space; serials = h.serials; step = s }) (a.step ∙ sym b.step)
    ∙ ap₂ (λ (n r : ℕ). record h { given = n; realm = r }) (a.serials.0 ∙ sym b.serials.0) (a.realm ∙ sym b.realm)

new_formed : (size max number : ℕ) (g : Guard) → IsNew size max number g → 2 ≤ max → size ≤ 4294967295 → IsWellFormed g.space
new_formed size max number g new limit small = subst IsWellFormed (sym new.space.view) (well_alone (record g.space { max_allocs = max }) new.space.name size 0 [] limit new.space.below small)

-- what is true of the heaps before a call
pub record IsKnown (hs : Heaps) : Type 0 where
  pub heaps : (k : ℕ) → IfSome (heap_at k hs) (λ g. IsWellFormed g.space)
  pub size : hs.limits.size ≤ 4294967295
  pub limit : 2 ≤ hs.limits.first_allocs

pub known : (hs : Heaps) → state.IsWellFormed hs → IsKnown hs
known hs w = record { heaps = λ k. go hs.limits hs.made k (heap_at k hs) (w.heaps k); size = w.size; limit = let l = w.limit in let f = w.first.0 in omega (arith, l, f) }
  where
    go : (limits : Limits) (made k : ℕ) (o : Option Guard) → state.IsHeapFormed limits made k o → IfSome o (λ g. IsWellFormed g.space)
    go limits made k None f = tt
    go limits made k (Some g) f = f.0.space

pub known_at : (hs : Heaps) → IsKnown hs → (k : ℕ) (g : Guard) → heap_at k hs ≡ Some g → IsWellFormed g.space
known_at hs is k g e = subst (λ o. IfSome o (λ (g : Guard). IsWellFormed g.space)) e (is.heaps k)

-- ---- grants
-- the grant of a ticket
abbrev grant_of : ℕ → ℕ → Ticket → Bool → Granted
grant_of number realm ticket new = record { place = place_of number realm ticket; offset = ticket.offset; is_new = new }

-- two grants are the same where their numbers, realms and tickets are, and both or none are new
same_grants : (g h : Granted) → g.place.heap ≡ h.place.heap → g.is_new ≡ h.is_new → g.place.realm ≡ h.place.realm → ticket_in g ≡ ticket_in h → g ≡ h
same_grants g h number new realm ticket =
    ap₂ (λ (k r : ℕ). grant_of k r (ticket_in g) g.is_new) number realm
    ∙ ap₂ (λ (t : Ticket) (b : Bool). grant_of h.place.heap h.place.realm t b) ticket new

-- a call that grants a ticket grants twins the same one, and leaves twins
abbrev pub IsDecided : (Ticket → Guard → Guard → Type 0) → Type 0
IsDecided Call = (g g' h h' : Guard) (t t' : Ticket) → IsWellFormed g.space → IsTwin g g' → Call t g h → Call t' g' h' → (t ≡ t') × IsTwin h h'

abbrev Asks : (Guard → Guard → Option Ticket → Type 0) → Ticket → Guard → Guard → Type 0
Asks Call t g h = Call g h (Some t)

decided : (c : tickets.Call) (Call : Guard → Guard → Option Ticket → Type 0) → ((g h : Guard) (t : Ticket) → Call g h (Some t) → tickets.Answers c g h (Requested (Some t)) []) → IsDecided (Asks Call)
decided c Call asks g g' h h' t t' known twin x y =
    let e = answers_decided c g g' h h' known twin (Requested (Some t)) (Requested (Some t')) [] [] (asks g h t x) (asks g' h' t' y) in
    let same = e.0 in
    (cc, e.2)

pub aligned_decided : (size align : ℕ) → IsDecided (λ t g h. tickets.AllocatesAligned size align g h (Some t))
aligned_decided size align = decided (tickets.Call.Allocate_aligned size align) (tickets.AllocatesAligned size align) (λ g h t x. (Some t, refl, x, refl))

pub tight_decided : (size align : ℕ) → IsDecided (λ t g h. tickets.AllocatesTightAligned size align g h (Some t))
tight_decided size align = decided (tickets.Call.Allocate_tight_aligned size align) (tickets.AllocatesTightAligned size align) (λ g h t x. (Some t, refl, x, refl))

larger_decided : (size : ℕ) → IsDecided (λ t g h. tickets.AllocatesTight size g h (Some t))
larger_decided size = decided (tickets.Call.Allocate_tight size) (tickets.AllocatesTight size) (λ g h t x. (Some t, refl, x, refl))

-- in heaps that are made, whose steps then take an alignment in
news_decided : (Call : Ticket → Guard → Guard → Type 0) → IsDecided Call → (size max made align : ℕ) (h h' : Guard) (t t' : Ticket) → 2 ≤ max → size ≤ 4294967295
    → GrantsNew (Call t) size max made align h → (b : GrantsNew (Call t') size max made align h') → (t ≡ t') × IsTwin h h'
news_decided Call each size max made align h h' t t' few small a b =
    let one = one_new size max made a.before b.before a.new b.new in
    let d = each a.before b.before a.by.0 b.by.0 t t' (new_formed size max made a.before a.new few small) (subst (IsTwin a.before) one (own_twin a.before)) a.by.1 b.by.1 in
    let m = d.1 in (
      d.0,
      subst₂ IsTwin (sym a.by.2.rest) (sym b.by.2.rest) (record {
        space = m.space;
        serials = m.serials;
        given = m.given;
        realm = m.realm;
        step = joined_twins align a.by.0 b.by.0 h h' m a.by.2.joined b.by.2.joined;
      }),
    )

module _ (Call : Ticket → Guard → Guard → Type 0) (each : IsDecided Call) (size align : ℕ) (hs hs' ks ks' : Heaps) (grant grant' : Granted) (small : grant.is_new ≡ true → size ≤ 4294967295) (is : IsKnown hs) (t : AreTwins hs hs')
    (number : grant.place.heap ≡ grant'.place.heap) (new : grant.is_new ≡ grant'.is_new) (s : GrantsBy Call size align hs ks grant) (s' : GrantsBy Call size align hs' ks' grant') where
  abbrev k : ℕ
  k = grant.place.heap

  abbrev u : Ticket
  u = ticket_in grant

  abbrev u' : Ticket
  u' = ticket_in grant'

  olds : GrantsOld (Call u) hs.limits k (blocks_needed align) (heap_at k hs) s.after → GrantsOld (Call u') hs'.limits grant'.place.heap (blocks_needed align) (heap_at grant'.place.heap hs') s'.after → (u ≡ u') × IsTwin s.after s'.after
  olds a b =
      let was = some_twin a.was b.was (heap_at k hs) (heap_at k hs') a.heap (ap (λ k. heap_at k hs') number ∙ b.heap) (t.heaps k) in
      let before = raised_twins hs.limits k (blocks_needed align) a.was b.was a.before b.before was (twin_sym a.was b.was was) a.raised
      (subst₂ (λ (l : Limits) (j : ℕ). IsRaisedAsNeeded l j (blocks_needed align) b.was b.before) t.limits (sym number) b.raised) in
      each a.before b.before s.after s'.after u u' (raised_formed hs.limits k (blocks_needed align) a.was a.before a.raised (known_at hs is k a.was a.heap)) before a.by b.by

  both : (u ≡ u') × IsTwin s.after s'.after
  both = elim s.step [
    | inl a ↦ elim s'.step [
      | inl b ↦ olds a.1 b.1
      | inr b ↦ absurd (let e = sym a.0 ∙ new ∙ b.0 in cc)
    ]
    | inr a ↦ elim s'.step [
      | inl b ↦ absurd (let e = sym b.0 ∙ sym new ∙ a.0 in cc)
      | inr b ↦ elim a.2 [
        | inl v ↦ elim b.2 [
          | inl w ↦ news_decided (λ t g h. tickets.AllocatesAligned size 1 g h (Some t)) (aligned_decided size 1) (usual_size hs.limits k) hs.limits.first_allocs (hs.made + 1) align s.after s'.after u u' is.limit
              (omega (arith, size_low hs.limits k, is.size)) v.1
              (subst₂ (λ (l : Limits) (m : ℕ). GrantsNew (λ g h. tickets.AllocatesAligned size 1 g h (Some u')) (usual_size l k) l.first_allocs (m + 1) align s'.after) t.limits t.made
              (subst (λ j. GrantsNew (λ g h. tickets.AllocatesAligned size 1 g h (Some u')) (usual_size hs'.limits j) hs'.limits.first_allocs (hs'.made + 1) align s'.after) (sym number) w.1))
          | inr w ↦ absurd (w.0 (usual_twins hs hs' t size v.0))
        ]
        | inr v ↦ elim b.2 [
          | inl w ↦ absurd (v.0 (usual_twins hs' hs (twins_sym hs hs' t) size w.0))
          | inr w ↦ news_decided (λ t g h. tickets.AllocatesTight size g h (Some t)) (larger_decided size) size larger_limit (hs.made + 1) align s.after s'.after u u' (omega arith) (small a.0) v.1
              (subst (λ (m : ℕ). GrantsNew (λ g h. tickets.AllocatesTight size g h (Some u')) size larger_limit (m + 1) align s'.after) t.made w.1)
        ]
      ]
    ]
  ]

  there : grant.place.heap < length hs'.slots
  there = subst (λ k. k < length hs'.slots) (sym number) s'.number

  slots' : ks'.slots ≡ slice_set hs'.slots grant.place.heap (Some s'.after)
  slots' = ap (λ (h : Heaps). h.slots) s'.heaps ∙ ap (λ k. slice_set hs'.slots k (Some s'.after)) (sym number)

  pub grants_decided : (grant ≡ grant') × AreTwins ks ks'
  grants_decided = (
    same_grants grant grant' number new (s.realm ∙ sym t.realm ∙ sym s'.realm) both.0,
    record {
      limits = ap (λ (h : Heaps). h.limits) s'.heaps ∙ t.limits ∙ sym (ap (λ (h : Heaps). h.limits) s.heaps);
      made = ap (λ (h : Heaps). h.made) s'.heaps ∙ ap₂ (λ (b : Bool) (m : ℕ). if b then m + 1 else m) (sym new) t.made ∙ sym (ap (λ (h : Heaps). h.made) s.heaps);
      realm = ap (λ (h : Heaps). h.realm) s'.heaps ∙ t.realm ∙ sym (ap (λ (h : Heaps). h.realm) s.heaps);
      heaps = λ j. subst₂ (λ (a b : List (Option Guard)). IsTwinIn (slot j a) (slot j b)) (sym (ap (λ (h : Heaps). h.slots) s.heaps)) (sym slots')
          (put_twins grant.place.heap hs.slots hs'.slots (Some s.after) (Some s'.after) s.number there (s'.after, refl, both.1) t.heaps j);
    },
  )

-- ---- what calls leave
pub same_twins : (hs hs' ks ks' : Heaps) → AreTwins hs hs' → IsSame hs ks → IsSame hs' ks' → AreTwins ks ks'
same_twins hs hs' ks ks' t e f = subst₂ AreTwins (sym e) (sym f) (record { limits = t.limits; made = t.made; realm = t.realm; heaps = t.heaps })

pub puts_twins : (k : ℕ) (o o' : Option Guard) (hs hs' ks ks' : Heaps) → AreTwins hs hs' → k < length hs.slots → k < length hs'.slots → IsTwinIn o o' → Puts k o hs ks → Puts k o' hs' ks' → AreTwins ks ks'
puts_twins k o o' hs hs' ks ks' t there there' now e f = subst₂ AreTwins (sym e) (sym f) (record {
  limits = t.limits;
  made = t.made;
  realm = t.realm;
  heaps = put_twins k hs.slots hs'.slots o o' there there' now t.heaps;
})
