-- A second grant for a live range: where one is refused or begins, on the plain machine too.
use Rattle.offset_allocator.proofs.{Moving.Begins.begins_still, Moving.Begins.grant_begins, Sound.well_unused}
use Rattle.offset_allocator.proofs.{Classes.fits_size, Taken.taken, Tallies.hit_cases, Views.Split.well_split, Served.plain_serves}
use Rattle.offset_allocator.specs.{Names.AreTaken, Names.names_of, Moving.Relocating.WouldBegin, Classes.up, Classes.down, Relations.Allocates, Moving.Relocating.Relocates}
use Rattle.offset_allocator.specs.{Moving.Relocating.offset_of, View.IsNew, View.used_block, View.free_part, Relations.SameState}
use Rattle.offset_calls.proofs.Common.{◌≡◌, ◌≢◌, ℕ, zero, suc, ◌+◌, ◌-◌, ◌<◌, ◌≤◌, Bool, true, false, not, List, [], ◌∷◌, ◌++◌, length, Option, Some, None, nat_eq, nat_le, if◌then◌else◌, refl, sym}
use Rattle.offset_calls.proofs.Common.{ap, ap₂, subst, ◌∙◌, inl, inr, arith, eq-eqb, ne_eqb, cases_eq, cases_lt, leb-true, lt-ltb, le-ltb, and_parts, option_map, option_and_then, unwrap_or}
use Rattle.offset_calls.proofs.Common.{AllByRecursion, Block, View, Handle, Place, one, count_named, times, bin_at, units, IsWellFormed, AdmitsBlocks, Range, kept_name, IsKept, State, is_free, total}
use Rattle.offset_calls.proofs.{Common.chosen_place, Common.is_short_of, Common.fits, Common.Reply, Common.Answer, Common.le-leb, Resized.found, Resized.spot, Resized.size_found}
use Rattle.offset_script.specs.Agreement.{HasBlocksOf, IsAtState}
use Rattle.offset_script.proofs.{Agreed.agrees_but, Agreed.agrees_quiet, Agreed.room_for, Agreed.serve_agrees, Chosen.Spot, Chosen.plain_place}
use Rattle.offset_script.proofs.{Chosen.plain_spot, Chosen.listed_spot, Ends.total_units, Labels.names, Labels.tags, Found.chosen_at, Well.IsWell, Simulation.requested}
use Rattle.offset_calls.specs.{Calls.answered, Ending.begins_before, Ending.relocate}
use Rattle.offset_allocator.proofs.Served.{aligned_serves}
use Rattle.offset_allocator.specs.{Relations.Aligns, Relations.Splits, Moving.Relocating.RelocatesAligned, Requests.units_needed, View.padding_to}
use Rattle.offset_script.proofs.{Agreed.aligned_agrees, Agreed.has_room, Agreed.labelled, Chosen.chosen}
use Rattle.offset_calls.proofs.Common.{subst₂, true≢false}
use Rattle.std.proofs.lemmas.Bool.{cond_both}
use Rattle.offset_calls.specs.Ending.{relocate_aligned}
use Rattle.offset_allocator.specs.View as named
use Rattle.offset_script.specs.Machine as machine

-- ---- a name that no block has

-- the blocks that have another name
abbrev others : ℕ → List Block → List Block
others x [] = []
others x (b ∷ bs) = if nat_eq x b.name then others x bs else b ∷ others x bs

length_others : (x : ℕ) (bs : List Block) → length (others x bs) + count_named x bs ≡ length bs
length_others x [] = refl
length_others x (b ∷ bs) =
    let ih = length_others x bs in
    elim (nat_eq x b.name) as (λ t. length (if t then others x bs else b ∷ others x bs) + (one t + count_named x bs) ≡ suc (length bs)) [ true ↦ omega arith | false ↦ omega arith ]

absent : (x : ℕ) (bs : List Block) → count_named x bs ≡ 0 → AllByRecursion (λ (b : Block). b.name ≢ x) bs
absent x [] e = tt
absent x (b ∷ bs) e = elim (hit_cases x b.name) [
  | inl h ↦ absurd (omega (arith, h.1, e))
  | inr h ↦ ((λ f. h.0 (sym f)), absent x bs (omega (arith, e, h.1)))
]

absent_too : (x y : ℕ) (bs : List Block) → y ≢ x → AllByRecursion (λ (b : Block). b.name ≢ y) (others x bs) → AllByRecursion (λ (b : Block). b.name ≢ y) bs
absent_too x y [] d a = tt
absent_too x y (b ∷ bs) d a = elim (cases_eq x b.name) [
  | inl e ↦ ((λ f. d (sym f ∙ sym e)), absent_too x y bs d (subst (λ t. AllByRecursion (λ (b : Block). b.name ≢ y) (if t then others x bs else b ∷ others x bs)) (eq-eqb x b.name e) a))
  | inr n ↦
      let r = subst (λ t. AllByRecursion (λ (b : Block). b.name ≢ y) (if t then others x bs else b ∷ others x bs)) (ne_eqb x b.name n) a in
      (r.0, absent_too x y bs d r.1)
]

-- of more names than blocks, one is unused
pub unused : (m : ℕ) (bs : List Block) → length bs < m → (x : ℕ) × (x < m) × AllByRecursion (λ (b : Block). b.name ≢ x) bs
unused zero bs l = absurd (omega arith)
unused (suc m) bs l = elim (cases_lt 0 (count_named m bs)) [
  | inr none ↦ (m, omega arith, absent m bs (omega (arith, none)))
  | inl some ↦
      let r = unused m (others m bs) (omega (arith, l, some, length_others m bs)) in
      (r.0, omega (arith, r.1), absent_too m r.0 bs (λ e. omega (arith, e, r.1)) r.2)
]

-- ---- the smallest class from another on whose bin has a name

abbrev pub IsLeast : List (List ℕ) → ℕ → ℕ → Type 0
IsLeast bins a c = (a ≤ c) × (bin_at bins c ≢ []) × ((e : ℕ) → a ≤ e → e < c → bin_at bins e ≡ [])

least_step : (bins : List (List ℕ)) (a : ℕ) → ((c : ℕ) × IsLeast bins (a + 1) c) → (xs : List ℕ) → bin_at bins a ≡ xs → (c : ℕ) × IsLeast bins a c
least_step bins a r [] e = (
  r.0,
  (
    omega (arith, r.1.0),
    r.1.1,
    λ k l m. elim (cases_eq k a) [ inl f ↦ ap (bin_at bins) f ∙ e | inr n ↦ r.1.2 k (omega (arith, l, n)) m ],
  ),
)
least_step bins a r (x ∷ xs) e = (a, (omega arith, λ z. let f : (x ∷ xs) ≡ [] = sym e ∙ z in cc, λ k l m. absurd (omega arith)))

pub least : (bins : List (List ℕ)) (d a c : ℕ) → c ≡ a + d → bin_at bins c ≢ [] → (k : ℕ) × IsLeast bins a k
least bins zero a c e some = (c, (omega arith, some, λ k l m. absurd (omega arith)))
least bins (suc d) a c e some = least_step bins a (least bins d (a + 1) c (omega arith) some) (bin_at bins a) refl

-- ---- a request that is granted

-- the only unused name goes where a remainder takes it
abbrev unused_left : ℕ → List ℕ → List ℕ
unused_left zero us = us
unused_left (suc n) us = []

one_name : (k y n : ℕ) → AreTaken k ((y ∷ []) ++ []) (names_of (free_part y n)) (unused_left n (y ∷ []))
one_name k y zero = refl
one_name k y (suc n) = ([], inl refl, refl)

-- the grant of n units of the newest block of the smallest class, where the name that a remainder takes is new
granted_from : (v : View) → IsWellFormed v → (n c : ℕ) → AdmitsBlocks 1 v → (y : (x : ℕ) × (x < v.max_allocs) × AllByRecursion (λ (b : Block). b.name ≢ x) v.blocks) → v.unused ≡ y.0 ∷ []
    → IsLeast v.bins (up n) c → (xs : List ℕ) → bin_at v.bins c ≡ xs → (u : View) × (g : Handle) × Allocates n v u (Some g)
granted_from v w n c room y alone least [] e = absurd (least.1 e)
granted_from v w n c room y alone least (x ∷ xs) e =
    let t = taken v w c x xs e in
    let fit : up n ≤ down t.place.block.size = omega (arith, t.class, least.0) in
    let enough : n ≤ t.place.block.size = fits_size n t.place.block.size (le-leb (up n) (down t.place.block.size) fit) in
    let left = t.place.block.size - n in
    let parts = used_block t.place.block.name n ∷ free_part y.0 left in
    let newest : bin_at v.bins (down t.place.block.size) ≡ t.place.block.name ∷ xs = ap (bin_at v.bins) t.class ∙ e ∙ ap (λ (z : ℕ). z ∷ xs) (sym t.name) in
    let new : 1 ≤ left → IsNew y.0 v = λ l. record { below = y.1; absent = y.2 } in (
      record v { blocks = t.place.before ++ (parts ++ t.place.after); bins = named.push_all parts (named.remove (down t.place.block.size) t.place.block.name v.bins); unused = unused_left left (y.0 ∷ []) },
      record { name = t.place.block.name; offset = units t.place.before + 0 },
      (
        room,
        record {
          before = t.place.before;
          block = t.place.block;
          after = t.place.after;
          blocks = t.list_is;
          free = t.free;
          fits = fit;
          smallest = λ k l m. least.2 k l (omega (arith, m, t.class));
          older = xs;
          newest = newest;
          padding = 0;
          padded = refl;
          remainder = left;
          whole = omega (arith, enough);
          padding_name = 0;
          remainder_name = y.0;
          padding_new = λ l. absurd (omega arith);
          remainder_new = new;
          differ = λ l m. absurd (omega arith);
          grant = refl;
          parts = parts;
          made = refl;
          names =
              subst (λ (us : List ℕ). AreTaken (length v.blocks) (us ++ []) (names_of (free_part y.0 left)) (unused_left left (y.0 ∷ []))) (sym alone) (one_name (length v.blocks) y.0 left);
          view = refl;
        },
      ),
    )

module _ (v : View) (kept_name : ℕ → Option ℕ) (s : State) (w : IsWellFormed v) (ws : IsWell s) (g : HasBlocksOf v kept_name s) (n : ℕ) where
  -- what the machine chooses is listed in a class that is large enough
  pub fit_of : (p : machine.Place) → chosen_place n s.blocks ≡ Some p → (c : ℕ) × (up n ≤ c) × (bin_at v.bins c ≢ [])
  fit_of p e =
      let c = chosen_at n s.blocks p e in
      let r = plain_spot g.labels p (sym g.state ∙ c.0) in
      let fit = ap (λ (q : machine.Place). fits n q.block) r.2 ∙ c.1 in
      let parts = and_parts (is_free r.0.label.tag) (nat_le (up n) (down r.0.label.size)) fit in
      let listed = listed_spot v w r.0 (g.view ∙ ap names r.1) parts.0 in
      (down r.0.label.size, leb-true (up n) (down r.0.label.size) parts.1, λ z. absurd (omega (arith, listed, ap (times r.0.label.name) z)))

  -- where the machine grants a request, the allocator can, if a new name is the only unused one
  granted_too : is_short_of 1 s ≡ false → (p : machine.Place) → chosen_place n s.blocks ≡ Some p
      → (y : (x : ℕ) × (x < v.max_allocs) × AllByRecursion (λ (b : Block). b.name ≢ x) v.blocks) → v.unused ≡ y.0 ∷ [] → (u : View) × (h : Handle) × Allocates n v u (Some h)
  granted_too e p f y alone =
      let h = fit_of p f in
      let l = least v.bins (h.0 - up n) (up n) h.0 (omega (arith, h.1)) h.2 in
      granted_from v w n l.0 (room_for v kept_name s w ws g 1 e) y alone l.1 (bin_at v.bins l.0) refl

  -- the machine has the answer of a grant
  pub answer_is : (u : View) → IsWellFormed u → (h : Handle) → Allocates n v u (Some h) → (machine.allocate n s).answer ≡ machine.Grant (s.grants + 1) h.offset
  answer_is u formed h a = (serve_agrees v kept_name s w ws g 1 n n (λ offset. 0) u formed (Some h) (plain_serves n v u (Some h) a)).answer

  formed_after : (u : View) (h : Handle) → Allocates n v u (Some h) → IsWellFormed u
  formed_after u h a = well_split a.1 1 w a.0 (subst (λ m. length (free_part a.1.padding_name m) + 1 ≤ 1) (sym a.1.padded) (omega arith))

  -- where the machine grants a request, it would begin there
  pub begins_there : is_short_of 1 s ≡ false → (p : machine.Place) → chosen_place n s.blocks ≡ Some p
      → (y : (x : ℕ) × (x < v.max_allocs) × AllByRecursion (λ (b : Block). b.name ≢ x) v.blocks) → v.unused ≡ y.0 ∷ []
      → (o : ℕ) × WouldBegin n v o × ((machine.allocate n s).answer ≡ machine.Grant (s.grants + 1) o)
  begins_there e p f y alone =
      let r = granted_too e p f y alone in
      (r.1.offset, grant_begins n v r.0 r.1 r.2, answer_is r.0 (formed_after r.0 r.1 r.2) r.1 r.2)

module _ (v : View) (kept_name : ℕ → Option ℕ) (s : State) (w : IsWellFormed v) (ws : IsWell s) (g : HasBlocksOf v kept_name s) (n : ℕ) where
  -- where no grant would begin before an offset, the machine's does not
  pub not_before : (o : ℕ) → ((m : ℕ) → WouldBegin n v m → o ≤ m) → begins_before o (machine.allocate n s).answer ≡ false
  not_before o none = go (is_short_of 1 s) refl (chosen_place n s.blocks) refl
    where
      go : (b : Bool) → is_short_of 1 s ≡ b → (c : Option machine.Place) → chosen_place n s.blocks ≡ c → begins_before o (machine.allocate n s).answer ≡ false
      go true e c f = ap (λ b. begins_before o (if b then machine.returns_only s machine.Refused else machine.grant_or_refuse s n (λ offset. 0) (chosen_place n s.blocks)).answer) e
      go false e None f = ap₂ (λ b c. begins_before o (if b then machine.returns_only s machine.Refused else machine.grant_or_refuse s n (λ offset. 0) c).answer) e f
      go false e (Some p) f =
          -- which name a remainder takes changes nothing
          let y = unused v.max_allocs v.blocks (let room = room_for v kept_name s w ws g 1 e in omega (arith, room)) in
          let u = record v { unused = y.0 ∷ [] } in
          let r = begins_there u kept_name s (well_unused v (y.0 ∷ []) v.accesses w) ws
          (record { labels = g.labels; view = g.view; state = g.state; limit = g.limit; newest = g.newest; handles = g.handles }) n e p f y refl in
          ap (begins_before o) r.2 ∙ le-ltb r.0 o (none r.0 (begins_still n r.0 u v.unused v.accesses r.1))

module _ (v w : View) (hs left : List (Option Handle)) (r : Reply) (s : State) (formed : IsWellFormed w) (ws : IsWell s) (p : IsAtState v hs s) (k x : ℕ) (e : kept_name hs k ≡ Some x) where
  abbrev at : Spot
  at = spot v (kept_name hs) s p.formed ws p.agrees k x e

  -- where the range begins
  begins : offset_of x v ≡ total (tags at.before)
  begins =
      let l = found v (kept_name hs) s p.formed ws p.agrees k x e in
      ap (λ (o : Option Place). unwrap_or (option_map (λ (q : Range). q.offset)
      (option_and_then (λ (q : Place). if q.block.used then Some (record { offset = units q.before; size = q.block.size }) else None) o)) 0) l.named
      ∙ ap (λ t. unwrap_or (option_map (λ (q : Range). q.offset) (if not (is_free t) then Some (record { offset = units (names at.before); size = at.label.size }) else None)) 0) l.tag
      ∙ sym (total_units at.before)

  -- the machine goes on as it is
  refuses : SameState v w → left ≡ hs → begins_before (total (tags at.before)) (machine.allocate at.label.size s).answer ≡ false → r ≡ Answer machine.Refused
      → (r ≡ (answered (relocate s (Some (plain_place at)))).reply) × IsAtState w left (relocate s (Some (plain_place at))).state
  refuses same f b is =
      let o : relocate s (Some (plain_place at)) ≡ machine.returns_only s machine.Refused =
      ap (λ b. if b then machine.allocate at.label.size s else machine.returns_only s machine.Refused) b in
      let agrees = agrees_but v w (kept_name hs) _ same (agrees_quiet v (kept_name hs) s p.agrees machine.Refused) in
      subst (λ (o : machine.Outcome). (r ≡ Answer o.answer) × IsAtState w left o.state) (sym o)
      (is, subst (λ l. IsAtState w l (machine.returns_only s machine.Refused).state) (sym f) (record { formed = formed; agrees = agrees; grants = p.grants }))

  relocates_there : (g : Option Handle) (a : machine.Answer) → Relocates x v w g → IsKept g hs left a → r ≡ Answer a
      → (r ≡ (answered (relocate s (Some (plain_place at)))).reply) × IsAtState w left (relocate s (Some (plain_place at))).state
  relocates_there None a t kept is =
      let n = size_found v (kept_name hs) s p.formed ws p.agrees k x e in
      refuses t.1 kept.0
      (not_before v (kept_name hs) s p.formed ws p.agrees at.label.size (total (tags at.before))
      (λ m b. subst (λ o. o ≤ m) begins (t.0 m (subst (λ z. WouldBegin z v m) (sym n) b))))
      (is ∙ ap Answer kept.1)
  relocates_there (Some h) a t kept is =
      let n = size_found v (kept_name hs) s p.formed ws p.agrees k x e in
      let al = subst (λ m. Allocates m v w (Some h)) n t.0 in
      let m = serve_agrees v (kept_name hs) s p.formed ws p.agrees 1 at.label.size at.label.size (λ offset. 0) w formed (Some h) (plain_serves at.label.size v w (Some h) al) in
      let b : begins_before (total (tags at.before)) (machine.allocate at.label.size s).answer ≡ true =
      ap (begins_before (total (tags at.before))) m.answer ∙ lt-ltb h.offset (total (tags at.before)) (subst (λ o. h.offset < o) begins t.1) in
      let o : relocate s (Some (plain_place at)) ≡ machine.allocate at.label.size s =
      ap (λ b. if b then machine.allocate at.label.size s else machine.returns_only s machine.Refused) b in
      let f = requested v w hs left a s formed ws p (machine.allocate at.label.size s) (Some h) m kept in
      subst (λ (o : machine.Outcome). (r ≡ Answer o.answer) × IsAtState w left o.state) (sym o) (is ∙ ap Answer f.0, f.1)

  -- the plain machine relocates where the allocator does
  pub relocated : (g : Option Handle) (a : machine.Answer) → Relocates x v w g → IsKept g hs left a → r ≡ Answer a
      → (r ≡ (answered (relocate s (machine.place_of k s.blocks))).reply) × IsAtState w left (relocate s (machine.place_of k s.blocks)).state
  relocated g a t kept is = subst (λ o. (r ≡ (answered (relocate s o)).reply) × IsAtState w left (relocate s o).state)
      (sym (found v (kept_name hs) s p.formed ws p.agrees k x e).placed) (relocates_there g a t kept is)

  -- the machine begins where the allocator does
  begins_at : (m : ℕ) (n align : ℕ) (h : Handle) → AdmitsBlocks 1 v → (t : Splits m n (padding_to align) v w h) → (machine.allocate m s).answer ≡ machine.Grant (s.grants + 1) (units t.before)
  begins_at m n align h room t =
      let c = chosen v p.formed p.agrees.labels (labelled v (kept_name hs) s p.formed ws p.agrees) m n (padding_to align) w h t in
      let at : chosen_place m s.blocks ≡ Some (plain_place c.spot) = ap (chosen_place m) p.agrees.state ∙ c.is in
      let here : total (tags c.spot.before) + 0 ≡ units t.before = omega (arith, total_units c.spot.before, ap (λ (q : Place). units q.before) c.place) in
      ap₂ (λ b o. (if b then machine.returns_only s machine.Refused else machine.grant_or_refuse s m (λ o. 0) o).answer) (has_room v (kept_name hs) s p.formed ws p.agrees 1 room) at
      ∙ ap (machine.Grant (s.grants + 1)) here

  -- the same from a multiple of an alignment on
  module _ (align : ℕ) (least : 1 ≤ align) where
    abbrev Agrees : machine.Outcome → Type 0
    Agrees o = (r ≡ (answered o).reply) × IsAtState w left o.state

    -- as a request does
    asked : (g : Option Handle) (a : machine.Answer) → Aligns at.label.size align v w g → IsKept g hs left a → r ≡ Answer a → Agrees (machine.allocate_aligned at.label.size align s)
    asked g a al kept is =
        let m = aligned_agrees v (kept_name hs) s p.formed ws p.agrees at.label.size align least w formed g (aligned_serves at.label.size align v w g al) in
        let f = requested v w hs left a s formed ws p (machine.allocate_aligned at.label.size align s) g m kept in
        (is ∙ ap Answer f.0, f.1)

    rests : SameState v w → left ≡ hs → r ≡ Answer machine.Refused → Agrees (machine.returns_only s machine.Refused)
    rests same f is =
        let agrees = agrees_but v w (kept_name hs) _ same (agrees_quiet v (kept_name hs) s p.agrees machine.Refused) in
        (is, subst (λ l. IsAtState w l (machine.returns_only s machine.Refused).state) (sym f) (record { formed = formed; agrees = agrees; grants = p.grants }))

    abbrev would : Bool
    would = begins_before (total (tags at.before)) (machine.allocate (at.label.size + align - 1) s).answer

    aligned_there : (g : Option Handle) (a : machine.Answer) → RelocatesAligned x align v w g → IsKept g hs left a → r ≡ Answer a → Agrees (relocate_aligned align s (Some (plain_place at)))
    aligned_there None a t kept is = cond_both would _ _ Agrees
        (λ b. asked None a (
          (λ can. absurd (true≢false (sym b ∙ not_before v (kept_name hs) s p.formed ws p.agrees (at.label.size + align - 1) (total (tags at.before))
              (λ m begun. subst (λ o. o ≤ m) begins (t.0 m can.0 (subst (λ z. WouldBegin (units_needed z align) v m) (sym (size_found v (kept_name hs) s p.formed ws p.agrees k x e)) begun)))))),
          t.1,
        ) kept is)
        (λ b. rests t.1 kept.0 (is ∙ ap Answer kept.1))
    aligned_there (Some h) a t kept is =
        let n = size_found v (kept_name hs) s p.formed ws p.agrees k x e in
        let moved : (al : Aligns at.label.size align v w (Some h)) × (units al.1.before < total (tags at.before)) =
        subst₂ (λ z o. (al : Aligns z align v w (Some h)) × (units al.1.before < o)) n begins t in
        let room : AdmitsBlocks 1 v = let q = moved.0.0 in omega (arith, q, least) in
        let b : would ≡ true = ap (begins_before (total (tags at.before))) (begins_at (at.label.size + align - 1) at.label.size align h room moved.0.1) ∙ lt-ltb (units moved.0.1.before) (total (tags at.before)) moved.1 in
        subst (λ b. Agrees (if b then machine.allocate_aligned at.label.size align s else machine.returns_only s machine.Refused)) (sym b) (asked (Some h) a moved.0 kept is)

    pub relocated_aligned : (g : Option Handle) (a : machine.Answer) → RelocatesAligned x align v w g → IsKept g hs left a → r ≡ Answer a → Agrees (relocate_aligned align s (machine.place_of k s.blocks))
    relocated_aligned g a t kept is = subst (λ o. Agrees (relocate_aligned align s o)) (sym (found v (kept_name hs) s p.formed ws p.agrees k x e).placed) (aligned_there g a t kept is)
