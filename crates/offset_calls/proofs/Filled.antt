-- A request for any free block that holds it takes the same block on the plain machine.
use Rattle.offset_calls.proofs.Common.{◌≡◌, ◌≢◌, ℕ, zero, suc, ◌+◌, ◌-◌, ◌<◌, ◌≤◌, Bool, true, false, not, ◌&&◌, ◌⊎◌, List, [], ◌∷◌, ◌++◌, length, Option, Some, None, nat_lt, nat_le, if◌then◌else◌}
use Rattle.offset_calls.proofs.Common.{refl, sym, ap, ap₂, subst, ◌∙◌, inl, inr, arith, eq-eqb, lt-leb, le-leb, leb-true, lt-ltb, cases_eq, cases_lt, true≢false, and_parts, get_or_past, slice_set}
use Rattle.offset_calls.proofs.Common.{nat_eq, is_some, map-append, push_all, View, Handle, times}
use Rattle.offset_calls.proofs.Common.{bin_at, units, IsWellFormed, SameSpace, State, is_free, total, chosen_place, is_short_of, replace, blocks_needed, units_needed, AdmitsBlocks}
use Rattle.std.proofs.Common.{cond}
use Rattle.std.proofs.lemmas.Bool.{not-false, or_left}
use Rattle.std.specs.{List.concat, List.find, List.filter, Option.option_or}
use Rattle.offset_allocator.specs.{Classes.down, Classes.value, Relations.Splits, View.Place, View.place_of, View.padding_to, View.push, View.remove, View.used_block, View.free_part, Relations.Aligns}
use Rattle.offset_allocator.specs.{Requests.CanGrant, Requests.Holds, Tight.CanHold, Tight.first_holding, Tight.listed_from, Tight.with_first, Tight.FillsFirst, Tight.AlignsTight}
use Rattle.offset_allocator.specs.Tight as named
use Rattle.offset_allocator.proofs.{Holding.find_met, Holding.find_none, Holding.find_past, Holding.find_here, Holding.holder, Holding.place_there, Holding.block_word, Holding.at_first}
use Rattle.offset_allocator.proofs.{Holding.grant_holds, Classes.down_law, Classes.value_down, Taken.taken_among, Tallies.hit_cases, Views.Split.split_view, Served.aligned_serves}
use Rattle.offset_script.specs.Agreement.{Label, by_tag, stamp_of, IsFalling, HasBlocksOf}
use Rattle.offset_script.proofs.{Well.IsWell, Tests.same_some, Chosen.names_whole}
use Rattle.offset_script.proofs.{Ends.total_units, Labels.names, Labels.tags}
use Rattle.offset_script.proofs.Chosen.{Spot, whole, place_at, named_spot, plain_spot, named_place, plain_place, IsLabelled, none_chosen, chosen, place_of_spot, listed_spot, spot_stamp, newer_before}
use Rattle.offset_script.proofs.Lists as lists
use Rattle.offset_script.proofs.Agreed.{IsMatch, with_name, agrees_but, agrees_quiet, grant_agrees, has_room, labelled, room_for, serve_agrees}
use Rattle.offset_allocator.proofs.Views.ViewBins.{length_remove, names_same}
use Rattle.std.proofs.lemmas.List.{set-set}
use Rattle.offset_script.specs.Machine.{is_taken_before}
use Rattle.offset_script.specs.Machine as machine
use Rattle.offset_calls.specs.Tight.{holding_place, request_tight, allocate_tight}
use Rattle.offset_calls.proofs.Held.{holds_at, held_at, not_held}

-- ---- the first name that passes

-- it is newer than any other of its bin that passes
find_falls : (f : ℕ → ℕ) (p : ℕ → Bool) (xs : List ℕ) (x y : ℕ) → IsFalling f xs → find p xs ≡ Some x → p y ≡ true → 1 ≤ times y xs → y ≢ x → f y < f x
find_falls f p [] x y fall e h l d = absurd (omega arith)
find_falls f p (z ∷ zs) x y fall e h l d = elim (p z) as (λ b. p z ≡ b → cond b (Some z) (find p zs) ≡ Some x → f y < f x) [
  | true ↦ λ g i. let same : z ≡ x = cc in
      elim (hit_cases y z) [ inl k ↦ absurd (d (k.0 ∙ same)) | inr k ↦ subst (λ m. f y < f m) same (fall.0 y (omega (arith, l, k.1))) ]
  | false ↦ λ g i. elim (hit_cases y z) [ inl k ↦ absurd (true≢false (sym h ∙ ap p k.0 ∙ g)) | inr k ↦ find_falls f p zs x y fall.1 i h (omega (arith, l, k.1)) d ]
] refl e

-- it is in a smaller class than another that passes, or the first of the same bin
abbrev IsLeast : (ℕ → Bool) → List (List ℕ) → ℕ → ℕ → Type 0
IsLeast p ls k x = ((j : ℕ) × (j < k) × (1 ≤ times x (bin_at ls j))) ⊎ (find p (bin_at ls k) ≡ Some x)

least_later : (p : ℕ → Bool) (b : List ℕ) (ls : List (List ℕ)) (k x : ℕ) → IsLeast p ls k x → IsLeast p (b ∷ ls) (suc k) x
least_later p b ls k x (inl r) = inl (suc r.0, omega (arith, r.1), r.2)
least_later p b ls k x (inr e) = inr e

first_least : (p : ℕ → Bool) (ls : List (List ℕ)) (c k x y : ℕ) → find p (listed_from c ls) ≡ Some x → c ≤ k → 1 ≤ times y (bin_at ls k) → p y ≡ true → IsLeast p ls k x
first_least p [] c k x y e l t h = absurd (let none : List (List ℕ) = [] in omega (arith, t, ap (times y) (get_or_past none k [] (omega arith))))
first_least p (b ∷ ls) zero zero x y e l t h = inr (go (find p b) refl)
  where
    go : (r : Option ℕ) → find p b ≡ r → find p b ≡ Some x
    go None f = absurd (true≢false (sym h ∙ find_none p b f y t))
    go (Some z) f = f ∙ (sym (find_here p b (concat ls) z f) ∙ e)
first_least p (b ∷ ls) zero (suc k) x y e l t h = go (find p b) refl (λ f. first_least p ls zero k x y (sym (find_past p b (concat ls) f) ∙ e) (omega arith) t h)
  where
    go : (r : Option ℕ) → find p b ≡ r → (find p b ≡ None → IsLeast p ls k x) → IsLeast p (b ∷ ls) (suc k) x
    go None f ih = least_later p b ls k x (ih f)
    go (Some z) f ih =
        let same : z ≡ x = (let g = sym (find_here p b (concat ls) z f) ∙ e in cc) in
        inl (zero, omega arith, subst (λ m. 1 ≤ times m b) same (find_met p b z f).0)
first_least p (b ∷ ls) (suc c) zero x y e l t h = absurd (omega arith)
first_least p (b ∷ ls) (suc c) (suc k) x y e l t h = least_later p b ls k x (first_least p ls c k x y e (omega (arith, l)) t h)

-- ---- the block that holds a request
module _ (v : View) (w : IsWellFormed v) (ls : List Label) (a : IsLabelled v ls) (n align : ℕ) where
  offset_is : (s : Spot) → 0 + total (tags s.before) ≡ units (names s.before)
  offset_is s = omega (arith, total_units s.before)

  spot_holds : (s : Spot) → holds_at n align 0 (plain_place s) ≡ true → (is_free s.label.tag ≡ true) × Holds n align (named_place s)
  spot_holds s h =
      let parts = and_parts (is_free s.label.tag) (nat_le (padding_to align (0 + total (tags s.before)) + n) s.label.size) h in
      (parts.0, subst (λ o. padding_to align o + n ≤ s.label.size) (offset_is s) (leb-true (padding_to align (0 + total (tags s.before)) + n) s.label.size parts.1))

  holds_spot : (s : Spot) → is_free s.label.tag ≡ true → Holds n align (named_place s) → holds_at n align 0 (plain_place s) ≡ true
  holds_spot s f h = ap₂ (λ x y. x && y) f (le-leb (padding_to align (0 + total (tags s.before)) + n) s.label.size (subst (λ o. padding_to align o + n ≤ s.label.size) (sym (offset_is s)) h))

  pub there : (s : Spot) → ls ≡ whole s → v.blocks ≡ (named_place s).before ++ (named_place s).block ∷ (named_place s).after
  there s e = a.view ∙ ap names e ∙ names_whole s

  tags_whole : (s : Spot) → ls ≡ whole s → tags ls ≡ lists.whole (plain_place s)
  tags_whole s e = ap tags e ∙ map-append by_tag s.before (s.label ∷ s.after)

  -- what the machine takes
  pub held_spot : (p : machine.Place) → holding_place n align 0 (tags ls) ≡ Some p
      → (s : Spot) × (ls ≡ whole s) × (plain_place s ≡ p) × (is_free s.label.tag ≡ true) × Holds n align (named_place s)
  held_spot p e =
      let h = held_at n align (tags ls) p e in
      let r = plain_spot ls p h.0 in
      let k = spot_holds r.0 (ap (holds_at n align 0) r.2 ∙ h.1) in
      (r.0, r.1, r.2, k.0, k.1)

  none_if : ((p : Place) → v.blocks ≡ p.before ++ p.block ∷ p.after → p.block.used ≡ false → Holds n align p → ⊥) → (o : Option machine.Place) → holding_place n align 0 (tags ls) ≡ o
      → holding_place n align 0 (tags ls) ≡ None
  none_if none None e = e
  none_if none (Some p) e = absurd (let r = held_spot p e in none (named_place r.0) (there r.0 r.1) (ap not r.3) r.4)

  -- where no free block holds the request, the machine takes none
  pub none_held : ((p : Place) → v.blocks ≡ p.before ++ p.block ∷ p.after → p.block.used ≡ false → Holds n align p → ⊥) → holding_place n align 0 (tags ls) ≡ None
  none_held none = none_if none (holding_place n align 0 (tags ls)) refl

  -- where one does, the machine takes some
  pub held_there : (p : Place) → v.blocks ≡ p.before ++ p.block ∷ p.after → p.block.used ≡ false → Holds n align p → is_some (holding_place n align 0 (tags ls)) ≡ true
  held_there p e f h = go (holding_place n align 0 (tags ls)) refl
    where
      r : (s : Spot) × (ls ≡ whole s) × (named_place s ≡ p)
      r = named_spot ls p (sym a.view ∙ e)

      mine : holds_at n align 0 (plain_place r.0) ≡ true
      mine = holds_spot r.0 (not-false (is_free r.0.label.tag) (ap (λ (p : Place). p.block.used) r.2 ∙ f)) (subst (Holds n align) (sym r.2) h)

      go : (o : Option machine.Place) → holding_place n align 0 (tags ls) ≡ o → is_some o ≡ true
      go (Some q) g = refl
      go None g = absurd (true≢false (sym mine ∙ not_held n align (tags ls) g (plain_place r.0) (tags_whole r.0 r.1)))

  -- the block of a name, as the machine takes it
  pub record IsHeld (x : ℕ) : Type 0 where
    pub spot : Spot
    pub split : ls ≡ whole spot
    pub name : spot.label.name ≡ x
    pub free : is_free spot.label.tag ≡ true
    pub is : holding_place n align 0 (tags ls) ≡ Some (plain_place spot)

  module _ (x : ℕ) (e : first_holding n align v ≡ Some x) where
    abbrev passes : ℕ → Bool
    passes y = named.holds n align (place_of y v.blocks)

    -- the spot of the name
    at : (s : Spot) × (ls ≡ whole s) × (s.label.name ≡ x) × (is_free s.label.tag ≡ true) × Holds n align (named_place s)
    at =
        let h = holder v w n align x e in
        let r = named_spot ls h.place (sym a.view ∙ h.there) in (
          r.0,
          r.1,
          ap (λ (p : Place). p.block.name) r.2 ∙ h.name,
          not-false (is_free r.0.label.tag) (ap (λ (p : Place). p.block.used) r.2 ∙ h.free),
          subst (Holds n align) (sym r.2) h.holds,
        )

    -- another spot that holds the request, and is not after it, has its name
    same_name : (l : Spot) → ls ≡ whole l → is_free l.label.tag ≡ true → Holds n align (named_place l) → is_taken_before (by_tag at.0.label) (by_tag l.label) ≡ false → at.0.label.name ≡ l.label.name
    same_name l el fl hl best = elim (cases_eq l.label.name x) [
      | inl same ↦ at.2 ∙ sym same
      | inr d ↦ absurd (elim (first_least passes v.bins (down n) (down l.label.size) x l.label.name e low listed pass) [
        | inl r ↦
            let class : down at.0.label.size ≡ r.0 = class_of r.0 r.2 in
            true≢false (sym (or_left (nat_lt (down at.0.label.size) (down l.label.size)) _ (lt-ltb _ _ (omega (arith, class, r.1)))) ∙ best)
        | inr f ↦
            let class : down at.0.label.size ≡ down l.label.size = class_of (down l.label.size) (find_met passes (bin_at v.bins (down l.label.size)) x f).0 in
            let less = find_falls (λ y. stamp_of y ls) passes (bin_at v.bins (down l.label.size)) x l.label.name (a.newest (down l.label.size)) f pass listed d in
            let mine : stamp_of x ls ≡ machine.stamp at.0.label.tag = ap₂ stamp_of (sym at.2) at.1 ∙ spot_stamp v w at.0 (a.view ∙ ap names at.1) in
            let other : stamp_of l.label.name ls ≡ machine.stamp l.label.tag = ap (stamp_of l.label.name) el ∙ spot_stamp v w l (a.view ∙ ap names el) in
            true≢false (sym (newer_before at.0.label l.label class (omega (arith, less, mine, other))) ∙ best)
      ])
    ]
      where
        listed : 1 ≤ times l.label.name (bin_at v.bins (down l.label.size))
        listed = listed_spot v w l (a.view ∙ ap names el) fl

        low : down n ≤ down l.label.size
        low = (down_law l.label.size (down n) (block_word v w (named_place l) (there l el))).1 (omega (arith, value_down n, hl))

        pass : passes l.label.name ≡ true
        pass = ap (named.holds n align) (place_of_spot v w l (a.view ∙ ap names el)) ∙ le-leb (padding_to align (units (names l.before)) + n) l.label.size hl

        class_of : (j : ℕ) → 1 ≤ times x (bin_at v.bins j) → down at.0.label.size ≡ j
        class_of j h =
            let t = taken_among v w j x h in
            let same = same_some (named_place at.0) t.place (sym (place_of_spot v w at.0 (a.view ∙ ap names at.1)) ∙ ap (λ y. place_of y v.blocks) at.2 ∙ place_there v w t.place x t.list_is t.name) in
            ap (λ (p : Place). down p.block.size) same ∙ t.class

    -- the machine takes it
    pub held : IsHeld x
    held = go (holding_place n align 0 (tags ls)) refl
      where
        s : Spot
        s = at.0

        mine : holds_at n align 0 (plain_place s) ≡ true
        mine = holds_spot s at.3 at.4

        go : (o : Option machine.Place) → holding_place n align 0 (tags ls) ≡ o → IsHeld x
        go None f = absurd (true≢false (sym mine ∙ not_held n align (tags ls) f (plain_place s) (tags_whole s at.1)))
        go (Some p) f =
            let l = held_spot p f in
            let best = (held_at n align (tags ls) p f).2 (plain_place s) (tags_whole s at.1) mine in
            let name = same_name l.0 l.1 l.3 l.4 (ap (λ (q : machine.Place). is_taken_before (by_tag s.label) q.block) l.2 ∙ best) in
            record { spot = l.0; split = l.1; name = sym name ∙ at.2; free = l.3; is = f ∙ ap Some (sym l.2) }

-- ---- a name that is brought to the front of its bin, and leaves it, leaves the others as they were
filter_again : (f : ℕ → Bool) (ys : List ℕ) → filter f (filter f ys) ≡ filter f ys
filter_again f [] = refl
filter_again f (y ∷ ys) = go (f y) refl (filter_again f ys)
  where
    go : (b : Bool) → f y ≡ b → filter f (filter f ys) ≡ filter f ys → filter f (if b then y ∷ filter f ys else filter f ys) ≡ (if b then y ∷ filter f ys else filter f ys)
    go true e ih = ap (λ b. if b then y ∷ filter f (filter f ys) else filter f (filter f ys)) e ∙ ap (λ l. y ∷ l) ih
    go false e ih = ih

removed_again : (c x : ℕ) (bins : List (List ℕ)) → length bins ≡ 256 → c < 256 → remove c x (push c x (remove c x bins)) ≡ remove c x bins
removed_again c x bins long small =
    let f : ℕ → Bool = λ y. not (nat_eq y x) in
    let left = filter f (bin_at bins c) in
    let first = names_same bins c left long small in
    let more = names_same (remove c x bins) c (x ∷ bin_at (remove c x bins) c) (length_remove c x bins ∙ long) small in
    let gone : filter f (x ∷ left) ≡ left = ap (λ b. if b then x ∷ filter f left else filter f left) (ap not (eq-eqb x x refl)) ∙ filter_again f (bin_at bins c) in
    ap (λ l. slice_set (push c x (remove c x bins)) c (filter f l)) (more ∙ ap (λ l. x ∷ l) first)
    ∙ ap (slice_set (push c x (remove c x bins)) c) gone
    ∙ set-set (remove c x bins) c (x ∷ bin_at (remove c x bins) c) left
    ∙ set-set bins c left left

-- ---- a grant of a block that is split as if it were the newest of its bin
module _ (v : View) (kept_name : ℕ → Option ℕ) (s : State) (w : IsWellFormed v) (ws : IsWell s) (g : HasBlocksOf v kept_name s) (u : View) (w' : IsWellFormed u) (n c x : ℕ) (padding_at : ℕ → ℕ) where
  -- what a grant says of the place of the block that is split
  abbrev IsGrantAt : Handle → (padding remainder front rest : ℕ) → Place → Type 0
  IsGrantAt a padding remainder front rest q = (a ≡ record { name = q.block.name; offset = units q.before + padding }) × (padding ≡ padding_at (units q.before))
      × (padding + n + remainder ≡ q.block.size)
      × SameSpace (replace v q.before (q.block ∷ []) (free_part front padding ++ used_block q.block.name n ∷ free_part rest remainder) q.after) u

  -- the machine's grant of the same block leaves what agrees, and has the same answer
  pub brought_agrees : (sp : Spot) → g.labels ≡ whole sp → sp.label.name ≡ x → is_free sp.label.tag ≡ true → (r : Handle) → Splits (value c) n padding_at (with_first c x v) u r
      → IsMatch u kept_name s.grants (Some r) (machine.grant s n (padding_at (total (tags sp.before))) (plain_place sp))
  brought_agrees sp split name free r t =
      let b = at_first v w c n x padding_at t in
      let there : named_place sp ≡ place_at t.before t.block t.after =
      same_some (named_place sp) (place_at t.before t.block t.after)
      (sym (place_of_spot v w sp (g.view ∙ ap names split)) ∙ ap (λ y. place_of y v.blocks) name ∙ place_there v w (place_at t.before t.block t.after) x t.blocks b.name) in
      let removed : (bins : List (List ℕ)) → (if t.block.used then bins else remove (down t.block.size) t.block.name bins) ≡ remove c x bins =
      λ bins. ap (λ b. if b then bins else remove (down t.block.size) t.block.name bins) t.free ∙ ap₂ (λ d y. remove d y bins) b.class b.name in
      let bins = removed (with_first c x v).bins ∙ removed_again c x v.bins w.classes b.small ∙ sym (removed v.bins) in
      let parts = free_part t.padding_name t.padding ++ used_block t.block.name n ∷ free_part t.remainder_name t.remainder in
      let view : SameSpace (replace v t.before (t.block ∷ []) parts t.after) u =
      split_view t ∙ ap (λ o. record v { blocks = t.before ++ (parts ++ t.after); bins = push_all parts o; unused = u.unused; accesses = u.accesses }) bins in
      let at = subst (IsGrantAt r t.padding t.remainder t.padding_name t.remainder_name) (sym there) (t.grant, t.padded, t.whole, view) in
      let is : machine.grant s n (padding_at (total (tags sp.before))) (plain_place sp) ≡ machine.grant s n t.padding (plain_place sp) =
      ap (λ m. machine.grant s n m (plain_place sp)) (ap padding_at (total_units sp.before) ∙ sym at.1) in
      let answer = ap (machine.Grant (s.grants + 1)) (ap (λ m. m + t.padding) (total_units sp.before) ∙ sym (ap (λ (a : Handle). a.offset) at.0)) in
      let agrees = subst (λ x. HasBlocksOf u (with_name (s.grants + 1) x kept_name) (machine.grant s n t.padding (plain_place sp)).state) (sym (ap (λ (a : Handle). a.name) at.0))
      (grant_agrees v kept_name s w ws g u w' n t.padding t.remainder t.padding_name t.remainder_name sp split free at.2 at.3) in
      subst (IsMatch u kept_name s.grants (Some r)) (sym is) (record { answer = answer; agrees = agrees; grants_after = refl })

-- ---- such a request on both sides
module _ (v : View) (kept_name : ℕ → Option ℕ) (s : State) (w : IsWellFormed v) (ws : IsWell s) (g : HasBlocksOf v kept_name s) (n align : ℕ) (some : 1 ≤ align) where
  -- the place that a request takes
  place : Option machine.Place
  place = option_or (chosen_place (units_needed n align) s.blocks) (holding_place n align 0 s.blocks)

  -- the request
  asked : machine.Outcome
  asked = request_tight s (blocks_needed align) (units_needed n align) n align

  is_labelled : IsLabelled v g.labels
  is_labelled = labelled v kept_name s w ws g

  none_by_class : AdmitsBlocks (blocks_needed align) v → (CanGrant (blocks_needed align) (units_needed n align) v → ⊥) → chosen_place (units_needed n align) s.blocks ≡ None
  none_by_class room refuses = ap (chosen_place (units_needed n align)) g.state ∙ none_chosen v w g.labels is_labelled (units_needed n align) (λ h. refuses (room, h))

  -- a request that is refused
  no_place : AdmitsBlocks (blocks_needed align) v → (CanHold n align v → ⊥) → place ≡ None
  unfolding place
  no_place room none = ap₂ option_or (none_by_class room (λ c. none (grant_holds v w n align some c)))
      (ap (holding_place n align 0) g.state ∙ none_held v w g.labels is_labelled n align (λ p e f h. none (room, (p, e, f, h))))

  refused_is : (CanHold n align v → ⊥) → asked ≡ machine.returns_only s machine.Refused
  unfolding asked place
  refused_is none = go (is_short_of (blocks_needed align) s) refl
    where
      go : (b : Bool) → is_short_of (blocks_needed align) s ≡ b → asked ≡ machine.returns_only s machine.Refused
      go true e = ap (λ b. if b then machine.returns_only s machine.Refused else machine.grant_or_refuse s n (padding_to align) place) e
      go false e = ap₂ (λ b o. if b then machine.returns_only s machine.Refused else machine.grant_or_refuse s n (padding_to align) o) e
          (no_place (room_for v kept_name s w ws g (blocks_needed align) e) none)

  module _ (u : View) (w' : IsWellFormed u) where
    -- a request that is granted by classes
    by_class : (r : Handle) → Aligns n align v u (Some r) → IsMatch u kept_name s.grants (Some r) asked
    unfolding asked place
    by_class r a =
        let c = chosen v w g.labels is_labelled (units_needed n align) n (padding_to align) u r a.1 in
        let at = ap (chosen_place (units_needed n align)) g.state ∙ c.is in
        let same : asked ≡ machine.request s (blocks_needed align) (units_needed n align) n (padding_to align) =
        ap (λ o. if is_short_of (blocks_needed align) s then machine.returns_only s machine.Refused else machine.grant_or_refuse s n (padding_to align) o)
        (ap (λ o. option_or o (holding_place n align 0 s.blocks)) at ∙ sym at) in
        subst (IsMatch u kept_name s.grants (Some r)) (sym same)
        (serve_agrees v kept_name s w ws g (blocks_needed align) (units_needed n align) n (padding_to align) u w' (Some r) (aligned_serves n align v u (Some r) a))

    -- one that takes the block which holds it
    by_units : (r : Handle) → (CanGrant (blocks_needed align) (units_needed n align) v → ⊥) → FillsFirst n align v u (Some r) → IsMatch u kept_name s.grants (Some r) asked
    unfolding asked place
    by_units r refuses a =
        let h = held v w g.labels is_labelled n align a.1.1 a.1.2 in
        let is : asked ≡ machine.grant s n (padding_to align (total (tags h.spot.before))) (plain_place h.spot) =
        ap₂ (λ b o. if b then machine.returns_only s machine.Refused else machine.grant_or_refuse s n (padding_to align) o) (has_room v kept_name s w ws g (blocks_needed align) a.0)
        (ap₂ option_or (none_by_class a.0 refuses) (ap (holding_place n align 0) g.state ∙ h.is)) in
        subst (IsMatch u kept_name s.grants (Some r)) (sym is) (brought_agrees v kept_name s w ws g u w' n a.1.0 a.1.1 (padding_to align) h.spot h.split h.name h.free r a.1.3)

    asked_agrees : (r : Option Handle) → AlignsTight n align v u r → IsMatch u kept_name s.grants r asked
    asked_agrees None a = subst (IsMatch u kept_name s.grants None) (sym (refused_is a.0))
        (record { answer = refl; agrees = agrees_but v u kept_name _ a.1 (agrees_quiet v kept_name s g machine.Refused); grants_after = refl })
    asked_agrees (Some r) (inl a) = by_class r a
    asked_agrees (Some r) (inr a) = by_units r a.0 a.1

    allocate_is : allocate_tight n align s ≡ asked
    unfolding asked
    allocate_is = elim (cases_lt 1 align) [
      | inl l ↦ ap (λ b. if b then request_tight s 1 n n align else request_tight s 2 (n + align - 1) n align) (lt-leb align 1 l)
          ∙ ap (λ k. request_tight s k (units_needed n align) n align) (let e : 2 ≡ blocks_needed align = omega arith in e)
      | inr l ↦ ap (λ b. if b then request_tight s 1 n n align else request_tight s 2 (n + align - 1) n align) (le-leb align 1 l)
          ∙ ap₂ (λ k m. request_tight s k m n align) (let e : 1 ≡ blocks_needed align = omega arith in e) (let e : n ≡ units_needed n align = omega arith in e)
    ]

    -- the machine's request leaves what agrees, and has the same answer
    pub tight_agrees : (r : Option Handle) → AlignsTight n align v u r → IsMatch u kept_name s.grants r (allocate_tight n align s)
    tight_agrees r a = subst (IsMatch u kept_name s.grants r) (sym allocate_is) (asked_agrees r a)
