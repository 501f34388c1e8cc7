-- What each call of the allocator leaves agrees with what the plain machine leaves, and the answers are the same.
use Rattle.offset_allocator.specs.Relations.{SameState}
use Rattle.offset_script.proofs.Common.{◌≡◌, ℕ, zero, suc, ◌+◌, ◌-◌, ◌<◌, ◌≤◌, Bool, true, false, not, ◌&&◌, ◌||◌, ◌⊎◌, List, [], ◌∷◌, ◌++◌, replicate, length, sum, Option, Some, None, nat_eq, nat_lt}
use Rattle.offset_script.proofs.Common.{nat_le, if◌then◌else◌, refl, sym, ap, ap₂, subst, ◌∙◌, inl, inr, arith, eq-eqb, ne_eqb, le-leb, le-ltb, leb-false, append_assoc, append-nil, option_or}
use Rattle.offset_script.proofs.Common.{cases_eq, cases_lt, true≢false, false≢true, lt-leb, ltb-true, ltb-false, and_parts, and_right, or_parts, not-false, up, down, rows_below, Live, Free, is_free}
use Rattle.offset_script.proofs.Common.{has_number, stamp, total, chosen_place, State, Answer, step, returns_only, leaves, stamp_of_padding, stamp_of_call, View, Handle, units, used_block}
use Rattle.offset_script.proofs.Common.{bin_at, push_all, IsWellFormed, replace, max_size, padding_to, SameSpace, Frees, Adds, CanExtend, Extends, AllByRecursion, map-append, length-map}
use Rattle.offset_script.proofs.Common.{length-replicate, nil_from_length, cond_both}
use Rattle.offset_script.specs.Agreement.{Label, by_name, by_tag, stamp_of, IsFalling, name_of, HasBlocksOf}
use Rattle.offset_script.proofs.Lists.{number_of, count, count-append, hit, hit_self, apart_parts, end_of, start_of, coalesce_parts}
use Rattle.offset_script.proofs.Labels.{names, tags, map_three, stamps_below, AreRising, newest_replaced}
use Rattle.offset_script.proofs.Chosen.{Spot, whole, place_at, named_spot, plain_spot, named_place, plain_place, IsLabelled, none_chosen, chosen, place_of_spot}
use Rattle.offset_script.proofs.Ends.{AreFree, free_named, free_tagged, apart_tagged, ends_live_last, last_free, total_units, free_sizes_labels, or_none, name_append, name_skip, name_free, name_none}
use Rattle.offset_script.proofs.{Tests.if_same, Tests.same_some, Found.found_at, Found.not_found, Found.chosen_at, Well.IsWell, Well.not_there, Members.map_parts, Members.map_first}
use Rattle.offset_allocator.proofs.{Emptied.none_at, Views.ViewApart.and_true, Reading.size_at, Served.Serves, Views.Split.split_view, Tallies.units-append, Views.ViewBins.names_same}
use Rattle.offset_allocator.proofs.{Views.ViewBins.names_other, Classes.down_small, Classes.fits_size}
use Rattle.offset_allocator.specs.{View.Block, View.Place, View.place_of, View.free_block, View.free_part, Requests.AdmitsBlocks, Requests.CanGrant, Requests.blocks_needed, Requests.units_needed}
use Rattle.offset_script.specs.declared.scripts.Command.TheVariants as command
use Rattle.offset_script.specs.Machine as machine
use Rattle.offset_allocator.specs.View as named
use Rattle.offset_script.proofs.Lists as lists

-- the answer to a request, when g grants were made before it
abbrev pub answer_of : ℕ → Option Handle → Answer
answer_of g None = machine.Refused
answer_of g (Some a) = machine.Grant (g + 1) a.offset

-- the kept names, with x as that of grant k
abbrev pub with_name : ℕ → ℕ → (ℕ → Option ℕ) → ℕ → Option ℕ
with_name k x kept_name j = if nat_eq j k then Some x else kept_name j

-- the kept names, without that of grant k
abbrev pub without_name : ℕ → (ℕ → Option ℕ) → ℕ → Option ℕ
without_name k kept_name j = if nat_eq j k then None else kept_name j

-- the names kept after a request, when g grants were made before it
abbrev pub kept_after : ℕ → Option Handle → (ℕ → Option ℕ) → ℕ → Option ℕ
kept_after g None kept_name = kept_name
kept_after g (Some a) kept_name = with_name (g + 1) a.name kept_name

-- the grants made after a request, when g were made before it
abbrev pub grant_count_after : ℕ → Option Handle → ℕ
grant_count_after g None = g
grant_count_after g (Some a) = g + 1

-- a call that leaves the blocks as they are
pub agrees_quiet : (v : View) (kept_name : ℕ → Option ℕ) (s : State) → HasBlocksOf v kept_name s → (a : Answer) → HasBlocksOf v kept_name (returns_only s a).state
agrees_quiet v kept_name s g a = record { labels = g.labels; view = g.view; state = g.state; limit = g.limit; newest = g.newest; handles = g.handles }

-- the labels of a grant
abbrev pub free_labels : ℕ → ℕ → ℕ → List Label
free_labels x zero s = []
free_labels x (suc n) s = record { name = x; size = suc n; tag = Free s } ∷ []

names_free_labels : (x n s : ℕ) → names (free_labels x n s) ≡ free_part x n
names_free_labels x zero s = refl
names_free_labels x (suc n) s = refl

tags_free_labels : (x n s : ℕ) → tags (free_labels x n s) ≡ machine.free_part n s
tags_free_labels x zero s = refl
tags_free_labels x (suc n) s = refl

name_free_labels : (k x n s : ℕ) → name_of k (free_labels x n s) ≡ None
name_free_labels k x zero s = refl
name_free_labels k x (suc n) s = refl

-- the label of grant k
abbrev pub live_label : ℕ → ℕ → ℕ → Label
live_label x n k = record { name = x; size = n; tag = Live k }

-- the labels that a grant adds: padding, the grant and a remainder
abbrev pub new_labels : (front padding x n k rest left t : ℕ) → List Label
new_labels front padding x n k rest left t = free_labels front padding t ++ live_label x n k ∷ free_labels rest left (t + 1)

pub names_new : (front padding x n k rest left t : ℕ) → names (new_labels front padding x n k rest left t) ≡ free_part front padding ++ used_block x n ∷ free_part rest left
names_new front padding x n k rest left t = search (arith, map-append, by_name, names_free_labels)

pub tags_new : (front padding x n k rest left t : ℕ)
    → tags (new_labels front padding x n k rest left t) ≡ machine.free_part padding t ++ machine.block n (Live k) ∷ machine.free_part left (t + 1)
tags_new front padding x n k rest left t = search (arith, map-append, by_tag, tags_free_labels)

pub name_new : (j front padding x n k rest left t : ℕ) → name_of j (new_labels front padding x n k rest left t) ≡ (if nat_eq j k then Some x else None)
name_new j front padding x n k rest left t = search (arith, name_append, name_of, name_free_labels, nat_eq)

rises_remainder : (x n t u : ℕ) → t ≤ u → AreRising t (free_labels x n u)
rises_remainder x zero t u l = tt
rises_remainder x (suc n) t u l = (λ e. absurd (true≢false e), λ e. (l, tt))

pub rises_new : (front padding x n k rest left t : ℕ) → AreRising t (new_labels front padding x n k rest left t)
rises_new front zero x n k rest left t = (λ e. rises_remainder rest left t (t + 1) (omega arith), λ e. absurd (false≢true e))
rises_new front (suc padding) x n k rest left t = (λ e. absurd (true≢false e), λ e. (omega arith, (λ e. rises_remainder rest left (t + 1) (t + 1) (omega arith), λ e. absurd (false≢true e))))

-- other names of grants stay
pub name_replaced : (j : ℕ) (before old new after : List Label) → name_of j old ≡ name_of j new → name_of j (before ++ (old ++ after)) ≡ name_of j (before ++ (new ++ after))
name_replaced j before old new after e = search (arith, name_append, name_of)

-- a request has the same answer, and what it leaves agrees
pub record IsMatch (u : View) (kept_name : ℕ → Option ℕ) (grants : ℕ) (r : Option Handle) (p : machine.Outcome) : Type 0 where
  pub answer : p.answer ≡ answer_of grants r
  pub agrees : HasBlocksOf u (kept_after grants r kept_name) p.state
  pub grants_after : p.state.grants ≡ grant_count_after grants r

-- accesses are no part of the agreement
pub agrees_but : (v w : View) (kept_name : ℕ → Option ℕ) (s : State) → SameState v w → HasBlocksOf v kept_name s → HasBlocksOf w kept_name s
agrees_but v w kept_name s e g = subst (λ x. HasBlocksOf x kept_name s) (sym e) (record { labels = g.labels; view = g.view; state = g.state; limit = g.limit; newest = g.newest; handles = g.handles })

module _ (v : View) (kept_name : ℕ → Option ℕ) (s : State) (w : IsWellFormed v) (ws : IsWell s) (g : HasBlocksOf v kept_name s) where
  pub labelled : IsLabelled v g.labels
  labelled = record { view = g.view; newest = g.newest }

  low : (ls : List Label) → g.labels ≡ ls → (x : ℕ) → stamp_of x ls < stamp_of_padding s
  low ls e = search (arith, stamp_of, stamps_below, count, not_there)

  newest_at : (ls : List Label) → g.labels ≡ ls → (c : ℕ) → IsFalling (λ x. stamp_of x ls) (bin_at v.bins c)
  newest_at ls e = subst (λ ls. (c : ℕ) → IsFalling (λ x. stamp_of x ls) (bin_at v.bins c)) e g.newest

  -- new blocks in place of old ones
  module _ (u : View) (w' : IsWellFormed u) where
    pub agrees_replaced : (size : ℕ) (before old new after : List Label) → g.labels ≡ before ++ (old ++ after)
        → SameSpace (record (replace v (names before) (names old) (names new) (names after)) { size = size }) u
        → (t : State) → t.limit ≡ s.limit → t.blocks ≡ tags (before ++ (new ++ after)) → AreRising (stamp_of_padding s) new
        → (kept_name' : ℕ → Option ℕ) → ((j : ℕ) → kept_name' j ≡ name_of j (before ++ (new ++ after))) → HasBlocksOf u kept_name' t
    agrees_replaced size before old new after e same t limit state rises kept_name' handles =
        let view : u.blocks ≡ names (before ++ (new ++ after)) = ap (λ (x : View). x.blocks) same ∙ sym (map_three by_name before new after) in
        let fall = newest_replaced v before old new after w (g.view ∙ ap names e) (λ x. subst (λ bs. named.count_named x bs ≤ 1) view (w'.distinct x)) (stamp_of_padding s) (low _ e) rises
        (newest_at _ e) in
        let newest = λ (c : ℕ). subst (λ o. IsFalling (λ x. stamp_of x (before ++ (new ++ after))) (bin_at o c)) (sym (ap (λ (x : View). x.bins) same)) (fall c) in
        let limit = limit ∙ g.limit ∙ sym (ap (λ (x : View). x.max_allocs) same) in
        record { labels = before ++ (new ++ after); view = view; state = state; limit = limit; newest = newest; handles = handles }

    -- a grant
    pub grant_agrees : (n padding remainder front rest : ℕ) (sp : Spot) → g.labels ≡ whole sp → is_free sp.label.tag ≡ true → padding + n + remainder ≡ sp.label.size
        → SameSpace (replace v (names sp.before) (by_name sp.label ∷ []) (free_part front padding ++ used_block sp.label.name n ∷ free_part rest remainder) (names sp.after)) u
        → HasBlocksOf u (with_name (s.grants + 1) sp.label.name kept_name) (machine.grant s n padding (plain_place sp)).state
    grant_agrees n padding remainder front rest sp e f fill same =
        let k = s.grants + 1 in
        let left = sp.label.size - (padding + n) in
        let left_is : left ≡ remainder = omega arith in
        let new = new_labels front padding sp.label.name n k rest left (stamp_of_padding s) in
        let names_are = names_new front padding sp.label.name n k rest left (stamp_of_padding s) ∙ ap (λ m. free_part front padding ++ used_block sp.label.name n ∷ free_part rest m) left_is in
        let none = not_there s ws (Live k) (λ o. absurd (let l = o.1 in omega arith)) in
        let parts = ap (count (Live k)) (g.state ∙ ap tags e ∙ map-append by_tag sp.before (sp.label ∷ sp.after)) in
        let first = name_none k sp.before (omega (arith, count-append (Live k) (tags sp.before) (tags (sp.label ∷ sp.after)))) in
        let handles : (j : ℕ) → with_name k sp.label.name kept_name j ≡ name_of j (sp.before ++ (new ++ sp.after)) =
        λ j. search (arith, cases_eq, name_of, eq-eqb, name_append, first, name_new, ne_eqb, name_replaced, name_skip) in
        agrees_replaced v.size sp.before (sp.label ∷ []) new sp.after e
        (subst (λ put. SameSpace (replace v (names sp.before) (by_name sp.label ∷ []) put (names sp.after)) u) (sym names_are) same) _ refl
        (ap (λ z. tags sp.before ++ z) (sym (append_assoc (machine.free_part padding (stamp_of_padding s)) (machine.block n (Live k) ∷ machine.free_part left (stamp_of_call s)) (tags sp.after)))
        ∙ sym (map_three by_tag sp.before new sp.after ∙ ap (λ z. tags sp.before ++ (z ++ tags sp.after)) (tags_new front padding sp.label.name n k rest left (stamp_of_padding s))))
        (rises_new front padding sp.label.name n k rest left (stamp_of_padding s)) _ handles

    -- what becomes free, between lists that end and start with free blocks
    coalesced_agrees : (front before left old back right after : List Label) (x n size : ℕ) → g.labels ≡ front ++ (old ++ back) → front ≡ before ++ left → back ≡ right ++ after → AreFree left
        → AreFree right
        → SameSpace (record (replace v (names before) (names (left ++ (old ++ right))) (free_block x (total (tags left) + n + total (tags right)) ∷ []) (names after)) { size = size }) u
        → (kept_name' : ℕ → Option ℕ) → ((j : ℕ) → kept_name' j ≡ option_or (name_of j front) (name_of j back)) → (a : Answer)
        → HasBlocksOf u kept_name' (leaves s (machine.coalesce (tags front) n (stamp_of_call s) (tags back)) a).state
    coalesced_agrees front before left old back right after x n size e at_front at_back fl fr same kept_name' handles a =
        let l : Label = record { name = x; size = total (tags left) + n + total (tags right); tag = Free (stamp_of_call s) } in
        let parted : g.labels ≡ before ++ ((left ++ (old ++ right)) ++ after) = e ∙ ap₂ (λ y z. y ++ (old ++ z)) at_front at_back ∙ simp append_assoc in
        let parts = λ (xs ys : List Label) (h : lists.AreApart (tags (xs ++ ys))). apart_parts (tags xs) (tags ys) (subst lists.AreApart (map-append by_tag xs ys) h) in
        let apart = (parts (left ++ (old ++ right)) after (parts before ((left ++ (old ++ right)) ++ after) (subst lists.AreApart (g.state ∙ ap tags parted) ws.apart)).1).0 in
        let named_apart = subst named.AreCoalesced (ap (λ (x : View). x.blocks) same ∙ sym (map-append by_name before (l ∷ after))) w'.apart in
        let apart' = parts before (l ∷ after) (apart_tagged (before ++ (l ∷ after)) named_apart) in
        let state : machine.coalesce (tags front) n (stamp_of_call s) (tags back) ≡ tags (before ++ (l ∷ after)) =
        search (arith, tags, map-append, by_tag, left, coalesce_parts, end_of, free_tagged, parts, apart, and_true, apart', start_of) in
        agrees_replaced size before (left ++ (old ++ right)) (l ∷ []) after parted same _ refl state (λ e. absurd (true≢false e), λ e. (omega arith, tt)) kept_name'
        (λ j. search (arith, handles, name_append, name_free, or_none))

  pub same_length : length v.blocks ≡ length s.blocks
  same_length = ap length g.view ∙ (length-map g.labels by_name ∙ sym (length-map g.labels by_tag)) ∙ sym (ap length g.state)

  pub same_units : units v.blocks ≡ total s.blocks
  same_units = ap units g.view ∙ sym (total_units g.labels) ∙ sym (ap total g.state)

  -- room for more blocks
  pub has_room : (k : ℕ) → AdmitsBlocks k v → machine.is_short_of k s ≡ false
  has_room k room = lt-leb s.limit (length s.blocks + k) (let e = g.limit in let f = same_length in omega arith)

  pub room_for : (k : ℕ) → machine.is_short_of k s ≡ false → AdmitsBlocks k v
  room_for k e = let h = leb-false s.limit (length s.blocks + k) e in let e = g.limit in let f = same_length in omega arith

  module _ (blocks needed n : ℕ) (padding_at : ℕ → ℕ) (u : View) (w' : IsWellFormed u) where
    -- a request that is refused
    refused_is : (CanGrant blocks needed v → ⊥) → machine.request s blocks needed n padding_at ≡ returns_only s machine.Refused
    refused_is none = search (arith, none_chosen, labelled, room_for)

    -- a request that is granted, of a block at a place
    granted_is : AdmitsBlocks blocks v → (padding : ℕ) (sp : Spot) → chosen_place needed (tags g.labels) ≡ Some (plain_place sp) → padding ≡ padding_at (units (names sp.before))
        → machine.request s blocks needed n padding_at ≡ machine.grant s n padding (plain_place sp)
    granted_is room padding sp at e = search (arith, has_room, plain_place, total_units)

    -- what a grant says of the place of the block that is split
    abbrev IsGrantAt : Handle → (padding remainder front rest : ℕ) → Place → Type 0
    IsGrantAt a padding remainder front rest q = (a ≡ record { name = q.block.name; offset = units q.before + padding }) × (padding ≡ padding_at (units q.before))
        × (padding + n + remainder ≡ q.block.size)
        × SameSpace (replace v q.before (q.block ∷ []) (free_part front padding ++ used_block q.block.name n ∷ free_part rest remainder) q.after) u

    pub serve_agrees : (r : Option Handle) → Serves blocks needed n padding_at v u r → IsMatch u kept_name s.grants r (machine.request s blocks needed n padding_at)
    serve_agrees None e = subst (IsMatch u kept_name s.grants None) (sym (refused_is e.0))
        (record { answer = refl; agrees = agrees_but v u kept_name _ e.1 (agrees_quiet v kept_name s g machine.Refused); grants_after = refl })
    serve_agrees (Some a) e =
        let t = e.1 in
        let c = chosen v w g.labels labelled needed n padding_at u a t in
        let at = subst (IsGrantAt a t.padding t.remainder t.padding_name t.remainder_name) (sym c.place) (t.grant, t.padded, t.whole, split_view t) in
        let answer = ap (machine.Grant (s.grants + 1)) (ap (λ m. m + t.padding) (total_units c.spot.before) ∙ sym (ap (λ (a : Handle). a.offset) at.0)) in
        let agrees = subst (λ x. HasBlocksOf u (with_name (s.grants + 1) x kept_name) (machine.grant s n t.padding (plain_place c.spot)).state) (sym (ap (λ (a : Handle). a.name) at.0))
        (grant_agrees u w' n t.padding t.remainder t.padding_name t.remainder_name c.spot c.split c.free at.2 at.3) in
        subst (IsMatch u kept_name s.grants (Some a)) (sym (granted_is e.0 t.padding c.spot c.is at.1)) (record { answer = answer; agrees = agrees; grants_after = refl })

  -- an aligned request
  request_alike : (blocks blocks' needed needed' n : ℕ) (padding_at padding_at' : ℕ → ℕ) → blocks ≡ blocks' → needed ≡ needed' → ((o : ℕ) → padding_at o ≡ padding_at' o)
      → machine.request s blocks needed n padding_at ≡ machine.request s blocks' needed' n padding_at'
  request_alike blocks blocks' needed needed' n padding_at padding_at' e f h = search (arith)

  too_large : (n : ℕ) → max_size < n → (o : Option machine.Place) → chosen_place n s.blocks ≡ o → o ≡ None
  too_large n l None e = refl
  too_large n l (Some p) e =
      let c = chosen_at n s.blocks p e in
      let fit = fits_size n p.block.size (and_parts (is_free p.block.tag) (nat_le (up n) (down p.block.size)) c.1).1 in
      absurd (omega (arith, fit, l, w.fits, w.whole, same_units, ap total c.0, total_middle p.before p.block p.after))
    where
      total_middle : (xs : List machine.Block) (b : machine.Block) (ys : List machine.Block) → b.size ≤ total (xs ++ b ∷ ys)
      total_middle [] b ys = omega arith
      total_middle (x ∷ xs) b ys = let ih = total_middle xs b ys in omega arith

  aligned_is : (n align : ℕ) → 1 ≤ align → step (command.Align n align) s ≡ machine.request s (blocks_needed align) (units_needed n align) n (padding_to align)
  aligned_is n align some = search (arith, cases_lt, lt-leb, le-leb, cond_both, too_large, request_alike, chosen_place, ltb-true)

  pub aligned_agrees : (n align : ℕ) → 1 ≤ align → (u : View) → IsWellFormed u → (r : Option Handle) → Serves (blocks_needed align) (units_needed n align) n (padding_to align) v u r
      → IsMatch u kept_name s.grants r (step (command.Align n align) s)
  aligned_agrees n align some u w' r e = search (arith, aligned_is, serve_agrees)

  -- a live grant, whose block has the name x
  pub record LiveAt (k x : ℕ) : Type 0 where
    pub spot : Spot
    pub split : g.labels ≡ whole spot
    pub tag : spot.label.tag ≡ Live k
    pub named : place_of x v.blocks ≡ Some (named_place spot)
    pub placed : machine.place_of k s.blocks ≡ Some (plain_place spot)
    pub first : name_of k spot.before ≡ None

  live_spot : (k : ℕ) (p : machine.Place) → machine.place_of k s.blocks ≡ Some p → (x : ℕ) × (kept_name k ≡ Some x) × LiveAt k x
  live_spot k p e =
      let h = found_at k s.blocks p e in
      let r = plain_spot g.labels p (sym g.state ∙ h.0) in
      let tag = number_of k r.0.label.tag (ap (λ (q : machine.Place). has_number k q.block.tag) r.2 ∙ h.1) in
      let first = name_none k r.0.before (ap (λ (q : machine.Place). count (Live k) q.before) r.2 ∙ h.2) in
      let is : kept_name k ≡ Some r.0.label.name = search (arith, g.handles, r.1, name_append, first, tag, eq-eqb) in
      (r.0.label.name, is, record { spot = r.0; split = r.1; tag = tag; named = place_of_spot v w r.0 (g.view ∙ ap names r.1); placed = e ∙ ap Some (sym r.2); first = first })

  pub live_at : (k x : ℕ) → kept_name k ≡ Some x → LiveAt k x
  live_at k x e = search (arith, k, name_none, count, not_found, live_spot)

  -- a grant that is not live
  pub none_there : (k : ℕ) → kept_name k ≡ None → machine.place_of k s.blocks ≡ None
  none_there k e = search (arith, k, live_spot)

  pub gone_agrees : (k : ℕ) → kept_name k ≡ None → ((step (command.Free k) s).answer ≡ machine.Gone) × HasBlocksOf v kept_name (step (command.Free k) s).state
      × ((step (command.Free k) s).state.grants ≡ s.grants)
  gone_agrees k e = search (arith, none_there, k, agrees_quiet)

  pub size_gone_agrees : (k : ℕ) → kept_name k ≡ None → (step (command.Size k) s).answer ≡ machine.Gone
  size_gone_agrees k e = ap machine.size_at (none_there k e)

  pub live_agrees : (k x : ℕ) → kept_name k ≡ Some x → named.is_used_at (place_of x v.blocks) ≡ true
  live_agrees k x e = let l = live_at k x e in ap named.is_used_at l.named ∙ ap (λ t. not (is_free t)) l.tag

  pub size_agrees : (k x : ℕ) → kept_name k ≡ Some x → (step (command.Size k) s).answer ≡ machine.Size (size_at (place_of x v.blocks))
  size_agrees k x e = let l = live_at k x e in ap machine.size_at l.placed ∙ ap machine.Size (sym (ap size_at l.named ∙ ap (λ t. if not (is_free t) then l.spot.label.size else 0) l.tag))

  -- a release
  pub free_agrees : (k x : ℕ) → kept_name k ≡ Some x → (u : View) → IsWellFormed u → Frees x v u
      → ((step (command.Free k) s).answer ≡ machine.Freed) × HasBlocksOf u (without_name k kept_name) (step (command.Free k) s).state × ((step (command.Free k) s).state.grants ≡ s.grants)
  free_agrees k x e u w' f =
      let l = live_at k x e in
      let sp = l.spot in
      let r = named_spot g.labels (place_at (f.before ++ f.left) f.block (f.right ++ f.after)) (sym g.view ∙ f.blocks ∙ simp append_assoc) in
      let place = same_some (named_place sp) (named_place r.0)
      (sym l.named ∙ ap (λ y. place_of y v.blocks) (sym f.named ∙ sym (ap (λ (p : Place). p.block.name) r.2)) ∙ place_of_spot v w r.0 (g.view ∙ ap names r.1)) ∙ r.2 in
      let front = map_parts by_name sp.before f.before f.left (ap (λ (p : Place). p.before) place) in
      let back = map_parts by_name sp.after f.right f.after (ap (λ (p : Place). p.after) place) in
      let free = free_named front.1 back.0 (subst (AllByRecursion (λ b. b.used ≡ false)) (sym (ap₂ (λ y z. y ++ z) front.4 back.3)) f.free) in
      let sizes : units (names front.1 ++ (by_name sp.label ∷ names back.0)) ≡ total (tags front.1) + sp.label.size + total (tags back.0) =
      omega (arith, units-append (names front.1) (by_name sp.label ∷ names back.0), total_units front.1, total_units back.0) in
      let same : SameSpace (replace v (names front.0) (names (front.1 ++ (sp.label ∷ back.0))) (free_block x (total (tags front.1) + sp.label.size + total (tags back.0)) ∷ []) (names back.1)) u =
      search (arith, names, front, tags, back, map-append, by_name, sizes, place) in
      let later : name_of k sp.after ≡ None = search (arith, name_none, count, tags, l, map-append, by_tag, count-append, hit, hit_self) in
      let handles : (j : ℕ) → without_name k kept_name j ≡ option_or (name_of j sp.before) (name_of j sp.after) = λ j. search (arith, cases_eq, eq-eqb, name_of, l, later, ne_eqb, name_append) in
      let agrees = coalesced_agrees u w' sp.before front.0 front.1 (sp.label ∷ []) sp.after back.0 back.1 x sp.label.size v.size l.split front.2 back.2 free.0 free.1 same (without_name k kept_name)
      handles machine.Freed in
      subst (λ (o : Option machine.Place). ((machine.release s o).answer ≡ machine.Freed) × HasBlocksOf u (without_name k kept_name) (machine.release s o).state
      × ((machine.release s o).state.grants ≡ s.grants)) (sym l.placed) (refl, agrees, refl)

  -- more units at the end
  added_agrees : (more : ℕ) (u : View) → IsWellFormed u → Adds more v u → HasBlocksOf u kept_name (leaves s (machine.coalesce s.blocks more (stamp_of_call s) []) machine.Extended).state
  added_agrees more u w' f =
      let p = map_parts by_name g.labels f.before f.last (sym g.view ∙ f.blocks) in
      let free = (free_named p.1 [] (subst (AllByRecursion (λ b. b.used ≡ false)) (sym (append-nil (names p.1) ∙ p.4)) f.free)).0 in
      let sizes : units (names p.1) + more ≡ total (tags p.1) + more + 0 = omega (arith, total_units p.1) in
      let same : SameSpace (record (replace v (names p.0) (names (p.1 ++ [])) (free_block f.name (total (tags p.1) + more + 0) ∷ []) []) { size = v.size + more }) u =
      search (arith, names, p, append-nil, sizes) in
      subst (λ bs. HasBlocksOf u kept_name (leaves s (machine.coalesce bs more (stamp_of_call s) []) machine.Extended).state) (sym g.state)
      (coalesced_agrees u w' g.labels p.0 p.1 [] [] [] [] f.name more (v.size + more) (sym (append-nil g.labels)) p.2 refl free tt same kept_name (λ j. g.handles j ∙ sym (or_none _)) machine.Extended)

  -- when the machine refuses to extend
  abbrev is_refused : ℕ → Bool
  is_refused more = nat_lt max_size (total s.blocks + more) || (machine.ends_live s.blocks && machine.is_short_of 1 s)

  extendable : (more : ℕ) → CanExtend more v → is_refused more ≡ false
  extendable more c = ap₂ (λ (x y : Bool). x || y) (le-ltb max_size (total s.blocks + more) (let a = c.0 in let e = same_units in let f = w.whole in omega arith)) (elim c.1 [
    | inl room ↦ ap (λ (b : Bool). machine.ends_live s.blocks && b) (has_room 1 room) ∙ and_right (machine.ends_live s.blocks) false refl
    | inr l ↦
        let r = map_parts by_name g.labels l.0 (l.1 ∷ []) (sym g.view ∙ l.2) in
        let h = map_first by_name r.1 l.1 [] r.4 in
        ap (λ (b : Bool). b && machine.is_short_of 1 s)
        (ap machine.ends_live (g.state ∙ ap tags (r.2 ∙ ap (λ z. r.0 ++ z) (h.2 ∙ ap (λ z. h.0 ∷ z) (nil_from_length h.1 (sym (length-map h.1 by_name) ∙ ap length h.4))))) ∙ ends_live_last r.0 h.0
        ∙ ap not (not-false _ (ap (λ (b : Block). b.used) h.3 ∙ l.3)))
  ])

  can_extend : (more : ℕ) → is_refused more ≡ false → CanExtend more v
  can_extend more e = (
    (let l = ltb-false max_size (total s.blocks + more) (or_parts _ _ e).0 in let f = same_units in let h = w.whole in omega arith),
    go (machine.ends_live s.blocks) refl (or_parts _ _ e).1,
  )
    where
      go : (b : Bool) → machine.ends_live s.blocks ≡ b → (b && machine.is_short_of 1 s) ≡ false
          → AdmitsBlocks 1 v ⊎ ((before : List Block) × (last : Block) × (v.blocks ≡ before ++ last ∷ []) × (last.used ≡ false))
      go true f h = inl (room_for 1 h)
      go false f h = search (arith, last_free, length, length-map, by_name, names, map-append, not)

  pub extend_agrees : (more : ℕ) (u : View) (done : Bool) → IsWellFormed u → Extends more v u done
      → ((step (command.Extend more) s).answer ≡ (if done then machine.Extended else machine.Refused)) × HasBlocksOf u kept_name (step (command.Extend more) s).state
      × ((step (command.Extend more) s).state.grants ≡ s.grants)
  extend_agrees zero u true w' (inl z) = (refl, agrees_but v u kept_name _ z.1 (agrees_quiet v kept_name s g machine.Extended), refl)
  extend_agrees zero u true w' (inr h) = absurd (let l = h.0 in omega arith)
  extend_agrees zero u false w' h = absurd (let l = h.0 in omega arith)
  extend_agrees (suc more) u true w' (inl z) = absurd (let l = z.0 in omega arith)
  extend_agrees (suc more) u true w' (inr h) = search (arith, extendable, added_agrees)
  extend_agrees (suc more) u false w' h = search (arith, agrees_but, agrees_quiet, can_extend)

  -- questions
  same_sizes : machine.free_sizes s.blocks ≡ named.free_sizes v.blocks
  same_sizes = ap machine.free_sizes g.state ∙ free_sizes_labels g.labels ∙ sym (ap named.free_sizes g.view)

  pub report_agrees : (step command.Report s).answer ≡ machine.Report (named.reported_free v) (named.reported_largest v)
  report_agrees = search (arith, if_same, same_length, same_sizes, g.limit, sum)

  pub full_agrees : (step command.Full s).answer ≡ machine.Full (rows_below 256 (named.free_sizes v.blocks))
  full_agrees = ap (λ ns. machine.Full (rows_below 256 ns)) same_sizes

-- other names for the same handles
pub agrees_kept : (v : View) (kept_name kept_name' : ℕ → Option ℕ) (s : State) → ((k : ℕ) → kept_name' k ≡ kept_name k) → HasBlocksOf v kept_name s → HasBlocksOf v kept_name' s
agrees_kept v kept_name kept_name' s e g = record { labels = g.labels; view = g.view; state = g.state; limit = g.limit; newest = g.newest; handles = λ k. e k ∙ g.handles k }

-- one free block and no grants
pub alone_agrees : (v : View) (x size stamp : ℕ) (kept_name : ℕ → Option ℕ) (s : State) → v.blocks ≡ free_block x size ∷ [] → v.bins ≡ push_all (free_block x size ∷ []) (replicate 256 [])
    → s.limit ≡ v.max_allocs → s.blocks ≡ machine.block size (Free stamp) ∷ []
    → ((k : ℕ) → kept_name k ≡ None) → HasBlocksOf v kept_name s
alone_agrees v x size stamp kept_name s blocks bins limit state none =
    let l : Label = record { name = x; size = size; tag = Free stamp } in
    let f = λ (y : ℕ). stamp_of y (l ∷ []) in
    let pushed : (c : ℕ) → IsFalling f (bin_at (push_all (free_block x size ∷ []) (replicate 256 [])) c) = λ c. elim (cases_eq c (down size)) [
      | inl e ↦ subst (λ d. IsFalling f (bin_at (push_all (free_block x size ∷ []) (replicate 256 [])) d)) (sym e)
          (subst (IsFalling f) (sym (names_same (replicate 256 []) (down size) _ (length-replicate {A = List ℕ} 256 []) (down_small size)))
          (subst (λ l. IsFalling f (x ∷ l)) (sym (none_at (down size))) ((λ y m. absurd (omega arith)), tt)))
      | inr n ↦ subst (IsFalling f) (sym (names_other (replicate 256 []) (down size) c _ n ∙ none_at c)) tt
    ] in
    let newest = λ (c : ℕ). subst (λ o. IsFalling f (bin_at o c)) (sym bins) (pushed c) in
    record { labels = l ∷ []; view = blocks; state = state; limit = limit; newest = newest; handles = none }
