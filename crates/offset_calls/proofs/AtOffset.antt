-- A request for the units from an offset on takes the same block on the plain machine.
use Rattle.offset_calls.proofs.Common.{◌≡◌, ℕ, zero, suc, ◌+◌, ◌-◌, ◌≤◌, Bool, true, false, not, ◌&&◌, List, [], ◌∷◌, ◌++◌, length, Option, Some, None, nat_le, if◌then◌else◌}
use Rattle.offset_calls.proofs.Common.{refl, sym, ap, ap₂, subst, subst₂, ◌∙◌, arith, le-leb, lt-leb, leb-true, leb-false, and_parts, map-append, length-append, Block, Place, View, Handle, units}
use Rattle.offset_calls.proofs.Common.{IsWellFormed, AdmitsBlocks, State, Tag, Live, Free, is_free, total, is_short_of, stamp_of_padding, placed}
use Rattle.std.specs.Prelude.{max, min}
use Rattle.std.proofs.lemmas.Bool.{cond_both, not-false}
use Rattle.offset_allocator.specs.{Classes.down, AtOffset.AllocatesAt, AtOffset.BeginAfter, AtOffset.CanGrantAt, AtOffset.GrantsAt, AtOffset.IsFreeAt}
use Rattle.offset_allocator.specs.AtOffset as named
use Rattle.offset_script.specs.Agreement.{Label, by_tag, HasBlocksOf}
use Rattle.offset_script.proofs.{Agreed.IsMatch, Agreed.agrees_but, Agreed.agrees_quiet, Agreed.has_room, Agreed.room_for}
use Rattle.offset_script.proofs.{Chosen.Spot, Chosen.whole, Chosen.named_spot, Chosen.plain_spot, Chosen.named_place, Chosen.plain_place, Chosen.names_whole, Ends.total_units, Labels.names, Labels.tags}
use Rattle.offset_script.proofs.{Lists.count, Well.IsOld, Well.IsWell, Well.free_part_is, Well.well_grant, Well.well_quiet}
use Rattle.offset_script.proofs.Lists as lists
use Rattle.offset_script.specs.Machine as machine
use Rattle.offset_calls.specs.AtOffset.{later, last_place, blocks_added, can_take, request_at, allocate_at}
use Rattle.offset_calls.proofs.Filled.{brought_agrees}

-- ---- the last free block that begins at an offset or before
module _ (offset : ℕ) where
  -- a place that is found is that of a free block, which begins there or before
  abbrev IsLastAt : ℕ → List machine.Block → Option machine.Place → Type 0
  IsLastAt o bs None = Unit {0}
  IsLastAt o bs (Some p) = (bs ≡ lists.whole p) × (is_free p.block.tag ≡ true) × (o + total p.before ≤ offset)

  last_step : (o : ℕ) (b : machine.Block) (bs : List machine.Block) (r : Option machine.Place) → IsLastAt (o + b.size) bs r → (may : Bool) → (is_free b.tag && nat_le o offset) ≡ may
      → IsLastAt o (b ∷ bs) (later may b bs r)
  last_step o b bs (Some p) h may e = (ap (λ l. b ∷ l) h.0, h.1, omega (arith, h.2))
  last_step o b bs None h true e = (refl, (and_parts _ _ e).0, omega (arith, leb-true o offset (and_parts _ _ e).1))
  last_step o b bs None h false e = tt

  last_all : (o : ℕ) (bs : List machine.Block) → IsLastAt o bs (last_place offset o bs)
  last_all o [] = tt
  last_all o (b ∷ bs) = last_step o b bs _ (last_all (o + b.size) bs) _ refl

  last_at : (bs : List machine.Block) (p : machine.Place) → last_place offset 0 bs ≡ Some p → (bs ≡ lists.whole p) × (is_free p.block.tag ≡ true) × (total p.before ≤ offset)
  last_at bs p e = let h = subst (IsLastAt 0 bs) e (last_all 0 bs) in (h.0, h.1, omega (arith, h.2))

  -- the one is found after which there is none
  last_here : (o : ℕ) (xs : List machine.Block) (b : machine.Block) (ys : List machine.Block) → is_free b.tag ≡ true → o + total xs ≤ offset → last_place offset (o + total xs + b.size) ys ≡ None
      → last_place offset o (xs ++ b ∷ ys) ≡ Some (record { before = xs; block = b; after = ys })
  last_here o [] b ys f l none =
      let from : o + b.size ≡ o + total [] + b.size = omega arith in
      ap₂ (λ may r. later may b ys r) (ap₂ (λ x y. x && y) f (le-leb o offset (omega (arith, l)))) (ap (λ k. last_place offset k ys) from ∙ none)
  last_here o (x ∷ xs) b ys f l none =
      let from : o + x.size + total xs + b.size ≡ o + total (x ∷ xs) + b.size = omega arith in
      ap (later (is_free x.tag && nat_le o offset) x (xs ++ b ∷ ys)) (last_here (o + x.size) xs b ys f (omega (arith, l)) (ap (λ k. last_place offset k ys) from ∙ none))

  -- where no free block of a view begins there or before, none is found
  last_none : (o : ℕ) (ls : List Label) → BeginAfter offset (placed o (names ls)) → last_place offset o (tags ls) ≡ None
  last_none o [] h = refl
  last_none o (l ∷ ls) h = ap₂ (λ may r. later may (by_tag l) (tags ls) r) (may (is_free l.tag) refl) (last_none (o + l.size) ls h.1)
    where
      may : (b : Bool) → is_free l.tag ≡ b → (is_free l.tag && nat_le o offset) ≡ false
      may true e = ap₂ (λ x y. x && y) e (lt-leb o offset (h.0 (ap (λ (u : Bool). if not u then Some (record { name = l.name; offset = o }) else None) e)))
      may false e = ap (λ x. x && nat_le o offset) e

is_not : (b : Bool) → not b ≡ true → b ≡ false
is_not true e = sym e
is_not false e = refl

not_true : (b : Bool) → (b ≡ true → ⊥) → b ≡ false
not_true true f = absurd (f refl)
not_true false f = refl

-- ---- such a request on both sides
module _ (v : View) (kept_name : ℕ → Option ℕ) (s : State) (w : IsWellFormed v) (ws : IsWell s) (g : HasBlocksOf v kept_name s) (offset n : ℕ) where
  -- as many blocks are added
  same_added : (sp : Spot) → max 1 (blocks_added offset n (plain_place sp)) ≡ max 1 (named.blocks_added offset n (named_place sp))
  same_added sp = ap (λ m. max 1 (min 1 (offset - m) + min 1 (m + sp.label.size - (offset + n)))) (total_units sp.before)

  -- what the machine takes can be granted
  can : (sp : Spot) → g.labels ≡ whole sp → is_free sp.label.tag ≡ true → total (tags sp.before) ≤ offset → can_take offset n s (plain_place sp) ≡ true → CanGrantAt offset n v
  can sp e f l c =
      let parts = and_parts (nat_le (offset + n) (total (tags sp.before) + sp.label.size)) (not (is_short_of (max 1 (blocks_added offset n (plain_place sp))) s)) c in
      let same = total_units sp.before in
      let at : IsFreeAt offset n v = record {
        place = named_place sp;
        there = g.view ∙ ap names e ∙ names_whole sp;
        free = ap not f;
        holds = (omega (arith, same, l), omega (arith, same, leb-true (offset + n) (total (tags sp.before) + sp.label.size) parts.0));
      } in
      let room = room_for v kept_name s w ws g (max 1 (blocks_added offset n (plain_place sp))) (is_not _ parts.1) in
      record { at = at; room = subst (λ k. AdmitsBlocks k v) (same_added sp) room }

  -- a request that is refused
  refused_is : (CanGrantAt offset n v → ⊥) → (o : Option machine.Place) → last_place offset 0 s.blocks ≡ o → request_at offset n s o ≡ machine.returns_only s machine.Refused
  refused_is none None e = refl
  refused_is none (Some p) e =
      let h = last_at offset s.blocks p e in
      let r = plain_spot g.labels p (sym g.state ∙ h.0) in
      let free : is_free r.0.label.tag ≡ true = ap (λ (q : machine.Place). is_free q.block.tag) r.2 ∙ h.1 in
      let begins : total (tags r.0.before) ≤ offset = omega (arith, ap (λ (q : machine.Place). total q.before) r.2, h.2) in
      ap (λ b. if b then machine.grant s n (offset - total p.before) p else machine.returns_only s machine.Refused)
      (not_true (can_take offset n s p) (λ c. none (can r.0 r.1 free begins (ap (can_take offset n s) r.2 ∙ c))))

  -- one that is granted
  granted : (u : View) → IsWellFormed u → (r : Handle) → GrantsAt offset n v u r → IsMatch u kept_name s.grants (Some r) (allocate_at offset n s)
  granted u w' r a =
      let p = a.at.place in
      let h = named_spot g.labels p (sym g.view ∙ a.at.there) in
      let sp = h.0 in
      let free : is_free sp.label.tag ≡ true = not-false (is_free sp.label.tag) (ap (λ (q : Place). q.block.used) h.2 ∙ a.at.free) in
      let before : units (names sp.before) ≡ units p.before = ap (λ (q : Place). units q.before) h.2 in
      let size : sp.label.size ≡ p.block.size = ap (λ (q : Place). q.block.size) h.2 in
      let same : total (tags sp.before) ≡ units (names sp.before) = total_units sp.before in
      let from : units p.before + p.block.size ≡ 0 + total (tags sp.before) + sp.label.size = omega (arith, before, size, same) in
      let after : BeginAfter offset (placed (0 + total (tags sp.before) + sp.label.size) (names sp.after)) =
      subst₂ (λ m (bs : List Block). BeginAfter offset (placed m bs)) from (sym (ap (λ (q : Place). q.after) h.2)) a.last in
      let is : last_place offset 0 s.blocks ≡ Some (plain_place sp) =
      ap (last_place offset 0) (g.state ∙ ap tags h.1 ∙ map-append by_tag sp.before (sp.label ∷ sp.after))
      ∙ last_here offset 0 (tags sp.before) (by_tag sp.label) (tags sp.after) free (omega (arith, before, same, a.at.holds.0)) (last_none offset (0 + total (tags sp.before) + sp.label.size) sp.after after) in
      let added : max 1 (named.blocks_added offset n p) ≡ max 1 (blocks_added offset n (plain_place sp)) =
      sym (same_added sp ∙ ap (λ (q : Place). max 1 (named.blocks_added offset n q)) h.2) in
      let room : AdmitsBlocks (max 1 (blocks_added offset n (plain_place sp))) v = subst (λ k. AdmitsBlocks k v) added a.room in
      let takes : can_take offset n s (plain_place sp) ≡ true =
      ap₂ (λ x y. x && not y) (le-leb (offset + n) (total (tags sp.before) + sp.label.size) (omega (arith, before, size, same, a.at.holds.1)))
      (has_room v kept_name s w ws g (max 1 (blocks_added offset n (plain_place sp))) room) in
      let asked : allocate_at offset n s ≡ machine.grant s n (offset - total (tags sp.before)) (plain_place sp) =
      ap (request_at offset n s) is
      ∙ ap (λ b. if b then machine.grant s n (offset - total (tags sp.before)) (plain_place sp) else machine.returns_only s machine.Refused) takes in
      subst (IsMatch u kept_name s.grants (Some r)) (sym asked)
      (brought_agrees v kept_name s w ws g u w' n (down p.block.size) p.block.name (λ begin. offset - begin) sp h.1 (ap (λ (q : Place). q.block.name) h.2) free r a.split)

  -- the machine's request leaves what agrees, and has the same answer
  pub at_agrees : (u : View) → IsWellFormed u → (r : Option Handle) → AllocatesAt offset n v u r → IsMatch u kept_name s.grants r (allocate_at offset n s)
  at_agrees u w' None a = subst (IsMatch u kept_name s.grants None) (sym (refused_is a.0 _ refl))
      (record { answer = refl; agrees = agrees_but v u kept_name _ a.1 (agrees_quiet v kept_name s g machine.Refused); grants_after = refl })
  at_agrees u w' (Some r) a = granted u w' r a

-- ---- the state stays well-formed
part_length : (n x : ℕ) → length (machine.free_part n x) ≡ min 1 n
part_length zero x = omega arith
part_length (suc n) x = omega arith

module _ (s : State) (w : IsWell s) (offset n : ℕ) where
  -- the same state, under a larger limit
  abbrev wide : State
  wide = record s { limit = s.limit + 2 }

  old_wide : (t : Tag) → IsOld s t → IsOld wide t
  old_wide (Live k) o = o
  old_wide (Free x) o = o

  well_wide : IsWell wide
  well_wide = record { some = w.some; apart = w.apart; once = w.once; old = λ t c. old_wide t (w.old t c); room = omega (arith, w.room) }

  module _ (p : machine.Place) (there : s.blocks ≡ lists.whole p) (free : is_free p.block.tag ≡ true) (begins : total p.before ≤ offset) where
    abbrev padding : ℕ
    padding = offset - total p.before

    abbrev left : machine.State
    left = (machine.grant s n padding p).state

    abbrev left_wide : machine.State
    left_wide = (machine.grant wide n padding p).state

    old_left : (t : Tag) → IsOld left_wide t → IsOld left t
    old_left (Live k) o = o
    old_left (Free x) o = o

    length_left : length left.blocks ≡ length p.before + (min 1 padding + (1 + (min 1 (p.block.size - (padding + n)) + length p.after)))
    length_left =
        let front = machine.free_part padding (stamp_of_padding s) in
        let rest = machine.free_part (p.block.size - (padding + n)) (machine.stamp_of_call s) in
        let live = machine.block n (Live (s.grants + 1)) in
        omega (
          arith,
          length-append p.before (front ++ (live ∷ (rest ++ p.after))),
          length-append front (live ∷ (rest ++ p.after)),
          length-append rest p.after,
          part_length padding (stamp_of_padding s),
          part_length (p.block.size - (padding + n)) (machine.stamp_of_call s),
        )

    well_taken : can_take offset n s p ≡ true → IsWell left
    well_taken c =
        let parts = and_parts (nat_le (offset + n) (total p.before + p.block.size)) (not (is_short_of (max 1 (blocks_added offset n p)) s)) c in
        let holds = leb-true (offset + n) (total p.before + p.block.size) parts.0 in
        let room = leb-false s.limit (length s.blocks + max 1 (blocks_added offset n p)) (is_not _ parts.1) in
        let enough = (free_part_is padding (stamp_of_padding wide)).3 in
        let k = well_grant wide well_wide n padding p there free 2 (omega (arith, w.room)) (omega (arith, enough)) in
        record {
          some = k.some;
          apart = k.apart;
          once = k.once;
          old = λ t m. old_left t (k.old t m);
          room = omega (arith, length_left, holds, begins, room, ap length there, length-append p.before (p.block ∷ p.after));
        }

  well_asked : (o : Option machine.Place) → last_place offset 0 s.blocks ≡ o → IsWell (request_at offset n s o).state
  well_asked None e = well_quiet s w machine.Refused
  well_asked (Some p) e =
      let h = last_at offset s.blocks p e in
      cond_both (can_take offset n s p) _ _ (λ (o : machine.Outcome). IsWell o.state) (λ c. well_taken p h.0 h.1 h.2 c) (λ c. well_quiet s w machine.Refused)

  pub well_at : IsWell (allocate_at offset n s).state
  well_at = well_asked (last_place offset 0 s.blocks) refl
