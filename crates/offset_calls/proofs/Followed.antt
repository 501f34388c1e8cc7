-- The steps of calls are those of the plain machine.
use Rattle.offset_allocator.specs.{Relations.SameState, declared.reports.Refusal.Refusal, Classes.value, Classes.up, Classes.down, Ranges.range_of, Resizing.Shrinks, Resizing.Grows}
use Rattle.offset_allocator.specs.{Resizing.Resizes, View.padding_to, Tight.CanHold, Tight.IsWhyTight, Reporting.Walking.live_before, Reporting.Walking.live_after, Moving.Relocating.Relocates}
use Rattle.offset_allocator.specs.Moving.Retracting.{Retracts, Cuts}
use Rattle.offset_calls.proofs.Common.{◌≡◌, ◌≢◌, ◌⊎◌, ℕ, zero, suc, ◌+◌, ◌-◌, ◌<◌, ◌≤◌, leb-false, Bool, true, false, not, ◌&&◌, List, [], ◌∷◌, length, sum, Option, Some, None, is_some, IfSome}
use Rattle.offset_calls.proofs.Common.{IsTrue, option_map, option_and_then, nat_eq, nat_lt, nat_le, if◌then◌else◌, refl, sym, ap, ap₂, subst, ◌∙◌, inl, inr, arith, eq-eqb, ne_eqb, le-leb, leb-true}
use Rattle.offset_calls.proofs.Common.{lt-ltb, le-ltb, cases_eq, cases_lt, true≢false, false≢true, and_parts, lt-leb, Nodes, TooLarge, Space, Fragmented, View, Handle, times, count_in_bin, bin_at}
use Rattle.offset_calls.proofs.Common.{units, IsWellFormed, AdmitsBlocks, IsWhy, size_needed, blocks_needed, units_needed, Range, size_of, kept_name, IfNamed, Stays, State, is_free, free_sizes, total}
use Rattle.offset_calls.proofs.Common.{chosen_place, is_short_of, fits, Call, Reply, Answer, AreNumbered, Resized, Offset, Outcome, can_shrink, can_grow, resize, resized, replies_only}
use Rattle.offset_calls.proofs.Common.{shortage, reason, offset_at, step, after, is_valid, compact, starts_free, Takes, IsReason}
use Rattle.offset_allocator.proofs.{Advice.free_within, Tallies.hit_cases}
use Rattle.offset_script.proofs.Agreed.{agrees_but, agrees_quiet, has_room, labelled, none_there, same_length, same_units}
use Rattle.offset_script.specs.Agreement.{Label, by_tag, IsAtState}
use Rattle.offset_script.proofs.{Chosen.none_chosen, Chosen.plain_place, Ends.free_sizes_labels, Ends.total_units, Labels.names, Members.IsIn}
use Rattle.offset_script.proofs.{Members.in_map, Found.not_chosen, Well.IsWell, Well.well_quiet, Well.well_step}
use Rattle.offset_script.proofs.{Chosen.named_place, Found.chosen_at, Lists.whole, Tests.same_some, Well.free_part_is, Well.well_grant}
use Rattle.std.specs.{Prelude.max, Option.option_or}
use Rattle.std.proofs.lemmas.Bool.{cond_both}
use Rattle.offset_calls.specs.{Steps.IsReasonTight, Steps.TakesTight, Calls.answered, Calls.Found, Calls.beside, Calls.remakes, Room.cheapest, Ending.begins_before}
use Rattle.offset_calls.specs.Calls as reply
use Rattle.offset_calls.specs.{Ending.relocate, Ending.can_retract, Ending.retracted, Steps.Finds}
use Rattle.offset_calls.specs.Tight.{holding_place, request_tight, allocate_tight, lack, reason_held, reason_tight}
use Rattle.offset_calls.specs.{AtOffset.allocate_at, Slides.slid_reply, Steps.TakesAt}
use Rattle.offset_calls.proofs.AtOffset.{at_agrees, well_at}
use Rattle.offset_calls.proofs.{Held.held_at, Filled.held_spot, Filled.held_there, Filled.there, Filled.tight_agrees, Rooms.well_room, Rooms.room_cost_is, Rooms.room_taken, Common.IsKept}
use Rattle.offset_calls.proofs.{Common.stamp_of_call, Beside.first_same, Beside.last_same, Beside.before_same, Beside.after_same, Relocated.relocated, Retracted.well_retract, Retracted.can_too}
use Rattle.offset_calls.proofs.{Retracted.can_there, Retracted.cut_agrees, Compacted.well_compact, Compacted.compact_agrees, Compacted.moves_are}
use Rattle.offset_allocator.specs.Moving.Relocating.{RelocatesAligned}
use Rattle.std.specs.Prelude.{min}
use Rattle.offset_calls.specs.Ending.{relocate_aligned}
use Rattle.offset_calls.proofs.{Relocated.relocated_aligned, Stepped.steps_taken, Stepped.well_steps}
use Rattle.offset_calls.proofs.Begun.{aligned_begins}
use Rattle.offset_calls.proofs.{RunsBySteps.room_cost_by_is, RoomsBySteps.room_by_taken, RoomsBySteps.well_room_by, Within.within_taken, Within.well_within}
use Rattle.offset_calls.specs.Ending as plain
use Rattle.offset_script.specs.declared.scripts.Command.TheVariants as command
use Rattle.offset_calls.proofs.Resized.{well_resized, found, spot, size_found, can_shrink_is, shrink_can, can_grow_is, grow_can, resized_agrees}
use Rattle.offset_allocator.specs.View as named
use Rattle.offset_script.specs.Machine as machine
use Rattle.offset_script.proofs.Simulation as script
use Rattle.offset_calls.specs.declared.calls.Call.TheVariants as call

-- the plain machine has this reply, and a view and handles represent the state that it leaves
abbrev pub Follows : Outcome → View → List (Option Handle) → Reply → Type 0
Follows o w left r = (r ≡ o.reply) × IsAtState w left o.state

-- what resizing does, by cases
resize_same : (can : machine.Place → Bool) (n : ℕ) (s : State) (p : machine.Place) → n ≡ p.block.size → resize can n s (Some p) ≡ replies_only s Resized
resize_same can n s p e = ap (λ b. if b then replies_only s Resized else if can p then resized n s p else replies_only s (Answer machine.Refused)) (eq-eqb n p.block.size e)

resize_done : (can : machine.Place → Bool) (n : ℕ) (s : State) (p : machine.Place) → n ≢ p.block.size → can p ≡ true → resize can n s (Some p) ≡ resized n s p
resize_done can n s p d c = ap₂ (λ b x. if b then replies_only s Resized else if x then resized n s p else replies_only s (Answer machine.Refused)) (ne_eqb n p.block.size d) c

resize_refused : (can : machine.Place → Bool) (n : ℕ) (s : State) (p : machine.Place) → n ≢ p.block.size → can p ≡ false
    → resize can n s (Some p) ≡ replies_only s (Answer machine.Refused)
resize_refused can n s p d c = ap₂ (λ b x. if b then replies_only s Resized else if x then resized n s p else replies_only s (Answer machine.Refused)) (ne_eqb n p.block.size d) c

abbrev reason_of : Bool → Bool → Refusal → Option Refusal
reason_of a b why = if a then Some Nodes else if b then None else Some why

not_true : (b : Bool) → (b ≡ true → ⊥) → b ≡ false
not_true true f = absurd (f refl)
not_true false f = refl

-- every state stays well-formed

well_resize : (s : State) → IsWell s → (k n : ℕ) (can : machine.Place → Bool) → ((p : machine.Place) → n ≢ p.block.size → can p ≡ true → (starts_free p.after ≡ true) ⊎ (is_short_of 1 s ≡ false))
    → (o : Option machine.Place) → machine.place_of k s.blocks ≡ o → IsWell (resize can n s o).state
well_resize s w k n can fit None e = well_quiet s w machine.Gone
well_resize s w k n can fit (Some p) e = go (can p) refl
  where
    go : (b : Bool) → can p ≡ b → IsWell (resize can n s (Some p)).state
    go b c = elim (cases_eq n p.block.size) [
      | inl same ↦ subst (λ (o : Outcome). IsWell o.state) (sym (resize_same can n s p same)) (well_quiet s w machine.Gone)
      | inr d ↦ other b c d
    ]
      where
        other : (b : Bool) → can p ≡ b → n ≢ p.block.size → IsWell (resize can n s (Some p)).state
        other true c d = subst (λ (o : Outcome). IsWell o.state) (sym (resize_done can n s p d c)) (well_resized s w k n p e (fit p d c))
        other false c d = subst (λ (o : Outcome). IsWell o.state) (sym (resize_refused can n s p d c)) (well_quiet s w machine.Gone)

shrink_fits : (s : State) (n : ℕ) (p : machine.Place) → n ≢ p.block.size → can_shrink n s p ≡ true → (starts_free p.after ≡ true) ⊎ (is_short_of 1 s ≡ false)
shrink_fits s n p d c = search (arith, nat_le, not, false≢true)

grow_fits : (s : State) (n : ℕ) (p : machine.Place) → n ≢ p.block.size → can_grow n p ≡ true → (starts_free p.after ≡ true) ⊎ (is_short_of 1 s ≡ false)
grow_fits s n p d c = search (arith, nat_le, and_parts, leb-true)

-- a request that takes any free block which holds it
module _ (s : State) (w : IsWell s) (spare needed n align : ℕ) (enough : (o x : ℕ) → length (machine.free_part (padding_to align o) x) + 1 ≤ spare) where
  -- a place that it takes is that of a free block
  tight_place : (c h : Option machine.Place) → chosen_place needed s.blocks ≡ c → holding_place n align 0 s.blocks ≡ h → (p : machine.Place) → option_or c h ≡ Some p
      → (s.blocks ≡ whole p) × (is_free p.block.tag ≡ true)
  tight_place (Some q) h e f p is =
      let at = chosen_at needed s.blocks q e in
      subst (λ (q : machine.Place). (s.blocks ≡ whole q) × (is_free q.block.tag ≡ true)) (same_some q p is) (at.0, (and_parts _ _ at.1).0)
  tight_place None (Some q) e f p is =
      let at = held_at n align s.blocks q f in
      subst (λ (q : machine.Place). (s.blocks ≡ whole q) × (is_free q.block.tag ≡ true)) (same_some q p is) (at.0, (and_parts _ _ at.1).0)
  tight_place None None e f p is = absurd (cc)

  well_granted : length s.blocks + spare < s.limit → (o : Option machine.Place) → option_or (chosen_place needed s.blocks) (holding_place n align 0 s.blocks) ≡ o
      → IsWell (machine.grant_or_refuse s n (padding_to align) o).state
  well_granted room None e = well_quiet s w machine.Refused
  well_granted room (Some p) e =
      let at = tight_place _ _ refl refl p e in
      well_grant s w n (padding_to align (total p.before)) p at.0 at.1 spare room (enough _ _)

  well_request : IsWell (request_tight s spare needed n align).state
  well_request = cond_both (is_short_of spare s) _ _ (λ (o : machine.Outcome). IsWell o.state) (λ e. well_quiet s w machine.Refused)
      (λ e. well_granted (leb-false s.limit (length s.blocks + spare) e) _ refl)

well_tight : (s : State) → IsWell s → (n align : ℕ) → IsWell (allocate_tight n align s).state
well_tight s w n align = cond_both (nat_le align 1) _ _ (λ (o : machine.Outcome). IsWell o.state)
    (λ e. well_request s w 1 n n align (λ o x. subst (λ m. length (machine.free_part m x) + 1 ≤ 1) (sym (no_padding align o (leb-true align 1 e))) (omega arith)))
    (λ e. well_request s w 2 (n + align - 1) n align (λ o x. let h = (free_part_is (padding_to align o) x).3 in omega arith))
  where
    -- an alignment of at most 1 asks for no padding
    no_padding : (align o : ℕ) → align ≤ 1 → padding_to align o ≡ 0
    no_padding zero o l = omega arith
    no_padding (suc zero) o l = omega arith
    no_padding (suc (suc k)) o l = absurd (omega arith)

-- a second grant
well_relocate : (s : State) → IsWell s → (o : Option machine.Place) → IsWell (relocate s o).state
well_relocate s w None = well_quiet s w machine.Gone
well_relocate s w (Some p) = cond_both (begins_before (total p.before) (machine.allocate p.block.size s).answer) _ _ (λ (o : machine.Outcome). IsWell o.state)
    (λ e. well_step (command.Alloc p.block.size) s w) (λ e. well_quiet s w machine.Refused)

well_relocate_aligned : (s : State) → IsWell s → (align : ℕ) (o : Option machine.Place) → IsWell (relocate_aligned align s o).state
well_relocate_aligned s w align None = well_quiet s w machine.Gone
well_relocate_aligned s w align (Some p) =
    cond_both (begins_before (total p.before) (machine.allocate (p.block.size + align - 1) s).answer) _ _ (λ (o : machine.Outcome). IsWell o.state)
    (λ e. well_step (command.Align p.block.size align) s w) (λ e. well_quiet s w machine.Refused)

pub well_call : (c : Call) (s : State) → IsWell s → IsWell (step c s).state
well_call (call.Command c) s w = well_step c s w
well_call (call.Shrink k n) s w = well_resize s w k n (can_shrink n s) (λ p d c. shrink_fits s n p d c) (machine.place_of k s.blocks) refl
well_call (call.Grow k n) s w = well_resize s w k n (can_grow n) (λ p d c. grow_fits s n p d c) (machine.place_of k s.blocks) refl
well_call call.Compact s w = well_compact s w
well_call (call.CompactBy n) s w = well_steps s w n
well_call (call.CompactWithin n from u m) s w = well_within s w n from u m
well_call (call.AllocateTight n) s w = well_tight s w n 1
well_call (call.AllocateTightAligned n align) s w = well_tight s w n align
well_call (call.AllocateAt offset n) s w = well_at s w offset n
well_call (call.MakeRoom n) s w = well_room s w (value (up n)) (cheapest (value (up n)) s.blocks) refl
well_call (call.MakeRoomBy n align m) s w = well_room_by s w m (value (up (n + align - 1))) (min align 2)
well_call (call.Relocate k) s w = well_relocate s w (machine.place_of k s.blocks)
well_call (call.RelocateAligned k align) s w = well_relocate_aligned s w align (machine.place_of k s.blocks)
well_call (call.Retract n) s w = well_retract s w n
well_call other s w = well_quiet s w machine.Gone

pub well_calls : (cs : List Call) (s : State) → IsWell s → IsWell (after cs s)
well_calls [] s w = w
well_calls (c ∷ cs) s w = well_calls cs _ (well_call c s w)

module _ (v w : View) (hs left : List (Option Handle)) (r : Reply) (s : State) (formed : IsWellFormed w) (ws : IsWell s) (p : IsAtState v hs s) where
  -- a call that leaves all as it is
  stays : (o : Outcome) (x : Reply) → o ≡ replies_only s x → SameState v w → left ≡ hs → r ≡ x → Follows o w left r
  stays o x e same f is = search (arith, agrees_but, agrees_quiet)

  quiet : (o : Outcome) (x : Reply) → o ≡ replies_only s x → Stays v hs w left → r ≡ x → Follows o w left r
  quiet o x e e' is = stays o x e (e'.0 ∙ ap (λ (z : View). record v { accesses = z.accesses }) (sym e'.0)) e'.1 is

  -- a range that is resized, or is not
  module _ (k x n : ℕ) (e : kept_name hs k ≡ Some x) where
    at : machine.place_of k s.blocks ≡ Some (plain_place (spot v (kept_name hs) s p.formed ws p.agrees k x e))
    at = (found v (kept_name hs) s p.formed ws p.agrees k x e).placed

    sized : size_of x v ≡ (spot v (kept_name hs) s p.formed ws p.agrees k x e).label.size
    sized = size_found v (kept_name hs) s p.formed ws p.agrees k x e

    resize_same_size : (can : machine.Place → Bool) → n ≡ size_of x v → SameState v w → left ≡ hs → r ≡ Resized → Follows (resize can n s (machine.place_of k s.blocks)) w left r
    resize_same_size can same space f is = stays _ Resized (ap (resize can n s) at ∙ resize_same can n s _ (same ∙ sized)) space f is

    resize_refuses : (can : machine.Place → Bool) → n ≢ size_of x v → (can (plain_place (spot v (kept_name hs) s p.formed ws p.agrees k x e)) ≡ true → ⊥) → SameState v w → left ≡ hs
        → r ≡ Answer machine.Refused
        → Follows (resize can n s (machine.place_of k s.blocks)) w left r
    resize_refuses can d none space f is = stays _ (Answer machine.Refused) (ap (resize can n s) at ∙ resize_refused can n s _ (λ z. d (z ∙ sym sized)) (not_true _ none)) space f is

    resize_changes : (can : machine.Place → Bool) → n ≢ size_of x v → can (plain_place (spot v (kept_name hs) s p.formed ws p.agrees k x e)) ≡ true → Resizes x n v w → left ≡ hs → r ≡ Resized
        → Follows (resize can n s (machine.place_of k s.blocks)) w left r
    resize_changes can d c t f is =
        let agrees = resized_agrees v (kept_name hs) s p.formed ws p.agrees k x e n w formed (λ z. d (z ∙ sym sized)) t in
        subst (λ (o : Outcome). Follows o w left r) (sym (ap (resize can n s) at ∙ resize_done can n s _ (λ z. d (z ∙ sym sized)) c))
        (is, subst (λ l. IsAtState w l (resized n s (plain_place (spot v (kept_name hs) s p.formed ws p.agrees k x e))).state) (sym f) (record { formed = formed; agrees = agrees; grants = p.grants }))

    shrinks : (done : Bool) → Shrinks x n v w done → left ≡ hs → r ≡ (if done then Resized else Answer machine.Refused) → Follows (step (call.Shrink k n) s) w left r
    shrinks true (inl t) f is = resize_same_size (can_shrink n s) t.0 t.1 f is
    shrinks true (inr t) f is = resize_changes (can_shrink n s) (λ z. let l = t.0 in omega arith) (can_shrink_is v (kept_name hs) s p.formed ws p.agrees k x e n t.0 t.1) t.2 f is
    shrinks false t f is = resize_refuses (can_shrink n s) (λ z. t.0 (omega arith, λ l. absurd (omega arith))) (λ c. t.0 (shrink_can v (kept_name hs) s p.formed ws p.agrees k x e n c)) t.1 f is

    grows : (done : Bool) → Grows x n v w done → left ≡ hs → r ≡ (if done then Resized else Answer machine.Refused) → Follows (step (call.Grow k n) s) w left r
    grows true (inl t) f is = resize_same_size (can_grow n) t.0 t.1 f is
    grows true (inr t) f is = resize_changes (can_grow n) (λ z. let l = t.0 in omega arith) (can_grow_is v (kept_name hs) s p.formed ws p.agrees k x e n t.1) t.2 f is
    grows false t f is = resize_refuses (can_grow n) (λ z. t.0 (omega arith, omega arith)) (λ c. t.0 (grow_can v (kept_name hs) s p.formed ws p.agrees k x e n c)) t.1 f is

    -- where the range begins
    range_found : range_of x v
        ≡ Some (record { offset = units (names (spot v (kept_name hs) s p.formed ws p.agrees k x e).before); size = (spot v (kept_name hs) s p.formed ws p.agrees k x e).label.size })
    range_found = search (arith, spot, option_and_then, found, not, names)

    offset_found : (o : ℕ) → option_map (λ (q : Range). q.offset) (range_of x v) ≡ Some o → Offset o ≡ offset_at (machine.place_of k s.blocks)
    offset_found o h = search (arith, names, spot, option_map, range_found, total_units, at)

  -- by the number of a grant
  gone_there : (k : ℕ) → kept_name hs k ≡ None → machine.place_of k s.blocks ≡ None
  gone_there k e = none_there v (kept_name hs) s p.formed ws p.agrees k e

  shrink_step : (k n : ℕ) (o : Option ℕ) → kept_name hs k ≡ o
      → IfNamed o (λ x. (done : Bool) × Shrinks x n v w done × (left ≡ hs) × (r ≡ (if done then Resized else Answer machine.Refused))) (Stays v hs w left × (r ≡ Answer machine.Gone))
      → Follows (step (call.Shrink k n) s) w left r
  shrink_step k n None e t = quiet _ (Answer machine.Gone) (ap (resize (can_shrink n s) n s) (gone_there k e)) t.0 t.1
  shrink_step k n (Some x) e t = shrinks k x n e t.0 t.1 t.2 t.3

  grow_step : (k n : ℕ) (o : Option ℕ) → kept_name hs k ≡ o
      → IfNamed o (λ x. (done : Bool) × Grows x n v w done × (left ≡ hs) × (r ≡ (if done then Resized else Answer machine.Refused)))
      (Stays v hs w left × (r ≡ Answer machine.Gone)) → Follows (step (call.Grow k n) s) w left r
  grow_step k n None e t = quiet _ (Answer machine.Gone) (ap (resize (can_grow n) n s) (gone_there k e)) t.0 t.1
  grow_step k n (Some x) e t = grows k x n e t.0 t.1 t.2 t.3

  offset_step : (k : ℕ) (o : Option ℕ) → kept_name hs k ≡ o → IfNamed o (λ x. (o : ℕ) × (option_map (λ (q : Range). q.offset) (range_of x v) ≡ Some o) × (r ≡ Offset o)) (r ≡ Answer machine.Gone)
      → r ≡ offset_at (machine.place_of k s.blocks)
  offset_step k None e t = t ∙ sym (ap offset_at (gone_there k e))
  offset_step k (Some x) e t = t.2 ∙ offset_found k x 0 e t.0 t.1

  -- why a request is refused

  -- a name in a bin is that of a free block of its class
  listed : (c x : ℕ) (ls : List Label) → 1 ≤ count_in_bin c x (names ls) → (l : Label) × IsIn l ls × (is_free l.tag ≡ true) × (c ≡ down l.size)
  listed c x [] h = absurd (omega arith)
  listed c x (l ∷ ls) h = search (arith, (listed c x ls), names, not, nat_eq, cases_eq, ne_eqb)

  some_chosen : (n : ℕ) → (c : ℕ) × (up n ≤ c) × (bin_at v.bins c ≢ []) → is_some (chosen_place n s.blocks) ≡ true
  some_chosen n h = go (chosen_place n s.blocks) refl
    where
      first : (xs : List ℕ) → xs ≢ [] → (x : ℕ) × (1 ≤ times x xs)
      first [] d = absurd (d refl)
      first (x ∷ xs) d = (x, elim (hit_cases x x) [ inl i ↦ omega (arith, i.1) | inr i ↦ absurd (i.0 refl) ])

      x : (x : ℕ) × (1 ≤ times x (bin_at v.bins h.0))
      x = first (bin_at v.bins h.0) h.2

      l : (l : Label) × IsIn l p.agrees.labels × (is_free l.tag ≡ true) × (h.0 ≡ down l.size)
      l = listed h.0 x.0 p.agrees.labels (let o = p.formed.binned h.0 x.0 in let q = x.1 in let z = ap (count_in_bin h.0 x.0) p.agrees.view in omega arith)

      fit : fits n (by_tag l.0) ≡ true
      fit = ap₂ (λ a b. a && b) l.2 (le-leb (up n) (down l.0.size) (let a = h.1 in let b = l.3 in omega arith))

      go : (o : Option machine.Place) → chosen_place n s.blocks ≡ o → is_some o ≡ true
      go (Some q) e = refl
      go None e = absurd (true≢false (sym fit ∙ not_chosen n s.blocks e (by_tag l.0) (subst (IsIn (by_tag l.0)) (sym p.agrees.state) (in_map by_tag l.0 p.agrees.labels l.1))))

  same_free : sum (free_sizes s.blocks) ≡ sum (named.free_sizes v.blocks)
  same_free = ap sum (ap free_sizes p.agrees.state ∙ free_sizes_labels p.agrees.labels ∙ sym (ap named.free_sizes p.agrees.view))

  short : (k : ℕ) → v.max_allocs ≤ length v.blocks + k → is_short_of k s ≡ true
  short k h = le-leb s.limit (length s.blocks + k) (let e = p.agrees.limit in let f = same_length v (kept_name hs) s p.formed ws p.agrees in omega arith)

  reason_is : (blocks n : ℕ) (why : Option Refusal) → IsReason blocks n v why → why ≡ reason blocks n s
  reason_is blocks n why t = go why refl
    where
      none : AdmitsBlocks blocks v → why ≢ None → is_some (chosen_place n s.blocks) ≡ false
      none room d = ap is_some (ap (chosen_place n) p.agrees.state ∙ none_chosen v p.formed p.agrees.labels (labelled v (kept_name hs) s p.formed ws p.agrees) n (λ h. d (t.0.1 (room, h))))

      some : (x : Refusal) → why ≡ Some x → why ≢ None
      some x e f = let z : Some x ≡ None = sym e ∙ f in cc

      here : Refusal
      here = shortage n (total s.blocks) (sum (free_sizes s.blocks))

      size_is : total s.blocks ≡ v.size
      size_is = sym (same_units v (kept_name hs) s p.formed ws p.agrees) ∙ p.formed.whole

      is_why : (x : Refusal) → why ≡ Some x → IsWhy blocks n v x
      is_why x e = subst (λ o. IfSome o (IsWhy blocks n v)) e t.1

      is_short : (x : Refusal) → why ≡ Some x → AdmitsBlocks blocks v → here ≡ x → why ≡ reason blocks n s
      is_short x e room is =
          e ∙ sym (ap (λ a. reason_of a (is_some (chosen_place n s.blocks)) here) (has_room v (kept_name hs) s p.formed ws p.agrees blocks room)
          ∙ ap₂ (reason_of false) (none room (some x e)) is)

      go : (o : Option Refusal) → why ≡ o → why ≡ reason blocks n s
      go None e = let c = t.0.0 e in e ∙ sym (ap₂ (λ a b. reason_of a b here) (has_room v (kept_name hs) s p.formed ws p.agrees blocks c.0) (some_chosen n c.1))
      go (Some Nodes) e = e ∙ sym (ap (λ a. reason_of a (is_some (chosen_place n s.blocks)) here) (short blocks (is_why Nodes e)))
      go (Some TooLarge) e =
          let h = is_why TooLarge e in
          is_short TooLarge e h.0
          (ap (λ b. if b then TooLarge else if nat_lt (sum (free_sizes s.blocks)) (size_needed n) then Space else Fragmented)
          (lt-ltb (total s.blocks) (value (up n)) (let f = size_is in let l = h.1 in omega arith)))
      go (Some Space) e =
          let h = is_why Space e in
          is_short Space e h.0 (ap₂ (λ a b. if a then TooLarge else if b then Space else Fragmented)
          (le-ltb (total s.blocks) (value (up n)) (let f = size_is in let l = h.1 in omega arith))
          (lt-ltb (sum (free_sizes s.blocks)) (size_needed n) (let f = same_free in let l = h.2 in omega arith)))
      go (Some Fragmented) e =
          let h = is_why Fragmented e in
          let l = free_within v p.formed in
          is_short Fragmented e h.0 (ap₂ (λ a b. if a then TooLarge else if b then Space else Fragmented)
          (le-ltb (total s.blocks) (value (up n)) (let f = size_is in let m = h.1 in omega arith))
          (le-ltb (sum (free_sizes s.blocks)) (size_needed n) (let f = same_free in let m = h.1 in omega arith)))

  -- why a request is refused that takes any free block which holds it
  held_can : (n align : ℕ) (q : machine.Place) → holding_place n align 0 s.blocks ≡ Some q → AdmitsBlocks (blocks_needed align) v → CanHold n align v
  held_can n align q e room =
      let r = held_spot v p.formed p.agrees.labels (labelled v (kept_name hs) s p.formed ws p.agrees) n align q (sym (ap (holding_place n align 0) p.agrees.state) ∙ e) in
      (room, (named_place r.0, there v p.formed p.agrees.labels (labelled v (kept_name hs) s p.formed ws p.agrees) n align r.0 r.1, ap not r.3, r.4))

  none_found : (n align : ℕ) → (CanHold n align v → ⊥) → AdmitsBlocks (blocks_needed align) v → (o : Option machine.Place) → holding_place n align 0 s.blocks ≡ o → is_some o ≡ false
  none_found n align none room None e = refl
  none_found n align none room (Some q) e = absurd (none (held_can n align q e room))

  tight_reason_is : (n align : ℕ) (why : Option Refusal) → IsReasonTight n align v why → why ≡ reason_held (blocks_needed align) n align s
  tight_reason_is n align why t = go why refl
    where
      here : Refusal
      here = lack n (total s.blocks) (sum (free_sizes s.blocks))

      size_is : total s.blocks ≡ v.size
      size_is = sym (same_units v (kept_name hs) s p.formed ws p.agrees) ∙ p.formed.whole

      is_why : (x : Refusal) → why ≡ Some x → IsWhyTight n align v x
      is_why x e = subst (λ o. IfSome o (IsWhyTight n align v)) e t.1

      refuses : (x : Refusal) → why ≡ Some x → CanHold n align v → ⊥
      refuses x e c = let f : Some x ≡ None = sym e ∙ t.0.1 c in cc

      lacks : (x : Refusal) → why ≡ Some x → AdmitsBlocks (blocks_needed align) v → here ≡ x → why ≡ reason_held (blocks_needed align) n align s
      lacks x e room is =
          e ∙ sym (ap (λ a. reason_of a (is_some (holding_place n align 0 s.blocks)) here) (has_room v (kept_name hs) s p.formed ws p.agrees (blocks_needed align) room)
          ∙ ap₂ (reason_of false) (none_found n align (refuses x e) room _ refl) is)

      -- a block that holds it is found
      some_found : CanHold n align v → is_some (holding_place n align 0 s.blocks) ≡ true
      some_found c = other (holding_place n align 0 s.blocks) refl
        where
          other : (o : Option machine.Place) → holding_place n align 0 s.blocks ≡ o → is_some o ≡ true
          other (Some q) e = refl
          other None e = absurd (true≢false (sym (held_there v p.formed p.agrees.labels (labelled v (kept_name hs) s p.formed ws p.agrees) n align c.1.0 c.1.1 c.1.2 c.1.3)
              ∙ ap is_some (sym (ap (holding_place n align 0) p.agrees.state) ∙ e)))

      go : (o : Option Refusal) → why ≡ o → why ≡ reason_held (blocks_needed align) n align s
      go None e =
          let c = t.0.0 e in
          e ∙ sym (ap₂ (λ a b. reason_of a b here) (has_room v (kept_name hs) s p.formed ws p.agrees (blocks_needed align) c.0) (some_found c))
      go (Some Nodes) e = e ∙ sym (ap (λ a. reason_of a (is_some (holding_place n align 0 s.blocks)) here) (short (blocks_needed align) (is_why Nodes e)))
      go (Some TooLarge) e =
          let h = is_why TooLarge e in
          lacks TooLarge e h.0 (ap (λ b. if b then TooLarge else if nat_lt (sum (free_sizes s.blocks)) (max 1 n) then Space else Fragmented)
          (lt-ltb (total s.blocks) n (let f = size_is in let l = h.1 in omega arith)))
      go (Some Space) e =
          let h = is_why Space e in
          lacks Space e h.0 (ap₂ (λ a b. if a then TooLarge else if b then Space else Fragmented)
          (le-ltb (total s.blocks) n (let f = size_is in let l = h.1 in omega arith))
          (lt-ltb (sum (free_sizes s.blocks)) (max 1 n) (let f = same_free in let l = h.2 in omega arith)))
      go (Some Fragmented) e =
          let h = is_why Fragmented e in
          let l = free_within v p.formed in
          lacks Fragmented e h.0 (ap₂ (λ a b. if a then TooLarge else if b then Space else Fragmented)
          (le-ltb (total s.blocks) n (let f = size_is in let m = h.1 in omega arith))
          (le-ltb (sum (free_sizes s.blocks)) (max 1 n) (let f = same_free in let m = h.1 in omega arith)))

  spare_is : (n align : ℕ) → 1 ≤ align → reason_held (blocks_needed align) n align s ≡ reason_tight n align s
  spare_is n align some = elim (cases_lt 1 align) [
    | inl l ↦ ap (λ k. reason_held k n align s) (let e : blocks_needed align ≡ 2 = omega arith in e ∙ sym (ap (λ b. if b then 1 else 2) (lt-leb align 1 l)))
    | inr l ↦ ap (λ k. reason_held k n align s) (let e : blocks_needed align ≡ 1 = omega arith in e ∙ sym (ap (λ b. if b then 1 else 2) (le-leb align 1 l)))
  ]

  tight_step : (n align : ℕ) → 1 ≤ align → TakesTight n align v hs w left r → Follows (answered (allocate_tight n align s)) w left r
  tight_step n align some t =
      let m = tight_agrees v (kept_name hs) s p.formed ws p.agrees n align some w formed t.0 t.2 in
      let f = script.requested v w hs left t.1 s formed ws p (allocate_tight n align s) t.0 m t.3 in
      (t.4 ∙ ap Answer f.0, f.1)

  at_step : (offset n : ℕ) → TakesAt offset n v hs w left r → Follows (answered (allocate_at offset n s)) w left r
  at_step offset n t =
      let m = at_agrees v (kept_name hs) s p.formed ws p.agrees offset n w formed t.0 t.2 in
      let f = script.requested v w hs left t.1 s formed ws p (allocate_at offset n s) t.0 m t.3 in
      (t.4 ∙ ap Answer f.0, f.1)

  tight_reason_step : (n align : ℕ) → 1 ≤ align → (why : Option Refusal) → IsReasonTight n align v why → r ≡ reply.Refusal why → r ≡ reply.Refusal (reason_tight n align s)
  tight_reason_step n align some why t e = e ∙ ap reply.Refusal (tight_reason_is n align why t ∙ spare_is n align some)

  aligned_reason : (n align : ℕ) → 1 ≤ align → reason (blocks_needed align) (units_needed n align) s ≡ (if nat_le align 1 then reason 1 n s else reason 2 (n + align - 1) s)
  aligned_reason n align some = elim (cases_lt 1 align) [
    | inl l ↦ ap (λ k. reason k (units_needed n align) s) (let e : blocks_needed align ≡ 2 = omega arith in e)
        ∙ sym (ap (λ b. if b then reason 1 n s else reason 2 (n + align - 1) s) (lt-leb align 1 l))
    | inr l ↦ ap₂ (λ k m. reason k m s) (let e : blocks_needed align ≡ 1 = omega arith in e) (let e : units_needed n align ≡ n = omega arith in e)
        ∙ sym (ap (λ b. if b then reason 1 n s else reason 2 (n + align - 1) s) (le-leb align 1 l))
  ]

  -- calls at the end of the space
  relocate_step : (k : ℕ) (o : Option ℕ) → kept_name hs k ≡ o
      → IfNamed o (λ x. (g : Option Handle) × (a : machine.Answer) × Relocates x v w g × IsKept g hs left a × (r ≡ Answer a)) (Stays v hs w left × (r ≡ Answer machine.Gone))
      → Follows (step (call.Relocate k) s) w left r
  relocate_step k None e t = quiet _ (Answer machine.Gone) (ap (λ o. answered (relocate s o)) (gone_there k e)) t.0 t.1
  relocate_step k (Some x) e t = relocated v w hs left r s formed ws p k x e t.0 t.1 t.2 t.3 t.4

  relocate_aligned_step : (k align : ℕ) → 1 ≤ align → (o : Option ℕ) → kept_name hs k ≡ o
      → IfNamed o (λ x. (g : Option Handle) × (a : machine.Answer) × RelocatesAligned x align v w g × IsKept g hs left a × (r ≡ Answer a)) (Stays v hs w left × (r ≡ Answer machine.Gone))
      → Follows (step (call.RelocateAligned k align) s) w left r
  relocate_aligned_step k align least None e t = quiet _ (Answer machine.Gone) (ap (λ o. answered (relocate_aligned align s o)) (gone_there k e)) t.0 t.1
  relocate_aligned_step k align least (Some x) e t = relocated_aligned v w hs left r s formed ws p k x e align least t.0 t.1 t.2 t.3 t.4

  retract_if : (n : ℕ) (b : Bool) → can_retract n s.blocks ≡ b
      → step (call.Retract n) s ≡ (if b then remakes s (retracted n (stamp_of_call s) s.blocks) Resized else replies_only s (Answer machine.Refused))
  retract_if n b e = ap (λ b. if b then remakes s (retracted n (stamp_of_call s) s.blocks) Resized else replies_only s (Answer machine.Refused)) e

  cut_step : (n : ℕ) → 1 ≤ n → Cuts n v w → left ≡ hs → r ≡ Resized → Follows (step (call.Retract n) s) w left r
  cut_step zero some t f is = absurd (omega arith)
  cut_step (suc n) some t f is =
      let agrees = cut_agrees v (kept_name hs) s p.formed ws p.agrees (suc n) w formed t machine.Freed in
      subst (λ (o : Outcome). Follows o w left r) (sym (retract_if (suc n) true (can_there v (kept_name hs) s p.formed ws p.agrees (suc n) w formed t)))
      (is, subst (λ l. IsAtState w l (remakes s (retracted (suc n) (stamp_of_call s) s.blocks) Resized).state) (sym f) (record { formed = formed; agrees = agrees; grants = p.grants }))

  retract_step : (n : ℕ) (done : Bool) → Retracts n v w done → left ≡ hs → r ≡ (if done then Resized else Answer machine.Refused) → Follows (step (call.Retract n) s) w left r
  retract_step n true (inl t) f is = stays _ Resized (ap (λ m. step (call.Retract m) s) t.0 ∙ retract_if 0 true (le-leb 0 (machine.units_at_end s.blocks) (omega arith))) t.1 f is
  retract_step n true (inr t) f is = cut_step n t.0 t.1 f is
  retract_step n false t f is = stays _ (Answer machine.Refused)
      (retract_if n false (not_true _ (λ e. t.1 (can_too v (kept_name hs) s p.formed ws p.agrees n t.0 e)))) t.2 f is

  before_step : (k : ℕ) (o : Option ℕ) → kept_name hs k ≡ o → IfNamed o (λ x. Finds hs (live_before x v) r) (r ≡ Answer machine.Gone)
      → r ≡ beside plain.live_before (machine.place_of k s.blocks)
  before_step k None e t = t ∙ sym (ap (beside plain.live_before) (gone_there k e))
  before_step k (Some x) e t = t.2 ∙ ap Found (before_same v hs s p.formed ws p.agrees k x e t.0 t.1) ∙ sym (ap (beside plain.live_before) (at k x 0 e))

  after_step : (k : ℕ) (o : Option ℕ) → kept_name hs k ≡ o → IfNamed o (λ x. Finds hs (live_after x v) r) (r ≡ Answer machine.Gone)
      → r ≡ beside plain.live_after (machine.place_of k s.blocks)
  after_step k None e t = t ∙ sym (ap (beside plain.live_after) (gone_there k e))
  after_step k (Some x) e t = t.2 ∙ ap Found (after_same v hs s p.formed ws p.agrees k x e t.0 t.1) ∙ sym (ap (beside plain.live_after) (at k x 0 e))

  -- the plain machine follows each call
  pub follows : (c : Call) → IsTrue (is_valid c) → Takes c v hs w left r → Follows (step c s) w left r
  follows (call.Command c) valid t = let f = script.follows v w hs left t.0 s formed ws p c valid t.1 in (t.2 ∙ ap Answer f.0, f.1)
  follows (call.Shrink k n) valid t = shrink_step k n (kept_name hs k) refl t
  follows (call.Grow k n) valid t = grow_step k n (kept_name hs k) refl t
  follows call.Compact valid t =
      let agrees = compact_agrees v (kept_name hs) s p.agrees w t.0.2.0 in
      let moved = moves_are v hs s p.formed ws p.agrees t.0.3 (subst (λ xs. AreNumbered hs xs t.0.3) t.0.2.2 t.0.4) in
      (t.0.5 ∙ ap₂ slid_reply t.0.2.1 moved, subst (λ l. IsAtState w l (compact s).state) (sym t.1) (record { formed = formed; agrees = agrees; grants = p.grants }))
  follows (call.CompactBy n) valid t = steps_taken v w hs left r s formed ws p n t.1 t.0
  follows (call.CompactWithin n from u m) valid t = within_taken v w hs left r s formed ws p t.1 n from u m t.0
  follows (call.Offset k) valid t = quiet _ _ refl t.0 (offset_step k (kept_name hs k) refl t.1)
  follows (call.Refusal n) valid t = quiet _ _ refl t.0 (t.1.2 ∙ ap reply.Refusal (reason_is 1 n t.1.0 t.1.1))
  follows (call.RefusalAligned n align) valid t = quiet _ _ refl t.0
      (t.1.2 ∙ ap reply.Refusal (reason_is (blocks_needed align) (units_needed n align) t.1.0 t.1.1 ∙ aligned_reason n align (leb-true 1 align valid)))
  follows (call.AllocateTight n) valid t = tight_step n 1 (omega arith) t
  follows (call.AllocateTightAligned n align) valid t = tight_step n align (leb-true 1 align valid) t
  follows (call.AllocateAt offset n) valid t = at_step offset n t
  follows (call.RefusalTight n) valid t = quiet _ _ refl t.0 (tight_reason_step n 1 (omega arith) t.1.0 t.1.1 t.1.2)
  follows (call.RefusalTightAligned n align) valid t = quiet _ _ refl t.0 (tight_reason_step n align (leb-true 1 align valid) t.1.0 t.1.1 t.1.2)
  follows (call.WouldBegin n align) valid t = quiet _ _ refl t.0 (t.2.2 ∙ aligned_begins v (kept_name hs) s p.formed ws p.agrees n align t.1 t.2.0 t.2.1)
  follows (call.MakeRoom n) valid t = room_taken v w hs left r s formed ws p t.1 n t.0
  follows (call.MakeRoomBy n align m) valid t = room_by_taken v w hs left r s formed ws p t.1 n align m t.0
  follows (call.RoomCostBy n align m) valid t = quiet _ _ refl t.0
      (t.1.2 ∙ ap reply.RoomCost (room_cost_by_is v (kept_name hs) s p.formed ws p.agrees m (value (up (units_needed n align))) (blocks_needed align) t.1.0 t.1.1))
  follows (call.RoomCost n) valid t = quiet _ _ refl t.0 (t.1.2 ∙ ap reply.RoomCost (room_cost_is v w hs left r s formed ws p t.0.1 (value (up n)) t.1.0 t.1.1))
  follows (call.Relocate k) valid t = relocate_step k (kept_name hs k) refl t
  follows (call.RelocateAligned k align) valid t = relocate_aligned_step k align t.0 (kept_name hs k) refl t.1
  follows (call.Retract n) valid t = retract_step n t.0 t.1 t.2 t.3
  follows call.FirstLive valid t = quiet _ _ refl t.0 (t.1.2 ∙ ap Found (first_same v hs s p.formed ws p.agrees t.1.0 t.1.1))
  follows call.LastLive valid t = quiet _ _ refl t.0 (t.1.2 ∙ ap Found (last_same v hs s p.formed ws p.agrees t.1.0 t.1.1))
  follows (call.LiveBefore k) valid t = quiet _ _ refl t.0 (before_step k (kept_name hs k) refl t.1)
  follows (call.LiveAfter k) valid t = quiet _ _ refl t.0 (after_step k (kept_name hs k) refl t.1)
