-- Where a grant would begin: one offset, and that of the plain machine.
use Rattle.offset_allocator.proofs.{Moving.Begins.begins_still, Sound.well_unused, Taken.HasFit, Taken.fitting, Taken.taken, Refusals.fit_small}
use Rattle.offset_allocator.specs.{Moving.Relocating.WouldBegin, Classes.up, Classes.down, Requests.CanGrant, View.max_size, View.padding_to}
use Rattle.offset_calls.proofs.Common.{◌≡◌, ℕ, zero, suc, ◌+◌, ◌-◌, ◌<◌, ◌≤◌, ◌&&◌, Bool, true, false, not, List, [], ◌∷◌, Option, Some, None, nat_lt, if◌then◌else◌, refl, sym}
use Rattle.offset_calls.proofs.Common.{ap, ap₂, subst, subst₂, ◌∙◌, inl, inr, arith, cases_lt, lt-leb, le-leb, le-ltb, true≢false, map-append}
use Rattle.offset_calls.proofs.Common.{View, Place, bin_at, units, blocks_needed, units_needed, IsWellFormed, AdmitsBlocks, State, is_free, total, chosen_place, is_short_of, fits, Reply, Answer, Offset}
use Rattle.offset_script.specs.Agreement.{HasBlocksOf, by_tag}
use Rattle.offset_script.proofs.{Agreed.has_room, Agreed.room_for, Labels.tags, Chosen.named_spot, Found.not_chosen, Members.IsIn, Members.in_right, Well.IsWell}
use Rattle.offset_script.specs.Machine as machine
use Rattle.offset_calls.specs.{Calls.begin_of, Steps.IsBegin, Steps.begins_at}
use Rattle.offset_calls.proofs.Relocated.{IsLeast, least, unused, fit_of, begins_there}
use Rattle.std.specs.Prelude.{◌↔◌, IsSome}

-- ---- one offset

begins_from : (v : View) → IsWellFormed v → (n c : ℕ) → AdmitsBlocks 1 v → IsLeast v.bins (up n) c → (xs : List ℕ) → bin_at v.bins c ≡ xs → (o : ℕ) × WouldBegin n v o
begins_from v w n c room least [] e = absurd (least.1 e)
begins_from v w n c room least (x ∷ xs) e =
    let t = taken v w c x xs e in (
      units t.place.before,
      record {
        before = t.place.before;
        block = t.place.block;
        after = t.place.after;
        blocks = t.list_is;
        room = room;
        fits = omega (arith, t.class, least.0);
        smallest = λ k l m. least.2 k l (omega (arith, m, t.class));
        older = xs;
        newest = ap (bin_at v.bins) t.class ∙ e ∙ ap (λ (z : ℕ). z ∷ xs) (sym t.name);
        begins = refl;
      },
    )

-- a request that can be granted would begin somewhere
begins_somewhere : (v : View) → IsWellFormed v → (n : ℕ) → AdmitsBlocks 1 v → HasFit n v → (o : ℕ) × WouldBegin n v o
begins_somewhere v w n room h = let l = least v.bins (h.0 - up n) (up n) h.0 (omega (arith, h.1)) h.2 in begins_from v w n l.0 room l.1 (bin_at v.bins l.0) refl

pub same_begin : (v : View) → IsWellFormed v → (n align : ℕ) → 1 ≤ align → (b b' : Option ℕ) → IsBegin n align v b → IsBegin n align v b' → b ≡ b'
same_begin v w n align some None None h k = refl
same_begin v w n align some None (Some x) h k = let f = h.0.1 (k.0.0 refl) in absurd (cc)
same_begin v w n align some (Some x) None h k = let f = k.0.1 (h.0.0 refl) in absurd (cc)
same_begin v w n align some (Some x) (Some y) h k =
    let can = h.0.0 refl in
    let o = begins_somewhere v w (units_needed n align) (let room = can.0 in omega (arith, room, some)) can.1 in
    h.1 o.0 can o.1 ∙ sym (k.1 o.0 can o.1)

-- however many accesses were counted
pub begin_counted : (n align : ℕ) (v : View) (k : ℕ) (b : Option ℕ) → IsBegin n align (record v { accesses = k }) b → IsBegin n align v b
begin_counted n align v k b h = (h.0, λ o can begun. h.1 o can (begins_still (units_needed n align) o v v.unused k begun))

-- ---- the plain machine

module _ (v : View) (kept_name : ℕ → Option ℕ) (s : State) (w : IsWellFormed v) (ws : IsWell s) (g : HasBlocksOf v kept_name s) where
  -- where some bin is large enough, the machine chooses a block
  pub some_chosen : (n : ℕ) → HasFit n v → chosen_place n s.blocks ≡ None → ⊥
  some_chosen n h e =
      let p = fitting n v w h in
      let r = named_spot g.labels p.0 (sym g.view ∙ p.1) in
      let there : IsIn (by_tag r.0.label) (tags g.labels) = subst (λ xs. IsIn (by_tag r.0.label) (tags xs)) (sym r.1)
      (subst (IsIn (by_tag r.0.label)) (sym (map-append by_tag r.0.before (r.0.label ∷ r.0.after))) (in_right (by_tag r.0.label) (tags r.0.before) (tags (r.0.label ∷ r.0.after)) (inl refl))) in
      let size : up n ≤ down r.0.label.size = subst (λ z. up n ≤ down z) (sym (ap (λ (q : Place). q.block.size) r.2)) p.3 in
      let fit : fits n (by_tag r.0.label) ≡ true = ap₂ (λ a b. a && b) (free (is_free r.0.label.tag) (ap (λ (q : Place). q.block.used) r.2 ∙ p.2)) (le-leb (up n) (down r.0.label.size) size) in
      true≢false (sym fit ∙ not_chosen n s.blocks e (by_tag r.0.label) (subst (IsIn (by_tag r.0.label)) (sym g.state) there))
    where
      free : (t : Bool) → not t ≡ false → t ≡ true
      free true e = refl
      free false e = absurd (true≢false e)

  -- that block is the one at which the grant would begin
  begins_here : (n : ℕ) → is_short_of 1 s ≡ false → (p : machine.Place) → chosen_place n s.blocks ≡ Some p → (o : ℕ) × WouldBegin n v o × (total p.before ≡ o)
  begins_here n e p f =
      -- which name a remainder takes changes nothing
      let y = unused v.max_allocs v.blocks (let room = room_for v kept_name s w ws g 1 e in omega (arith, room)) in
      let u = record v { unused = y.0 ∷ [] } in
      let r = begins_there u kept_name s (well_unused v (y.0 ∷ []) v.accesses w) ws
      (record { labels = g.labels; view = g.view; state = g.state; limit = g.limit; newest = g.newest; handles = g.handles }) n e p f y refl in
      let answer : machine.Grant (s.grants + 1) (total p.before + 0) ≡ machine.Grant (s.grants + 1) r.0 =
      sym (ap₂ (λ b c. (if b then machine.returns_only s machine.Refused else machine.grant_or_refuse s n (λ offset. 0) c).answer) e f) ∙ r.2 in
      let same : total p.before + 0 ≡ r.0 = cc in
      (r.0, begins_still n r.0 u v.unused v.accesses r.1, omega (arith, same))

  -- what is asked of a request
  abbrev IsAsked : ℕ → ℕ → (ℕ → ℕ) → Option ℕ → Type 0
  IsAsked k n pad b = (IsSome b ↔ CanGrant k n v) × ((o : ℕ) → CanGrant k n v → WouldBegin n v o → b ≡ Some (o + pad o))

  refused_too : (k n : ℕ) (b : Option ℕ) → (IsSome b ↔ CanGrant k n v) → (CanGrant k n v → ⊥) → begins_at b ≡ Answer machine.Refused
  refused_too k n None can none = refl
  refused_too k n (Some x) can none = absurd (none (can.0 refl))

  request_begins : (k n m : ℕ) (pad : ℕ → ℕ) → 1 ≤ k → (b : Option ℕ) → IsAsked k n pad b → begins_at b ≡ begin_of (machine.request s k n m pad).answer
  request_begins k n m pad some b h = go (is_short_of k s) refl (chosen_place n s.blocks) refl
    where
      asked : Bool → Option machine.Place → Reply
      asked x c = begin_of (if x then machine.returns_only s machine.Refused else machine.grant_or_refuse s m pad c).answer

      go : (x : Bool) → is_short_of k s ≡ x → (c : Option machine.Place) → chosen_place n s.blocks ≡ c → begins_at b ≡ asked (is_short_of k s) (chosen_place n s.blocks)
      go true e c f = refused_too k n b h.0 (λ can. true≢false (sym e ∙ has_room v kept_name s w ws g k can.0)) ∙ sym (ap (λ x. asked x (chosen_place n s.blocks)) e)
      go false e None f = refused_too k n b h.0 (λ can. some_chosen n can.1 f) ∙ sym (ap₂ asked e f)
      go false e (Some p) f =
          let room = room_for v kept_name s w ws g k e in
          let one : is_short_of 1 s ≡ false = has_room v kept_name s w ws g 1 (omega (arith, room, some)) in
          let o = begins_here n one p f in
          ap begins_at (h.1 o.0 (room, fit_of v kept_name s w ws g n p f) o.1) ∙ ap (λ (z : ℕ). Offset (z + pad z)) (sym o.2) ∙ sym (ap₂ asked e f)

  -- from a multiple of an alignment on
  module _ (n align : ℕ) (some : 1 ≤ align) (b : Option ℕ) (h : IsBegin n align v b) where
    abbrev asked_wide : Bool → machine.Outcome
    asked_wide x = if x then machine.returns_only s machine.Refused else machine.request s 2 (n + align - 1) n (padding_to align)

    abbrev asked_aligned : Bool → machine.Outcome
    asked_aligned x = if x then machine.allocate n s else asked_wide (nat_lt max_size (n + align - 1))

    -- an alignment of at most 1 asks for no padding
    no_padding : (align o : ℕ) → align ≤ 1 → padding_to align o ≡ 0
    no_padding zero o l = omega arith
    no_padding (suc zero) o l = omega arith
    no_padding (suc (suc k)) o l = absurd (omega arith)

    wide : 1 < align → (x : Bool) → nat_lt max_size (n + align - 1) ≡ x → begins_at b ≡ begin_of (asked_wide (nat_lt max_size (n + align - 1))).answer
    wide l true e = refused_too (blocks_needed align) (units_needed n align) b h.0
        (λ can. true≢false (sym e ∙ le-ltb max_size (n + align - 1) (omega (arith, fit_small (units_needed n align) v w can.1, w.fits)))) ∙ sym (ap (λ x. begin_of (asked_wide x).answer) e)
    wide l false e =
        let two : blocks_needed align ≡ 2 = omega (arith, l) in
        request_begins 2 (n + align - 1) n (padding_to align) (omega arith) b (subst (λ k. IsAsked k (units_needed n align) (padding_to align) b) two h) ∙ sym (ap (λ x. begin_of (asked_wide x).answer) e)

    narrow : align ≤ 1 → begins_at b ≡ begin_of (machine.allocate n s).answer
    narrow l =
        let one : blocks_needed align ≡ 1 = omega (arith, l, some) in
        let same : units_needed n align ≡ n = omega (arith, l, some) in
        let q : IsAsked 1 n (padding_to align) b = subst₂ (λ k m. IsAsked k m (padding_to align) b) one same h in
        request_begins 1 n n (λ offset. 0) (omega arith) b (q.0, λ o can begun. q.1 o can begun ∙ ap (λ z. Some (o + z)) (no_padding align o l))

    pub aligned_begins : begins_at b ≡ begin_of (machine.allocate_aligned n align s).answer
    aligned_begins = elim (cases_lt 1 align) [
      | inl l ↦ wide l (nat_lt max_size (n + align - 1)) refl ∙ sym (ap (λ x. begin_of (asked_aligned x).answer) (lt-leb align 1 l))
      | inr l ↦ narrow l ∙ sym (ap (λ x. begin_of (asked_aligned x).answer) (le-leb align 1 l))
    ]
