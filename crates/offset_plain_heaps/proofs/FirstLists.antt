-- Which plain list a request goes to.
use Rattle.std.proofs.Common.{◌≡◌, ℕ, ◌+◌, ◌-◌, ◌<◌, ◌≤◌, true, false, Option, Some, None, IfSome, Ok, Err, length, nat_le, if◌then◌else◌, refl, sym, ap, subst, ◌∙◌, inl, inr, arith, ◌↔◌}
use Rattle.std.proofs.lemmas.Bool.{cases_eq, cases_lt, le-leb, lt-leb, lt-ltb, le-ltb, true≢false}
use Rattle.std.proofs.lemmas.List.{length-map}
use Rattle.offset_allocator.specs.{Requests.CanGrant, Requests.blocks_needed, Requests.units_needed, View.View, View.free_sizes, View.max_size, View.padding_to}
use Rattle.offset_allocator.specs.View as view
use Rattle.offset_allocator.proofs.{Views.ViewFits.largest_small}
use Rattle.offset_guarded.specs.Answers as tickets
use Rattle.offset_guarded.specs.Answers.{IsAdmitted}
use Rattle.offset_guarded.specs.Answers.Answer.{Requested}
use Rattle.offset_guarded.specs.Guard.{Guard, HasSerialLeft, Ticket, last_serial}
use Rattle.offset_script.specs.Machine.{State, Place, chosen_place, is_short_of, total}
use Rattle.offset_script.specs.Machine as machine
use Rattle.offset_script.specs.declared.scripts.Command.TheVariants as command
use Rattle.offset_script.proofs.{Agreed.aligned_agrees, Agreed.has_room, Well.IsWell}
use Rattle.offset_script.specs.Agreement.{HasBlocksOf}
use Rattle.offset_calls.specs.Calls.{Answer, step}
use Rattle.offset_calls.specs.PlainLists.{IsCall, IsPlain, Plays, is_no, while_left}
use Rattle.offset_calls.specs.declared.calls.Call.{Call as PlainCall}
use Rattle.offset_calls.specs.Tickets.{handle_of, handles_of}
use Rattle.offset_script.specs.Steps.{kept_name}
use Rattle.offset_allocator.specs.{View.Handle}
use Rattle.offset_calls.specs.declared.calls.Call.TheVariants as call
use Rattle.offset_calls.proofs.{Begun.some_chosen, PlainLists.plain_call, PlainLists.plain_raised, PlainLists.well}
use Rattle.offset_heaps.specs.Calls.{Allocates, AllocatesBy, AllocatesTight}
use Rattle.offset_heaps.specs.Heaps.{Heaps, GrantsBy, GrantsOld, IsFirstFit, IsNext, IsOfKind, IsWhyBy, MayEverFit, NoneFits, heap_at, raised_limit, room, room_of, slot, ticket_in, top_limit}
use Rattle.offset_heaps.specs.State.{IsHeapFormed, IsWellFormed}
use Rattle.offset_heaps.specs.declared.limits.Limits.{Limits}
use Rattle.offset_heaps.specs.declared.place.Granted.{Granted}
use Rattle.offset_heaps.specs.declared.refusal.Refusal.{Refusal}
use Rattle.offset_heaps.specs.declared.refusal.Refusal.TheVariants.{Empty, Full, Memory, TooLarge}
use Rattle.offset_heaps.proofs.{Numbers.slot_same, Rooms.room_grants, Rooms.room_left, Rooms.top_above, Rooms.top_usual}
use Rattle.offset_plain_heaps.specs.PlainHeaps.{ArePlain, GoesToTheFirst, IsPlainAt, WouldGrant, topped}
use Rattle.offset_plain_heaps.proofs.TightLists.{block_for, block_found, tight_at, tight_grants, tight_refuses}
use Rattle.offset_heaps.specs.Slots.{CanHoldIn}
use Rattle.offset_heaps.specs.Tight.{IsFirstHolding, NoneHolds}
use Rattle.offset_calls.specs.Tight.{holding_place}
use Rattle.offset_allocator.specs.Tight.{CanHold}
use Rattle.std.specs.Prelude.{Result, [], is_some}

-- ---- the plain machine
-- an aligned request as one request
aligned_is : (s : State) (n align : ℕ) → 1 ≤ align → (1 < align → units_needed n align ≤ max_size)
    → machine.step (command.Align n align) s ≡ machine.request s (blocks_needed align) (units_needed n align) n (if nat_le align 1 then (λ offset. 0) else padding_to align)
aligned_is s n align some small = elim (cases_lt 1 align) [
  | inl l ↦
      let b : blocks_needed align ≡ 2 = omega (arith, l) in
      rw (b, lt-leb align 1 l, le-ltb max_size (n + align - 1) (small l)) refl
  | inr m ↦
      let b : blocks_needed align ≡ 1 = omega (arith, m, some) in
      let u : units_needed n align ≡ n = omega (arith, m, some) in
      rw (b, u, le-leb align 1 m) refl
]

-- a request that finds a block, and one that finds none
found_answer : (s : State) (b needed n : ℕ) (padding_at : ℕ → ℕ) (p : Place) → is_short_of b s ≡ false → chosen_place needed s.blocks ≡ Some p
    → machine.request s b needed n padding_at ≡ machine.grant s n (padding_at (total p.before)) p
found_answer s b needed n padding_at p room chosen = rw (room, chosen) refl

-- under a larger limit a grant is the same
same_under : (s : State) (l m b needed n : ℕ) (padding_at : ℕ → ℕ) (k o : ℕ) → l ≤ m → (machine.request (record s { limit = l }) b needed n padding_at).answer ≡ machine.Grant k o
    → (machine.request (record s { limit = m }) b needed n padding_at).answer ≡ machine.Grant k o
same_under s l m b needed n padding_at k o most e = elim (cases_lt (length s.blocks + b) l) [
  | inl lt ↦ sym (same (chosen_place needed s.blocks) (lt-leb l (length s.blocks + b) lt) (lt-leb m (length s.blocks + b) (omega (arith, lt, most)))) ∙ e
  | inr full ↦ absurd (let no : machine.Refused ≡ machine.Grant k o = sym (short (le-leb l (length s.blocks + b) full)) ∙ e in cc)
]
  where
    short : nat_le l (length s.blocks + b) ≡ true → (machine.request (record s { limit = l }) b needed n padding_at).answer ≡ machine.Refused
    short h = rw h refl

    same : (p : Option Place) → nat_le l (length s.blocks + b) ≡ false → nat_le m (length s.blocks + b) ≡ false
        → (if nat_le l (length s.blocks + b) then machine.returns_only (record s { limit = l }) machine.Refused else machine.grant_or_refuse (record s { limit = l }) n padding_at p).answer
        ≡ (if nat_le m (length s.blocks + b) then machine.returns_only (record s { limit = m }) machine.Refused else machine.grant_or_refuse (record s { limit = m }) n padding_at p).answer
    same None h h' = rw (h, h') refl
    same (Some p) h h' = rw (h, h') refl

aligned_at : (s : State) (l m n align : ℕ) (k o : ℕ) → 1 ≤ align → l ≤ m → (step (call.Command (command.Align n align)) (record s { limit = l })).reply ≡ Answer (machine.Grant k o)
    → (step (call.Command (command.Align n align)) (record s { limit = m })).reply ≡ Answer (machine.Grant k o)
aligned_at s l m n align k o some most e = elim (cases_lt max_size (n + align - 1)) [
  | inr fits ↦ same (λ _. fits)
  | inl past ↦ elim (cases_lt 1 align) [
    | inr one ↦ same (λ more. omega (arith, more, one))
    | inl more ↦ absurd (let no : machine.Refused ≡ machine.Grant k o = sym (too_large past more) ∙ answer_of e in cc)
  ]
]
  where
    answer_of : {a b : machine.Answer} → Answer a ≡ Answer b → a ≡ b
    answer_of e = cc

    too_large : max_size < n + align - 1 → 1 < align → (machine.step (command.Align n align) (record s { limit = l })).answer ≡ machine.Refused
    too_large past more = rw (lt-leb align 1 more, lt-ltb max_size (n + align - 1) past) refl

    same : (1 < align → units_needed n align ≤ max_size) → (step (call.Command (command.Align n align)) (record s { limit = m })).reply ≡ Answer (machine.Grant k o)
    same small = ap Answer (ap (λ (o : machine.Outcome). o.answer) (aligned_is (record s { limit = m }) n align some small)
        ∙ same_under s l m (blocks_needed align) (units_needed n align) n (if nat_le align 1 then (λ offset. 0) else padding_to align) k o most
        (ap (λ (o : machine.Outcome). o.answer) (sym (aligned_is (record s { limit = l }) n align some small)) ∙ answer_of e))

-- a space and its list
module _ (v : View) (kept_name : ℕ → Option ℕ) (s : State) (w : view.IsWellFormed v) (ws : IsWell s) (g : HasBlocksOf v kept_name s) (n align : ℕ) (some : 1 ≤ align) where
  abbrev pad : ℕ → ℕ
  pad = if nat_le align 1 then (λ offset. 0) else padding_to align

  list_grants : units_needed n align ≤ max_size → CanGrant (blocks_needed align) (units_needed n align) v → is_no (step (call.Command (command.Align n align)) s).reply ≡ false
  list_grants small can = go (chosen_place (units_needed n align) s.blocks) refl
    where
      go : (o : Option Place) → chosen_place (units_needed n align) s.blocks ≡ o → is_no (step (call.Command (command.Align n align)) s).reply ≡ false
      go None e = absurd (some_chosen v kept_name s w ws g (units_needed n align) can.1 e)
      go (Some p) e = ap (λ (o : machine.Outcome). is_no (Answer o.answer))
          (aligned_is s n align some (λ _. small) ∙ found_answer s (blocks_needed align) (units_needed n align) n pad p (has_room v kept_name s w ws g (blocks_needed align) can.0) e)

  list_refuses : (CanGrant (blocks_needed align) (units_needed n align) v → ⊥) → is_no (step (call.Command (command.Align n align)) s).reply ≡ true
  list_refuses none = ap (λ a. is_no (Answer a)) (aligned_agrees v kept_name s w ws g n align some v w None (none, refl)).answer

-- ---- a heap and its list
abbrev Asks : ℕ → ℕ → Rattle.offset_calls.specs.declared.calls.Call.Call
Asks size align = call.Command (command.Align size align)

grants_given : (g : Guard) (s : State) → IsPlain g s → s.grants ≡ g.given
grants_given g s p = sym p.shows.grants ∙ length-map p.tickets (handle_of g) ∙ p.all.all

topped_is : (limits : Limits) (k : ℕ) (g : Guard) (s : State) → IsPlain g s → topped limits k s ≡ record s { limit = top_limit limits k g }
topped_is limits k g s p = elim (cases_lt k limits.most) [
  | inl l ↦ rw (lt-ltb k limits.most l) refl
  | inr m ↦ rw (le-ltb k limits.most m) (ap (λ n. record s { limit = n }) p.shows.agrees.limit)
]

module _ (limits : Limits) (k : ℕ) (g : Guard) (s : State) (size align : ℕ) (p : IsPlain g s) (formed : view.IsWellFormed g.space) (kind : IsOfKind limits k g) (one : 1 ≤ size) (some : 1 ≤ align) where
  abbrev top : ℕ
  top = top_limit limits k g

  abbrev raised : Guard
  raised = record g { space = record g.space { max_allocs = top; accesses = 0 } }

  under_top : IsPlain raised (record s { limit = top })
  under_top = plain_raised g s p top raised (top_above limits k g kind) refl

  grants : (units_needed size align ≤ room limits k (blocks_needed align) g) ↔ (HasSerialLeft g × CanGrant (blocks_needed align) (units_needed size align) raised.space)
  grants = room_grants limits k top (blocks_needed align) (units_needed size align) g raised formed refl ((λ x. x), (λ x. x)) (omega (arith, one, some))

  small : units_needed size align ≤ room limits k (blocks_needed align) g → units_needed size align ≤ max_size
  small fits = largest_small g.space formed formed.fits (units_needed size align) (omega (arith, one, some)) (room_left limits k (blocks_needed align) (units_needed size align) g (omega (arith, one, some)) fits).2

  would_grant : (units_needed size align ≤ room limits k (blocks_needed align) g) ↔ WouldGrant limits (Asks size align) k (Some s)
  would_grant = (
    λ fits.
        let can = grants.0 fits in (
          omega (arith, grants_given g s p, can.0),
          ap (λ t. is_no (step (Asks size align) t).reply) (topped_is limits k g s p)
              ∙ list_grants raised.space (kept_name (handles_of raised under_top.tickets)) (record s { limit = top }) under_top.shows.formed (well raised (record s { limit = top }) under_top) under_top.shows.agrees size align some (small fits) can.1,
        ),
    λ would. elim (cases_lt (room limits k (blocks_needed align) g) (units_needed size align)) [
      | inr fits ↦ fits
      | inl less ↦
          let none : CanGrant (blocks_needed align) (units_needed size align) raised.space → ⊥ = λ can. let fits = grants.1 (omega (arith, grants_given g s p, would.0), can) in omega (arith, less, fits) in
          let refused = list_refuses raised.space (kept_name (handles_of raised under_top.tickets)) (record s { limit = top }) under_top.shows.formed (well raised (record s { limit = top }) under_top) under_top.shows.agrees size align some none in
          absurd (true≢false (sym refused ∙ ap (λ t. is_no (step (Asks size align) t).reply) (sym (topped_is limits k g s p)) ∙ would.1))
    ],
  )

  -- a tight one
  would_hold : CanHoldIn limits k size align (Some g) ↔ WouldGrant limits (call.AllocateTightAligned size align) k (Some s)
  would_hold = (
    λ can. (
      omega (arith, grants_given g s p, can.0),
      ap (λ t. is_no (step (call.AllocateTightAligned size align) t).reply) (topped_is limits k g s p)
          ∙ tight_grants raised.space (kept_name (handles_of raised under_top.tickets)) (record s { limit = top }) under_top.shows.formed (well raised (record s { limit = top }) under_top) under_top.shows.agrees size align some (can.1, can.2),
    ),
    λ would. go (holding_place size align 0 s.blocks) refl would,
  )
    where
      refused : (CanHold size align raised.space → ⊥) → WouldGrant limits (call.AllocateTightAligned size align) k (Some s) → ⊥
      refused none would = true≢false (sym (tight_refuses raised.space (kept_name (handles_of raised under_top.tickets)) (record s { limit = top }) under_top.shows.formed (well raised (record s { limit = top }) under_top) under_top.shows.agrees size align some none)
          ∙ ap (λ t. is_no (step (call.AllocateTightAligned size align) t).reply) (sym (topped_is limits k g s p)) ∙ would.1)

      go : (o : Option Place) → holding_place size align 0 s.blocks ≡ o → WouldGrant limits (call.AllocateTightAligned size align) k (Some s) → CanHoldIn limits k size align (Some g)
      go None e would = absurd (refused (λ can. true≢false (sym (block_found raised.space (kept_name (handles_of raised under_top.tickets)) (record s { limit = top }) under_top.shows.formed (well raised (record s { limit = top }) under_top) under_top.shows.agrees size align some can.1) ∙ ap is_some e)) would)
      go (Some q) e would = elim (cases_lt (length g.space.blocks + blocks_needed align) top) [
        | inl room ↦ (omega (arith, grants_given g s p, would.0), room, block_for raised.space (kept_name (handles_of raised under_top.tickets)) (record s { limit = top }) under_top.shows.formed (well raised (record s { limit = top }) under_top) under_top.shows.agrees size align some q e)
        | inr full ↦ absurd (refused (λ can. let l = can.0 in omega (arith, l, full)) would)
      ]

-- of a number
abbrev IsSoundAt : Limits → ℕ → Option Guard → Type 0
IsSoundAt limits k o = IfSome o (λ g. view.IsWellFormed g.space × IsOfKind limits k g)

sound_at : (limits : Limits) (made k : ℕ) (o : Option Guard) → IsHeapFormed limits made k o → IsSoundAt limits k o
sound_at limits made k None f = tt
sound_at limits made k (Some g) f = (f.0.space, f.2)

would_at : (limits : Limits) (k size align : ℕ) (o : Option Guard) (l : Option State) → IsPlainAt o l → IsSoundAt limits k o → 1 ≤ size → 1 ≤ align
    → (units_needed size align ≤ room_of limits k (blocks_needed align) o) ↔ WouldGrant limits (Asks size align) k l
would_at limits k size align None None p sound one some = ((λ fits. absurd (omega (arith, fits, one, some))), λ no. absurd no)
would_at limits k size align None (Some s) p sound one some = absurd p
would_at limits k size align (Some g) None p sound one some = absurd p
would_at limits k size align (Some g) (Some s) p sound one some = would_grant limits k g s size align p sound.0 sound.1 one some

hold_at : (limits : Limits) (k size align : ℕ) (o : Option Guard) (l : Option State) → IsPlainAt o l → IsSoundAt limits k o → 1 ≤ size → 1 ≤ align
    → CanHoldIn limits k size align o ↔ WouldGrant limits (call.AllocateTightAligned size align) k l
hold_at limits k size align None None p sound one some = ((λ can. absurd can), λ no. absurd no)
hold_at limits k size align None (Some s) p sound one some = absurd p
hold_at limits k size align (Some g) None p sound one some = absurd p
hold_at limits k size align (Some g) (Some s) p sound one some = would_hold limits k g s size align p sound.0 sound.1 one some

-- ---- requests
-- no heap may be made where none may ever be large enough
next_may : (size k : ℕ) (hs : Heaps) → IsNext size k hs → MayEverFit size hs
next_may size k hs n = elim n.1 [ inl u ↦ inl u.0 | inr l ↦ inr (omega (arith, l.1)) ]

-- of a kind: a call of the plain machine, which one of tickets is, and what says that no heap serves it, or which is the first
module _ (c : PlainCall) (size align : ℕ) (hs ks : Heaps) (lists : ℕ → Option State) (formed : IsWellFormed hs) (formed' : IsWellFormed ks) (p : ArePlain hs lists) (NoneServes : Heaps → Type 0) (FirstServes : ℕ → Heaps → Type 0)
    (none : 1 ≤ size → NoneServes hs → (j : ℕ) → WouldGrant hs.limits c j (lists j) → ⊥)
    (first : 1 ≤ size → (k : ℕ) → FirstServes k hs → WouldGrant hs.limits c k (lists k) × ((j : ℕ) → j < k → WouldGrant hs.limits c j (lists j) → ⊥))
    (d : tickets.Call) (Call : Ticket → Guard → Guard → Type 0) (admitted : IsAdmitted d) (answers : (t : Ticket) (g h : Guard) → Call t g h → tickets.Answers d g h (Requested (Some t)) [])
    (left : (t : Ticket) (g h : Guard) → Call t g h → HasSerialLeft g) (is : (g : Guard) (o : Option PlainCall) → IsCall d g o → o ≡ while_left g c)
    (under : (s : State) (l m k o : ℕ) → l ≤ m → (step c (record s { limit = l })).reply ≡ Answer (machine.Grant k o) → (step c (record s { limit = m })).reply ≡ Answer (machine.Grant k o)) where
  -- what a heap grants its list does, under the same limit
  replied : (t : Ticket) (b h : Guard) (s : State) → IsPlain b s → view.IsWellFormed h.space → Call t b h → (step c s).reply ≡ Answer (machine.Grant t.serial t.offset)
  replied t b h s q known by =
      let x = plain_call b h s q known d (Requested (Some t)) [] admitted (answers t b h by) in
      let called : x.0 ≡ Some c = is b x.0 x.1 ∙ ap (λ z. if z then Some c else None) (lt-ltb b.given last_serial (left t b h by)) in
      (subst (λ o. Plays o b (Requested (Some t)) [] s x.2) called x.3).0

  module _ (g : Granted) (y : GrantsBy Call size align hs ks g) (not_new : g.is_new ≡ false) where
    abbrev k : ℕ
    k = g.place.heap

    now : heap_at k ks ≡ Some y.after
    now = ap (slot k) (ap (λ (h : Heaps). h.slots) y.heaps) ∙ slot_same hs.slots k (Some y.after) y.number

    known : view.IsWellFormed y.after.space
    known = (subst (IsSoundAt ks.limits k) now (sound_at ks.limits ks.made k (heap_at k ks) (formed'.heaps k))).0

    there : (l : Option State) (b : GrantsOld (Call (ticket_in g)) hs.limits k (blocks_needed align) (heap_at k hs) y.after) → IsPlainAt (Some b.was) l → IsSoundAt hs.limits k (Some b.was)
        → IfSome l (λ s. (step c (topped hs.limits k s)).reply ≡ Answer (machine.Grant g.place.serial g.offset))
    there None b q sound = tt
    there (Some s) b q sound = ap (λ t. (step c t).reply) (topped_is hs.limits k b.was s q) ∙ elim b.raised [
      | inl up ↦
          let most : b.was.space.max_allocs ≤ raised_limit hs.limits b.was = let l = up.0.1 in omega arith in
          under s (raised_limit hs.limits b.was) (top_limit hs.limits k b.was) g.place.serial g.offset (let t = top_usual hs.limits k b.was up.0.0 in omega arith)
          (replied (ticket_in g) b.before y.after (record s { limit = raised_limit hs.limits b.was }) (plain_raised b.was s q (raised_limit hs.limits b.was) b.before most up.1) known b.by)
      | inr kept ↦
          under s s.limit (top_limit hs.limits k b.was) g.place.serial g.offset (let e = q.shows.agrees.limit in let t = top_above hs.limits k b.was sound.1 in omega arith)
          (replied (ticket_in g) b.before y.after s (subst (λ z. IsPlain z s) (sym kept.1) q) known b.by)
    ]

    replies : IfSome (lists k) (λ s. (step c (topped hs.limits k s)).reply ≡ Answer (machine.Grant g.place.serial g.offset))
    replies = elim y.step [
      | inr n ↦ absurd (true≢false (sym n.0 ∙ not_new))
      | inl o ↦ there (lists k) o.1 (subst (λ z. IsPlainAt z (lists k)) o.1.heap (p k)) (subst (IsSoundAt hs.limits k) o.1.heap (sound_at hs.limits hs.made k (heap_at k hs) (formed.heaps k)))
    ]

  refuses : (w : Refusal) → IsWhyBy NoneServes FirstServes size align hs w → 1 ≤ size → (w ≡ Memory → ⊥) → ((j : ℕ) → WouldGrant hs.limits c j (lists j) → ⊥) × ((k : ℕ) → IsNext size k hs → ⊥)
  refuses Empty y one other = absurd (omega (arith, y, one))
  refuses TooLarge y one other = (none one y.0.1, λ k n. y.1 (next_may size k hs n))
  refuses Full y one other = (none one y.0.1, y.2)
  refuses Memory y one other = absurd (other refl)

  goes : (r : Result Granted Refusal) → AllocatesBy NoneServes FirstServes Call size align hs ks r → GoesToTheFirst c size hs lists r
  goes (Err why) x = record { found = tt; made = tt; refused = refuses why x.why }
  goes (Ok g) x =
      let one : 1 ≤ size = elim (cases_eq size 0) [ inl e ↦ absurd (let no = x.empty e in cc) | inr n ↦ omega (arith, n) ] in
      record {
        found = λ not_new. let f = first one g.place.heap (x.found not_new) in (f.0, f.1, replies g x.grants not_new);
        made = λ new. let m = x.made new in (none one m.0, m.1);
        refused = tt;
      }

pub aligned_first : (size align : ℕ) (hs ks : Heaps) (r : Result Granted Refusal) (lists : ℕ → Option State) → 1 ≤ align → IsWellFormed hs → IsWellFormed ks → ArePlain hs lists → Allocates size align hs ks r
    → GoesToTheFirst (Asks size align) size hs lists r
aligned_first size align hs ks r lists some formed formed' p x = goes (Asks size align) size align hs ks lists formed formed' p (NoneFits (blocks_needed align) (units_needed size align)) (IsFirstFit (blocks_needed align) (units_needed size align))
    (λ one none j w. let fits = (would one j).1 w in let less = none j in omega (arith, fits, less))
    (λ one k first. ((would one k).0 first.0, λ j less w. let fits = (would one j).1 w in let below = first.1 j less in omega (arith, fits, below)))
    (tickets.Call.Allocate_aligned size align) (λ t g h. tickets.AllocatesAligned size align g h (Some t)) some (λ t g h a. (Some t, refl, a, refl)) (λ t g h a. (a.can_grant.0 refl).0) (λ g o e. e)
    (λ s l m k o most e. aligned_at s l m size align k o some most e) r x
  where
    would : 1 ≤ size → (k : ℕ) → (units_needed size align ≤ room_of hs.limits k (blocks_needed align) (heap_at k hs)) ↔ WouldGrant hs.limits (Asks size align) k (lists k)
    would one k = would_at hs.limits k size align (heap_at k hs) (lists k) (p k) (sound_at hs.limits hs.made k (heap_at k hs) (formed.heaps k)) one some

pub tight_first : (size align : ℕ) (hs ks : Heaps) (r : Result Granted Refusal) (lists : ℕ → Option State) → 1 ≤ align → IsWellFormed hs → IsWellFormed ks → ArePlain hs lists → AllocatesTight size align hs ks r
    → GoesToTheFirst (call.AllocateTightAligned size align) size hs lists r
tight_first size align hs ks r lists some formed formed' p x = goes (call.AllocateTightAligned size align) size align hs ks lists formed formed' p (NoneHolds size align) (IsFirstHolding size align)
    (λ one none j w. none j ((would one j).1 w))
    (λ one k first. ((would one k).0 first.0, λ j less w. first.1 j less ((would one j).1 w)))
    (tickets.Call.Allocate_tight_aligned size align) (λ t g h. tickets.AllocatesTightAligned size align g h (Some t)) some (λ t g h a. (Some t, refl, a, refl)) (λ t g h a. (a.can_hold.0 refl).0) (λ g o e. e)
    (λ s l m k o most e. tight_at s l m size align k o some most e) r x
  where
    would : 1 ≤ size → (k : ℕ) → CanHoldIn hs.limits k size align (heap_at k hs) ↔ WouldGrant hs.limits (call.AllocateTightAligned size align) k (lists k)
    would one k = hold_at hs.limits k size align (heap_at k hs) (lists k) (p k) (sound_at hs.limits hs.made k (heap_at k hs) (formed.heaps k)) one some
