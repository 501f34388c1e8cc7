-- A call that is not for want of nodes is the same call under a larger node limit, with the same reply; so are lists of calls.
use Rattle.offset_calls.proofs.Common.{◌≡◌, ℕ, zero, suc, ◌+◌, ◌≤◌, Bool, true, false, List, [], ◌∷◌, length, sum, Option, Some, None, nat_eq, if◌then◌else◌, refl, sym, ap, ap₂, subst, subst₂, ◌∙◌, inl, inr, arith}
use Rattle.offset_calls.proofs.Common.{lt-leb, le-leb, cases_lt, View, Handle, Block, IsWellFormed, kept_name, IfNamed, Stays, IsKept, Call, Command, Reply, Answer, Takes, IsReason, size_of}
use Rattle.offset_calls.proofs.Common.{AdmitsBlocks, blocks_needed, units_needed, Frees, Resets, Extends, Compacts}
use Rattle.offset_calls.proofs.Common.{Nodes, TooLarge, Space, Fragmented}
use Rattle.offset_allocator.specs.{View.IsNew, View.free_sizes, View.is_full, View.reported_free, View.reported_largest, View.units}
use Rattle.offset_allocator.specs.Reporting.FreeSizes.{largest}
use Rattle.offset_allocator.specs.Relations.{Adds, Aligns, Allocates, FreesLast, SameUnder, Splits}
use Rattle.offset_allocator.specs.{Resizing.Grows, Resizing.Resizes, Resizing.Shrinks, Tight.AlignsTight, AtOffset.AllocatesAt}
use Rattle.offset_allocator.specs.{Moving.Budget.CompactsWithin, Moving.Budget.SlidesWithin, Moving.Room.MakesRoom, Moving.Room.SlidesRun}
use Rattle.offset_allocator.specs.Moving.BySteps.{CanFollow, CompactsBy, SlidesBy, run_by}
use Rattle.offset_allocator.specs.Moving.Compacting.{Move as Moved}
use Rattle.offset_allocator.specs.Moving.Relocating.{Relocates, RelocatesAligned, WouldBegin}
use Rattle.offset_allocator.specs.Moving.Retracting.{Cuts, Retracts}
use Rattle.offset_allocator.specs.Moving.RoomBySteps.{IsLeastCostBy, MakesRoomBy, SlidesRunBy, names_short}
use Rattle.offset_allocator.specs.declared.moves.over_frames.Progress.{Progress}
use Rattle.offset_allocator.specs.declared.moves.room.RoomCost.{RoomCost}
use Rattle.offset_allocator.specs.declared.reports.Refusal.{Refusal}
use Rattle.offset_allocator.specs.{Classes.up, Classes.value}
use Rattle.offset_allocator.proofs.Raised.{under, well_under}
use Rattle.offset_script.specs.Steps.{AreHeld, AreNamedApart}
use Rattle.offset_script.specs.Steps as script
use Rattle.offset_script.specs.Machine as machine
use Rattle.offset_script.specs.declared.scripts.Command.TheVariants as command
use Rattle.offset_calls.specs.Calls as plain
use Rattle.offset_calls.specs.{Histories.Runs, Slides.Notes}
use Rattle.offset_calls.specs.Limits.{HasNodes, RunsWithNodes, answers_nothing, blocks_for_command, blocks_wanted, is_for_nodes, may_want_nodes}
use Rattle.offset_calls.specs.Steps.{IsBegin, IsReasonTight, TakesSlide, TakesTight, begins_at}
use Rattle.offset_calls.specs.Slides.{IsSlid, done, slid_reply, so_far}
use Rattle.offset_calls.specs.declared.sliding.Slid.{Slid}
use Rattle.offset_calls.specs.declared.sliding.Slid.TheVariants as came
use Rattle.offset_calls.specs.declared.calls.Call.TheVariants as call
use Rattle.offset_calls.proofs.Decided.{takes_decided, takes_held}

-- ---- what a call does with blocks
new_under : (x : ℕ) (v : View) (limit : ℕ) → v.max_allocs ≤ limit → IsNew x v → IsNew x (under limit v)
new_under x v limit l n = record { below = omega (arith, n.below, l); absent = n.absent }

abbrev split_under : {needed n : ℕ} {padding_at : ℕ → ℕ} {v w : View} {g : Handle} (limit : ℕ) → v.max_allocs ≤ limit → Splits needed n padding_at v w g → Splits needed n padding_at (under limit v) (under limit w) g
split_under {v = v} limit l s = record {
  before = s.before;
  block = s.block;
  after = s.after;
  blocks = s.blocks;
  free = s.free;
  fits = s.fits;
  smallest = s.smallest;
  older = s.older;
  newest = s.newest;
  padding = s.padding;
  padded = s.padded;
  remainder = s.remainder;
  whole = s.whole;
  padding_name = s.padding_name;
  remainder_name = s.remainder_name;
  padding_new = λ h. new_under s.padding_name v limit l (s.padding_new h);
  remainder_new = λ h. new_under s.remainder_name v limit l (s.remainder_new h);
  differ = s.differ;
  grant = s.grant;
  parts = s.parts;
  made = s.made;
  names = s.names;
  view = ap (under limit) s.view;
}

frees_under : {x : ℕ} {v w : View} (limit : ℕ) → Frees x v w → Frees x (under limit v) (under limit w)
frees_under limit f = record {
  before = f.before;
  left = f.left;
  block = f.block;
  right = f.right;
  after = f.after;
  blocks = f.blocks;
  named = f.named;
  used = f.used;
  free = f.free;
  names = f.names;
  view = ap (under limit) f.view;
  apart = f.apart;
}

last_under : (limit k : ℕ) (v w : View) → FreesLast k v w → FreesLast k (under limit v) (under limit w)
last_under limit zero v w f = ap (under limit) f
last_under limit (suc k) v w f = (f.0, under limit f.1, f.2, frees_under limit f.3, last_under limit k f.1 w f.4)

adds_under : {more : ℕ} {v w : View} (limit : ℕ) → v.max_allocs ≤ limit → Adds more v w → Adds more (under limit v) (under limit w)
adds_under {v = v} limit l a = record {
  before = a.before;
  last = a.last;
  blocks = a.blocks;
  free = a.free;
  name = a.name;
  named = a.named;
  new = λ e. new_under a.name v limit l (a.new e);
  names = a.names;
  view = ap (under limit) a.view;
  apart = a.apart;
}

cuts_under : {less : ℕ} {v w : View} (limit : ℕ) → Cuts less v w → Cuts less (under limit v) (under limit w)
cuts_under limit a = record {
  before = a.before;
  last = a.last;
  blocks = a.blocks;
  free = a.free;
  enough = a.enough;
  names = a.names;
  view = ap (under limit) a.view;
}

begins_under : {n : ℕ} {v : View} {o : ℕ} (limit : ℕ) → AdmitsBlocks 1 v → WouldBegin n (under limit v) o → WouldBegin n v o
begins_under limit room a = record {
  before = a.before;
  block = a.block;
  after = a.after;
  blocks = a.blocks;
  room = room;
  fits = a.fits;
  smallest = a.smallest;
  older = a.older;
  newest = a.newest;
  begins = a.begins;
}

resizes_under : {x n : ℕ} {v w : View} (limit : ℕ) → v.max_allocs ≤ limit → Resizes x n v w → Resizes x n (under limit v) (under limit w)
resizes_under {v = v} limit l a = record {
  before = a.before;
  block = a.block;
  next = a.next;
  after = a.after;
  blocks = a.blocks;
  named = a.named;
  used = a.used;
  free = a.free;
  left = a.left;
  whole = a.whole;
  name = a.name;
  new = λ h. elim (a.new h) [ inl o ↦ inl o | inr n ↦ inr (new_under a.name v limit l n) ];
  names = a.names;
  view = ap (under limit) a.view;
  apart = a.apart;
}

steps_under : {s : ℕ} {v w : View} (limit : ℕ) → SlidesBy s v w → SlidesBy s (under limit v) (under limit w)
steps_under limit a = record {
  front = a.front;
  first = a.first;
  rest = a.rest;
  is = a.is;
  few = a.few;
  free = a.free;
  whole = a.whole;
  more = a.more;
  name = a.name;
  left = a.left;
  taken = a.taken;
  names = a.names;
  view = ap (under limit) a.view;
}

abbrev within_under : {s from u r : ℕ} {v w : View} {p : Progress} (limit : ℕ) → SlidesWithin s from u r v w p → SlidesWithin s from u r (under limit v) (under limit w) p
within_under limit a = record {
  front = a.front;
  first = a.first;
  rest = a.rest;
  back = a.back;
  reached = record { is = a.reached.is; begins = a.reached.begins; within = a.reached.within; stops = a.reached.stops };
  progress = a.progress;
  name = a.name;
  left = a.left;
  taken = a.taken;
  names = a.names;
  view = ap (under limit) a.view;
}

abbrev run_under : {want : ℕ} {v w : View} (limit : ℕ) → v.max_allocs ≤ limit → SlidesRun want v w → SlidesRun want (under limit v) (under limit w)
run_under limit l a = record {
  front = a.front;
  run = a.run;
  back = a.back;
  is = a.is;
  begins = a.begins;
  ends = a.ends;
  serves = a.serves;
  later = a.later;
  name = a.name;
  below = omega (arith, a.below, l);
  first = a.first;
  names = a.names;
  absent = a.absent;
  view = ap (under limit) a.view;
}

abbrev run_by_under : {s want short : ℕ} {v w : View} (limit : ℕ) → SlidesRunBy s want short v w → SlidesRunBy s want short (under limit v) (under limit w)
run_by_under limit a = record {
  front = a.front;
  run = a.run;
  back = a.back;
  is = a.is;
  begins = a.begins;
  ends = a.ends;
  serves = a.serves;
  later = a.later;
  name = a.name;
  left = a.left;
  taken = a.taken;
  names = a.names;
  view = ap (under limit) a.view;
}

-- ---- calls of the space
-- each with the room that it asks for where it is refused
module _ (limit : ℕ) (v w : View) (l : v.max_allocs ≤ limit) where
  allocates_under : (n : ℕ) (r : Option Handle) → (r ≡ None → AdmitsBlocks 1 v) → Allocates n v w r → Allocates n (under limit v) (under limit w) r
  allocates_under n None room a = (λ h. a.0 (room refl, h.1), ap (under limit) a.1)
  allocates_under n (Some g) room a = (omega (arith, a.0, l), split_under limit l a.1)

  abbrev aligns_under : (n align : ℕ) (g : Handle) → Aligns n align v w (Some g) → Aligns n align (under limit v) (under limit w) (Some g)
  aligns_under n align g a = (omega (arith, a.0, l), split_under limit l a.1)

  aligned_under : (n align : ℕ) (r : Option Handle) → (r ≡ None → AdmitsBlocks (blocks_needed align) v) → Aligns n align v w r → Aligns n align (under limit v) (under limit w) r
  aligned_under n align None room a = (λ h. a.0 (room refl, h.1), ap (under limit) a.1)
  aligned_under n align (Some g) room a = aligns_under n align g a

  tight_under : (n align : ℕ) (r : Option Handle) → (r ≡ None → AdmitsBlocks (blocks_needed align) v) → AlignsTight n align v w r → AlignsTight n align (under limit v) (under limit w) r
  tight_under n align None room a = (λ h. a.0 (room refl, h.1), ap (under limit) a.1)
  tight_under n align (Some g) room (inl a) = inl (aligns_under n align g a)
  tight_under n align (Some g) room (inr a) = inr (λ h. a.0 (a.1.0, h.1), (omega (arith, a.1.0, l), (a.1.1.0, a.1.1.1, a.1.1.2, split_under limit l a.1.1.3)))

  relocates_under : (x : ℕ) (r : Option Handle) → (r ≡ None → AdmitsBlocks 1 v) → Relocates x v w r → Relocates x (under limit v) (under limit w) r
  relocates_under x None room a = (λ o h. a.0 o (begins_under limit (room refl) h), ap (under limit) a.1)
  relocates_under x (Some g) room a = (allocates_under (size_of x v) (Some g) (λ e. absurd (cc)) a.0, a.1)

  relocates_aligned_under : (x align : ℕ) (r : Option Handle) → 1 ≤ align → (r ≡ None → AdmitsBlocks (blocks_needed align) v) → RelocatesAligned x align v w r
      → RelocatesAligned x align (under limit v) (under limit w) r
  relocates_aligned_under x align None some room a = (λ o _ h. a.0 o (room refl) (begins_under limit (omega (arith, some, room refl)) h), ap (under limit) a.1)
  relocates_aligned_under x align (Some g) some room a = (aligns_under (size_of x v) align g a.0, a.1)

  at_under : (offset n : ℕ) (r : Option Handle) → (r ≡ None → AdmitsBlocks 2 v) → AllocatesAt offset n v w r → AllocatesAt offset n (under limit v) (under limit w) r
  at_under offset n None room a = (
    λ h. a.0 (record { at = record { place = h.at.place; there = h.at.there; free = h.at.free; holds = h.at.holds }; room = omega (arith, room refl) }),
    ap (under limit) a.1,
  )
  at_under offset n (Some g) room a = record {
    at = record { place = a.at.place; there = a.at.there; free = a.at.free; holds = a.at.holds };
    room = omega (arith, a.room, l);
    last = a.last;
    split = split_under limit l a.split;
  }

  retracts_under : (less : ℕ) (r : Bool) → Retracts less v w r → Retracts less (under limit v) (under limit w) r
  retracts_under less true (inl a) = inl (a.0, ap (under limit) a.1)
  retracts_under less true (inr a) = inr (a.0, cuts_under limit a.1)
  retracts_under less false a = (a.0, a.1, ap (under limit) a.2)

  compacts_under : Compacts v w → Compacts (under limit v) (under limit w)
  compacts_under a = record { name = a.name; below = omega (arith, a.below, l); first = a.first; names = a.names; absent = a.absent; view = ap (under limit) a.view }

  extends_under : (more : ℕ) (r : Bool) → (r ≡ false → AdmitsBlocks 1 v) → Extends more v w r → Extends more (under limit v) (under limit w) r
  extends_under more true room (inl a) = inl (a.0, ap (under limit) a.1)
  extends_under more true room (inr a) = inr (a.0, (a.1.0, elim a.1.1 [ inl h ↦ inl (omega (arith, h, l)) | inr h ↦ inr h ]), adds_under limit l a.2)
  extends_under more false room a = (a.0, λ h. a.1 (h.0, inl (room refl)), ap (under limit) a.2)

  shrinks_under : (x n : ℕ) (r : Bool) → (r ≡ false → AdmitsBlocks 1 v) → Shrinks x n v w r → Shrinks x n (under limit v) (under limit w) r
  shrinks_under x n true room (inl a) = inl (a.0, ap (under limit) a.1)
  shrinks_under x n true room (inr a) = inr (a.0, (a.1.0, λ h. elim (a.1.1 h) [ inl e ↦ inl e | inr h ↦ inr (omega (arith, h, l)) ]), resizes_under limit l a.2)
  shrinks_under x n false room a = (λ h. a.0 (h.0, λ _. inr (room refl)), ap (under limit) a.1)

  grows_under : (x n : ℕ) (r : Bool) → Grows x n v w r → Grows x n (under limit v) (under limit w) r
  grows_under x n true (inl a) = inl (a.0, ap (under limit) a.1)
  grows_under x n true (inr a) = inr (a.0, a.1, resizes_under limit l a.2)
  grows_under x n false a = (a.0, ap (under limit) a.1)

  resets_under : Resets v w → Resets (under limit v) (under limit w)
  resets_under a = record {
    name = a.name;
    below = omega (arith, a.below, l);
    few = λ h. last_under limit _ v w (a.few h);
    many = a.many;
    view = ap (under limit) a.view;
  }

  follow_under : (s : ℕ) (bs : List Block) → CanFollow s v bs → CanFollow s (under limit v) bs
  follow_under s bs (inl room) = inl (omega (arith, room, l))
  follow_under s bs (inr e) = inr e

  stepped_under : (s : ℕ) (r : Bool) → (r ≡ false → AdmitsBlocks 1 v) → CompactsBy s v w r → CompactsBy s (under limit v) (under limit w) r
  stepped_under s true room (inl a) = inl (a.0, ap (under limit) a.1)
  stepped_under s true room (inr a) = inr (follow_under s (run_by s v.blocks) a.0, steps_under limit a.1)
  stepped_under s false room a = absurd (a.1 (inl (room refl)))

  budget_under : (s from u k : ℕ) (f g : List Moved) (r : Option Progress) → (r ≡ None → AdmitsBlocks 1 v) → CompactsWithin Notes s from u k v f r w g
      → CompactsWithin Notes s from u k (under limit v) f r (under limit w) g
  budget_under s from u k f g None room a = absurd (a.2.5 (inl (room refl)))
  budget_under s from u k f g (Some p) room (inl a) = inl (a.0, a.1, ap (under limit) a.2, a.3)
  budget_under s from u k f g (Some p) room (inr a) = inr (within_under limit a.0, follow_under s (a.0.first ∷ a.0.rest) a.1, a.2)

  room_under : (want : ℕ) (f g : List Moved) (c : Option RoomCost) → MakesRoom Notes want v f c w g → MakesRoom Notes want (under limit v) f c (under limit w) g
  room_under want f g None a = (ap (under limit) a.0, a.1)
  room_under want f g (Some c) a = (λ e. let b = a.0 e in (ap (under limit) b.0, b.1), λ h. let b = a.1 h in (run_under limit l b.0, b.1, b.2))

  room_by_under : (s want short : ℕ) (f g : List Moved) (c : Option RoomCost) → MakesRoomBy Notes s want short v f c w g → MakesRoomBy Notes s want short (under limit v) f c (under limit w) g
  room_by_under s want short f g None a = (ap (under limit) a.0, a.1)
  room_by_under s want short f g (Some c) a = (λ e. let b = a.0 e in (ap (under limit) b.0, b.1), λ h. let b = a.1 h in (run_by_under limit b.0, b.1, b.2))

  -- ---- what it is asked
  short_under : (k : ℕ) → AdmitsBlocks (k + 1) v → names_short k v ≡ names_short k (under limit v)
  short_under k room = omega (arith, room, l)

  reason_under : (blocks units : ℕ) (r : Option Refusal) → (is_for_nodes r ≡ true → AdmitsBlocks blocks v) → IsReason blocks units v r → IsReason blocks units (under limit v) r
  reason_under blocks units None room a = let can = a.0.0 refl in ((λ e. (omega (arith, can.0, l), can.1), λ h. refl), a.1)
  reason_under blocks units (Some Nodes) room a = absurd (omega (arith, a.1, room refl))
  reason_under blocks units (Some TooLarge) room a = ((λ e. absurd (cc), λ h. a.0.1 (a.1.0, h.1)), (omega (arith, a.1.0, l), a.1.1))
  reason_under blocks units (Some Space) room a = ((λ e. absurd (cc), λ h. a.0.1 (a.1.0, h.1)), (omega (arith, a.1.0, l), a.1.1, a.1.2, λ h. a.1.3 (a.1.0, h.1)))
  reason_under blocks units (Some Fragmented) room a = ((λ e. absurd (cc), λ h. a.0.1 (a.1.0, h.1)), (omega (arith, a.1.0, l), a.1.1, λ h. a.1.2 (a.1.0, h.1)))

  tight_reason_under : (n align : ℕ) (r : Option Refusal) → (is_for_nodes r ≡ true → AdmitsBlocks (blocks_needed align) v) → IsReasonTight n align v r → IsReasonTight n align (under limit v) r
  tight_reason_under n align None room a = let can = a.0.0 refl in ((λ e. (omega (arith, can.0, l), can.1), λ h. refl), a.1)
  tight_reason_under n align (Some Nodes) room a = absurd (omega (arith, a.1, room refl))
  tight_reason_under n align (Some TooLarge) room a = ((λ e. absurd (cc), λ h. a.0.1 (a.1.0, h.1)), (omega (arith, a.1.0, l), a.1.1))
  tight_reason_under n align (Some Space) room a = ((λ e. absurd (cc), λ h. a.0.1 (a.1.0, h.1)), (omega (arith, a.1.0, l), a.1.1, a.1.2, λ h. a.1.3 (a.1.0, h.1)))
  tight_reason_under n align (Some Fragmented) room a = ((λ e. absurd (cc), λ h. a.0.1 (a.1.0, h.1)), (omega (arith, a.1.0, l), a.1.1, λ h. a.1.2 (a.1.0, h.1)))

  begin_room : (n align : ℕ) (b : Option ℕ) → (b ≡ None → AdmitsBlocks (blocks_needed align) v) → IsBegin n align v b → AdmitsBlocks (blocks_needed align) v
  begin_room n align None room a = room refl
  begin_room n align (Some o) room a = (a.0.0 refl).0

  begin_under : (n align : ℕ) (b : Option ℕ) → 1 ≤ align → AdmitsBlocks (blocks_needed align) v → IsBegin n align v b → IsBegin n align (under limit v) b
  begin_under n align b some room a = (
    (λ e. (omega (arith, room, l), (a.0.0 e).1), λ h. a.0.1 (room, h.1)),
    λ o h g. a.1 o (room, h.1) (begins_under limit (omega (arith, some, room)) g),
  )

  -- a report says that something is free only where there is room for one more block
  full : v.max_allocs ≤ length v.blocks + 1 → reported_free v ≡ 0
  full m = ap (λ (b : Bool). if b then 0 else sum (free_sizes v.blocks)) (le-leb v.max_allocs (length v.blocks + 1) m)

  report_room : (a : machine.Answer) → a ≡ machine.Report (reported_free v) (reported_largest v) → (answers_nothing a ≡ true → AdmitsBlocks 1 v) → AdmitsBlocks 1 v
  report_room a e room = elim (cases_lt (length v.blocks + 1) v.max_allocs) [
    | inl h ↦ h
    | inr m ↦ room (ap answers_nothing e ∙ ap (λ (n : ℕ). nat_eq n 0) (full m))
  ]

  same_full : AdmitsBlocks 1 v → is_full v ≡ is_full (under limit v)
  same_full room = lt-leb v.max_allocs (length v.blocks + 1) room ∙ sym (lt-leb limit (length v.blocks + 1) (omega (arith, room, l)))

  report_under : AdmitsBlocks 1 v → machine.Report (reported_free v) (reported_largest v) ≡ machine.Report (reported_free (under limit v)) (reported_largest (under limit v))
  report_under room = ap (λ (b : Bool). machine.Report (if b then 0 else sum (free_sizes v.blocks)) (if b then 0 else largest (free_sizes v.blocks))) (same_full room)

-- ---- calls of lists
lift_named : (o : Option ℕ) (P P' : ℕ → Type 0) (Q Q' : Type 0) → ((x : ℕ) → P x → P' x) → (Q → Q') → IfNamed o P Q → IfNamed o P' Q'
lift_named None P P' Q Q' f g t = g t
lift_named (Some x) P P' Q Q' f g t = f x t

module _ (limit : ℕ) (v w : View) (l : v.max_allocs ≤ limit) (hs left : List (Option Handle)) where
  abbrev z : View
  z = under limit v

  abbrev u : View
  u = under limit w

  stay : Stays v hs w left → Stays z hs u left
  stay s = (ap (under limit) s.0, s.1)

  -- a request without a grant answers nothing
  refused : (g : Option Handle) (a : machine.Answer) → IsKept g hs left a → g ≡ None → answers_nothing a ≡ true
  refused None a k e = ap answers_nothing k.1
  refused (Some g) a k e = absurd (cc)

  command_under : (c : Command) (a : machine.Answer) → (answers_nothing a ≡ true → AdmitsBlocks (blocks_for_command c) v) → script.Takes c v hs w left a → script.Takes c z hs u left a
  command_under (command.Alloc n) a room t = (t.0, allocates_under limit v w l n t.0 (λ e. room (refused t.0 a t.2 e)) t.1, t.2)
  command_under (command.Free i) a room t = lift_named (kept_name hs i) _ _ _ _ (λ x f. (frees_under limit f.0, f.1, f.2)) (λ s. (stay s.0, s.1)) t
  command_under (command.Size i) a room t = (stay t.0, t.1)
  command_under command.Report a room t = (stay t.0, t.1 ∙ report_under limit v w l (report_room limit v w l a t.1 room))
  command_under command.Full a room t = (stay t.0, t.1)
  command_under command.Reset a room t = (resets_under limit v w l t.0, t.1, t.2, t.3)
  command_under (command.Align n align) a room t = (t.0, aligned_under limit v w l n align t.0 (λ e. room (refused t.0 a t.2 e)) t.1, t.2)
  command_under (command.Extend more) a room t = (
    t.0,
    extends_under limit v w l more t.0 (λ e. room (ap answers_nothing (t.3 ∙ ap (λ (b : Bool). if b then machine.Extended else machine.Refused) e))) t.1,
    t.2,
    t.3,
  )

  -- of a reply that is an answer
  answer_room : (c : Call) (r : Reply) (a : machine.Answer) → HasNodes c v r → r ≡ Answer a → answers_nothing a ≡ true → AdmitsBlocks (blocks_wanted c) v
  answer_room c r a room e n = room (ap may_want_nodes e ∙ n)

  -- of a change that is refused
  undone_room : (c : Call) (r done : Reply) (d : Bool) → HasNodes c v r → r ≡ (if d then done else Answer machine.Refused) → d ≡ false → AdmitsBlocks (blocks_wanted c) v
  undone_room c r done d room e n = room (ap may_want_nodes (e ∙ ap (λ (b : Bool). if b then done else Answer machine.Refused) n))

  reason_room : (c : Call) (r : Reply) (why : Option Refusal) → HasNodes c v r → r ≡ plain.Refusal why → is_for_nodes why ≡ true → AdmitsBlocks (blocks_wanted c) v
  reason_room c r why room e n = room (ap may_want_nodes e ∙ n)

  begin_nothing : (b : Option ℕ) → b ≡ None → may_want_nodes (begins_at b) ≡ true
  begin_nothing None e = refl
  begin_nothing (Some o) e = absurd (cc)

  -- of ranges that did not slide
  unslid_room : (c : Call) (r : Reply) (o : Slid) (ms : List plain.Move) → HasNodes c v r → r ≡ slid_reply o ms → o ≡ came.Refused → AdmitsBlocks (blocks_wanted c) v
  unslid_room c r o ms room e n = room (ap may_want_nodes (e ∙ ap (λ o. slid_reply o ms) n))

  slide_under : (c : Call) (r : Reply) (t : TakesSlide c v hs w r) → IsSlid c z t.0 u t.1 → TakesSlide c z hs u r
  slide_under c r t is = (t.0, t.1, is, t.3, t.4, t.5)

  held_under : (n align : ℕ) (c : Call) (r : Reply) → HasNodes c v r → blocks_wanted c ≡ blocks_needed align → TakesTight n align v hs w left r → TakesTight n align z hs u left r
  held_under n align c r room same t = (
    t.0,
    t.1,
    tight_under limit v w l n align t.0 (λ e. subst (λ k. AdmitsBlocks k v) same (answer_room c r t.1 room t.4 (refused t.0 t.1 t.3 e))) t.2,
    t.3,
    t.4,
  )

  pub takes_under : (c : Call) (r : Reply) → HasNodes c v r → Takes c v hs w left r → Takes c z hs u left r
  takes_under (call.Command c) r room t = (t.0, command_under c t.0 (answer_room (call.Command c) r t.0 room t.2) t.1, t.2)
  takes_under (call.Shrink i n) r room t = lift_named (kept_name hs i) _ _ _ _
      (λ x f. (f.0, shrinks_under limit v w l x n f.0 (undone_room (call.Shrink i n) r plain.Resized f.0 room f.3) f.1, f.2, f.3)) (λ s. (stay s.0, s.1)) t
  takes_under (call.Grow i n) r room t = lift_named (kept_name hs i) _ _ _ _ (λ x f. (f.0, grows_under limit v w l x n f.0 f.1, f.2, f.3)) (λ s. (stay s.0, s.1)) t
  takes_under call.Compact r room t = (slide_under call.Compact r t.0 (compacts_under limit v w l t.0.2.0, t.0.2.1, t.0.2.2), t.1)
  takes_under (call.CompactBy n) r room t =
      let s = t.0.2 in
      let enough = λ (e : s.0 ≡ false). unslid_room (call.CompactBy n) r t.0.0 t.0.3 room t.0.5 (s.2 ∙ ap done e) in
      (slide_under (call.CompactBy n) r t.0 (s.0, stepped_under limit v w l n s.0 enough s.1, s.2, s.3), t.1)
  takes_under (call.CompactWithin n from k m) r room t =
      let s = t.0.2 in
      let enough = λ (e : s.0 ≡ None). unslid_room (call.CompactWithin n from k m) r t.0.0 t.0.3 room t.0.5 (s.2 ∙ ap so_far e) in
      (slide_under (call.CompactWithin n from k m) r t.0 (s.0, budget_under limit v w l n from k m [] t.0.1 s.0 enough s.1, s.2), t.1)
  takes_under (call.Offset i) r room t = (stay t.0, t.1)
  takes_under (call.Refusal n) r room t = (stay t.0, (t.1.0, reason_under limit v w l 1 n t.1.0 (reason_room (call.Refusal n) r t.1.0 room t.1.2) t.1.1, t.1.2))
  takes_under (call.RefusalAligned n align) r room t = (
    stay t.0,
    (t.1.0, reason_under limit v w l (blocks_needed align) (units_needed n align) t.1.0 (reason_room (call.RefusalAligned n align) r t.1.0 room t.1.2) t.1.1, t.1.2),
  )
  takes_under (call.AllocateTight n) r room t = held_under n 1 (call.AllocateTight n) r room refl t
  takes_under (call.AllocateTightAligned n align) r room t = held_under n align (call.AllocateTightAligned n align) r room refl t
  takes_under (call.AllocateAt offset n) r room t = (
    t.0,
    t.1,
    at_under limit v w l offset n t.0 (λ e. answer_room (call.AllocateAt offset n) r t.1 room t.4 (refused t.0 t.1 t.3 e)) t.2,
    t.3,
    t.4,
  )
  takes_under (call.RefusalTight n) r room t = (stay t.0, (t.1.0, tight_reason_under limit v w l n 1 t.1.0 (reason_room (call.RefusalTight n) r t.1.0 room t.1.2) t.1.1, t.1.2))
  takes_under (call.RefusalTightAligned n align) r room t = (
    stay t.0,
    (t.1.0, tight_reason_under limit v w l n align t.1.0 (reason_room (call.RefusalTightAligned n align) r t.1.0 room t.1.2) t.1.1, t.1.2),
  )
  takes_under (call.WouldBegin n align) r room t =
      let b = t.2.0 in
      let enough = begin_room limit v w l n align b (λ e. room (ap may_want_nodes t.2.2 ∙ begin_nothing b e)) t.2.1 in
      (stay t.0, t.1, (b, begin_under limit v w l n align b t.1 enough t.2.1, t.2.2))
  takes_under (call.MakeRoom n) r room t =
      let s = t.0.2 in (slide_under (call.MakeRoom n) r t.0 (s.0, s.1, room_under limit v w l (value (up n)) [] t.0.1 s.0 s.2, s.3), t.1)
  takes_under (call.MakeRoomBy n align m) r room t =
      let s = t.0.2 in
      let want = value (up (units_needed n align)) in
      let same = short_under limit v w l (blocks_needed align) (room (ap may_want_nodes (t.0.5 ∙ ap (λ o. slid_reply o t.0.3) s.3))) in
      let made = room_by_under limit v w l m want (names_short (blocks_needed align) v) [] t.0.1 s.0 s.2 in (
        slide_under (call.MakeRoomBy n align m) r t.0
            (s.0, subst (λ k. IsLeastCostBy m want k v.blocks s.0) same s.1, subst (λ k. MakesRoomBy Notes m want k z [] s.0 u t.0.1) same made, s.3),
        t.1,
      )
  takes_under (call.RoomCost n) r room t = (stay t.0, t.1)
  takes_under (call.RoomCostBy n align m) r room t =
      let same = short_under limit v w l (blocks_needed align) (room (ap may_want_nodes t.1.2)) in
      (stay t.0, (t.1.0, subst (λ k. IsLeastCostBy m (value (up (units_needed n align))) k v.blocks t.1.0) same t.1.1, t.1.2))
  takes_under (call.Relocate i) r room t = lift_named (kept_name hs i) _ _ _ _
      (λ x f. (f.0, f.1, relocates_under limit v w l x f.0 (λ e. answer_room (call.Relocate i) r f.1 room f.4 (refused f.0 f.1 f.3 e)) f.2, f.3, f.4)) (λ s. (stay s.0, s.1)) t
  takes_under (call.RelocateAligned i align) r room t = (
    t.0,
    lift_named (kept_name hs i) _ _ _ _
        (λ x f. (f.0, f.1, relocates_aligned_under limit v w l x align f.0 t.0 (λ e. answer_room (call.RelocateAligned i align) r f.1 room f.4 (refused f.0 f.1 f.3 e)) f.2, f.3, f.4))
        (λ s. (stay s.0, s.1)) t.1,
  )
  takes_under (call.Retract n) r room t = (t.0, retracts_under limit v w l n t.0 t.1, t.2, t.3)
  takes_under call.FirstLive r room t = (stay t.0, t.1)
  takes_under call.LastLive r room t = (stay t.0, t.1)
  takes_under (call.LiveBefore i) r room t = (stay t.0, t.1)
  takes_under (call.LiveAfter i) r room t = (stay t.0, t.1)

-- ---- the node limit
-- it stays
abbrev limit_of : View → ℕ
limit_of v = v.max_allocs

module _ (v w : View) where
  allocates_limit : (n : ℕ) (r : Option Handle) → Allocates n v w r → limit_of w ≡ limit_of v
  allocates_limit n None a = ap limit_of a.1
  allocates_limit n (Some g) a = ap limit_of a.1.view

  aligns_limit : (n align : ℕ) (r : Option Handle) → Aligns n align v w r → limit_of w ≡ limit_of v
  aligns_limit n align None a = ap limit_of a.1
  aligns_limit n align (Some g) a = ap limit_of a.1.view

  tight_limit : (n align : ℕ) (r : Option Handle) → AlignsTight n align v w r → limit_of w ≡ limit_of v
  tight_limit n align None a = ap limit_of a.1
  tight_limit n align (Some g) (inl a) = ap limit_of a.1.view
  tight_limit n align (Some g) (inr a) = ap limit_of a.1.1.3.view

  at_limit : (offset n : ℕ) (r : Option Handle) → AllocatesAt offset n v w r → limit_of w ≡ limit_of v
  at_limit offset n None a = ap limit_of a.1
  at_limit offset n (Some g) a = ap limit_of a.split.view

  relocates_limit : (x : ℕ) (r : Option Handle) → Relocates x v w r → limit_of w ≡ limit_of v
  relocates_limit x None a = ap limit_of a.1
  relocates_limit x (Some g) a = ap limit_of a.0.1.view

  relocates_aligned_limit : (x align : ℕ) (r : Option Handle) → RelocatesAligned x align v w r → limit_of w ≡ limit_of v
  relocates_aligned_limit x align None a = ap limit_of a.1
  relocates_aligned_limit x align (Some g) a = ap limit_of a.0.1.view

  extends_limit : (more : ℕ) (r : Bool) → Extends more v w r → limit_of w ≡ limit_of v
  extends_limit more true (inl a) = ap limit_of a.1
  extends_limit more true (inr a) = ap limit_of a.2.view
  extends_limit more false a = ap limit_of a.2

  shrinks_limit : (x n : ℕ) (r : Bool) → Shrinks x n v w r → limit_of w ≡ limit_of v
  shrinks_limit x n true (inl a) = ap limit_of a.1
  shrinks_limit x n true (inr a) = ap limit_of a.2.view
  shrinks_limit x n false a = ap limit_of a.1

  grows_limit : (x n : ℕ) (r : Bool) → Grows x n v w r → limit_of w ≡ limit_of v
  grows_limit x n true (inl a) = ap limit_of a.1
  grows_limit x n true (inr a) = ap limit_of a.2.view
  grows_limit x n false a = ap limit_of a.1

  retracts_limit : (less : ℕ) (r : Bool) → Retracts less v w r → limit_of w ≡ limit_of v
  retracts_limit less true (inl a) = ap limit_of a.1
  retracts_limit less true (inr a) = ap limit_of a.1.view
  retracts_limit less false a = ap limit_of a.2

  stepped_limit : (s : ℕ) (r : Bool) → CompactsBy s v w r → limit_of w ≡ limit_of v
  stepped_limit s true (inl a) = ap limit_of a.1
  stepped_limit s true (inr a) = ap limit_of a.1.view
  stepped_limit s false a = ap limit_of a.2

  budget_limit : (s from u k : ℕ) (f g : List Moved) (r : Option Progress) → CompactsWithin Notes s from u k v f r w g → limit_of w ≡ limit_of v
  budget_limit s from u k f g None a = ap limit_of a.0
  budget_limit s from u k f g (Some p) (inl a) = ap limit_of a.2
  budget_limit s from u k f g (Some p) (inr a) = ap limit_of a.0.view

  room_limit : (want : ℕ) (f g : List Moved) (c : Option RoomCost) → MakesRoom Notes want v f c w g → limit_of w ≡ limit_of v
  room_limit want f g None a = ap limit_of a.0
  room_limit want f g (Some c) a = elim (cases_lt 0 c.ranges) [
    | inl h ↦ ap limit_of (a.1 h).0.view
    | inr h ↦ ap limit_of (a.0 (omega (arith, h))).0
  ]

  room_by_limit : (s want short : ℕ) (f g : List Moved) (c : Option RoomCost) → MakesRoomBy Notes s want short v f c w g → limit_of w ≡ limit_of v
  room_by_limit s want short f g None a = ap limit_of a.0
  room_by_limit s want short f g (Some c) a = elim (cases_lt 0 c.ranges) [
    | inl h ↦ ap limit_of (a.1 h).0.view
    | inr h ↦ ap limit_of (a.0 (omega (arith, h))).0
  ]

  from_named : (o : Option ℕ) (P : ℕ → Type 0) (Q A : Type 0) → ((x : ℕ) → P x → A) → (Q → A) → IfNamed o P Q → A
  from_named None P Q A f g t = g t
  from_named (Some x) P Q A f g t = f x t

  module _ (hs left : List (Option Handle)) where
    stays_limit : Stays v hs w left → limit_of w ≡ limit_of v
    stays_limit s = ap limit_of s.0

    command_limit : (c : Command) (a : machine.Answer) → script.Takes c v hs w left a → limit_of w ≡ limit_of v
    command_limit (command.Alloc n) a t = allocates_limit n t.0 t.1
    command_limit (command.Free i) a t = from_named (kept_name hs i) _ _ _ (λ x f. ap limit_of f.0.view) (λ s. stays_limit s.0) t
    command_limit (command.Size i) a t = stays_limit t.0
    command_limit command.Report a t = stays_limit t.0
    command_limit command.Full a t = stays_limit t.0
    command_limit command.Reset a t = ap limit_of t.0.view
    command_limit (command.Align n align) a t = aligns_limit n align t.0 t.1
    command_limit (command.Extend more) a t = extends_limit more t.0 t.1

    pub takes_limit : (c : Call) (r : Reply) → Takes c v hs w left r → limit_of w ≡ limit_of v
    takes_limit (call.Command c) r t = command_limit c t.0 t.1
    takes_limit (call.Shrink i n) r t = from_named (kept_name hs i) _ _ _ (λ x f. shrinks_limit x n f.0 f.1) (λ s. stays_limit s.0) t
    takes_limit (call.Grow i n) r t = from_named (kept_name hs i) _ _ _ (λ x f. grows_limit x n f.0 f.1) (λ s. stays_limit s.0) t
    takes_limit call.Compact r t = ap limit_of t.0.2.0.view
    takes_limit (call.CompactBy n) r t = stepped_limit n t.0.2.0 t.0.2.1
    takes_limit (call.CompactWithin n from k m) r t = budget_limit n from k m [] t.0.1 t.0.2.0 t.0.2.1
    takes_limit (call.Offset i) r t = stays_limit t.0
    takes_limit (call.Refusal n) r t = stays_limit t.0
    takes_limit (call.RefusalAligned n align) r t = stays_limit t.0
    takes_limit (call.AllocateTight n) r t = tight_limit n 1 t.0 t.2
    takes_limit (call.AllocateTightAligned n align) r t = tight_limit n align t.0 t.2
    takes_limit (call.AllocateAt offset n) r t = at_limit offset n t.0 t.2
    takes_limit (call.RefusalTight n) r t = stays_limit t.0
    takes_limit (call.RefusalTightAligned n align) r t = stays_limit t.0
    takes_limit (call.WouldBegin n align) r t = stays_limit t.0
    takes_limit (call.MakeRoom n) r t = room_limit (value (up n)) [] t.0.1 t.0.2.0 t.0.2.2
    takes_limit (call.MakeRoomBy n align m) r t = room_by_limit m (value (up (units_needed n align))) (names_short (blocks_needed align) v) [] t.0.1 t.0.2.0 t.0.2.2
    takes_limit (call.RoomCost n) r t = stays_limit t.0
    takes_limit (call.RoomCostBy n align m) r t = stays_limit t.0
    takes_limit (call.Relocate i) r t = from_named (kept_name hs i) _ _ _ (λ x f. relocates_limit x f.0 f.2) (λ s. stays_limit s.0) t
    takes_limit (call.RelocateAligned i align) r t = from_named (kept_name hs i) _ _ _ (λ x f. relocates_aligned_limit x align f.0 f.2) (λ s. stays_limit s.0) t.1
    takes_limit (call.Retract n) r t = retracts_limit n t.0 t.1
    takes_limit call.FirstLive r t = stays_limit t.0
    takes_limit call.LastLive r t = stays_limit t.0
    takes_limit (call.LiveBefore i) r t = stays_limit t.0
    takes_limit (call.LiveAfter i) r t = stays_limit t.0

-- ---- runs
-- the same call, and all that is known for the next one
pub takes_raised : (limit : ℕ) (c : Call) (v v' w w' : View) → IsWellFormed v → v.max_allocs ≤ limit → SameUnder limit v v' → (hs left left' : List (Option Handle)) → AreNamedApart hs → (r r' : Reply)
    → HasNodes c v r → Takes c v hs w left r → Takes c v' hs w' left' r' → (r ≡ r') × SameUnder limit w w' × (left ≡ left')
takes_raised limit c v v' w w' known l same hs left left' apart r r' room t k =
    takes_decided c (under limit v) v' (under limit w) w' (well_under v limit l known) same hs left left' apart r r' (takes_under limit v w l hs left c r room t) k

pub runs_raised : (limit : ℕ) (cs : List Call) (v v' w w' : View) (hs kept kept' : List (Option Handle)) (rs rs' : List Reply) → IsWellFormed v → v.max_allocs ≤ limit → SameUnder limit v v' → AreHeld v hs
    → RunsWithNodes v hs cs rs w kept → Runs v' hs cs rs' w' kept' → (rs ≡ rs') × SameUnder limit w w' × (kept ≡ kept')
runs_raised limit [] v v' w w' hs kept kept' [] [] known l same h t k = (refl, subst₂ (SameUnder limit) (sym t.0) (sym k.0) same, t.1 ∙ sym k.1)
runs_raised limit [] v v' w w' hs kept kept' [] (r ∷ rs') known l same h t k = absurd k
runs_raised limit [] v v' w w' hs kept kept' (r ∷ rs) rs' known l same h t k = absurd t
runs_raised limit (c ∷ cs) v v' w w' hs kept kept' [] rs' known l same h t k = absurd t
runs_raised limit (c ∷ cs) v v' w w' hs kept kept' (r ∷ rs) [] known l same h t k = absurd k
runs_raised limit (c ∷ cs) v v' w w' hs kept kept' (r ∷ rs) (s ∷ rs') known l same h t k =
    let e = takes_raised limit c v v' t.0 k.0 known l same hs t.1 k.1 h.apart r s t.3 t.2 k.2 in
    let m = takes_limit v t.0 hs t.1 c r t.2 in
    let later = runs_raised limit cs t.0 k.0 w w' t.1 kept kept' rs rs' t.4 (omega (arith, l, m)) e.1 (takes_held v t.0 known t.4 hs t.1 h c r t.2) t.5
    (subst (λ l. Runs k.0 l cs rs' w' kept') (sym e.2) k.4) in
    (ap₂ (λ (a : Reply) (l : List Reply). a ∷ l) e.0 later.0, later.1, later.2)
