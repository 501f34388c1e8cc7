-- Each heap is a space with tickets: calls of tickets, one after another, make it of a fresh one.
use Rattle.std.specs.Prelude.{◌≡◌, ℕ, ◌≤◌, List, [], ◌∷◌, Option, Some, None, IfSome}
use Rattle.offset_allocator.specs.View.{IsWellFormed}
use Rattle.offset_guarded.specs.Answers as tickets
use Rattle.offset_guarded.specs.Answers.{IsAdmitted}
use Rattle.offset_guarded.specs.Calls.{Event}
use Rattle.offset_guarded.specs.Calls.Event.{Called, Raised}
use Rattle.offset_guarded.specs.Guard.{Guard, IsRaised}
use Rattle.offset_heaps.specs.Calls.{Call, Allocate, Allocate_tight, Relocate_aligned, Make_room, On_heap}
use Rattle.offset_heaps.specs.Heaps.{Heaps, IsNew, heap_at}

-- a call of tickets is answered, also one that does not go by the step; or the node limit is raised
abbrev pub Does : Event → Guard → Guard → Type 0
Does (Called c a ms) g h = IsAdmitted c × tickets.Answers c g h a ms
Does (Raised limit) g h = (g.space.max_allocs ≤ limit) × IsRaised limit g h
Does e g h = ⊥

-- one after another
abbrev pub DoesAll : Guard → List Event → Guard → Type 0
DoesAll g [] h = h ≡ g
DoesAll g (e ∷ es) h = (now : Guard) × Does e g now × DoesAll now es h

-- what is between is well formed where the first and the last are
abbrev pub AreFormed : (g : Guard) (es : List Event) (h : Guard) → DoesAll g es h → Type 0
AreFormed g [] h done = Unit {0}
AreFormed g (e ∷ es) h done = (IsWellFormed g.space → IsWellFormed h.space → IsWellFormed done.0.space) × AreFormed done.0 es h done.2

-- a heap that was made fresh, and all that was done in it since
pub record IsSpace (h : Guard) : Type 0 where
  pub fresh : Guard
  pub size : ℕ
  pub limit : ℕ
  pub realm : ℕ
  pub new : IsNew size limit realm fresh
  pub events : List Event
  pub done : DoesAll fresh events h

-- what a number has after a call: no heap; the one that it had, after what was done in it; or, where it had none, a new one.
-- Which calls are done, and when a heap is dropped, is in the contract of each call
abbrev pub GoesOn : Option Guard → Option Guard → Type 0
GoesOn old None = Unit {0}
GoesOn None (Some h) = (is : IsSpace h) × (IsWellFormed h.space → IsWellFormed is.fresh.space) × AreFormed is.fresh is.events h is.done
GoesOn (Some g) (Some h) = (es : List Event) × (done : DoesAll g es h) × AreFormed g es h done

-- the alignment and the step of a call, where it has them, are at least 1, as its contract requires
abbrev pub IsValid : Call → Type 0
IsValid (Allocate size align) = 1 ≤ align
IsValid (Allocate_tight size align) = 1 ≤ align
IsValid (Relocate_aligned p align) = 1 ≤ align
IsValid (Make_room k size align) = 1 ≤ align
IsValid (On_heap k c) = IsAdmitted c
IsValid c = Unit {0}

-- a call on one heap goes by the step of that heap; all others do
abbrev pub GoesByTheSteps : Call → Heaps → Type 0
GoesByTheSteps (On_heap k c) hs = IfSome (heap_at k hs) (tickets.GoesByTheStep c)
GoesByTheSteps c hs = Unit {0}
