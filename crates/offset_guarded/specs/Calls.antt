-- Lists of calls of tickets with their answers: of those that keep every alignment that was asked for.
use Rattle.std.specs.Prelude.{◌≡◌, ℕ, ◌≤◌, List, [], ◌∷◌, Some}
use Rattle.std.specs.Int.{◌∣◌}
use Rattle.offset_allocator.specs.Moving.Compacting.{Move}
use Rattle.offset_allocator.specs.Ranges.{Range}
use Rattle.offset_guarded.specs.Answers.{Answer, Answers, Call, GoesByTheStep}
use Rattle.offset_guarded.specs.Guard.{Guard, IsCopy, IsLive, IsRaised, KeepsAlignments, Ticket, range_of}
use Rattle.offset_guarded.specs.State.{SameGuard}

-- the ticket of a grant that there was, where a was asked for: while it is live, the step is a multiple of a, and its range
-- begins at one
abbrev pub HasAsked : Ticket → ℕ → Guard → Type 0
HasAsked t a g = (t.serial ≤ g.given) × ((r : Range) → range_of t g ≡ Some r → (a ∣ g.step) × (a ∣ r.offset))

-- each alignment that was asked for is kept
abbrev pub KeepsAsked : Guard → Guard → Type 0
KeepsAsked g h = (t : Ticket) (a : ℕ) → HasAsked t a g → HasAsked t a h

-- what is left continues what there was: the realm is kept, no ticket of an earlier grant becomes live, and each range keeps,
-- while it is live, each alignment that divides the step; a live range may end
pub record Continues (g h : Guard) : Type 0 where
  pub realm : h.realm ≡ g.realm
  pub given : g.given ≤ h.given
  pub live : (t : Ticket) → t.serial ≤ g.given → IsLive t h → IsLive t g
  pub aligned : KeepsAlignments g h

-- a call with its answer and its moves; or what is put in the place of the space: it under another node limit, a copy of it,
-- or a state of it that is written and read
pub data Event : Type 0 where
  Called : Call → Answer → List Move → Event
  Raised : ℕ → Event
  Copied : Event
  Stored : Event

-- a call is answered, and goes by the step
abbrev pub Happens : Event → Guard → Guard → Type 0
Happens (Called c a ms) g h = GoesByTheStep c g × Answers c g h a ms
Happens (Raised limit) g h = IsRaised limit g h
Happens Copied g h = IsCopy g h
Happens Stored g h = SameGuard g h

-- one after another
abbrev pub AllHappen : Guard → List Event → Guard → Type 0
AllHappen g [] h = h ≡ g
AllHappen g (e ∷ es) h = (now : Guard) × Happens e g now × AllHappen now es h
