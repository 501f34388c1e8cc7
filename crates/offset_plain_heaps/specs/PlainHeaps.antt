-- Many heaps beside plain lists of blocks, one for each heap.
use Rattle.std.specs.Prelude.{◌≤◌, IfErr, IfOk, IfSome, Result, ◌≡◌, ℕ, ◌<◌, false, List, [], ◌∷◌, Option, Some, None, nat_lt, if◌then◌else◌, true}
use Rattle.offset_guarded.specs.Calls.{Event}
use Rattle.offset_guarded.specs.Calls.Event.{Called, Raised}
use Rattle.offset_guarded.specs.Guard.{Guard, last_serial}
use Rattle.offset_script.specs.Machine.{State, start}
use Rattle.offset_script.specs.Machine as machine
use Rattle.offset_calls.specs.Calls.{Answer, step}
use Rattle.offset_calls.specs.PlainLists.{IsCall, IsPlain, Plays, is_no}
use Rattle.offset_calls.specs.declared.calls.Call.{Call}
use Rattle.offset_heaps.specs.Heaps.{Heaps, IsNew, IsNext, heap_at}
use Rattle.offset_heaps.specs.Spaces.{Does}
use Rattle.offset_heaps.specs.declared.limits.Limits.{Limits}
use Rattle.offset_heaps.specs.declared.place.Granted.{Granted}
use Rattle.offset_heaps.specs.declared.refusal.Refusal.{Refusal}
use Rattle.offset_heaps.specs.declared.refusal.Refusal.TheVariants.{Memory}

-- there is a heap of a number exactly where there is a plain list, and it shows that
abbrev pub IsPlainAt : Option Guard → Option State → Type 0
IsPlainAt None None = Unit {0}
IsPlainAt (Some g) (Some s) = IsPlain g s
IsPlainAt g s = ⊥

abbrev pub ArePlain : Heaps → (ℕ → Option State) → Type 0
ArePlain hs lists = (k : ℕ) → IsPlainAt (heap_at k hs) (lists k)

-- ---- what is done in one heap
-- an event in the heap g, whose list is s, leaves the list t: a call of tickets is one of the plain machine, and is answered
-- so; or the node limit is raised
abbrev pub Follows : Event → Guard → State → State → Type 0
Follows (Called c a ms) g s t = (o : Option Call) × IsCall c g o × Plays o g a ms s t
Follows (Raised limit) g s t = t ≡ record s { limit = limit }
Follows e g s t = ⊥

-- one after another
abbrev pub FollowsAll : Guard → State → List Event → Guard → State → Type 0
FollowsAll g s [] h t = (h ≡ g) × (t ≡ s)
FollowsAll g s (e ∷ es) h t = (now : Guard) × (u : State) × Does e g now × Follows e g s u × FollowsAll now u es h t

-- what a number has after a call: no heap and no list; what it had, after some events; or, where it had none, a new heap and
-- one free block, after some events. Which calls are made, and when a heap is dropped, is in the contract of each call
abbrev pub GoesOn : Option Guard → Option State → Option Guard → Option State → Type 0
GoesOn g s None t = Unit {0}
GoesOn None s (Some h) (Some t) = (size : ℕ) × (limit : ℕ) × (realm : ℕ) × (fresh : Guard) × IsNew size limit realm fresh
    × ((es : List Event) × FollowsAll fresh (start size limit) es h t)
GoesOn (Some g) (Some s) (Some h) (Some t) = (es : List Event) × FollowsAll g s es h t
GoesOn g s h t = ⊥

-- ---- requests
-- the list of a number under the largest limit that its heap may have
abbrev pub topped : Limits → ℕ → State → State
topped limits k s = if nat_lt k limits.most then record s { limit = limits.max_allocs } else s

-- the plain machine would grant a request there, while a grant has a number left
abbrev pub WouldGrant : Limits → Call → ℕ → Option State → Type 0
WouldGrant limits c k None = ⊥
WouldGrant limits c k (Some s) = (s.grants < last_serial) × (is_no (step c (topped limits k s)).reply ≡ false)

-- a nonzero request, which is this call of the plain machine, is granted by the first list that would grant it, with the reply
-- of that list under that limit; or in a new heap, where no list would; a refusal other than Memory is returned only where no
-- list would and no heap may be made
pub record GoesToTheFirst (c : Call) (size : ℕ) (hs : Heaps) (lists : ℕ → Option State) (r : Result Granted Refusal) : Type 0 where
  pub found : IfOk r (λ g. g.is_new ≡ false → WouldGrant hs.limits c g.place.heap (lists g.place.heap)
      × ((j : ℕ) → j < g.place.heap → WouldGrant hs.limits c j (lists j) → ⊥)
      × IfSome (lists g.place.heap) (λ s. (step c (topped hs.limits g.place.heap s)).reply ≡ Answer (machine.Grant g.place.serial g.offset)))
  pub made : IfOk r (λ g. g.is_new ≡ true → ((j : ℕ) → WouldGrant hs.limits c j (lists j) → ⊥) × IsNext size g.place.heap hs)
  pub refused : IfErr r (λ why. 1 ≤ size → (why ≡ Memory → ⊥) → ((j : ℕ) → WouldGrant hs.limits c j (lists j) → ⊥) × ((k : ℕ) → IsNext size k hs → ⊥))
