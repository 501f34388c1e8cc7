-- What is done in a heap is done in its plain list.
use Rattle.std.proofs.Common.{◌≡◌, ℕ, ◌+◌, ◌<◌, ◌≤◌, List, [], ◌∷◌, Option, Some, None, IfSome, refl, sym, ap, subst, ◌∙◌, arith}
use Rattle.std.specs.List.{AllByRecursion}
use Rattle.offset_allocator.specs.Moving.Compacting.{Move}
use Rattle.offset_allocator.specs.View as view
use Rattle.offset_allocator.specs.View.{View}
use Rattle.offset_guarded.specs.Answers as tickets
use Rattle.offset_guarded.specs.Calls.{Event}
use Rattle.offset_guarded.specs.Calls.Event.{Called, Raised, Copied, Stored}
use Rattle.offset_guarded.specs.Guard.{Guard}
use Rattle.offset_script.specs.Machine.{State, start}
use Rattle.offset_calls.specs.PlainLists.{IsCall, IsPlain, Plays}
use Rattle.offset_calls.specs.declared.calls.Call.{Call as PlainCall}
use Rattle.offset_calls.proofs.PlainLists.{plain_call, plain_fresh, plain_raised}
use Rattle.offset_heaps.specs.Calls.{Call, Reply, Takes, TakesAll, TakesOn}
use Rattle.offset_heaps.specs.Heaps.{Heaps, IsNew, heap_at, slot}
use Rattle.offset_heaps.specs.Spaces.{AreFormed, DoesAll, IsValid}
use Rattle.offset_heaps.specs.Spaces as spaces
use Rattle.offset_heaps.specs.State.{IsHeapFormed, IsWellFormed}
use Rattle.offset_heaps.specs.declared.limits.Limits.{Limits}
use Rattle.offset_heaps.proofs.{Numbers.slot_same, Numbers.slot_there, Spaces.call_goes}
use Rattle.offset_plain_heaps.specs.PlainHeaps.{ArePlain, FollowsAll, GoesOn, IsPlainAt}

-- ---- events in one heap
follows_all : (es : List Event) (g h : Guard) (s : State) → IsPlain g s → (done : DoesAll g es h) → AreFormed g es h done → view.IsWellFormed g.space → view.IsWellFormed h.space
    → (t : State) × FollowsAll g s es h t × IsPlain h t
follows_all [] g h s p done formed first last = (s, (done, refl), subst (λ (z : Guard). IsPlain z s) (sym done) p)
follows_all (Called c a ms ∷ es) g h s p done formed first last =
    let between = formed.0 first last in
    let x = plain_call g done.0 s p between c a ms done.1.0 done.1.1 in
    let rest = follows_all es done.0 h x.2 x.4 done.2 formed.1 between last in
    (rest.0, (done.0, x.2, done.1, (x.0, x.1, x.3), rest.1), rest.2)
follows_all (Raised limit ∷ es) g h s p done formed first last =
    let between = formed.0 first last in
    let x = plain_raised g s p limit done.0 done.1.0 done.1.1 in
    let rest = follows_all es done.0 h (record s { limit = limit }) x done.2 formed.1 between last in
    (rest.0, (done.0, record s { limit = limit }, done.1, refl, rest.1), rest.2)
follows_all (Copied ∷ es) g h s p done formed first last = absurd done.1
follows_all (Stored ∷ es) g h s p done formed first last = absurd done.1

-- a fresh heap is one free block
new_plain : (size limit realm : ℕ) (g : Guard) → IsNew size limit realm g → view.IsWellFormed g.space → IsPlain g (start size limit)
new_plain size limit realm g new formed =
    plain_fresh size limit g (let m = ap (λ (v : View). v.max_allocs) new.space.view in omega (arith, formed.few_used, m)) formed new.space new.serials.0

-- ---- the heap of a number
abbrev IsFormedAt : Option Guard → Type 0
IsFormedAt o = IfSome o (λ g. view.IsWellFormed g.space)

formed_at : (limits : Limits) (made k : ℕ) (o : Option Guard) → IsHeapFormed limits made k o → IsFormedAt o
formed_at limits made k None f = tt
formed_at limits made k (Some g) f = f.0.space

goes : (o : Option Guard) (l : Option State) (n : Option Guard) → IsPlainAt o l → IsFormedAt o → IsFormedAt n → spaces.GoesOn o n → (m : Option State) × IsPlainAt n m × GoesOn o l n m
goes o l None p first last g = (None, tt, tt)
goes None None (Some h) p first last g =
    let fresh = g.0 in
    let formed = g.1 last in
    let x = follows_all fresh.events fresh.fresh h (start fresh.size fresh.limit) (new_plain fresh.size fresh.limit fresh.realm fresh.fresh fresh.new formed) fresh.done g.2 formed last in
    (Some x.0, x.2, (fresh.size, fresh.limit, fresh.realm, fresh.fresh, fresh.new, (fresh.events, x.1)))
goes None (Some s) (Some h) p first last g = absurd p
goes (Some o) None (Some h) p first last g = absurd p
goes (Some o) (Some s) (Some h) p first last g =
    let x = follows_all g.0 o h s p g.1 g.2 first last in
    (Some x.0, x.2, (g.0, x.1))

-- ---- each call
module _ (c : Call) (hs ks : Heaps) (r : Reply) (lists : ℕ → Option State) (valid : IsValid c) (first : IsWellFormed hs) (last : IsWellFormed ks) (p : ArePlain hs lists) (t : Takes c hs ks r) where
  each : (k : ℕ) → (m : Option State) × IsPlainAt (heap_at k ks) m × GoesOn (heap_at k hs) (lists k) (heap_at k ks) m
  each k = goes (heap_at k hs) (lists k) (heap_at k ks) (p k) (formed_at hs.limits hs.made k (heap_at k hs) (first.heaps k)) (formed_at ks.limits ks.made k (heap_at k ks) (last.heaps k)) (call_goes c hs ks r valid t k)

  pub call_follows : (left : ℕ → Option State) × ArePlain ks left × ((k : ℕ) → GoesOn (heap_at k hs) (lists k) (heap_at k ks) (left k))
  call_follows = ((λ k. (each k).0), (λ k. (each k).1), (λ k. (each k).2))

pub calls_follow : (cs : List Call) (rs : List Reply) (hs ks : Heaps) (lists : ℕ → Option State) → AllByRecursion IsValid cs → IsWellFormed hs → ArePlain hs lists → TakesAll hs cs rs ks
    → (left : ℕ → Option State) × ArePlain ks left
calls_follow [] [] hs ks lists valid first p t = (lists, subst (λ (h : Heaps). ArePlain h lists) (sym t) p)
calls_follow [] (r ∷ rs) hs ks lists valid first p t = absurd t
calls_follow (c ∷ cs) [] hs ks lists valid first p t = absurd t
calls_follow (c ∷ cs) (r ∷ rs) hs ks lists valid first p t =
    let x = call_follows c hs t.0 r lists valid.0 first t.3 p t.1 in
    calls_follow cs rs t.0 ks x.0 valid.1 t.3 x.1 t.4

-- on one heap
pub heap_follows : (k : ℕ) (c : tickets.Call) (hs ks : Heaps) (a : tickets.Answer) (ms : List Move) (g : Guard) (s : State) → tickets.IsAdmitted c → IsWellFormed ks → heap_at k hs ≡ Some g → IsPlain g s
    → TakesOn k c hs ks a ms → (o : Option PlainCall) × IsCall c g o × (t : State) × Plays o g a ms s t × IfSome (heap_at k ks) (λ h. IsPlain h t)
heap_follows k c hs ks a ms g s some last at p x =
    let there = slot_there hs.slots k (ap Rattle.std.proofs.Common.is_some x.heap) in
    let now : heap_at k ks ≡ Some x.after = ap (slot k) (ap (λ (h : Heaps). h.slots) x.heaps) ∙ slot_same hs.slots k (Some x.after) there in
    let same : x.before ≡ g = some_same x.before g (sym x.heap ∙ at) in
    let formed : view.IsWellFormed x.after.space = subst IsFormedAt now (formed_at ks.limits ks.made k (heap_at k ks) (last.heaps k)) in
    let y = plain_call g x.after s p formed c a ms some (subst (λ (z : Guard). tickets.Answers c z x.after a ms) same x.by) in
    (y.0, y.1, y.2, y.3, subst (λ o. IfSome o (λ (h : Guard). IsPlain h y.2)) (sym now) y.4)
  where
    some_same : (g h : Guard) → Some g ≡ Some h → g ≡ h
    some_same g h e = cc
