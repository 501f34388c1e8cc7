use Rattle.std.proofs.Math.Nat.{dvd_of_mod-eq-zero, dvd_trans}
use Rattle.std.proofs.Common.{Some}
use Rattle.offset_guarded.specs.Answers as tickets
use Rattle.offset_guarded.specs.Answers.{Aligns, Requests}
use Rattle.offset_heaps.proofs.Alignments.{lasts, lasts_in, step_keeps}
use Rattle.offset_heaps.proofs.Spaces as space
use Rattle.offset_heaps.proofs.laws.alignments_are_kept.Goals as goal

pub returns-clause-step : goal.returns-clause-step
returns-clause-step c = step_keeps

pub returns-clause-lasts : goal.returns-clause-lasts
returns-clause-lasts c size align = lasts (λ t g h. tickets.AllocatesAligned size align g h (Some t)) size align (λ t g h a. a.request) (λ t g h a. a.aligns)

pub returns-clause-lasts_tight : goal.returns-clause-lasts_tight
returns-clause-lasts_tight c size align = lasts (λ t g h. tickets.AllocatesTightAligned size align g h (Some t)) size align (λ t g h a. a.request) (λ t g h a. a.aligns)

pub returns-clause-relocated : goal.returns-clause-relocated
returns-clause-relocated c p align a hs own d o = own.2 a o d

pub returns-clause-on_heap : goal.returns-clause-on_heap
returns-clause-on_heap c = space.on_heap

pub returns-clause-lasts_on_heap : goal.returns-clause-lasts_on_heap
returns-clause-lasts_on_heap c k n align a t hs ks later formed by d = lasts_in k n align a t (λ g h. Requests n g h (Some t) × Aligns align g h (Some t)) hs ks later formed (λ g h s. (s.0.grants, s.1.joined.second)) by d (dvd_trans a d (dvd_of_mod-eq-zero align by.by.1.aligned))

pub returns-clause-answered_on_heap : goal.returns-clause-answered_on_heap
returns-clause-answered_on_heap c = space.answered

pub returns-clause-call : goal.returns-clause-call
returns-clause-call c = space.call_steps
