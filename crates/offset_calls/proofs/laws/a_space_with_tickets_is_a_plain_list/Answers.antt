use Rattle.offset_calls.proofs.PlainLists.{plain_call, plain_fresh, plain_question, plain_raised}
use Rattle.offset_calls.proofs.laws.a_space_with_tickets_is_a_plain_list.Goals as goal

pub returns-clause-fresh : goal.returns-clause-fresh
returns-clause-fresh c = plain_fresh

pub returns-clause-raised : goal.returns-clause-raised
returns-clause-raised c limit g h s p most raised = plain_raised g s p limit h most raised

pub returns-clause-question : goal.returns-clause-question
returns-clause-question c q g s r p valid t = plain_question g s p q r valid t

pub returns-clause-call : goal.returns-clause-call
returns-clause-call c call g h a ms s p some x formed = plain_call g h s p formed call a ms some x
