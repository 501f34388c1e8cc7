use Rattle.offset_heaps.proofs.DecidedCalls.{compacts_all_decided, compacts_one_decided, drops_decided, drops_empty_decided, emptiest_decided, gives_up_decided, takes_decided, totals_decided}
use Rattle.offset_heaps.proofs.{DecidedWalks.before_decided, DecidedWalks.last_decided, Twins.range_twins}
use Rattle.offset_heaps.proofs.laws.a_state_decides_each_step.Goals as goal

pub returns-clause-call : goal.returns-clause-call
returns-clause-call c = takes_decided

pub returns-clause-drop_empty : goal.returns-clause-drop_empty
returns-clause-drop_empty c = drops_empty_decided

pub returns-clause-drop_heap : goal.returns-clause-drop_heap
returns-clause-drop_heap c = drops_decided

pub returns-clause-give_up : goal.returns-clause-give_up
returns-clause-give_up c = gives_up_decided

pub returns-clause-range : goal.returns-clause-range
returns-clause-range c hs ks p t = range_twins hs ks t p

pub returns-clause-emptiest : goal.returns-clause-emptiest
returns-clause-emptiest c = emptiest_decided

pub returns-clause-totals : goal.returns-clause-totals
returns-clause-totals c = totals_decided

pub returns-clause-last_live : goal.returns-clause-last_live
returns-clause-last_live c = last_decided

pub returns-clause-live_before : goal.returns-clause-live_before
returns-clause-live_before c = before_decided

pub returns-clause-compact_heap : goal.returns-clause-compact_heap
returns-clause-compact_heap c = compacts_one_decided

pub returns-clause-compact : goal.returns-clause-compact
returns-clause-compact c = compacts_all_decided
