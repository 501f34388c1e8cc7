use Rattle.offset_calls.proofs.Common.{◌≡◌, ◌+◌, ◌<◌, ◌≤◌, ℕ, List, [], ◌∷◌, ◌++◌, map, take, drop, length, get_or, sym, ap, subst, ◌∙◌, arith, IsTrue, add-one, append-nil, append_assoc}
use Rattle.offset_calls.proofs.Common.{drop-cons, map-append, take_more, take_all, drop_all, State, start, Call, Reply, after, is_valid, replies, reply_view, step, Takes}
use Rattle.std.proofs.lemmas.List.Elements.{All-get_or}
use Rattle.offset_script.specs.Agreement.{IsAtState}
use Rattle.offset_script.proofs.{Simulation.all_live, Simulation.fresh_represents, Simulation.steps_begin, Simulation.steps_go_on, Simulation.steps_end, Well.well_start}
use Rattle.offset_calls.proofs.{Along.after-append, Compacted.all_kept, Followed.follows, Followed.well_calls, Kept.next_call, Kept.numbers_begin, Kept.numbers_next}
use Rattle.offset_calls.specs.declared.calls.Reply as program
use Rattle.offset_calls.proofs.playing.play_calls_of.Goals as goal

-- A loop over calls: one more call, and one more reply.

-- the state after one more call
after_more : (cs : List Call) (s : State) (i : ℕ) (d : Call) → i < length cs → after (take (i + 1) cs) s ≡ (step (get_or cs i d) (after (take i cs) s)).state
after_more cs s i d h = ap (λ l. after l s) (take_more cs i d h) ∙ after-append (take i cs) (get_or cs i d ∷ []) s

-- the replies so far, one more, and those to what is left
replies_more : (cs : List Call) (s : State) (i : ℕ) (d : Call) (found left : List program.Reply) (x : program.Reply) (all : List Reply) → i < length cs → left ≡ found ++ x ∷ []
    → reply_view x ≡ (step (get_or cs i d) (after (take i cs) s)).reply → map reply_view found ++ replies (drop i cs) (after (take i cs) s) ≡ all
    → map reply_view left ++ replies (drop (i + 1) cs) (after (take (i + 1) cs) s) ≡ all
replies_more cs s i d found left x all h f e so_far = search (arith, map, drop, take, map-append, append_assoc, after_more, add-one, drop-cons)

-- where nothing is left, the replies so far are those to all
replies_all : (cs : List Call) (s : State) (i : ℕ) (found : List program.Reply) (all : List Reply) → length cs ≤ i → map reply_view found ++ replies (drop i cs) (after (take i cs) s) ≡ all
    → map reply_view found ≡ all
replies_all cs s i found all h so_far = sym (append-nil (map reply_view found)) ∙ ap (λ l. map reply_view found ++ l) (sym (ap (λ l. replies l (after (take i cs) s)) (drop_all i cs h))) ∙ so_far

pub append-requires-clause-held : goal.append-requires-clause-held
append-requires-clause-held g c = record {
  live = all_live _ _ _ (well_calls (take c.loop-call.call-index c.args.calls.now) _ (well_start c.args.size c.args.max_allocs c.requires.low)) c.loop-call.invariant.represents;
  apart = c.loop-call.invariant.numbers.apart;
}

pub append-requires-clause-kept : goal.append-requires-clause-kept
append-requires-clause-kept g c =
    let r = c.loop-call.invariant.represents in
    all_kept _ _ _ r.formed (well_calls (take c.loop-call.call-index c.args.calls.now) _ (well_start c.args.size c.args.max_allocs c.requires.low)) r.agrees

pub loop-call-init : goal.loop-call-init
loop-call-init g c = search (arith, fresh_represents, steps_begin, map, numbers_begin)

pub loop-call-preserved : goal.loop-call-preserved
loop-call-preserved g c =
    let cs = c.args.calls.now in
    let s = start c.args.size c.args.max_allocs in
    let i = c.loop-call.call-index in
    let state = after (take i cs) s in
    let within : i < length cs = omega arith in
    let valid = All-get_or (λ c. IsTrue (is_valid c)) cs i _ within c.requires.valid in
    let well = well_calls (take i cs) s (well_start c.args.size c.args.max_allocs c.requires.low) in
    let live = all_live _ _ _ well c.loop-call.invariant.represents in
    let more = c.in_ok-append.ensures.takes in
    let formed = c.is_well_formed-in-loop-call.ensures in
    let next = follows _ _ _ _ _ state formed well c.loop-call.invariant.represents _ valid more.2 in
    record {
      numbers = numbers_next c.loop-call.player.handles.items _ _ _ (next_call _ _ _ _ c.loop-call.invariant.represents.formed formed live _ _ valid more.2) c.append.ensures.numbers;
      represents = subst (IsAtState c.append.new.player.space c.append.new.player.handles.items) (sym (after_more cs s i _ within)) next.1;
      steps = steps_go_on Takes _ _ _ _ _ _ _ _ _ _ _ _ c.loop-call.invariant.steps more.2 formed (take_more cs i _ within)
          (ap (map reply_view) more.1 ∙ map-append reply_view c.loop-call.found.items _);
      so_far = replies_more cs s i _ c.loop-call.found.items _ more.0 (replies cs s) within more.1 next.0 c.loop-call.invariant.so_far;
    }

pub returns : goal.returns
returns g c = search (arith, replies_all, steps_end, take_all)
