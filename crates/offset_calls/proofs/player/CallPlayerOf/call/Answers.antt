use Rattle.offset_calls.proofs.Reached.{reached_after, reached_kept, reached_live}
use Rattle.offset_calls.proofs.player.CallPlayerOf.call.Goals as goal

pub reply-reply-requires-clause-held : goal.reply-reply-requires-clause-held
reply-reply-requires-clause-held g c = record { live = reached_live _ _ c.self.invariant.0; apart = c.self.invariant.1.apart }

pub reply-reply-requires-clause-kept : goal.reply-reply-requires-clause-kept
reply-reply-requires-clause-kept g c = reached_kept _ _ c.self.invariant.0

pub invariant_of-self : goal.invariant_of-self
invariant_of-self g c = reached_after _ _ c.self.invariant.0 c.args.call _ _ _ _ c.is_well_formed.ensures c.requires.valid c.reply-reply.ensures.numbers
    c.reply-reply.result c.reply-reply.ensures.takes c.reply-reply.ensures.lost
