use Rattle.std.proofs.Common.{◌∙◌}
use Rattle.offset_pictures.proofs.Quieter.{quiet_reports}
use Rattle.offset_pictures.proofs.watching.reports.Goals as goal

pub returns : goal.returns
returns c =
    let script = c.args.script.now in
    c.in_ok-watch.ensures.reports ∙ quiet_reports script.size script.max_allocs script.commands.items
