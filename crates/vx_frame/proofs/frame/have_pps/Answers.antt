use Rattle.std.proofs.Common.{sym, ◌∙◌}
use Rattle.vx_frame.proofs.SameSets.{plain_under, renamed_under, same_serves}
use Rattle.vx_frame.proofs.frame.have_pps.Goals.{then-id-eq0-via-then-id-eq0, then-id-eq0-via-else-id-eq0+then-is_renamed}
use Rattle.vx_frame.proofs.frame.have_pps.Goals as goal

pub returns-then-id-eq0-clause-same : goal.returns-then-id-eq0-clause-same
returns-then-id-eq0-clause-same c = same_serves c.args.round.now c.args.frame.now

pub returns-then-id-eq0-clause-pps : goal.returns-then-id-eq0-clause-pps
returns-then-id-eq0-clause-pps c =
    elim c.then-id-eq0.branch [
      | then-id-eq0-via-then-id-eq0 w ↦ plain_under c.args.round.now c.args.frame.now c.args.id w.if-id-eq0.true
      | then-id-eq0-via-else-id-eq0+then-is_renamed w ↦ renamed_under c.args.round.now c.args.frame.now c.args.id (sym w.is_renamed.ensures ∙ w.if-is_renamed.true)
    ]
