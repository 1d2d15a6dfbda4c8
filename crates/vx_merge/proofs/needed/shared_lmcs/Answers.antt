use Rattle.std.proofs.Common.{None, ◌∙◌}
use Rattle.vx_frame.specs.Bodies.{has_lmcs, lmcs_body}
use Rattle.vx_frame.proofs.Reading.{lowest_absent, lowest_read}
use Rattle.vx_merge.proofs.needed.shared_lmcs.Goals as goal

pub returns-in-Some : goal.returns-in-Some
returns-in-Some c =
    let lowest = rw c.in-Some.is at c.requires in
    c.lmcs_body.ensures ∙ lowest_read has_lmcs lmcs_body None c.args.round.now c.in-Some.k c.index-round-from.result lowest (rw c.from.ensures at c.index-round-from.is)

pub returns-in-None : goal.returns-in-None
returns-in-None c = lowest_absent has_lmcs lmcs_body None c.args.round.now (rw c.in-None.is at c.requires)
