use Rattle.std.proofs.Common.{false, ◌∙◌}
use Rattle.vx_frame.specs.Bodies.{has_lmcs, is_chroma_scaled}
use Rattle.vx_frame.proofs.Reading.{lowest_absent, lowest_read}
use Rattle.vx_merge.proofs.needed.scales_chroma.Goals as goal

pub returns-in-Some : goal.returns-in-Some
returns-in-Some c =
    let lowest = rw c.in-Some.is at c.requires in
    c.is_chroma_scaled.ensures ∙ lowest_read has_lmcs is_chroma_scaled false c.args.round.now c.in-Some.k c.index-round-from.result lowest (rw c.from.ensures at c.index-round-from.is)

pub returns-in-None : goal.returns-in-None
returns-in-None c = lowest_absent has_lmcs is_chroma_scaled false c.args.round.now (rw c.in-None.is at c.requires)
