use Rattle.std.proofs.Common.{sym, ◌∙◌}
use Rattle.vx_pps.proofs.Blocks.{same_index}
use Rattle.vx_pps.proofs.groups.index_of.Goals as goal

pub returns-in-Some-clause-index : goal.returns-in-Some-clause-index
returns-in-Some-clause-index c = λ i short is.
    same_index c.args.bounds.now c.in-Some.i i c.in-Some.ensures.rises c.in-Some.ensures.index.0 short (c.in-Some.ensures.index.1 ∙ sym is)
