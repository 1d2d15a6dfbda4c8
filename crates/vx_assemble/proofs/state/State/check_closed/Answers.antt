use Rattle.std.proofs.Common.{◌∙◌, sym, ap, Err}
use Rattle.vx_bits.specs.declared.rules.TheConstants.{SLICE_MISSING}
use Rattle.vx_pic.specs.Readings.{current, is_open}
use Rattle.vx_pic.specs.Rules.{structure}
use Rattle.vx_assemble.proofs.Steps.{refuses, passes}
use Rattle.vx_assemble.proofs.state.State.check_closed.Goals as goal

pub returns-then-is_open : goal.returns-then-is_open
returns-then-is_open c before held =
    refuses (is_open (current before)) c.is_open.result (structure SLICE_MISSING) (c.is_open.ensures (current before) held.picture) c.if-is_open.true
    ∙ ap Err (sym c.structure.ensures)

pub returns : goal.returns
returns c before held =
    passes (is_open (current before)) c.is_open.result (structure SLICE_MISSING) (c.is_open.ensures (current before) held.picture) c.if-is_open.false
