use Rattle.std.proofs.Common.{◌∙◌, sym, ap, Err}
use Rattle.vx_bits.specs.declared.rules.TheConstants.{SET_INSIDE_PICTURE}
use Rattle.vx_pic.specs.Readings.{current, is_within_picture}
use Rattle.vx_pic.specs.Rules.{structure}
use Rattle.vx_assemble.proofs.Steps.{refuses, passes}
use Rattle.vx_assemble.proofs.state.State.check_outside.Goals as goal

pub returns-then-is_within : goal.returns-then-is_within
returns-then-is_within c before held =
    refuses (is_within_picture (current before)) c.is_within.result (structure SET_INSIDE_PICTURE) (c.is_within.ensures (current before) held.picture) c.if-is_within.true
    ∙ ap Err (sym c.structure.ensures)

pub returns : goal.returns
returns c before held =
    passes (is_within_picture (current before)) c.is_within.result (structure SET_INSIDE_PICTURE) (c.is_within.ensures (current before) held.picture) c.if-is_within.false
