use Rattle.std.proofs.Common.{◌∙◌, length, ap, arith}
use Rattle.vx_annexb.proofs.EmulationBytes.{unescaped_size}
use Rattle.vx_annexb.proofs.Fault.{unescape_step, unescape_end}
use Rattle.vx_annexb.proofs.emulation.unescape.Goals as goal

pub loop-mark-preserved : goal.loop-mark-preserved
loop-mark-preserved c =
    rw c.in_ok-extend_from_slice.ensures.items (unescape_step c.args.unit.now c.loop-mark.bytes.items c.loop-mark.at c.loop-mark.invariant c.requires c.in-Some.mark c.in-Some.ensures)

pub returns : goal.returns
returns c =
    let is = c.in_ok-extend_from_slice-2.ensures.items ∙ unescape_end c.args.unit.now c.loop-mark.bytes.items c.loop-mark.at c.loop-mark.invariant c.in_default.ensures in
    record { value = is; size = omega (arith, ap length is, unescaped_size c.args.unit.now (length c.args.unit.now)); escaped = λ last. record { rules = c.requires; last = last; is = is } }
