use Rattle.std.proofs.lemmas.Result.{IfOk-weaker}
use Rattle.vx_pic.specs.Seen.{input_seen}
use Rattle.vx_report.proofs.InputsText.{line_is}
use Rattle.vx_report.proofs.inputs.line_at.Goals as goal

pub returns : goal.returns
returns c =
    IfOk-weaker c.slice_line.result _ _
    (λ line is. line_is c.args.before c.args.picture.now c.args.i c.of.result (input_seen c.in_ok-input.input) line.items c.requires c.of.ensures c.in_ok-input.ensures.parts is)
    c.slice_line.ensures
