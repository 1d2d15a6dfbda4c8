use Rattle.std.proofs.Common.{◌∙◌, ap}
use Rattle.std.proofs.lemmas.Result.{IfOk-weaker}
use Rattle.serde_json.specs.Written.{compact_text, has_float}
use Rattle.vx_report.proofs.PictureText.{has_text}
use Rattle.vx_report.proofs.picture.json_text.Goals as goal

pub returns : goal.returns
returns c =
    let value = c.in_ok-value.ensures in
    let text = has_text c.args.picture in
    IfOk-weaker c.to_string.result _ _ (λ t written. written (ap has_float value ∙ text.0) ∙ ap compact_text value ∙ text.1) c.to_string.ensures.text
