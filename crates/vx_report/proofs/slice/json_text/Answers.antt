use Rattle.std.proofs.Common.{◌∙◌, ap}
use Rattle.std.proofs.lemmas.Result.{IfOk-weaker}
use Rattle.serde_json.specs.Written.{compact_text, has_float}
use Rattle.vx_pic.specs.Seen.{input_seen}
use Rattle.vx_report.proofs.SliceText.{of_slice}
use Rattle.vx_report.proofs.slice.json_text.Goals as goal

pub returns : goal.returns
returns c =
    let value = c.in_ok-value.ensures in
    let none = of_slice c.args.numbers (input_seen c.args.input.now) in
    IfOk-weaker c.to_string.result _ _ (λ t written. written (ap has_float value ∙ none) ∙ ap compact_text value) c.to_string.ensures.text
