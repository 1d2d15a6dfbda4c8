use Rattle.std.proofs.Common.{◌≤◌, ◌∙◌, length, ap}
use Rattle.serde_json.specs.Data.{array}
use Rattle.serde_json.specs.View.{items_of}
use Rattle.serde_json.proofs.Views.{view-Array}
use Rattle.vx_report.proofs.Arrays.{bodies_all}
use Rattle.vx_report.proofs.slice.bodies_value.Goals as goal

pub returns : goal.returns
returns c =
    let long : length c.args.bodies.now ≤ c.loop-i.i = rw c.len-i-end.ensures at c.loop-i-test.false in
    view-Array c.loop-i.values ∙ ap (λ ds. array (items_of ds)) (bodies_all c.args.bodies.now c.loop-i.i c.loop-i.values.items long c.loop-i.invariant)
