use Rattle.std.proofs.Common.{rules, ◌≡◌, ◌++◌}
use Rattle.std.specs.Prelude.{codes}
use Rattle.vx_report.specs.FieldsLine.{body_json}
use Rattle.vx_report.proofs.FieldsText.{put_three}
use Rattle.vx_report.proofs.fields.put_start.Goals as goal

pub returns : goal.returns
returns c =
    let bit : c.extend_from_slice.new.self.items ≡ c.args.lines.now.items ++ codes "{\"bit\":0" = search rules in
    let body : c.put_body.new.lines.items ≡ c.extend_from_slice.new.self.items ++ body_json c.args.body = search rules in
    let fields : c.extend_from_slice-2.new.self.items ≡ c.put_body.new.lines.items ++ codes ",\"fields\":[" = c.in_ok-extend_from_slice-2.ensures.items in
    put_three c.args.lines.now.items (codes "{\"bit\":0") (body_json c.args.body) (codes ",\"fields\":[") _ _ _ bit body fields
