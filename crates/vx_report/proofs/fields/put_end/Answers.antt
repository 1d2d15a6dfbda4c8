use Rattle.std.proofs.Common.{rules, ◌≡◌, ◌++◌, decimal}
use Rattle.std.specs.Prelude.{codes}
use Rattle.vx_report.specs.FieldsLine.{refused_json, structure_word}
use Rattle.vx_report.proofs.FieldsText.{put_three, put_six}
use Rattle.vx_report.proofs.fields.put_end.Goals as goal

pub returns : goal.returns
returns c =
    let old = c.args.lines.now.items in
    let close : c.push.new.self.items ≡ old ++ codes "]" = search rules in
    let refused : c.put_refused.new.lines.items ≡ c.push.new.self.items ++ refused_json c.args.refused = search rules in
    let structure : c.extend_from_slice.new.self.items ≡ c.put_refused.new.lines.items ++ codes ",\"structure\":\"" = c.in_ok-extend_from_slice.ensures.items in
    let word : c.extend_from_slice-2.new.self.items ≡ c.extend_from_slice.new.self.items ++ structure_word c.args.structure = search rules in
    let unit : c.put_number.new.lines.items ≡ c.extend_from_slice-2.new.self.items ++ (codes "\",\"unit\":" ++ decimal c.args.unit) = search rules in
    let end : c.extend_from_slice-3.new.self.items ≡ c.put_number.new.lines.items ++ codes "}\n" = search rules in
    put_six old (codes "]") (refused_json c.args.refused) (codes ",\"structure\":\"") (structure_word c.args.structure) (codes "\",\"unit\":" ++ decimal c.args.unit) (codes "}\n") _ _
    (put_three old (codes "]") (refused_json c.args.refused) (codes ",\"structure\":\"") _ _ _ close refused structure)
    (put_three c.extend_from_slice.new.self.items (structure_word c.args.structure) (codes "\",\"unit\":" ++ decimal c.args.unit) (codes "}\n") _ _ _ word unit end)
