use Rattle.std.proofs.Common.{◌∙◌}
use Rattle.vx_assemble.proofs.Fronts.{inside_on}
use Rattle.vx_assemble.proofs.unit.SliceUnit.has_header_inside.Goals as goal

pub returns : goal.returns
returns c =
    let u = c.args.self.now in
    c.has_header_inside.ensures ∙ inside_on u.front.bytes.now u.bytes.now u.begins u.front.sound.header
