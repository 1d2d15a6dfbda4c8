use Rattle.std.proofs.Common.{rules}
use Rattle.vx_assemble.specs.declared.unit.UnitClass.TheVariants as classes
use Rattle.vx_assemble.proofs.Looking.{plain_shows, reserved_shows, layer_shows}
use Rattle.vx_assemble.proofs.state.State.unit_fields.Goals as goal

pub returns-then-header : goal.returns-then-header
returns-then-header c R h before held = reserved_shows R h before c.args.unit.now c.nal_header-header.result _ (search rules) (search rules) c.new.ensures

pub returns-then-header-ne0 : goal.returns-then-header-ne0
returns-then-header-ne0 c R h before held = layer_shows R h before c.args.unit.now c.nal_header-header.result _ (search rules) (search rules) c.new-then-header-ne0.ensures

pub returns-in-Slice : goal.returns-in-Slice
returns-in-Slice c R h before held =
    plain_shows R h before c.args.unit.now c.nal_header-header.result classes.Slice c.in_ok-read.read (search rules) (search rules) (search rules) (search rules) (c.in_ok-read.ensures R h before held)

pub returns : goal.returns
returns c R h before held =
    plain_shows R h before c.args.unit.now c.nal_header-header.result c.class_of-class.result c.in_ok-read-2.read (search rules) (search rules) (search rules) c.class_of-class.ensures
    (c.in_ok-read-2.ensures R h before held)
