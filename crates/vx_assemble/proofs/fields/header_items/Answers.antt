use Rattle.std.proofs.Common.{◌≡◌, ◌++◌, [], false, sym, subst}
use Rattle.vx_ph.specs.InForce.{in_force, structures}
use Rattle.vx_ph.specs.Picture.{unit_form}
use Rattle.vx_pic.specs.H266.{header_place}
use Rattle.vx_assemble.specs.Fields as fields
use Rattle.vx_assemble.specs.inner.Fields.{head_items}
use Rattle.vx_assemble.proofs.Shown.{same_at}
use Rattle.vx_assemble.proofs.fields.header_items.Goals as goal

pub returns-then-inside : goal.returns-then-inside
returns-then-inside c R h =
    subst (λ b. c.in_ok-items.items ≡ head_items b ++ fields.header_items R h b c.args.rbsp.now c.args.sps.now c.args.pps.now) (sym c.if-inside.true) (c.in_ok-items.ensures R h)

pub returns : goal.returns
returns c R h =
    let rbsp = c.args.rbsp.now in
    let sps = c.args.sps.now in
    let pps = c.args.pps.now in
    let read = rw c.new-items.ensures at c.read_ph_unit_fields.ensures in
    subst (λ b. c.read_ph_unit_fields.new.into ≡ head_items b ++ fields.header_items R h b rbsp sps pps) (sym c.if-inside.false)
    (same_at (unit_form (structures sps) (in_force sps pps)) (header_place false rbsp) [] (R.header false sps pps rbsp) (h.header false sps pps rbsp) c.read_ph_unit_fields.result
    read.0 c.read_ph_unit_fields.new.into c.in_ok-unless_memory.ensures read.1)
