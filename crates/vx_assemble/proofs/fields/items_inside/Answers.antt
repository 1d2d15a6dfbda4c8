use Rattle.std.proofs.Common.{true}
use Rattle.vx_ph.specs.Header.{header_form}
use Rattle.vx_ph.specs.InForce.{in_force, structures}
use Rattle.vx_pic.specs.H266.{header_place}
use Rattle.vx_assemble.specs.inner.Fields.{head_items}
use Rattle.vx_assemble.proofs.Shown.{same_at}
use Rattle.vx_assemble.proofs.fields.items_inside.Goals as goal

pub returns : goal.returns
returns c R h =
    let rbsp = c.args.rbsp.now in
    let sps = c.args.sps.now in
    let pps = c.args.pps.now in
    let read = rw (c.header_bits-bits.ensures, c.in_ok-items.ensures) at c.read_ph_fields.ensures in
    same_at (header_form (structures sps) (in_force sps pps)) (header_place true rbsp) (head_items true) (R.header true sps pps rbsp) (h.header true sps pps rbsp) c.read_ph_fields.result
    c.read_ph_fields.new.bits c.read_ph_fields.new.into c.in_ok-unless_memory.ensures read
