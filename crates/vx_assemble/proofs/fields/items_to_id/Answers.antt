use Rattle.vx_assemble.specs.inner.Fields.{head_items}
use Rattle.vx_assemble.proofs.Shown.{same_to_id}
use Rattle.vx_assemble.proofs.fields.items_to_id.Goals as goal

pub returns : goal.returns
returns c R h =
    let rbsp = c.args.rbsp.now in
    let inside = c.args.inside in
    let read = rw (c.header_bits-bits.ensures, c.in_ok-items.ensures) at c.read_pps_id_fields.ensures in
    same_to_id inside rbsp (head_items inside) (R.referred_pps inside rbsp) (h.referred_pps inside rbsp) c.read_pps_id_fields.result c.read_pps_id_fields.new.bits c.read_pps_id_fields.new.into
    c.in_ok-unless_memory.ensures read
