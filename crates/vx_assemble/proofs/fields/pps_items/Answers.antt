use Rattle.std.proofs.Common.{[]}
use Rattle.vx_table.specs.Reading.{at_front}
use Rattle.vx_pps.specs.Pps.{pps_form}
use Rattle.vx_assemble.proofs.Shown.{same_at, pps_read}
use Rattle.vx_assemble.proofs.fields.pps_items.Goals as goal

pub returns : goal.returns
returns c R h =
    let rbsp = c.args.rbsp.now in
    let read = pps_read rbsp [] c.read_pps_fields.result c.read_pps_fields.new.into c.in_ok-unless_memory.ensures (rw c.new-items.ensures at c.read_pps_fields.ensures) in
    same_at pps_form (at_front rbsp) [] (R.pps rbsp) (h.pps rbsp) c.read_pps_fields.result read.0 c.read_pps_fields.new.into c.in_ok-unless_memory.ensures read.1
