use Rattle.std.proofs.Common.{[]}
use Rattle.vx_table.specs.Reading.{at_front}
use Rattle.vx_sps.specs.Structure.{sps_form}
use Rattle.vx_assemble.proofs.Shown.{same_at}
use Rattle.vx_assemble.proofs.fields.sps_items.Goals as goal

pub returns : goal.returns
returns c R h =
    let rbsp = c.args.rbsp.now in
    let read = rw c.new-items.ensures at c.read_sps_fields.ensures in
    same_at sps_form (at_front rbsp) [] (R.sps rbsp) (h.sps rbsp) c.read_sps_fields.result read.0 c.read_sps_fields.new.into c.in_ok-unless_memory.ensures read.1
