use Rattle.std.proofs.Common.{[]}
use Rattle.vx_table.specs.Reading.{at_front}
use Rattle.vx_ptl.specs.Structures.{vps}
use Rattle.vx_assemble.proofs.Shown.{same_at}
use Rattle.vx_assemble.proofs.fields.vps_items.Goals as goal

pub returns : goal.returns
returns c R h =
    let rbsp = c.args.rbsp.now in
    let read = rw c.new-items.ensures at c.read_vps_fields.ensures in
    same_at vps (at_front rbsp) [] (R.vps rbsp) (h.vps rbsp) c.read_vps_fields.result read.0 c.read_vps_fields.new.into c.in_ok-unless_memory.ensures read.1
