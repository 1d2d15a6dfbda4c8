use Rattle.vx_sps.proofs.Written.{read_is_set}
use Rattle.vx_sps.specs.Structure.{sps_form}
use Rattle.vx_table.proofs.ReadFrom.{read_from}
use Rattle.vx_sps.proofs.read.read_sps.Goals as goal

pub new-requires-clause-items : goal.new-requires-clause-items
new-requires-clause-items c = read_is_set c.args.rbsp.now c.in_ok-items.items (rw c.in_ok-items.was at c.read_items.ensures)

pub new-requires-clause-read : goal.new-requires-clause-read
new-requires-clause-read c =
    read_from sps_form c.args.rbsp.now c.in_ok-items.items c.in_ok-short.short c.in_ok-short.ensures.copy (rw c.in_ok-items.was at c.read_items.ensures)
