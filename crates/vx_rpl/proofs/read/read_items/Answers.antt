use Rattle.vx_table.proofs.Readings.{reads}
use Rattle.vx_rpl.proofs.Grown.{reads_grow}
use Rattle.vx_rpl.proofs.read.read_items.Goals as goal

pub returns : goal.returns
returns c =
    let answer = reads c.code_lists.new.scope c.code_lists.result c.code_lists.ensures in
    record { answer = answer; gained = reads_grow c.code_lists.result answer }
