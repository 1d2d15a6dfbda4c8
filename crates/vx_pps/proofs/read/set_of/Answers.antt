use Rattle.vx_table.proofs.ReadFrom.{read_from}
use Rattle.vx_pps.specs.Pps.{pps_form}
use Rattle.vx_pps.proofs.read.set_of.Goals as goal

pub new-requires-clause-read : goal.new-requires-clause-read
new-requires-clause-read c = read_from pps_form c.args.rbsp.now c.args.fields c.in_ok-short.short c.in_ok-short.ensures.copy c.requires.read
