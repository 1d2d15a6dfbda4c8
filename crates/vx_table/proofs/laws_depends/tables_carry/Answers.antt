use Rattle.vx_table.proofs.Chains.{table_carries, sections_carry}
use Rattle.vx_table.proofs.laws_depends.tables_carry.Goals as goal

pub returns : goal.returns
returns c = record { table = table_carries; sections = sections_carry }
