use Rattle.vx_table.proofs.Rewrites.{tables_leave, sections_leave, leaves_together, leaves_present, leaves_agree}
use Rattle.vx_table.proofs.laws_rewritten.parts_leave.Goals as goal

pub returns : goal.returns
returns c = record { table = tables_leave; sections = sections_leave; together = leaves_together; present = leaves_present; agree = leaves_agree }
