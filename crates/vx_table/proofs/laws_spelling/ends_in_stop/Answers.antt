use Rattle.vx_table.proofs.Stopped.{tables_stop, sections_stop, stops_together, at_boundary, last_byte}
use Rattle.vx_table.proofs.laws_spelling.ends_in_stop.Goals as goal

pub returns : goal.returns
returns c = record { table = tables_stop; sections = sections_stop; together = stops_together; boundary = at_boundary; last = last_byte }
