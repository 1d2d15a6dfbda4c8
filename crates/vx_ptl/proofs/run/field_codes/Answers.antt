use Rattle.std.proofs.Common.{refl}
use Rattle.vx_ptl.specs.Run.{field_codes}
use Rattle.vx_ptl.proofs.run.field_codes.Goals as goal

pub returns : goal.returns
unfolding field_codes
returns c = rw (c.note_table-4.ensures, c.note_table-3.ensures, c.note_table-2.ensures, c.note_table.ensures) refl
