use Rattle.std.proofs.Common.{refl}
use Rattle.vx_table.specs.Forms.{has_value}
use Rattle.vx_table.proofs.Naming.{is_none_of, differ, coded_once}
use Rattle.vx_ph.proofs.laws.fields_are_coded_once.Goals as goal

pub returns : goal.returns
unfolding has_value is_none_of differ
returns c = coded_once _ refl
