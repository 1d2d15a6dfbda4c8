use Rattle.std.proofs.Common.{◌++◌, refl}
use Rattle.vx_fields.specs.laws.Numbers.{numbered_fields, names}
use Rattle.vx_fields.proofs.Rising.{rises, rising_differ}
use Rattle.vx_fields.proofs.laws.numbers_are_distinct.Goals as goal

pub returns : goal.returns
unfolding rises
returns c = rising_differ 0 1024 (numbered_fields ++ names) refl
