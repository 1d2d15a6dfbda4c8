use Rattle.std.proofs.Common.{rules, w64}
use Rattle.std.proofs.lemmas.Int.{to_z-of_z}
use mir.Val.{SFits}
use Rattle.vx_pps.specs.Partition.{fixed_form}
use Rattle.vx_pps.specs.inner.Walked.{ended, coded, refused}
use Rattle.vx_pps.proofs.Ranges.{fixed_range}
use Rattle.vx_pps.proofs.numbers.code_fixed.Goals as goal

pub returns-in-Ok-clause-walk : goal.returns-in-Ok-clause-walk
unfolding fixed_form
returns-in-Ok-clause-walk g c =
    let fits : SFits w64 c.in-Ok.value = search rules in
    let n = rw (to_z-of_z w64 c.in-Ok.value fits) at c.natural.ensures in
    rw n (coded c.in-Ok.ensures.step ended)

pub returns-in-Ok-clause-range : goal.returns-in-Ok-clause-range
returns-in-Ok-clause-range g c =
    let fits : SFits w64 c.in-Ok.value = search rules in
    let n = rw (to_z-of_z w64 c.in-Ok.value fits) at c.natural.ensures in
    rw n (fixed_range c.args.bits c.args.limits c.in-Ok.value c.requires c.in-Ok.ensures.value.code c.in-Ok.ensures.value.range)

pub returns-in-Err-clause-walk : goal.returns-in-Err-clause-walk
unfolding fixed_form
returns-in-Err-clause-walk g c = refused c.in-Err.ensures.step
