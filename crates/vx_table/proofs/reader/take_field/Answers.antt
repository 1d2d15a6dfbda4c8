use Rattle.std.proofs.Common.{rules, refl, sym, w64}
use Rattle.std.proofs.lemmas.Int.{to_z-of_z}
use mir.Val.{SFits}
use Rattle.vx_table.specs.Spelling.{missed, broken}
use Rattle.vx_table.proofs.reader.take_field.Goals as goal

pub returns-in-Err : goal.returns-in-Err
returns-in-Err c =
    let missing = rw c.fork-behind.ensures at c.in-Err.ensures.0 in
    rw c.at-bit.ensures.taken (missed missing, refl)

pub returns-in-Some : goal.returns-in-Some
returns-in-Some c =
    let fits : SFits w64 c.in-Ok.value = search rules in
    let found = rw (to_z-of_z w64 c.in-Ok.value fits) at c.in-Some.ensures in
    let begins = rw c.fork-behind.ensures at c.in-Ok.ensures.0 in
    rw (c.report.ensures, c.at-bit.ensures.taken) (broken begins (sym found), refl)
