use Rattle.std.proofs.Common.{rules, ◌≡◌, subst, w64}
use Rattle.std.proofs.lemmas.Int.{to_z-of_z}
use mir.Val.{SFits}
use Rattle.vx_table.specs.Spelling.{item_of}
use Rattle.vx_table.specs.Values.{IsValueOf}
use Rattle.vx_table.proofs.writer.take_value.Goals as goal

pub returns-in_default : goal.returns-in_default
unfolding item_of
returns-in_default c = λ v more is items. c.in_default.ensures v more is.code items

pub returns-then-not-is_value : goal.returns-then-not-is_value
unfolding item_of
returns-then-not-is_value c = λ v more is items.
    let fits : SFits w64 c.in-Some.value = search rules in
    let same : v ≡ c.in-Some.value = c.in-Some.ensures.1 v more is.code items in
    let tests = rw (to_z-of_z w64 c.in-Some.value fits) at c.is_value.ensures in
    let yes_it_is = tests.1 (subst (λ x. IsValueOf c.args.cell x) same is) in
    let no_it_is_not = rw c.if-not-is_value.true at yes_it_is in
    search (rules, no_it_is_not)

pub returns : goal.returns
unfolding item_of
returns c =
    let fits : SFits w64 c.in-Some.value = search rules in
    let tests = rw (to_z-of_z w64 c.in-Some.value fits, c.if-not-is_value.false) at c.is_value.ensures in
    rw (to_z-of_z w64 c.in-Some.value fits) (tests.0 (search rules), c.in-Some.ensures.0)
