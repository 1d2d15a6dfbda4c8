use Rattle.std.proofs.Common.{List, Bool, inl, subst}
use Rattle.std.proofs.lemmas.Result.{err_from_is_err_and}
use Rattle.vx_merge.specs.declared.ended.Lengths.TheVariants.{AllGo}
use Rattle.vx_merge.specs.Ends.{IsLengths}
use Rattle.vx_push.proofs.mixer.look.Goals as goal

-- one keeps it from being merged
pub returns-in_err-look_at_each-clause-looks : goal.returns-in_err-look_at_each-clause-looks
returns-in_err-look_at_each-clause-looks c =
    let p = err_from_is_err_and c.from_residual.result c.from_residual.ensures.1 in
    rw (p.1, p.2) (inl c.in_err-look_at_each.ensures.halts)

-- each holds a picture
pub returns-in-Ok-true-clause-looks : goal.returns-in-Ok-true-clause-looks
returns-in-Ok-true-clause-looks c =
    let go = rw c.in-Ok-true.field-0-test at c.in-Ok-true.ensures.goes in
    (c.look_at_each.new.ended.items, c.in_ok-look_at_each.ensures.seen, subst (λ (marks : List Bool). IsLengths marks AllGo) c.deref.ensures.value go)
