use Rattle.std.proofs.Common.{ℕ, ◌++◌, take, subst}
use Rattle.vx_push.specs.Handed.{zeros}
use Rattle.vx_push.specs.inner.Comes.{HasTaken}
use Rattle.vx_push.proofs.seek.give_zeros.Goals as goal

pub returns-in-Ok-clause-comes : goal.returns-in-Ok-clause-comes
returns-in-Ok-clause-comes c R of g ps taken =
    let P : ℕ → Type 0 = λ n. HasTaken R c.feed.new.self (g ++ take n zeros) ps in
    let fed : P c.in-Ok._count = record { places = taken.places; before = taken.before; fed = c.in-Ok.ensures.fed R g taken.places taken.before taken.fed; done = taken.done } in
    c.seek.ensures.comes R of _ ps (subst P c.in-Ok.ensures.count fed)
