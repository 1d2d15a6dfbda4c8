use Rattle.std.proofs.Common.{List, Option, subst, ◌∙◌}
use Rattle.vx_pic.specs.Parts.{Parts}
use Rattle.vx_verify.specs.declared.mismatch.Mismatch.{Mismatch}
use Rattle.vx_verify.specs.Verified.{IsMismatch}
use Rattle.vx_verify.specs.inner.Found.{Finds}
use Rattle.vx_verify.proofs.verifier.judge.Goals as goal

pub returns-in-Some : goal.returns-in-Some
returns-in-Some g c =
    let spots = c.args.spots.now in
    let q = c.args.finished.now in
    let P : Option Mismatch → Type 0 = Finds spots q c.as_slice.result.now in
    let Q : List Parts → Type 0 = λ round. IsMismatch spots q round c.in-Some.mismatch in
    subst Q (c.as_slice.ensures.value ∙ c.in_ok-round.ensures) (subst P c.in-Some.is c.in_ok-found.ensures)
