use Rattle.std.proofs.Common.{◌≡◌, ◌+◌, Ok, Err, arith, refl, subst}
use Rattle.std.proofs.lemmas.Result.{err_from_is_err_and}
use Rattle.vx_pic.specs.Parts.{Parts}
use Rattle.vx_push.specs.Cutting.{Cutting}
use Rattle.vx_push.specs.inner.Cutting.{Cuts, StepsTo}
use Rattle.vx_push.proofs.Cutting.{halts, cut_not, cut_kept}
use Rattle.vx_push.proofs.Few.{few_held}
use Rattle.vx_push.proofs.cutter.Cutter.step.Goals as goal

pub returns-in_err-look-clause-answer : goal.returns-in_err-look-clause-answer
returns-in_err-look-clause-answer c held going R of t h ps done cut =
    let p = err_from_is_err_and c.from_residual.result c.from_residual.ensures.1 in
    let answer = halts R t _ h ps done (rw (← c.self.view_is) at cut) c.self.inside.intake.state _ refl c.in_err-look.ensures.halts in
    rw (p.1, p.2) (subst (λ (x : Cutting). StepsTo R t x h ps done (Err c.in_err-look.field-0.0)) c.self.view_is answer)

pub returns-in_err-kept-clause-answer : goal.returns-in_err-kept-clause-answer
returns-in_err-kept-clause-answer c held going R of t h ps done cut =
    let p = err_from_is_err_and c.from_residual-in_err-kept.result c.from_residual-in_err-kept.ensures.1 in
    let was = rw (← c.self.view_is) at cut in
    let bytes = c.cut_picture.new.cut.taken in
    let cuts : Cuts c.picture.result done c.cut_picture.new.extractor bytes c.self.inside.pictures (Err c.in_err-kept.field-0.0) = c.in_err-kept.ensures.cuts done (was.stands (rw (← c.self.view_is) at going)) in
    let of_lent = subst (λ (q : Parts). Cuts q done c.cut_picture.new.extractor bytes c.self.inside.pictures (Err c.in_err-kept.field-0.0)) c.picture.ensures.lent cuts in
    rw (p.1, p.2) (cut_not R t _ h ps done was (rw (← c.self.view_is) at held) c.in_ok-look.ensures.holds c.cut_picture.new.extractor c.cut_picture.ensures.task bytes _ of_lent)

pub returns-clause-answer : goal.returns-clause-answer
returns-clause-answer c held going R of t h ps done cut =
    let was = rw (← c.self.view_is) at cut in
    let open_ = rw (← c.self.view_is) at going in
    let bytes = c.cut_picture.new.cut.taken in
    let cuts : Cuts c.picture.result done c.cut_picture.new.extractor bytes c.self.inside.pictures (Ok c.in_ok-kept.kept) = c.in_ok-kept.ensures.cuts done (was.stands open_) in
    let of_lent = subst (λ (q : Parts). Cuts q done c.cut_picture.new.extractor bytes c.self.inside.pictures (Ok c.in_ok-kept.kept)) c.picture.ensures.lent cuts in
    let few = few_held R c.self.inside.intake h ps c.in_ok-look.ensures.holds was.come in
    let more : c.saturating_add-self-inside.result ≡ c.self.inside.pictures + 1 = omega (arith, c.saturating_add-self-inside.ensures, few, was.count) in
    cut_kept R t _ h ps done was (rw (← c.self.view_is) at held) c.in_ok-look.ensures.holds c.cut_picture.new.extractor c.cut_picture.ensures.task bytes
    (c.pictures_have_slices.ensures R of) open_ c.pass.new.self (λ qs come. c.pass.ensures.comes c.in_ok-look.ensures.holds R of h qs come) c.saturating_add-self-inside.result more c.in_ok-kept.kept of_lent
