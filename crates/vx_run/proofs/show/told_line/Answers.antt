use Rattle.std.proofs.Common.{◌≡◌, ℕ, List, [], sym, ◌∙◌, subst, IfOk}
use Rattle.vx_report.specs.SetLine.{set_text}
use Rattle.vx_run.proofs.Made.{done_line, set_line}
use Rattle.vx_run.proofs.show.told_line.Goals as goal

pub returns-in-PictureDone : goal.returns-in-PictureDone
returns-in-PictureDone c R of g units r before fed told count =
    let done = sym c.in-PictureDone.is ∙ told in
    subst (λ (l : List ℕ). IfOk c.picture_line.result (λ made. made.items ≡ l)) (done_line r before _ done (c.picture_numbers.ensures R of g units r before fed done count)) c.picture_line.ensures

pub returns-in-Some : goal.returns-in-Some
returns-in-Some c R of g units r before fed told count =
    let shown = rw c.in-Some.is at c.set_numbers.ensures R of g units r before fed told in
    subst (λ (l : List ℕ). IfOk c.set_line.result (λ made. made.items ≡ l)) (set_line r before c.args.what (set_text c.in-Some.numbers) c.in_default.not-PictureDone told (sym shown)) c.set_line.ensures

pub returns-in-None : goal.returns-in-None
returns-in-None c R of g units r before fed told count =
    let shown = rw c.in-None.is at c.set_numbers.ensures R of g units r before fed told in
    c.new.ensures.items ∙ set_line r before c.args.what [] c.in_default.not-PictureDone told (sym shown)
