use Rattle.std.proofs.Common.{◌≡◌, ◌∷◌, ◌++◌, ◌∙◌, ℕ, List, OnOk, ap, sym, subst, append-nil}
use Rattle.vx_run.proofs.Made.{inputs_shown, no_inputs}
use Rattle.vx_run.proofs.show.put_inputs.Goals as goal

pub returns-then-not-inputs : goal.returns-then-not-inputs
returns-then-not-inputs c R of g units r before fed told count = rw c.if-not-inputs.true (sym (append-nil c.args.lines.now.items))

pub returns-in-PictureDone : goal.returns-in-PictureDone
returns-in-PictureDone c R of g units r before fed told count =
    let shown = inputs_shown r before c.args.pictures c.picture.result count (sym c.in-PictureDone.is ∙ told) (c.picture.ensures.shows R g units (r ∷ before) fed) in
    rw c.if-not-inputs.false (subst (λ (l : List ℕ). OnOk c.input_lines.result (c.input_lines.new.lines.items ≡ c.args.lines.now.items ++ l)) shown c.input_lines.ensures)

pub returns-in_default : goal.returns-in_default
returns-in_default c R of g units r before fed told count =
    let none = no_inputs r before c.args.what c.in_default.not-PictureDone told in
    rw c.if-not-inputs.false (sym (append-nil c.args.lines.now.items) ∙ ap (λ (l : List ℕ). c.args.lines.now.items ++ l) (sym none))
