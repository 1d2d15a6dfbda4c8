use Rattle.std.proofs.Common.{◌≡◌, ◌++◌, ◌∙◌, true, ap, subst}
use Rattle.vx_pic.specs.Units.{rbsp_of}
use Rattle.vx_assemble.specs.Fields as fields
use Rattle.vx_assemble.specs.inner.Fields.{head_items}
use Rattle.vx_assemble.proofs.state.State.whole_header_items.Goals as goal

pub returns : goal.returns
returns c R h before apart =
    let w = c.whole-whole in
    subst (λ x. c.in_ok-items.items ≡ head_items true ++ fields.picture_header_items R h true x before) (w.result.spells ∙ ap rbsp_of w.ensures) (c.in_ok-items.ensures R h before apart)
