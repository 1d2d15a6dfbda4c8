use Rattle.std.proofs.Common.{◌++◌, [], ap, sym, ◌∙◌}
use Rattle.vx_table.specs.Rewritten.{other_items}
use Rattle.vx_table.specs.Shown.{shown_items}
use Rattle.vx_table.specs.Spelling.{items_along}
use Rattle.vx_table.proofs.Rewriting.{apart}
use Rattle.vx_pps.specs.Pps.{kept_pps_fields, pps_form}
use Rattle.vx_pps.proofs.laws_sets.kept_and_others_tell.Goals as goal

pub returns : goal.returns
returns c = λ items others is of same rest.
    let here = items_along pps_form is.set.values in
    let there = items_along pps_form of.set.values in
    let shown = ap (λ x. shown_items kept_pps_fields x) is.set.given ∙ same ∙ sym (ap (λ x. shown_items kept_pps_fields x) of.set.given) in
    let hidden = ap (λ x. other_items kept_pps_fields x) is.set.given ∙ rest ∙ sym (ap (λ x. other_items kept_pps_fields x) of.set.given) in
    let values = (apart kept_pps_fields [] [] [] [] is.set.follows of.set.follows (ap (λ x. x ++ []) shown) (ap (λ x. x ++ []) hidden)).0 in
    sym is.set.given ∙ ap (items_along pps_form) values ∙ of.set.given
