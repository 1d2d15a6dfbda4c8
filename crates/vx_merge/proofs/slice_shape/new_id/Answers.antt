use Rattle.std.proofs.Common.{[], map, option_copied, ap, sym, ◌∙◌}
use Rattle.std.specs.Prelude.{unwrap_or}
use Rattle.vx_merge.specs.Needed.{id_of_body}
use Rattle.vx_merge.proofs.slice_shape.new_id.Goals as goal

pub returns-in-Some : goal.returns-in-Some
returns-in-Some c =
    let named = c.args.named.now in
    c.id_of.ensures ∙ ap (λ o. id_of_body (map (λ b. b.now) named.bodies) named.ids.items (unwrap_or o []))
    (ap option_copied (sym c.in-Some.is) ∙ c.filter_body.ensures)

pub returns-in-None : goal.returns-in-None
returns-in-None c =
    let named = c.args.named.now in
    c.id_of-in-None.ensures ∙ ap (λ o. id_of_body (map (λ b. b.now) named.bodies) named.ids.items (unwrap_or o []))
    (ap option_copied (sym c.in-None.is) ∙ c.filter_body.ensures)
