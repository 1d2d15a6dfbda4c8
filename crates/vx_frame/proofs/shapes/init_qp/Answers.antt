use Rattle.std.proofs.Common.{rules, ◌≡◌, pos, sym, ap, subst, ◌∙◌, w32, w64, to_z, of_z}
use Rattle.std.specs.Prelude.{unwrap_or}
use Rattle.vx_fields.specs.declared.pps.TheConstants.{pps_init_qp_minus26}
use Rattle.vx_pic.specs.Sets.{signed}
use Rattle.vx_frame.proofs.InitQp.{IsQp, init_qp_is}
use Rattle.vx_frame.proofs.shapes.init_qp.Goals as goal

pub narrowed-requires : goal.narrowed-requires
narrowed-requires c =
    let same : to_z w64 (of_z w64 c.unwrap_or.result) ≡ c.unwrap_or.result = search rules in
    let v : c.unwrap_or.result ≡ signed c.fields-fields.result.now pps_init_qp_minus26 = c.unwrap_or.ensures ∙ ap (λ o. unwrap_or o (pos 0)) c.first.ensures in
    subst IsQp (sym (same ∙ v)) (init_qp_is c.fields-fields.result.now c.fields-fields.ensures.set)

pub returns-clause-range : goal.returns-clause-range
returns-clause-range c =
    let own : to_z w32 (of_z w32 c.narrowed.result) ≡ c.narrowed.result = search rules in
    let same : to_z w64 (of_z w64 c.unwrap_or.result) ≡ c.unwrap_or.result = search rules in
    let v : c.unwrap_or.result ≡ signed c.fields-fields.result.now pps_init_qp_minus26 = c.unwrap_or.ensures ∙ ap (λ o. unwrap_or o (pos 0)) c.first.ensures in
    subst IsQp (sym (own ∙ c.narrowed.ensures ∙ same ∙ v)) (init_qp_is c.fields-fields.result.now c.fields-fields.ensures.set)
