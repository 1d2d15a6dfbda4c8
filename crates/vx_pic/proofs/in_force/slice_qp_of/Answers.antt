use Rattle.std.proofs.Common.{rules, ◌≡◌, ◌∙◌, w64, to_z, of_z}
use Rattle.vx_pic.specs.Parts.{read_of}
use Rattle.vx_pic.proofs.Ranges.{qp_low, qp_high}
use Rattle.vx_pic.proofs.in_force.slice_qp_of.Goals as goal

pub total_qp-requires-clause-low : goal.total_qp-requires-clause-low
total_qp-requires-clause-low c =
    let init : to_z w64 (of_z w64 c.init_qp.result) ≡ c.init_qp.result = search rules in
    let delta : to_z w64 (of_z w64 c.qp_delta.result) ≡ c.qp_delta.result = search rules in
    qp_low c.args.picture.now.sps c.args.picture.now.pps c.args.picture.now.header.fields c.sps_fields-sps.result.now (read_of c.args.slice.now)
    (to_z w64 (of_z w64 c.init_qp.result)) (to_z w64 (of_z w64 c.qp_delta.result)) (init ∙ c.init_qp.ensures) (delta ∙ c.qp_delta.ensures)
    c.requires c.sps_fields-sps.ensures.items c.sps_fields-sps.ensures.set

pub total_qp-requires-clause-high : goal.total_qp-requires-clause-high
total_qp-requires-clause-high c =
    let init : to_z w64 (of_z w64 c.init_qp.result) ≡ c.init_qp.result = search rules in
    let delta : to_z w64 (of_z w64 c.qp_delta.result) ≡ c.qp_delta.result = search rules in
    qp_high c.args.picture.now.sps c.args.picture.now.pps c.args.picture.now.header.fields (read_of c.args.slice.now)
    (to_z w64 (of_z w64 c.init_qp.result)) (to_z w64 (of_z w64 c.qp_delta.result)) (init ∙ c.init_qp.ensures) (delta ∙ c.qp_delta.ensures)
    c.requires
