use Rattle.std.proofs.Common.{rules, ◌≡◌, ℤ, pos, ◌+ℤ◌, ◌-ℤ◌, ap, sym, ◌∙◌, w32, w64, to_z, of_z}
use Rattle.vx_fields.specs.declared.pps.TheConstants.{pps_init_qp_minus26}
use Rattle.vx_pic.specs.Parts.{read_of}
use Rattle.vx_pic.specs.Sets.{qp_delta, signed}
use Rattle.vx_pic.proofs.Ranges.{qp_high, qp_low, qp_sum}
use Rattle.vx_merge.proofs.SliceFronts.{moved_sum}
use Rattle.vx_merge.proofs.slice_shape.moved_delta.Goals as goal

pub moved-requires-clause-low : goal.moved-requires-clause-low
moved-requires-clause-low c =
    let q = c.args.picture.now in
    let init : to_z w64 (of_z w64 c.from.result) ≡ signed q.pps pps_init_qp_minus26 = search (rules, c.init_qp-own.ensures.value) in
    let delta : to_z w64 (of_z w64 c.qp_delta-delta.result) ≡ qp_delta q.pps q.header.fields (read_of c.args.slice.now) = search
    (rules, c.qp_delta-delta.ensures) in
    qp_low q.sps q.pps q.header.fields c.fields-sps.result.now (read_of c.args.slice.now) _ _ init delta c.requires
    (c.fields-sps.ensures.items ∙ c.sps.ensures) c.fields-sps.ensures.set

pub moved-requires-clause-high : goal.moved-requires-clause-high
moved-requires-clause-high c =
    let q = c.args.picture.now in
    let init : to_z w64 (of_z w64 c.from.result) ≡ signed q.pps pps_init_qp_minus26 = search (rules, c.init_qp-own.ensures.value) in
    let delta : to_z w64 (of_z w64 c.qp_delta-delta.result) ≡ qp_delta q.pps q.header.fields (read_of c.args.slice.now) = search
    (rules, c.qp_delta-delta.ensures) in
    qp_high q.sps q.pps q.header.fields (read_of c.args.slice.now) _ _ init delta c.requires

pub returns-clause-says : goal.returns-clause-says
returns-clause-says c =
    let q = c.args.picture.now in
    let own : ℤ = to_z w64 (of_z w64 c.from.result) in
    let other : ℤ = to_z w64 (of_z w64 c.from-2.result) in
    let delta : ℤ = to_z w64 (of_z w64 c.qp_delta-delta.result) in
    let own_is : own ≡ signed q.pps pps_init_qp_minus26 = search (rules, c.init_qp-own.ensures.value) in
    let other_is : other ≡ signed c.args.first.now.pps pps_init_qp_minus26 = search (rules, c.init_qp-others.ensures.value) in
    let delta_is : delta ≡ qp_delta q.pps q.header.fields (read_of c.args.slice.now) = search (rules, c.qp_delta-delta.ensures) in
    let result : to_z w32 (of_z w32 c.narrowed.result) ≡ (own +ℤ delta) -ℤ other = search
    (rules, c.narrowed.ensures, c.moved.ensures.sum) in
    qp_sum q.pps q.header.fields (read_of c.args.slice.now) own delta _ own_is delta_is
    (ap (λ f. (pos 26 +ℤ f) +ℤ to_z w32 (of_z w32 c.narrowed.result)) (sym other_is) ∙ ap (λ z. (pos 26 +ℤ other) +ℤ z) result
    ∙ moved_sum own delta other)
