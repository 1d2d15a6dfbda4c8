use Rattle.std.proofs.Common.{rules, ◌≡◌, arith, sym, subst}
use Rattle.vx_pps.specs.Reshaped.{IsShape}
use Rattle.vx_pic.specs.Sets.{pps_id, referred_sps}
use Rattle.vx_extract.specs.Shapes.{pps_shape}
use Rattle.vx_extract.proofs.ShapesPps.{pps_is_shape}
use Rattle.vx_write.proofs.Sizes.{subpics_count}
use Rattle.vx_extract.proofs.shapes.pps_shape.Goals as goal

pub region-requires : goal.region-requires
region-requires c =
    let count = subpics_count c.args.picture.now c.sets_in_force.ensures in
    rw c.layout.ensures.value (omega (arith, c.requires, count))

pub returns-clause-shape : goal.returns-clause-shape
unfolding pps_id referred_sps
returns-clause-shape c =
    let made : _ ≡ pps_shape c.args.picture.now c.args.target = search rules in
    subst (IsShape c.args.picture.now.pps) (sym made)
    (pps_is_shape c.sets_tell_partitions.ensures c.read_slices_are_listable.ensures c.region_is_listable.ensures c.region_is_layout.ensures c.args.picture.now c.args.target c.sets_in_force.ensures c.requires)
