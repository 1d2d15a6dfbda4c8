use Rattle.std.proofs.Common.{rules, ◌≡◌, sym, subst}
use Rattle.vx_sps.specs.Set.{ctb_size_of}
use Rattle.vx_sps.specs.Reshaped.{IsShape}
use Rattle.vx_pic.specs.Sets.{sps_id}
use Rattle.vx_extract.specs.Shapes.{sps_shape}
use Rattle.vx_extract.proofs.ShapesSps.{sps_is_shape}
use Rattle.vx_extract.proofs.shapes.sps_shape.Goals as goal

pub returns-clause-shape : goal.returns-clause-shape
unfolding sps_id
returns-clause-shape c =
    let made : _ ≡ sps_shape c.args.picture.now c.args.target c.args.level = search rules in
    subst (IsShape (ctb_size_of c.args.picture.now.sps)) (sym made) (sps_is_shape c.sets_tell_partitions.ensures c.args.picture.now c.args.target c.args.level c.sets_in_force.ensures c.requires)
