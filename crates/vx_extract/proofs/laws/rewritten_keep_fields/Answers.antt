use Rattle.std.proofs.Common.{refl}
use Rattle.vx_extract.specs.Shapes.{pps_shape, sps_shape}
use Rattle.vx_extract.proofs.ShapesPps.{pps_is_shape}
use Rattle.vx_extract.proofs.laws.rewritten_keep_fields.Goals as goal

pub returns : goal.returns
returns c = λ target level q sps pps are within re. record {
  of_sps = c.reshaped_keeps.ensures q.sps sps (sps_shape q target level) re.of_sps;
  of_pps = c.region_keeps.ensures q.pps pps (pps_shape q target) are.pps
      (pps_is_shape c.sets_tell_partitions.ensures c.read_slices_are_listable.ensures c.region_is_listable.ensures c.region_is_layout.ensures q target are within) re.of_pps refl;
}
