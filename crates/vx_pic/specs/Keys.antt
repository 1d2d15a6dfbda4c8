-- The sets of a picture, as they are compared with another's (our own). The contracts of `SetsKey` rely on it.
use Rattle.std.specs.Prelude.{List}
use Rattle.vx_bits.specs.declared.list.Item.{Item}

-- The items of an SPS and of a PPS.
pub record SetItems : Type 0 where
  pub sps : List Item
  pub pps : List Item
