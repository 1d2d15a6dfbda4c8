use Rattle.std.proofs.Common.{rules}
use Rattle.vx_vectors.proofs.reshaped_pps.divided_like.Goals as goal

pub can_be_divided-requires-clause-layout : goal.can_be_divided-requires-clause-layout
can_be_divided-requires-clause-layout c = rw (c.shape_of-shape.ensures.tiles, c.shape_of-shape.ensures.slices) c.in_ok-division.ensures.layout

pub can_be_divided-requires-clause-listable : goal.can_be_divided-requires-clause-listable
can_be_divided-requires-clause-listable c = rw (c.shape_of-shape.ensures.tiles, c.shape_of-shape.ensures.slices) c.in_ok-division.ensures.listable

pub reshaped-requires : goal.reshaped-requires
reshaped-requires c zero = search rules
