use Rattle.std.proofs.Common.{◌≡◌}
use Rattle.vx_layout.specs.inner.Marks.{AreMarks}
use Rattle.vx_layout.proofs.paint.map_of.Given as goal

abbrev pub invariant-loop-k : goal.invariant-loop-k
invariant-loop-k l = record {
  width_is : l.grid.width ≡ l.fn.width;
  height_is : l.grid.height ≡ l.fn.height;
  marks : AreMarks l.grid l.rects l.k;
}
