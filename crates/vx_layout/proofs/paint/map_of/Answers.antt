use Rattle.std.proofs.Common.{◌≡◌, length, arith, ◌∙◌}
use Rattle.vx_layout.specs.Rects.{CoversOnce}
use Rattle.vx_layout.specs.inner.Marks.{AreMarks}
use Rattle.vx_layout.proofs.Marks.{AreMarks-more, not_once-taken, not_once-bare}
use Rattle.vx_layout.proofs.paint.map_of.Goals as goal

pub returns-then-not-paint : goal.returns-then-not-paint
returns-then-not-paint c = λ once.
    let same : CoversOnce c.args.rects.now c.loop-k.grid.width c.loop-k.grid.height = rw (c.loop-k.invariant.width_is, c.loop-k.invariant.height_is) once in
    not_once-taken _ _ c.loop-k.k _ (omega arith) c.item.ensures.index c.loop-k.invariant.marks c.if-not-paint.ensures.taken same

pub loop-k-preserved : goal.loop-k-preserved
loop-k-preserved c = record {
  width_is = c.if-not-paint.ensures.painted.same_width ∙ c.loop-k.invariant.width_is;
  height_is = c.if-not-paint.ensures.painted.same_height ∙ c.loop-k.invariant.height_is;
  marks = AreMarks-more _ _ _ c.loop-k.k _ (omega arith) c.item.ensures.index c.loop-k.invariant.marks c.if-not-paint.ensures.painted;
}

pub returns-else-is_marked : goal.returns-else-is_marked
returns-else-is_marked c = λ once.
    let same : CoversOnce c.args.rects.now c.loop-k.grid.width c.loop-k.grid.height = rw (c.loop-k.invariant.width_is, c.loop-k.invariant.height_is) once in
    let at_end : c.loop-k.k ≡ length c.args.rects.now = omega arith in
    let marks : AreMarks c.loop-k.grid c.args.rects.now (length c.args.rects.now) = rw (← at_end) c.loop-k.invariant.marks in
    not_once-bare _ _ marks c.if-is_marked.ensures.bare same
