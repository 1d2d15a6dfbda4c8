use Rattle.std.proofs.Common.{◌<◌, get_or, length, below_more, subst, arith}
use Rattle.std.proofs.lemmas.List.{get_or_default}
use Rattle.vx_layout.specs.Layouts.{no_rect}
use Rattle.vx_layout.proofs.FrameSlices.{AllZip-from}
use Rattle.vx_fit.specs.FrameLines.{corner_at, no_numbers, part_at}
use Rattle.vx_fit.specs.Sources.{IsSized}
use Rattle.vx_fit.proofs.Lined.{part_read}
use Rattle.vx_calls.proofs.fit.are_sized.Goals as goal

pub loop-k-preserved : goal.loop-k-preserved
loop-k-preserved c = record {
  same = c.loop-k.invariant.same;
  sized = below_more (λ j. IsSized (corner_at c.args.corners.now j) (part_at c.args.parts.now j)) c.loop-k.k c.loop-k.invariant.sized
      (subst (IsSized (corner_at c.args.corners.now c.loop-k.k)) (part_read c.args.parts.now c.loop-k.k c.index-parts-k.result (omega (arith, c.loop-k.invariant.same)) c.index-parts-k.is) c.if-not-is_sized.ensures);
}

pub returns : goal.returns
returns c =
    let corners = c.args.corners.now in
    let parts = c.args.parts.now in
    AllZip-from IsSized corners parts c.loop-k.invariant.same
    (λ j d e short.
    let low : j < length parts = omega (arith, c.loop-k.invariant.same) in
    subst (λ s. IsSized s (get_or parts j e)) (get_or_default corners j no_rect d short)
    (subst (λ p. IsSized (corner_at corners j) p) (get_or_default parts j no_numbers e low) (c.loop-k.invariant.sized j (omega arith))))
