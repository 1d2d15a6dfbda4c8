use Rattle.std.proofs.Common.{arith}
use Rattle.vx_pic.specs.Parts.{IsPlaced}
use Rattle.vx_pic.proofs.Spans.{suffix, each_at}
use Rattle.vx_pic.proofs.picture.Picture.slice.Goals as goal

pub returns-clause-suffix : goal.returns-clause-suffix
returns-clause-suffix c =
    let at : IsPlaced c.self.inside.parts.bytes.now c.item-slot.result.now =
    each_at (IsPlaced c.self.inside.parts.bytes.now) c.self.inside.parts.slices.now c.args.i c.item-slot.result.now c.self.invariant.places c.item-slot.ensures.value in
    suffix c.self.inside.parts.bytes.now c.item-slot.result.now.start c.item-slot.result.now.payload c.item-slot.result.now.end at.start
    (omega (arith, at.payload)) at.end
