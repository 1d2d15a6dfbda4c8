use Rattle.std.proofs.Common.{subst, sym, arith}
use Rattle.vx_layout.specs.Rects.{IsPart}
use Rattle.vx_frame.proofs.geometry.push_slices.Goals as goal

pub moved-requires : goal.moved-requires
moved-requires c =
    let corner = c.args.corner in
    let part : IsPart corner.w corner.h c.item.result = subst (IsPart corner.w corner.h) (sym c.item.ensures.index) (c.requires.fills.parts c.loop-i.i c.item.result (omega arith)) in
    let own = c.requires.part in
    (omega (arith, part.wide, part.across, own.across), omega (arith, part.high, part.down, own.down))
