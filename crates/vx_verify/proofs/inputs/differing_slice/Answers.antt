use Rattle.std.proofs.Common.{◌<◌, length, arith}
use Rattle.vx_pic.specs.Inputs.{input_in, inputs_in}
use Rattle.vx_verify.proofs.Placing.{as_many, place_read, same_more, within_slices}
use Rattle.vx_verify.proofs.inputs.differing_slice.Goals as goal

pub difference_at-requires-clause-place : goal.difference_at-requires-clause-place
difference_at-requires-clause-place c =
    let q = c.args.finished.now in
    let i = c.loop-i.i in
    let low : i < length c.in_ok-own.own.items = omega arith in
    within_slices q c.args.k i c.index.result.now (place_read q c.args.k i c.index.result.now c.in_ok-own.own.items c.in_ok-own.ensures.places low c.index.ensures)

pub difference_at-requires-clause-other : goal.difference_at-requires-clause-other
difference_at-requires-clause-other c =
    let q = c.args.source.now in
    let i = c.loop-i.i in
    let own = as_many c.args.finished.now c.args.k c.in_ok-own.own.items c.in_ok-own.ensures.places in
    let others = as_many q 0 c.in_ok-others.others.items c.in_ok-others.ensures.places in
    let low : i < length c.in_ok-others.others.items = omega (arith, own, others, c.requires) in
    within_slices q 0 i c.index-in-loop-i.result.now (place_read q 0 i c.index-in-loop-i.result.now c.in_ok-others.others.items c.in_ok-others.ensures.places low c.index-in-loop-i.ensures)

pub returns-in-Some : goal.returns-in-Some
returns-in-Some c =
    let q = c.args.finished.now in
    let p = c.args.source.now in
    let i = c.loop-i.i in
    let own = as_many q c.args.k c.in_ok-own.own.items c.in_ok-own.ensures.places in
    let others = as_many p 0 c.in_ok-others.others.items c.in_ok-others.ensures.places in
    let low : i < length c.in_ok-own.own.items = omega arith in
    let low_other : i < length c.in_ok-others.others.items = omega (arith, own, others, c.requires) in
    let here = place_read q c.args.k i c.index.result.now c.in_ok-own.own.items c.in_ok-own.ensures.places low c.index.ensures in
    let there = place_read p 0 i c.index-in-loop-i.result.now c.in_ok-others.others.items c.in_ok-others.ensures.places low_other c.index-in-loop-i.ensures in
    record {
      before = c.loop-i.invariant;
      input = input_in q here.part;
      other = input_in p there.part;
      here = here.input;
      there = there.input;
      differ = rw c.in-Some.is at (c.in_ok-found.ensures here.part there.part here.slice there.slice);
    }

pub loop-i-preserved : goal.loop-i-preserved
loop-i-preserved c =
    let q = c.args.finished.now in
    let p = c.args.source.now in
    let i = c.loop-i.i in
    let own = as_many q c.args.k c.in_ok-own.own.items c.in_ok-own.ensures.places in
    let others = as_many p 0 c.in_ok-others.others.items c.in_ok-others.ensures.places in
    let low : i < length c.in_ok-own.own.items = omega arith in
    let low_other : i < length c.in_ok-others.others.items = omega (arith, own, others, c.requires) in
    let here = place_read q c.args.k i c.index.result.now c.in_ok-own.own.items c.in_ok-own.ensures.places low c.index.ensures in
    let there = place_read p 0 i c.index-in-loop-i.result.now c.in_ok-others.others.items c.in_ok-others.ensures.places low_other c.index-in-loop-i.ensures in
    let same = rw c.in_default.is at (c.in_ok-found.ensures here.part there.part here.slice there.slice) in
    same_more (inputs_in q c.args.k) (inputs_in p 0) i (input_in q here.part) (input_in p there.part) here.input there.input same c.loop-i.invariant
