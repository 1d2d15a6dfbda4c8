use Rattle.std.proofs.Common.{arith}
use Rattle.vx_pic.specs.Parts.{part_of}
use Rattle.vx_verify.proofs.Placing.{places_more, places_same}
use Rattle.vx_verify.proofs.places.places.Goals as goal
use Rattle.vx_verify.proofs.places.places.Goals.{then-slice-k+in_ok-push, else-slice-k}

pub loop-i-preserved : goal.loop-i-preserved
loop-i-preserved c =
    let q = c.args.picture.now in
    let s = part_of c.slice.result in
    elim c.if-slice-k.branch [
      | then-slice-k+in_ok-push w ↦ rw w.places-is (
        places_more q c.args.k c.loop-i.i s c.loop-i.places.items _ w.in_ok-push.ensures.items c.slice.ensures.slice w.if-slice-k.true c.loop-i.invariant.0,
        omega (arith, w.in_ok-push.ensures.len, c.loop-i.invariant.1),
      )
      | else-slice-k w ↦ rw w.places-is (
        places_same q c.args.k c.loop-i.i s c.loop-i.places.items c.slice.ensures.slice w.if-slice-k.false c.loop-i.invariant.0,
        omega (arith, c.loop-i.invariant.1),
      )
    ]
