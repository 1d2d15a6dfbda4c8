use Rattle.std.proofs.Common.{below_more, arith}
use Rattle.vx_frame.specs.Rules.{picture_header}
use Rattle.vx_frame.proofs.headers.lowest_in_headers.Goals as goal

pub returns-in-Some : goal.returns-in-Some
returns-in-Some c =
    let tells = rw c.in-Some.is at c.in_ok-field.ensures in
    (record { in_range = c.loop-k-test.true; breaks = tells.0; lower = c.loop-k.invariant }, tells.1)

pub loop-k-preserved : goal.loop-k-preserved
loop-k-preserved c =
    below_more (λ j. ¬ (picture_header c.args.round.now).breaks j) c.loop-k.k c.loop-k.invariant (rw c.in_default.is at c.in_ok-field.ensures)

pub returns : goal.returns
returns c = λ k short. c.loop-k.invariant k (omega (arith, short))
