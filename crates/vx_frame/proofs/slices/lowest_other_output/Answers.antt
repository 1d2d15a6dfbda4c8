use Rattle.std.proofs.Common.{Some, below_more, sym, arith}
use Rattle.vx_frame.specs.Rounds.{SomeUnlikeFirst}
use Rattle.vx_frame.specs.Rules.{outputs_of}
use Rattle.vx_frame.proofs.Reading.{first_read, some_alike_read, some_unlike_read}
use Rattle.vx_frame.proofs.slices.lowest_other_output.Goals as goal

pub returns-then-has_other_output : goal.returns-then-has_other_output
returns-then-has_other_output c = record {
  in_range = c.loop-k-test.true;
  breaks = some_unlike_read outputs_of c.args.round.now c.loop-k.k c.index-round-k.result (Some c.first_output-first.result) c.loop-k-test.true c.index-round-k.is
      (sym (first_read outputs_of c.args.round.now c.index-round-0.result c.first_output-first.result (omega (arith, c.requires)) c.index-round-0.is c.first_output-first.ensures)) c.if-has_other_output.ensures.unlike;
  lower = c.loop-k.invariant;
}

pub loop-k-preserved : goal.loop-k-preserved
loop-k-preserved c =
    below_more (λ j. ¬ SomeUnlikeFirst outputs_of c.args.round.now j) c.loop-k.k c.loop-k.invariant
    (some_alike_read outputs_of c.args.round.now c.loop-k.k c.index-round-k.result (Some c.first_output-first.result) c.loop-k-test.true c.index-round-k.is
    (sym (first_read outputs_of c.args.round.now c.index-round-0.result c.first_output-first.result (omega (arith, c.requires)) c.index-round-0.is c.first_output-first.ensures)) c.if-has_other_output.ensures.alike)

pub returns : goal.returns
returns c = λ k short. c.loop-k.invariant k (omega (arith, short))
