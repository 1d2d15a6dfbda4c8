use Rattle.std.proofs.Common.{ap, ◌∙◌, below_more, arith}
use Rattle.vx_frame.specs.inner.Tools.{kept_in, rule_of}
use Rattle.vx_frame.proofs.Reading.{picture_read}
use Rattle.vx_frame.proofs.sets.lowest_other.Goals as goal

pub field_at-requires-clause-kept : goal.field_at-requires-clause-kept
field_at-requires-clause-kept c =
    c.in_ok-kept.ensures ∙ ap (kept_in c.args.set) (picture_read c.args.round.now 0 c.index-round-0.result (omega (arith, c.requires)) c.index-round-0.is)

pub returns-in-Some : goal.returns-in-Some
returns-in-Some c =
    let tells = rw c.in-Some.is at c.in_ok-field.ensures in
    (record { in_range = c.loop-k-test.true; breaks = tells.0; lower = c.loop-k.invariant }, tells.1)

pub loop-k-preserved : goal.loop-k-preserved
loop-k-preserved c =
    below_more (λ j. ¬ (rule_of c.args.set c.args.round.now).breaks j) c.loop-k.k c.loop-k.invariant (rw c.in_default.is at c.in_ok-field.ensures)

pub returns : goal.returns
returns c = λ k short. c.loop-k.invariant k (omega (arith, short))
