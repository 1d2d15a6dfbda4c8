use Rattle.std.proofs.Common.{◌<◌, ap, unwrap_or, subst, below_more, arith, true, false}
use Rattle.std.proofs.lemmas.Option.{none-some}
use Rattle.vx_frame.proofs.told.lowest_of.Goals as goal

pub returns-then-holds : goal.returns-then-holds
returns-then-holds g c = record {
  found = λ k is. subst (λ j. (j < c.args.count) × goal.F-post g c.args.holds j true) (ap (λ o. unwrap_or o k) is) (c.loop-k-test.true, subst (goal.F-post g c.args.holds c.loop-k.k) c.if-holds.true c.holds.ensures);
  lower = c.loop-k.invariant;
}

pub loop-k-preserved : goal.loop-k-preserved
loop-k-preserved g c = below_more (λ j. goal.F-post g c.args.holds j false) c.loop-k.k c.loop-k.invariant (subst (goal.F-post g c.args.holds c.loop-k.k) c.if-holds.false c.holds.ensures)

pub returns : goal.returns
returns g c = record { found = λ k is. absurd (none-some k is); lower = λ k less. c.loop-k.invariant k (omega (arith, less)) }
