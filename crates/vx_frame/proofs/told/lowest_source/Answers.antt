use Rattle.std.proofs.Common.{◌<◌, length, ap, unwrap_or, subst, below_more, arith, true, false}
use Rattle.std.specs.Fn.{FnReturnsAt}
use Rattle.std.proofs.lemmas.Option.{none-some}
use Rattle.vx_frame.specs.Rounds.{picture_at}
use Rattle.vx_frame.proofs.Reading.{picture_read}
use Rattle.vx_frame.proofs.told.lowest_source.Goals as goal

pub returns-then-holds : goal.returns-then-holds
returns-then-holds g c =
    let round = c.args.round.now in
    record {
      found = λ k is. subst (λ j. (j < length round) × FnReturnsAt g.F.Fn c.args.holds (picture_at round j) true) (ap (λ o. unwrap_or o k) is) (
        c.loop-k-test.true,
        record { shown = _; shows = picture_read round c.loop-k.k c.index-round-k.result c.loop-k-test.true c.index-round-k.is; says = record { met = subst (g.F.Fn.post c.args.holds _) c.if-holds.true c.holds.ensures } },
      );
      lower = c.loop-k.invariant;
    }

pub loop-k-preserved : goal.loop-k-preserved
loop-k-preserved g c =
    let round = c.args.round.now in
    below_more (λ j. FnReturnsAt g.F.Fn c.args.holds (picture_at round j) false) c.loop-k.k c.loop-k.invariant
    (record { shown = _; shows = picture_read round c.loop-k.k c.index-round-k.result c.loop-k-test.true c.index-round-k.is; says = record { met = subst (g.F.Fn.post c.args.holds _) c.if-holds.false c.holds.ensures } })

pub returns : goal.returns
returns g c = record { found = λ k is. absurd (none-some k is); lower = λ k less. c.loop-k.invariant k (omega (arith, less)) }
