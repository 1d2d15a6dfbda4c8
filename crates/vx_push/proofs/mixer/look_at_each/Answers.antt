use Rattle.std.proofs.Common.{◌≡◌, ◌<◌, length, refl, subst, arith}
use Rattle.std.proofs.lemmas.Option.{slice_get_read}
use Rattle.std.proofs.lemmas.Result.{err_from_is_err_and}
use Rattle.vx_push.specs.declared.intake.State.{State}
use Rattle.vx_push.specs.inner.Mixing.{mark_of, HaltsBy}
use Rattle.vx_push.proofs.Mixing.{marked_more}
use Rattle.vx_push.proofs.mixer.look_at_each.Goals as goal

pub loop-k-init : goal.loop-k-init
loop-k-init c = (refl, λ j i before. absurd (omega (arith, before)))

-- this one is the first that does
pub returns-in_err-ended-clause-halts : goal.returns-in_err-ended-clause-halts
returns-in_err-ended-clause-halts c =
    let p = err_from_is_err_and c.from_residual.result c.from_residual.ensures.1 in
    let intakes = c.args.intakes.now in
    rw (p.1, p.2) (record {
      k = c.loop-k.k;
      intake = c.index-intakes-k.result;
      at = slice_get_read intakes (length intakes) c.loop-k.k c.index-intakes-k.result refl c.loop-k-test.true c.index-intakes-k.is;
      halts = subst (λ (s : State). HaltsBy s c.loop-k.k c.in_err-ended.field-0.0) c.state.ensures.state c.in_err-ended.ensures.halts;
      marks = c.loop-k.ended.items;
      before = c.loop-k.invariant.1;
    })

pub loop-k-preserved : goal.loop-k-preserved
loop-k-preserved c =
    let intakes = c.args.intakes.now in
    let at = slice_get_read intakes (length intakes) c.loop-k.k c.index-intakes-k.result refl c.loop-k-test.true c.index-intakes-k.is in
    let so = subst (λ (s : State). s ≡ mark_of c.in_ok-ended.field-0) c.state.ensures.state c.in_ok-ended.ensures.so in
    let within : c.loop-k.k < length c.loop-k.ended.items = omega (arith, c.loop-k.invariant.0, c.requires.count, c.loop-k-test.true) in
    (c.loop-k.invariant.0, marked_more intakes c.loop-k.ended.items c.loop-k.k c.index-intakes-k.result c.in_ok-ended.field-0 c.loop-k.invariant.1 at so within)

pub returns-clause-seen : goal.returns-clause-seen
returns-clause-seen c = record {
  count = omega (arith, c.loop-k.invariant.0, c.requires.count);
  marked = λ j i before at. c.loop-k.invariant.1 j i (omega (arith, before, c.loop-k-test.false)) at;
}
