use Rattle.std.proofs.Common.{ap}
use Rattle.std.proofs.lemmas.Result.{err_from_is_err_and}
use Rattle.vx_pic.specs.declared.accepted.Accepted.TheVariants.{Sps}
use Rattle.vx_pic.specs.Readings.{sps_read}
use Rattle.vx_assemble.specs.inner.Changes.{with_sps}
use Rattle.vx_assemble.proofs.Holding.{sps_held}
use Rattle.vx_assemble.proofs.Ordering.{sps_ordered}
use Rattle.vx_assemble.proofs.Taking.{refused_within, failed_outside, took_outside}
use Rattle.vx_assemble.proofs.state.State.take_sps.Goals as goal

pub returns-in_err-check_outside-clause-answer : goal.returns-in_err-check_outside-clause-answer
returns-in_err-check_outside-clause-answer c R h before held =
    let p = err_from_is_err_and c.from_residual.result c.from_residual.ensures.1 in
    rw (p.1, p.2) (refused_within before c.args.self.now _ sps_read _ (c.in_err-check_outside.ensures before held))

pub returns-in_err-id-clause-answer : goal.returns-in_err-id-clause-answer
returns-in_err-id-clause-answer c R h before held =
    let p = err_from_is_err_and c.from_residual-in_err-id.result c.from_residual-in_err-id.ensures.1 in
    rw (p.1, p.2) (failed_outside before (with_sps c.put_set.new.sets c.put_set.new.made c.args.self.now) R.sps sps_read c.args.unit.bytes.now c.args.unit.rbsp.now _ (c.in_ok-check_outside.ensures before held) c.args.unit.spells
    (c.in_err-id.ensures.refused R h))

pub returns-in_err-id-clause-order : goal.returns-in_err-id-clause-order
returns-in_err-id-clause-order c = rw (c.in_err-id.ensures.kept, c.in_err-id.ensures.made) c.requires

pub returns-clause-answer : goal.returns-clause-answer
returns-clause-answer c R h before held =
    let put = c.in_ok-id.ensures.put in
    took_outside before _ R.sps sps_read c.args.unit.bytes.now c.args.unit.rbsp.now put.set _ (c.in_ok-check_outside.ensures before held) c.args.unit.spells
    (put.read R h) (sps_held c.args.self.now c.put_set.new.sets c.put_set.new.made before put.set held put.stands) (ap Sps put.own)

pub returns-clause-order : goal.returns-clause-order
returns-clause-order c =
    let put = c.in_ok-id.ensures.put in
    sps_ordered c.args.self.now c.put_set.new.sets c.put_set.new.made c.requires put.places put.kept
