use Rattle.std.proofs.Common.{Some, None, refl, arith}
use Rattle.std.proofs.lemmas.Result.{err_from_is_err_and}
use Rattle.vx_merge.specs.inner.Progress.{merging_of}
use Rattle.vx_merge.proofs.JoinedRounds.{joins_barred, starts, writes_as}
use Rattle.vx_merge.proofs.Writing.{writes_counted, writes_front, writes_none}
use Rattle.vx_merge.proofs.merger.write_round.Goals as goal

pub join_refusal-requires : goal.join_refusal-requires
join_refusal-requires g c = let few = c.requires.corners.few in omega (arith, few, c.requires.same)

pub returns-in-Some-clause-answer : goal.returns-in-Some-clause-answer
returns-in-Some-clause-answer g c done stands =
    joins_barred c.args.joins c.args.round.now done (merging_of c.args.corners.now c.args.level c.args.progress.now) _ _ c.in-Some.refusal
    (starts c.args.joins c.args.corners.now c.args.round.now c.join_refusal.result (Some c.in-Some.refusal) c.requires.same c.in-Some.is c.join_refusal.ensures)

pub returns-in_err-units-clause-answer : goal.returns-in_err-units-clause-answer
returns-in_err-units-clause-answer g c done stands =
    let corners = c.args.corners.now in
    let round = c.args.round.now in
    let x = merging_of corners c.args.level c.round_units.new.progress in
    let begins = starts c.args.joins corners round c.join_refusal.result None c.requires.same c.in_default.is c.join_refusal.ensures in
    let p = err_from_is_err_and c.from_residual.result c.from_residual.ensures.1 in
    rw (p.1, p.2)
    (writes_as c.args.joins round done x _ _ _ _ _ begins (writes_none round round done x _ _ _ refl (c.in_err-units.ensures.answer done stands)))

pub returns-in_err-write_units-clause-answer : goal.returns-in_err-write_units-clause-answer
returns-in_err-write_units-clause-answer g c done stands =
    let corners = c.args.corners.now in
    let round = c.args.round.now in
    let x = merging_of corners c.args.level c.round_units.new.progress in
    let begins = starts c.args.joins corners round c.join_refusal.result None c.requires.same c.in_default.is c.join_refusal.ensures in
    let p = err_from_is_err_and c.from_residual-in_err-write_units.result c.from_residual-in_err-write_units.ensures.1 in
    rw (p.1, p.2)
    (writes_as c.args.joins round done x _ _ _ _ _ begins
    (writes_front round done x c.in_ok-units.units _ _ _ _ _ (c.in_ok-units.ensures.answer done stands) c.in_err-write_units.ensures))

pub returns-clause-answer : goal.returns-clause-answer
returns-clause-answer g c done stands =
    let corners = c.args.corners.now in
    let round = c.args.round.now in
    let x = merging_of corners c.args.level c.round_units.new.progress in
    let begins = starts c.args.joins corners round c.join_refusal.result None c.requires.same c.in_default.is c.join_refusal.ensures in
    writes_as c.args.joins round done x _ _ _ _ _ begins
    (writes_counted round done x c.in_ok-units.units _ _ _ _ (c.in_ok-units.ensures.answer done stands) c.in_ok-write_units.ensures)
