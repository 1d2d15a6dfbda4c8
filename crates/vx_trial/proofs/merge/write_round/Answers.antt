-- A round that isn't barred.
use Rattle.std.proofs.Common.{Some}
use Rattle.std.proofs.lemmas.Result.{on_ok_weaker}
use Rattle.vx_trial.proofs.Rounds.{is_unbarred, is_written}
use Rattle.vx_trial.proofs.merge.write_round.Goals as goal

pub to_memory-requires : goal.to_memory-requires
to_memory-requires c =
    let goes = c.requires.goes in
    is_unbarred _ goes.0 c.args.merger.now c.round.new.self (Some c.args.merged.now.taken) (Some c.round.new.out.taken) _ _ c.round.ensures.task goes.2 c.round.result
    (c.round.ensures.answer goes.0 goes.1)

pub returns-clause-written : goal.returns-clause-written
returns-clause-written c done stands =
    let wrote = c.round.ensures.answer done stands in
    on_ok_weaker c.to_memory.result
    (λ is. is_written _ done c.args.merger.now c.round.new.self c.args.merged.now.taken c.round.new.out.taken _ _ c.round.ensures.task (rw is at wrote))
    c.to_memory.ensures
