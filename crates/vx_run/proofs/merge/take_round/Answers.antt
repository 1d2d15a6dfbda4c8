use Rattle.vx_run.proofs.Working.{did_in}
use Rattle.vx_run.proofs.merge.take_round.Goals as goal

pub returns-in-Err-clause-takes : goal.returns-in-Err-clause-takes
returns-in-Err-clause-takes g c done stands =
    rw c.of_write.ensures (did_in c.args.work _ done _ _ c.args.rounds c.in-Err.error (c.in-Err.ensures.does done stands))
