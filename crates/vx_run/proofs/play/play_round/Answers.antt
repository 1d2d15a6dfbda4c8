use Rattle.vx_run.specs.Change.{change}
use Rattle.vx_run.proofs.PlayRounds.{plays_in}
use Rattle.vx_run.proofs.play.play_round.Goals as goal

pub returns-in-Err-clause-plays : goal.returns-in-Err-clause-plays
returns-in-Err-clause-plays g c done stands =
    let out = change g.K.Sink.bytes_taken g.K.Sink.write_faults c.args.out.now c.write_round.new.out in
    rw c.of_write.ensures (plays_in c.args.joins _ done _ out c.args.rounds c.in-Err.error (c.in-Err.ensures.writes done stands))
