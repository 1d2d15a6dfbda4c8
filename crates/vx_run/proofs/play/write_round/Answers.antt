use Rattle.vx_run.proofs.play.write_round.Goals as goal

-- behind an end of sequence
pub returns-then-joins-clause-writes : goal.returns-then-joins-clause-writes
returns-then-joins-clause-writes g c done stands = rw c.if-joins.true (c.joined_round.ensures.answer done stands)

-- or not
pub returns-clause-writes : goal.returns-clause-writes
returns-clause-writes g c done stands = rw c.if-joins.false (c.round.ensures.answer done stands)
