use Rattle.vx_push.proofs.Coming.{come_none}
use Rattle.vx_push.proofs.intake.Intake.new.Goals as goal

pub returns-clause-comes : goal.returns-clause-comes
returns-clause-comes c R = come_none R c.in_ok-feed.feed (c.in_ok-feed.ensures.fed R) c.in_ok-feed.ensures.open.reader
