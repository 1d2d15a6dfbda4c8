use Rattle.vx_run.proofs.Taking.{taken_none}
use Rattle.vx_run.proofs.extract.count_kept.Goals as goal

pub count_fed-requires-clause-none : goal.count_fed-requires-clause-none
count_fed-requires-clause-none g c R of =
    taken_none _ _ R _ c.in_ok-feed.feed c.in_ok-feed.ensures.open.reader (c.in_ok-feed.ensures.fed R) c.in_ok-feed.ensures.needed
