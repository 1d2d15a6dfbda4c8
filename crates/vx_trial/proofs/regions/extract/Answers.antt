-- A region of all pictures.
use Rattle.vx_trial.proofs.Fed.{waits_first}
use Rattle.vx_trial.proofs.regions.extract.Goals as goal

pub extract_fed-requires : goal.extract_fed-requires
extract_fed-requires c R of =
    let can = c.requires R of in
    (c.args.merged.now, can.0, can.1, waits_first R c.args.pictures c.in_ok-feed.feed c.args.merged.now can.0 c.in_ok-feed.ensures.seen can.1.read can.1.many)

pub returns : goal.returns
returns c R of ps can =
    c.extract_fed.ensures R of c.args.merged.now ps can (waits_first R c.args.pictures c.in_ok-feed.feed c.args.merged.now ps c.in_ok-feed.ensures.seen can.read can.many)
