use Rattle.vx_run.proofs.Checking.{HasChecked-none}
use Rattle.vx_run.proofs.extract.count_fed.Goals as goal

pub count_pictures-requires-clause-task : goal.count_pictures-requires-clause-task
count_pictures-requires-clause-task g c =
    let task = c.limited-extractor.ensures.task in record { target = task.0; level = task.1; tid = task.2 }

pub count_pictures-requires-clause-going : goal.count_pictures-requires-clause-going
count_pictures-requires-clause-going g c = c.limited-extractor.ensures.stands.going

pub count_pictures-requires-clause-none : goal.count_pictures-requires-clause-none
count_pictures-requires-clause-none g c R of = HasChecked-none _ _ R c.args.task _ c.args.feed.now (c.requires.none R of)
