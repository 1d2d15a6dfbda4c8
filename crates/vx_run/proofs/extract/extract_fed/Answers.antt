use Rattle.vx_run.proofs.Extracting.{HasExtracted-none}
use Rattle.vx_run.proofs.extract.extract_fed.Goals as goal

pub extract_pictures-requires-clause-again : goal.extract_pictures-requires-clause-again
extract_pictures-requires-clause-again g c R of = c.extractions_read_again.ensures.taken R of _

pub extract_pictures-requires-clause-none : goal.extract_pictures-requires-clause-none
extract_pictures-requires-clause-none g c R of =
    HasExtracted-none _ _ _ _ R _ (c.extractions_read_again.ensures.taken R of _) _ _ c.args.feed.now c.limited-extractor.result (c.requires.none R of) c.limited-extractor.ensures.stands

pub returns-clause-extracts : goal.returns-clause-extracts
returns-clause-extracts g c R of =
    let task = c.limited-extractor.ensures.task in
    rw (task.0, task.1, task.2) at c.extract_pictures.ensures.extracts R of
