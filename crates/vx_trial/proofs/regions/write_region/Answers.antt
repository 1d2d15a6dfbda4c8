-- A picture of which the region can be extracted.
use Rattle.std.proofs.lemmas.Result.{on_ok_weaker}
use Rattle.vx_trial.proofs.Extracting.{is_extracted, is_unbarred}
use Rattle.vx_trial.proofs.regions.write_region.Goals as goal

pub to_memory-requires : goal.to_memory-requires
to_memory-requires c =
    let done = c.requires.stands.0 in
    is_unbarred c.args.picture.now done c.args.extractor.now c.picture.new.self c.picture.ensures.task c.requires.tid c.requires.has _ _ _ _ c.picture.result
    (c.picture.ensures.answer done c.requires.stands.1)

pub returns-clause-written : goal.returns-clause-written
returns-clause-written c done stands =
    let wrote = c.picture.ensures.answer done stands in
    on_ok_weaker c.to_memory.result
    (λ is. is_extracted c.args.picture.now done c.args.extractor.now c.picture.new.self c.picture.ensures.task c.requires.tid c.requires.has _ _ _ _ (rw is at wrote))
    c.to_memory.ensures
