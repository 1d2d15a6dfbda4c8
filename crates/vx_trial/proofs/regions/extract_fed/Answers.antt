-- A region of all pictures, by an extractor of it.
use Rattle.std.proofs.Common.{◌∙◌, [], refl}
use Rattle.std.proofs.lemmas.Result.{IfOk-weaker}
use Rattle.vx_trial.proofs.Extracting.{begins, ends}
use Rattle.vx_trial.proofs.regions.extract_fed.Goals as goal

pub extract_pictures-requires : goal.extract_pictures-requires
extract_pictures-requires c R of =
    let can = c.requires R of in
    let task = c.new-extractor.ensures.task in (
      can.1,
      begins R c.args.k c.args.pictures can.0 can.1 c.args.feed.now c.new-extractor.result [] can.2 task.0 task.1 task.2 c.new-extractor.ensures.stands refl can.3,
    )

pub returns : goal.returns
returns c R of bytes ps can waits =
    let task = c.new-extractor.ensures.task in
    let first = begins R c.args.k c.args.pictures bytes ps c.args.feed.now c.new-extractor.result [] can task.0 task.1 task.2 c.new-extractor.ensures.stands refl waits in
    IfOk-weaker c.extract_pictures.result _ _ (λ region. ends R c.args.k ps c.extract_pictures.new.feed c.extract_pictures.new.extractor region.taken (c.extract_pictures.ensures.task.target ∙ task.0))
    (c.extract_pictures.ensures.extracted R of ps first)
