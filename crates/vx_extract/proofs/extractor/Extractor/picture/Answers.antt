use Rattle.std.proofs.Common.{Some, None, refl}
use Rattle.vx_extract.specs.Extracting.{Extracting}
use Rattle.vx_extract.proofs.Extracted.{writes_stopped}
use Rattle.vx_extract.proofs.extractor.Extractor.picture.Goals as goal

pub returns-in-Ok-clause-answer : goal.returns-in-Ok-clause-answer
returns-in-Ok-clause-answer g c done stands =
    let stood = rw (← c.self.view_is) at stands in
    rw c.in_default.is (c.in-Ok.ensures.answer done stood.slots)

pub returns-in-Err-clause-answer : goal.returns-in-Err-clause-answer
returns-in-Err-clause-answer g c done stands =
    let stood = rw (← c.self.view_is) at stands in
    let x : Extracting = record {
      target = c.self.inside.task.target;
      level = c.self.inside.task.level;
      tid = c.self.inside.task.tid;
      slots = c.write.new.slots;
      first = None;
    } in
    let y : Extracting = record x { first = Some c.first_of.result } in
    writes_stopped c.args.picture.now done x y _ _ _ _ c.in-Err.error refl refl refl (c.in-Err.ensures.answer done stood.slots)
