use Rattle.std.proofs.Common.{◌≡◌, map}
use Rattle.vx_run.specs.Grammar.{play, texts}
use Rattle.vx_run.specs.inner.Placings.{placing_in}
use Rattle.vx_run.proofs.Spelling.{spelled_once}
use Rattle.vx_run.proofs.play.play_region.Goals as goal

pub returns-in-Play-clause-region : goal.returns-in-Play-clause-region
returns-in-Play-clause-region c level ps asks =
    let read = map placing_in (texts c.in-Play.placings.words.now) in
    let spelled = rw c.in-Play.is at c.in_ok-placings.ensures.some in
    let one = spelled_once (texts c.args.words.now) (play level ps) (play c.in-Play.level read) asks spelled in
    let same : ps ≡ read = cc in
    rw same c.file_region.ensures
