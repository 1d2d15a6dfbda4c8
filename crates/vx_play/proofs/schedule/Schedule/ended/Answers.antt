use Rattle.std.proofs.Common.{length, get_or, ap, ◌∙◌, arith}
use Rattle.std.proofs.lemmas.List.{get_or_read}
use Rattle.vx_play.specs.Scheduled.{Scheduled, file_being_read}
use Rattle.vx_play.proofs.Searching.{few_gone, some_file}
use Rattle.vx_play.proofs.schedule.Schedule.ended.Goals as goal

pub overflow_add-index_mut : goal.overflow_add-index_mut
overflow_add-index_mut c =
    let region = c.args.region in
    let file = some_file (file_being_read c.args.self.now region) c.requires.file in
    let few = few_gone c.args.self.now region file.0 file.1 in
    let regions = ap (λ (s : Scheduled). length s.regions) c.self.view_is in
    let gone = ap (λ (s : Scheduled). length s.gone) c.self.view_is in
    let read = get_or_read c.self.inside.gone.items region c.index_mut.result.now (omega (arith, gone, c.requires.region)) c.index_mut.ensures.value 0 in
    let same = read ∙ ap (λ (s : Scheduled). get_or s.gone region 0) c.self.view_is in
    omega (arith, same, few, regions, c.self.invariant.0)
