use Rattle.std.proofs.Common.{◌≤◌, length, rules}
use Rattle.std.proofs.lemmas.Option.{slice_get_past}
use Rattle.serde_json.specs.declared.value.Value.{the_lemmas}
use Rattle.vx_report.proofs.slice.rect_or_null.Goals as goal

pub returns-in-None : goal.returns-in-None
returns-in-None c =
    let past : length c.args.rects.now ≤ c.args.index = rw c.as_slice.ensures at c.in-None.ensures.lookup.3 in
    rw (slice_get_past c.args.rects.now c.args.index past) (search (rules, the_lemmas))
