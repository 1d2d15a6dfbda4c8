use Rattle.std.proofs.Common.{◌<◌, length, refl, arith}
use Rattle.std.proofs.lemmas.Option.{slice_get_read}
use Rattle.vx_push.proofs.Mixing.{flush_hands}
use Rattle.vx_push.proofs.mixer.Mixer.flush.Goals as goal

pub returns-clause-handed : goal.returns-clause-handed
returns-clause-handed c =
    let intakes = c.self.inside.intakes.items in
    let i = c.index_mut.result.now in
    let within : c.args.source < length intakes = omega (arith, c.if-source-len.false, c.len.ensures) in
    let at = slice_get_read intakes (length intakes) c.args.source i refl within c.index_mut.ensures.value in
    let e = c.flush.ensures in
    rw (← c.self.view_is) (flush_hands _ c.args.source i c.flush.new.self at e.kept e.comes e.later e.holds e.once e.ended)
