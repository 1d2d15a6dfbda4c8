use Rattle.std.proofs.Common.{◌≡◌, ◌<◌, ◌∙◌, length, refl, sym, subst, arith}
use Rattle.std.proofs.lemmas.Option.{slice_get_read, same_Some}
use Rattle.vx_run.proofs.Indexed.{set_there}
use Rattle.vx_push.specs.Comes.{Intaking}
use Rattle.vx_push.specs.Mixing.{Takes}
use Rattle.vx_push.proofs.Mixing.{push_hands, mixed_waits_no_more}
use Rattle.vx_push.proofs.mixer.Mixer.push.Goals as goal

pub returns-clause-handed : goal.returns-clause-handed
returns-clause-handed c =
    let intakes = c.self.inside.intakes.items in
    let i = c.index_mut.result.now in
    let within : c.args.source < length intakes = omega (arith, c.if-source-len.false, c.len.ensures) in
    let at = slice_get_read intakes (length intakes) c.args.source i refl within c.index_mut.ensures.value in
    rw (← c.self.view_is) (push_hands _ c.args.source i c.push.new.self at c.args.piece.now c.push.result c.push.ensures.comes c.push.ensures.kept)

pub returns-clause-count : goal.returns-clause-count
returns-clause-count c = (
  c.push.ensures.within,
  λ i later at there.
      let intakes = c.self.inside.intakes.items in
      let x = c.index_mut.result.now in
      let within : c.args.source < length intakes = omega (arith, c.if-source-len.false, c.len.ensures) in
      let was = slice_get_read intakes (length intakes) c.args.source x refl within c.index_mut.ensures.value in
      let old : x ≡ i = same_Some x i (sym was ∙ (rw (← c.self.view_is) at at)) in
      let new : c.push.new.self ≡ later = set_there intakes c.args.source c.push.new.self later there in
      subst (λ (y : Intaking). Takes i y (length c.args.piece.now) c.push.result) new (subst (λ (y : Intaking). Takes y c.push.new.self (length c.args.piece.now) c.push.result) old (c.push.ensures.count, c.push.ensures.kept)),
)

pub returns-clause-ended : goal.returns-clause-ended
returns-clause-ended c R given done h mixed there all =
    let intakes = c.self.inside.intakes.items in
    let i = c.index_mut.result.now in
    let within : c.args.source < length intakes = omega (arith, c.if-source-len.false, c.len.ensures) in
    let at = slice_get_read intakes (length intakes) c.args.source i refl within c.index_mut.ensures.value in
    (c.push.ensures.kept (mixed_waits_no_more R _ given done c.args.source i h (rw (← c.self.view_is) at mixed) at there all)).0
