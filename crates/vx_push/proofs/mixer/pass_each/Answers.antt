use Rattle.std.proofs.Common.{◌<◌, length, refl, arith}
use Rattle.std.proofs.lemmas.Option.{slice_get_read}
use Rattle.vx_push.proofs.Mixing.{passing_none, passing_more, passing_all, passed_behind}
use Rattle.vx_push.proofs.mixer.pass_each.Goals as goal

pub loop-k-init : goal.loop-k-init
loop-k-init c = passing_none c.args.intakes.now.items

pub loop-k-preserved : goal.loop-k-preserved
loop-k-preserved c =
    let intakes = c.loop-k.intakes.items in
    let i = c.index_mut.result.now in
    let within : c.loop-k.k < length intakes = omega (arith, c.loop-k.invariant.count, c.len-k-end.ensures, c.loop-k-test.true) in
    passing_more _ intakes c.loop-k.k i c.pass.new.self c.loop-k.invariant
    (slice_get_read intakes (length intakes) c.loop-k.k i refl within c.index_mut.ensures.value)
    (λ holds R of h n behind. passed_behind R i c.pass.new.self h n holds (c.pass.ensures.comes holds R of h) behind)

pub returns : goal.returns
returns c = passing_all c.args.intakes.now.items c.loop-k.intakes.items c.loop-k.k c.loop-k.invariant (omega (arith, c.loop-k.invariant.count, c.len-k-end.ensures, c.loop-k-test.false))
