use Rattle.std.proofs.Common.{◌≡◌, length, refl, arith}
use Rattle.vx_push.proofs.Mixing.{new_mixed}
use Rattle.vx_push.proofs.mixer.Mixer.new.Goals as goal

pub returns-clause-mixed : goal.returns-clause-mixed
returns-clause-mixed c R =
    let count : length c.in_ok-intakes.intakes.items ≡ length c.args.corners.now = omega (arith, c.in_ok-intakes.ensures.count) in
    new_mixed R _ c.args.corners.now count c.in_ok-intakes.ensures.new refl c.new-2.ensures.held refl c.in_ok-merger.ensures.stands
