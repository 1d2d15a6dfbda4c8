use Rattle.std.proofs.Common.{take, ap}
use Rattle.vx_assemble.proofs.Fronts.{front_is, front_sound, front_header}
use Rattle.vx_assemble.proofs.unit.front_of.Goals as goal

pub returns : goal.returns
returns c =
    let u = c.args.unit.now in
    let is = ap (λ n. take n u) c.min.ensures in
    record { front = front_is u _ is; sound = front_sound u _ c.requires is; header = front_header u _ c.requires is }
