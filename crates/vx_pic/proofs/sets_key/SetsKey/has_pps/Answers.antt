use Rattle.std.specs.Prelude.{option_copied}
use Rattle.vx_pps.specs.Pps.{pps_form}
use Rattle.vx_pic.proofs.Keyed.{known_again}
use Rattle.vx_pic.proofs.sets_key.SetsKey.has_pps.Goals as goal

pub returns-then-is_same_rbsp : goal.returns-then-is_same_rbsp
returns-then-is_same_rbsp c =
    let same = rw c.as_ref.ensures.value at c.if-is_same_rbsp.ensures in
    rw (← c.self.view_is)
    (known_again pps_form c.self.inside.pps c.args.pps.now c.self.inside.pps_rbsp (option_copied c.rbsp.result) c.self.invariant.1 c.rbsp.ensures same)
