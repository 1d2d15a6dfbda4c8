use Rattle.std.specs.Prelude.{option_copied}
use Rattle.vx_sps.specs.Structure.{sps_form}
use Rattle.vx_pic.proofs.Keyed.{known_again}
use Rattle.vx_pic.proofs.sets_key.SetsKey.has_sps.Goals as goal

pub returns-then-is_same_rbsp : goal.returns-then-is_same_rbsp
returns-then-is_same_rbsp c =
    let same = rw c.as_ref.ensures.value at c.if-is_same_rbsp.ensures in
    rw (← c.self.view_is)
    (known_again sps_form c.self.inside.sps c.args.sps.now c.self.inside.sps_rbsp (option_copied c.rbsp.result) c.self.invariant.0 c.rbsp.ensures same)
