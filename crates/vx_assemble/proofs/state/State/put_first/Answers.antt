use Rattle.std.proofs.Common.{length}
use Rattle.vx_assemble.proofs.Slots.{joined_first}
use Rattle.vx_assemble.proofs.state.State.put_first.Goals as goal

pub put_slice-requires-clause-joined : goal.put_slice-requires-clause-joined
put_slice-requires-clause-joined c =
    joined_first c.args.self.now.picture c.open.new.self c.args.opened _ (length c.args.unit.now) c.requires.joined c.open.ensures
