use Rattle.std.proofs.Common.{rules, ◌+◌, ◌*◌}
use Rattle.vx_pic.proofs.ApsLists.{put_valid}
use Rattle.vx_pic.proofs.aps_list.ApsList.put.Goals as goal

pub invariant_of-self : goal.invariant_of-self
invariant_of-self c = (
  search rules,
  put_valid (λ arc. arc.value) c.self.inside.sets (c.from.result * c.from-2.result + c.from-3.result) c.args.aps c.self.invariant.1 c.requires,
)
