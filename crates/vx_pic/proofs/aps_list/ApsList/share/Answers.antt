use Rattle.std.proofs.Common.{rules, option_map}
use Rattle.vx_pic.proofs.ApsLists.{filled, all_filled}
use Rattle.vx_pic.proofs.aps_list.ApsList.share.Goals as goal

pub loop-i-preserved : goal.loop-i-preserved
loop-i-preserved c = (
  search rules,
  filled (option_map (λ arc. arc.value)) c.loop-i.list-inside.sets c.self.inside.sets c.loop-i.i c.in_ok-list-inside.field-0
      c.index-self-i.result (search rules) (search rules) c.loop-i.invariant.1 c.in_ok-list-inside.ensures,
)

pub returns : goal.returns
returns c = all_filled (option_map (λ arc. arc.value)) c.loop-i.list-inside.sets c.self.inside.sets c.args.self.now 24 c.loop-i.i (search rules) c.loop-i.invariant.0
    (search rules) (search rules) c.loop-i.invariant.1
