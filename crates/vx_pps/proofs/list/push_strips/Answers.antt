use Rattle.std.proofs.Common.{◌+◌, ◌-◌}
use Rattle.vx_pps.proofs.Turning.{strips-rest}
use Rattle.vx_pps.proofs.list.push_strips.Goals as goal

pub returns-in_ok-push : goal.returns-in_ok-push
returns-in_ok-push c =
    strips-rest c.args.tile c.args.y c.args.size (c.args.tile.y + c.args.tile.h - c.args.y) c.strip.result c.args.slices.now c.push_whole.new.slices c.push.new.self
    c.in_ok-push_whole.ensures c.in_ok-push.ensures.ok c.strip.ensures c.if-rest-ne0.true
