use Rattle.vx_pps.proofs.Turning.{strips-more}
use Rattle.vx_pps.proofs.list.push_whole.Goals as goal

pub loop-turn-preserved : goal.loop-turn-preserved
loop-turn-preserved c =
    strips-more c.args.tile c.args.y c.args.size c.loop-turn.turn c.strip.result c.args.slices.now c.loop-turn.slices c.push.new.self c.loop-turn.invariant c.in_ok-push.ensures.ok c.strip.ensures
