use Rattle.vx_push.proofs.Cutting.{cut_handed}
use Rattle.vx_push.proofs.Handing.{takes_piece, waits_no_more_behind}
use Rattle.vx_push.proofs.cutter.Cutter.push.Goals as goal

pub returns-clause-cut : goal.returns-clause-cut
returns-clause-cut c R of t h ps done cut =
    let was = rw (← c.self.view_is) at cut in
    let e = c.push.ensures in
    cut_handed R t _ c.push.new.self h _ ps done was (takes_piece R c.self.inside.intake c.push.new.self h ps was.come c.args.piece.now c.push.result (λ waits. e.comes waits R of h) e.kept)

pub returns-clause-ended : goal.returns-clause-ended
returns-clause-ended c R t h ps done cut all =
    let was = rw (← c.self.view_is) at cut in
    (c.push.ensures.kept (waits_no_more_behind R c.self.inside.intake h ps was.come all)).0
