use Rattle.vx_push.proofs.Cutting.{cut_handed}
use Rattle.vx_push.proofs.Handing.{takes_end}
use Rattle.vx_push.proofs.cutter.Cutter.end.Goals as goal

pub returns : goal.returns
returns c = record {
  cut = λ R of t h ps done cut.
      let was = rw (← c.self.view_is) at cut in
      let e = c.end.ensures in
      cut_handed R t _ c.end.new.self h _ ps done was
      (takes_end R c.self.inside.intake c.end.new.self h ps was.come (λ waits. e.comes waits R of h) (λ holds. e.later holds R h) e.holds e.kept);
}
