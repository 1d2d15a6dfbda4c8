use Rattle.vx_push.proofs.Cutting.{cut_handed}
use Rattle.vx_push.proofs.Handing.{takes_zeros}
use Rattle.vx_push.proofs.cutter.Cutter.flush.Goals as goal

pub returns : goal.returns
returns c = record {
  cut = λ R of t h ps done cut.
      let was = rw (← c.self.view_is) at cut in
      let e = c.flush.ensures in
      let takes = takes_zeros R c.self.inside.intake c.flush.new.self h ps was.come (λ waits. e.comes waits R of h)
      (λ holds open_ none. e.later holds open_ none R h) e.holds e.once e.ended e.kept in
      rw (← c.self.view_is) (cut_handed R t _ c.flush.new.self h _ ps done was takes);
}
