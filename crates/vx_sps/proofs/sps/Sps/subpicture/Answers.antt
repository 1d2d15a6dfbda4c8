use Rattle.vx_sps.proofs.Counted.{same_entry}
use Rattle.vx_sps.proofs.sps.Sps.subpicture.Goals as goal

pub returns : goal.returns
returns c =
    let kept = c.self.invariant.subpictures.each c.args.i (rw (← c.self.view_is) at c.requires) in
    rw (← c.self.view_is) (same_entry _ _ _ c.item.ensures.value kept)
