use Rattle.std.proofs.Common.{◌∙◌}
use Rattle.vx_annexb.proofs.Steps.{Stands-fed}
use Rattle.vx_annexb.proofs.splitter.Splitter.feed.Goals as goal

pub returns-clause-stands : goal.returns-clause-stands
returns-clause-stands c g units s =
    Stands-fed _ c.args.piece.now _ _ c.self.invariant ((rw (← c.self.view_is) at c.make_room.ensures.all) ∙ c.requires.going)
    c.extend.ensures g units (rw (← c.self.view_is) at (c.in_ok-make_room.ensures.stands g units s))
