use Rattle.vx_annexb.proofs.Steps.{Stands-fed}
use Rattle.vx_annexb.proofs.splitter.Splitter.read_from.Goals as goal

pub returns-clause-stands : goal.returns-clause-stands
returns-clause-stands g c piece is bytes units s =
    Stands-fed _ piece _ _ c.self.invariant (rw (← c.self.view_is) at c.requires.going) (rw (← c.self.view_is) at is) bytes units (rw (← c.self.view_is) at s)
