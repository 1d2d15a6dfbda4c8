use Rattle.vx_run.specs.Show.{teller}
use Rattle.vx_run.proofs.Showing.{new_sought, HasShown-none}
use Rattle.vx_run.proofs.show.show.Goals as goal

pub show_fed-requires-clause-sought : goal.show_fed-requires-clause-sought
show_fed-requires-clause-sought g c going = new_sought c.in_ok-feed.feed c.in_ok-feed.ensures.fed

pub show_fed-requires-clause-none : goal.show_fed-requires-clause-none
show_fed-requires-clause-none g c R of =
    HasShown-none _ _ _ _ R (teller c.args.fields c.args.inputs R of) _ _ c.in_ok-feed.feed c.in_ok-feed.ensures.open (c.in_ok-feed.ensures.fed R)
