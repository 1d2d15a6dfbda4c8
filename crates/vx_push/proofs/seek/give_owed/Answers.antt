use Rattle.std.proofs.Common.{◌≡◌, true, rules}
use Rattle.vx_push.proofs.Coming.{steps_zeros}
use Rattle.vx_push.proofs.seek.give_owed.Goals as goal

pub returns-clause-comes : goal.returns-clause-comes
returns-clause-comes c R of h ps ended behind =
    let is : c.args.flushed.now ≡ true = search rules in
    let g = (rw is at behind).0 in
    steps_zeros R c.args.feed.now c.give_zeros.new.feed _ c.give_zeros.result ended h ps g _ c.requires.open.reader c.give_zeros.ensures.unended c.give_zeros.ensures.whole
    (c.give_zeros.ensures.comes R of g.given ps g.taken)
