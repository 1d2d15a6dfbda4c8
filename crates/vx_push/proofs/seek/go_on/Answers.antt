use Rattle.std.proofs.Common.{◌≡◌, true, rules}
use Rattle.vx_push.specs.declared.intake.State.TheVariants.{Waits}
use Rattle.vx_push.proofs.Coming.{steps_on, steps_end}
use Rattle.vx_push.proofs.seek.go_on.Goals as goal

pub returns-then-not-waits-clause-comes : goal.returns-then-not-waits-clause-comes
returns-then-not-waits-clause-comes c R of h ps g =
    steps_on R c.args.feed.now c.seek-state.new.feed _ c.seek-state.result c.args.flushed.now c.args.ended h ps g c.seek-state.ensures.closed (c.seek-state.ensures.comes R of g.given ps g.taken)

pub returns-then-not-waits-2-clause-comes : goal.returns-then-not-waits-2-clause-comes
returns-then-not-waits-2-clause-comes c R of h ps g =
    let waits : c.seek-state.result ≡ Waits = search rules in
    let behind = steps_on R c.args.feed.now c.seek-state.new.feed _ c.seek-state.result c.args.flushed.now c.args.ended h ps g c.seek-state.ensures.closed (c.seek-state.ensures.comes R of g.given ps g.taken) in
    c.give_owed-state.ensures.comes R of h ps c.args.ended (rw waits at behind)

pub returns-then-ended-clause-comes : goal.returns-then-ended-clause-comes
returns-then-ended-clause-comes c R of h ps g =
    let waits : c.seek-state.result ≡ Waits = search rules in
    let still : c.give_owed-state.result ≡ Waits = search rules in
    let ended : c.args.ended ≡ true = search rules in
    let behind = steps_on R c.args.feed.now c.seek-state.new.feed _ c.seek-state.result c.args.flushed.now c.args.ended h ps g c.seek-state.ensures.closed (c.seek-state.ensures.comes R of g.given ps g.taken) in
    let owed = c.give_owed-state.ensures.comes R of h ps c.args.ended (rw waits at behind) in
    let last = (rw (still, ended, c.give_owed-state.ensures.unflushed) at owed).0 in
    let open_ = rw still at c.give_owed-state.ensures.left in
    rw (ended, c.give_owed-state.ensures.unflushed)
    (steps_end R c.give_owed-state.new.feed c.give_end.new.feed _ c.give_end.result h ps last open_.0.reader c.give_end.ensures.end (c.give_end.ensures.comes R of last.given ps last.taken))

pub returns-clause-comes : goal.returns-clause-comes
returns-clause-comes c R of h ps g =
    let waits : c.seek-state.result ≡ Waits = search rules in
    let still : c.give_owed-state.result ≡ Waits = search rules in
    let behind = steps_on R c.args.feed.now c.seek-state.new.feed _ c.seek-state.result c.args.flushed.now c.args.ended h ps g c.seek-state.ensures.closed (c.seek-state.ensures.comes R of g.given ps g.taken) in
    let owed = c.give_owed-state.ensures.comes R of h ps c.args.ended (rw waits at behind) in
    rw still at owed
