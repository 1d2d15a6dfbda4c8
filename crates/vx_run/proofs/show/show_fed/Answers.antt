use Rattle.std.proofs.Common.{refl}
use Rattle.std.proofs.lemmas.Result.{err_from_is_err_and}
use Rattle.vx_assemble.specs.Feed.{IsOpen}
use Rattle.vx_run.specs.Show.{teller}
use Rattle.vx_run.proofs.Showing.{HasReached-read, HasShown-later, Shows-done, Shows-read, Shows-stopped, reads_less}
use Rattle.vx_run.proofs.show.show_fed.Goals as goal

pub loop-alloc-init : goal.loop-alloc-init
loop-alloc-init g c = (c.requires.sought, c.requires.none)

pub returns-in_err-read_on-clause-shows : goal.returns-in_err-read_on-clause-shows
returns-in_err-read_on-clause-shows g c R of =
    let p = err_from_is_err_and c.from_residual.result c.from_residual.ensures.1 in
    let going : IsOpen c.loop-alloc.feed = c.loop-alloc-test.ensures.«open» refl in
    rw (p.1, p.2) (Shows-read _ _ _ _ R (teller c.args.fields c.args.inputs R of) _ _ _ _ _ c.loop-alloc.feed c.read_on.new.feed c.loop-alloc.pictures _ (c.loop-alloc.invariant.1 R of) going (c.in_err-read_on.ensures.answer R))

pub returns-in_err-read_on-clause-stop : goal.returns-in_err-read_on-clause-stop
returns-in_err-read_on-clause-stop g c =
    let p = err_from_is_err_and c.from_residual.result c.from_residual.ensures.1 in
    rw (p.1, p.2) c.in_err-read_on.ensures.stop

pub returns-in_err-pictures-clause-shows : goal.returns-in_err-pictures-clause-shows
returns-in_err-pictures-clause-shows g c R of =
    let p = err_from_is_err_and c.from_residual-in_err-pictures.result c.from_residual-in_err-pictures.ensures.1 in
    let going : IsOpen c.loop-alloc.feed = c.loop-alloc-test.ensures.«open» refl in
    let reached = HasReached-read _ _ _ _ R (teller c.args.fields c.args.inputs R of) _ _ _ _ _ c.loop-alloc.feed c.read_on.new.feed c.loop-alloc.pictures (c.loop-alloc.invariant.1 R of) going (c.in_ok-read_on.ensures.answer R) in
    rw (p.1, p.2) (Shows-stopped _ _ _ _ R (teller c.args.fields c.args.inputs R of) _ _ _ _ _ c.read_on.new.feed c.show_seen.new.feed c.loop-alloc.pictures _ reached c.show_seen.ensures.closed c.show_seen.ensures.all (c.in_err-pictures.ensures.answer R of))

pub returns-in_err-pictures-clause-stop : goal.returns-in_err-pictures-clause-stop
returns-in_err-pictures-clause-stop g c =
    let p = err_from_is_err_and c.from_residual-in_err-pictures.result c.from_residual-in_err-pictures.ensures.1 in
    rw (p.1, p.2) c.in_err-pictures.ensures.stop

pub loop-alloc-preserved : goal.loop-alloc-preserved
loop-alloc-preserved g c =
    let going : IsOpen c.loop-alloc.feed = c.loop-alloc-test.ensures.«open» refl in (
      c.in_ok-pictures.ensures.sought,
      λ R of.
          let reached = HasReached-read _ _ _ _ R (teller c.args.fields c.args.inputs R of) _ _ _ _ _ c.loop-alloc.feed c.read_on.new.feed c.loop-alloc.pictures (c.loop-alloc.invariant.1 R of) going (c.in_ok-read_on.ensures.answer R) in
          HasShown-later _ _ _ _ R (teller c.args.fields c.args.inputs R of) _ _ _ _ _ c.read_on.new.feed c.show_seen.new.feed c.loop-alloc.pictures c.in_ok-pictures.pictures reached c.show_seen.ensures.closed (c.in_ok-pictures.ensures.answer R of),
    )

pub returns-clause-shows : goal.returns-clause-shows
returns-clause-shows g c R of =
    let closed = c.loop-alloc-test.ensures.closed (λ is. absurd (cc)) in
    Shows-done _ _ _ _ R (teller c.args.fields c.args.inputs R of) _ _ _ _ c.loop-alloc.feed c.loop-alloc.pictures (c.loop-alloc.invariant.1 R of) closed

pub returns-clause-stop : goal.returns-clause-stop
returns-clause-stop g c = tt

pub read_on-requires : goal.read_on-requires
read_on-requires g c =
    let going : IsOpen c.loop-alloc.feed = c.loop-alloc-test.ensures.«open» refl in
    record { «open» = going; sought = c.loop-alloc.invariant.0 going }

pub loop-alloc-smaller : goal.loop-alloc-smaller
loop-alloc-smaller g c =
    let going : IsOpen c.loop-alloc.feed = c.loop-alloc-test.ensures.«open» refl in
    rw (c.show_seen.ensures.closed, c.show_seen.ensures.taken) (reads_less _ _ _ _ going.reader (c.loop-alloc-test.ensures.within refl) (λ open_. c.in_ok-read_on.ensures.grows (record { reader = open_; going = c.in_ok-read_on.ensures.going })))
