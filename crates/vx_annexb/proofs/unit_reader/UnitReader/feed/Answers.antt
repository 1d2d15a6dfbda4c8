use Rattle.std.proofs.Common.{◌+◌, Option, None, arith, subst, sym}
use Rattle.vx_annexb.specs.declared.unit_reader.Closed.{Closed}
use Rattle.vx_annexb.specs.Reading.{ClosesAt}
use Rattle.vx_annexb.proofs.Taking.{has_read-more}
use Rattle.vx_annexb.proofs.unit_reader.UnitReader.feed.Goals as goal

pub returns-then-count-limit-clause-read : goal.returns-then-count-limit-clause-read
returns-then-count-limit-clause-read c bytes units read =
    let old = rw (← c.self.view_is) at read in
    let open_ = rw (← c.self.view_is) at c.requires.open in
    let within = (subst (λ (x : Option Closed). ClosesAt x c.self.inside.splitter c.self.inside.taken) open_ old.closes).1 in
    has_read-more _ c.feed.new.self _ bytes c.args.piece.now units c.min-count.result old within (omega (arith, c.min.ensures, c.min-count.ensures))
    (c.in_ok-feed.ensures.all, omega (arith, within, c.min-count.ensures, c.if-count-limit.true)) _ (omega (arith, within, c.min-2.ensures, c.min-count.ensures)) (c.in_ok-feed.ensures.stands _ units old.stands)

pub returns-else-count-limit-clause-read : goal.returns-else-count-limit-clause-read
returns-else-count-limit-clause-read c bytes units read =
    let old = rw (← c.self.view_is) at read in
    let open_ = rw (← c.self.view_is) at c.requires.open in
    let within = (subst (λ (x : Option Closed). ClosesAt x c.self.inside.splitter c.self.inside.taken) open_ old.closes).1 in
    let closes : ClosesAt None c.feed.new.self (c.self.inside.taken + c.min-count.result) = (c.in_ok-feed.ensures.all, omega (arith, within, c.min-count.ensures, c.if-count-limit.false)) in
    has_read-more _ c.feed.new.self _ bytes c.args.piece.now units c.min-count.result old within (omega (arith, c.min.ensures, c.min-count.ensures))
    (subst (λ (x : Option Closed). ClosesAt x c.feed.new.self (c.self.inside.taken + c.min-count.result)) (sym open_) closes) _ (omega (arith, within, c.min-2.ensures, c.min-count.ensures)) (c.in_ok-feed.ensures.stands _ units old.stands)
