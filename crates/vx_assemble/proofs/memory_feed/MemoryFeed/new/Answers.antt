use Rattle.std.proofs.Common.{refl}
use Rattle.std.proofs.lemmas.Result.{err_from_is_err_and}
use Rattle.vx_assemble.proofs.InMemory.{seen_none}
use Rattle.vx_assemble.proofs.memory_feed.MemoryFeed.new.Goals as goal

pub returns-clause-seen : goal.returns-clause-seen
returns-clause-seen c R = seen_none R c.args.bytes.now c.give.new.splitter c.in_ok-taken.taken c.new.result c.in_ok-taken.ensures.given c.new.ensures.stands

pub returns-clause-going : goal.returns-clause-going
returns-clause-going c = refl

pub returns-clause-units : goal.returns-clause-units
returns-clause-units c = refl

pub returns-in_err-taken : goal.returns-in_err-taken
returns-in_err-taken c =
    let p = err_from_is_err_and c.from_residual.result c.from_residual.ensures.1 in
    record { seen = rw p.1 tt; going = rw p.1 tt; units = rw p.1 tt; bounded = rw p.1 tt }
