use Rattle.std.proofs.Common.{sym, subst}
use Rattle.vx_frame.specs.inner.Frames.{IsSomeUsed, IsUsedFor}
use Rattle.vx_merge.proofs.round.units_kept.Goals as goal

pub units_behind-made-requires-clause-bodies : goal.units_behind-made-requires-clause-bodies
units_behind-made-requires-clause-bodies c = c.requires.bodies

pub units_behind-made-requires-clause-used : goal.units_behind-made-requires-clause-used
units_behind-made-requires-clause-used c = subst (IsSomeUsed c.args.round.now) (sym c.deref_mut.ensures.value) c.requires.used

pub units_behind-made-requires-clause-slots : goal.units_behind-made-requires-clause-slots
units_behind-made-requires-clause-slots c = c.requires.slots

pub returns-clause-kept : goal.returns-clause-kept
returns-clause-kept c = rw c.replace.ensures.after (rw c.deref_mut.ensures.value at c.units_behind-made.ensures.frame)

pub returns-clause-payloads : goal.returns-clause-payloads
returns-clause-payloads c = c.units_behind-made.ensures.payloads

pub returns-clause-units : goal.returns-clause-units
returns-clause-units c corners level history used last =
    c.units_behind-made.ensures.units corners level history (subst (IsUsedFor corners level c.args.round.now) (sym c.deref_mut.ensures.value) used) last
