use Rattle.std.proofs.Common.{sym}
use Rattle.vx_layout.proofs.Holding.{is_empty_tells}
use Rattle.vx_layout.proofs.Owners.{Adds-empty, Any-empty, Any-owner}
use Rattle.vx_layout.proofs.groups.add.Goals as goal

pub returns-then-is_empty-clause-adds : goal.returns-then-is_empty-clause-adds
returns-then-is_empty-clause-adds c =
    Adds-empty _ _ _ _ (is_empty_tells _ _ (sym c.if-is_empty.ensures)) c.in_ok-add_to_all.ensures.long c.in_ok-add_to_all.ensures.each

pub returns-then-is_empty-clause-fits : goal.returns-then-is_empty-clause-fits
returns-then-is_empty-clause-fits c = Any-empty _ _ c.requires.some (is_empty_tells _ _ (sym c.if-is_empty.ensures))

pub returns-clause-fits : goal.returns-clause-fits
returns-clause-fits c = Any-owner _ _ c.in-Some.owner c.in-Some.ensures
