use Rattle.std.proofs.Common.{◌≡◌, map, take}
use Rattle.vx_merge.specs.Joins.{after_end_of_sequence}
use Rattle.vx_merge.proofs.merger.joined.Given as goal

abbrev pub invariant-loop-lender : goal.invariant-loop-lender
invariant-loop-lender g l = l.round.items ≡ map after_end_of_sequence (map g.L.Lender.lent (take l.lender-index l.lenders))
