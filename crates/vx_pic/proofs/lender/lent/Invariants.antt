use Rattle.std.proofs.Common.{◌≡◌, map, take}
use Rattle.vx_pic.proofs.lender.lent.Given as goal

abbrev pub invariant-loop-lender : goal.invariant-loop-lender
invariant-loop-lender g l = l.round.items ≡ map g.L.Lender.lent (take l.lender-index l.lenders)
