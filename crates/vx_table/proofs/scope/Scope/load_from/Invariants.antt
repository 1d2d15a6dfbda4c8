use Rattle.std.proofs.Common.{drop}
use Rattle.vx_table.specs.Scope.{loaded, fresh}
use Rattle.vx_table.proofs.LoadedFrom.{IsFrom}
use Rattle.vx_table.proofs.scope.Scope.load_from.Given as goal

-- the numbers from the field on are those of a scope that the items before were loaded into
abbrev pub invariant-loop-i : goal.invariant-loop-i
invariant-loop-i l = IsFrom l.from l.fn.self l.self (loaded fresh l.items) (drop l.i l.items)
