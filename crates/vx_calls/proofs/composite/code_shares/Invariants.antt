use Rattle.std.proofs.Common.{◌-◌, slice_index}
use Rattle.vx_calls.specs.Composite.{shares, shares_of}
use Rattle.vx_table.proofs.Steps.{Leads}
use Rattle.vx_calls.proofs.composite.code_shares.Given as goal

abbrev pub invariant-loop-turn : goal.invariant-loop-turn
invariant-loop-turn g l =
    Leads g.C.Coder.step (shares_of l.fn.scope) l.fn.coder l.fn.items (shares l.fn.scope (slice_index l.fn.scope 30 - l.turn) l.left) l.coder l.items
