use Rattle.std.proofs.Common.{◌-◌}
use Rattle.vx_table.specs.Forms.{turns, form_of}
use Rattle.vx_table.proofs.Steps.{Leads}
use Rattle.vx_table.proofs.by_type.code_repeated.Given as goal

-- what is left are the turns from this one on
abbrev pub invariant-loop-turn : goal.invariant-loop-turn
invariant-loop-turn g l =
    Leads g.C.Coder.step (turns (form_of g.B.Rows.rows) l.fn.counter 0 l.times l.fn.scope) l.fn.coder l.fn.items (turns (form_of g.B.Rows.rows) l.fn.counter l.turn (l.times - l.turn) l.scope) l.coder l.items
