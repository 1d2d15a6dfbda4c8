use Rattle.std.proofs.Common.{◌+◌, ◌-◌, ◌*◌, ◌≤◌, length}
use Rattle.vx_table.specs.Forms.{◌>>=◌, turns, form_of}
use Rattle.vx_table.proofs.Steps.{Leads}
use Rattle.vx_table.proofs.walk.+walk.Given as goal

abbrev pub decreases-code_table : goal.decreases-code_table
decreases-code_table g l = 3 * length l.table.now

abbrev pub decreases-code_turns : goal.decreases-code_turns
decreases-code_turns g l = 3 * length l.block.now + 1

abbrev pub decreases-pass_block : goal.decreases-pass_block
decreases-pass_block g l = 3 * length l.rest.now + 2

abbrev pub invariant-code_table-loop-row : goal.invariant-code_table-loop-row
invariant-code_table-loop-row g l =
    (length l.rows + length l.behind ≤ length l.fn.table) × Leads g.C.Coder.step (form_of l.fn.table l.fn.scope) l.fn.coder l.fn.items (form_of l.rows l.scope >>= form_of l.behind) l.coder l.items

abbrev pub decreases-code_table-loop-row : goal.decreases-code_table-loop-row
decreases-code_table-loop-row g l = length l.rows + length l.behind

abbrev pub invariant-code_turns-loop-turn : goal.invariant-code_turns-loop-turn
invariant-code_turns-loop-turn g l =
    Leads g.C.Coder.step (turns (form_of l.fn.block) l.fn.counter 0 l.fn.times l.fn.scope) l.fn.coder l.fn.items (turns (form_of l.fn.block) l.fn.counter l.turn (l.fn.times - l.turn) l.scope) l.coder l.items
