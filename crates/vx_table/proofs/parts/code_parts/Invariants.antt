use Rattle.std.proofs.Common.{drop}
use Rattle.vx_table.specs.Parts.{parts_form}
use Rattle.vx_table.proofs.Steps.{Leads}
use Rattle.vx_table.proofs.parts.code_parts.Given as goal

abbrev pub invariant-loop-part : goal.invariant-loop-part
invariant-loop-part g l = Leads g.C.Coder.step (parts_form l.fn.parts l.fn.scope) l.fn.coder l.fn.items (parts_form (drop l.part-index l.parts) l.scope) l.coder l.items
