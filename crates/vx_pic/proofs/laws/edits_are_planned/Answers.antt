use Rattle.vx_pic.proofs.Editing.{edits_are_planned}
use Rattle.vx_pic.proofs.laws.edits_are_planned.Goals as goal

pub returns : goal.returns
returns c = edits_are_planned
