use Rattle.vx_layout.specs.Layouts.{no_rect}
use Rattle.vx_layout.proofs.Counting.{slices_of-once}
use Rattle.vx_layout.proofs.laws.slices_cover_subpicture.Goals as goal

pub returns : goal.returns
returns c = λ n k x y l short v u. slices_of-once n.slices n.subpics _ _ k no_rect x y l.split l.subpics.once l.slices short v u
