use Rattle.vx_sps.specs.inner.Kept.{AreSubpictures}
use Rattle.vx_sps.proofs.subpictures.Told.subpictures.Given as goal

-- the subpictures so far
abbrev pub invariant-loop-i : goal.invariant-loop-i
invariant-loop-i l = AreSubpictures l.self l.i l.list
