use Rattle.vx_frame.proofs.frame.whole_frame.Goals as goal

pub returns-in-Kept : goal.returns-in-Kept
returns-in-Kept c corners is = let here = rw c.in-Kept.is at is in here.0

pub frame_with-requires : goal.frame_with-requires
frame_with-requires c = (c.requires.0, rw c.in-New.is at c.requires.1)

pub returns-in-New : goal.returns-in-New
returns-in-New c corners is = c.frame_with.ensures corners (rw c.in-New.is at is)
