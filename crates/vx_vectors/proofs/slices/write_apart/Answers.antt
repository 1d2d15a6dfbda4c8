use Rattle.vx_vectors.proofs.slices.write_apart.Goals as goal

pub write_again-requires-clause-slice : goal.write_again-requires-clause-slice
write_again-requires-clause-slice c = (c.read_can_be_written.ensures _ _ _ _ c.requires.read).apart (cc) _
