use Rattle.vx_frame.proofs.frame_sets.copied_numbers.Goals as goal

pub returns : goal.returns
returns c = λ j.
    record { columns = c.in_ok-columns.ensures.columns j; rows = c.in_ok-columns.ensures.rows j; slices = c.in_ok-slices.ensures j; subpics = c.in_ok-subpics.ensures j }
