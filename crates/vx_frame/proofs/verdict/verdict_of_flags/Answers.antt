use Rattle.std.proofs.Common.{◌∙◌}
use Rattle.vx_frame.proofs.verdict.verdict_of_flags.Goals as goal

pub filter_flags-requires-clause-layouts : goal.filter_flags-requires-clause-layouts
filter_flags-requires-clause-layouts c = let are = rw c.in-New.is at c.requires.frame in c.as_slice.ensures.value ∙ are
