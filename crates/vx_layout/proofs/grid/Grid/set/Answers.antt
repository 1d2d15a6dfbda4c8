use Rattle.vx_layout.specs.inner.Marks.{mark_at}
use Rattle.vx_layout.proofs.Marks.{other_column, other_row}
use Rattle.vx_layout.proofs.grid.Grid.set.Goals as goal

pub returns-clause-same_row : goal.returns-clause-same_row
unfolding mark_at
returns-clause-same_row c = λ column row p ne. other_column _ _ c.args.x c.args.y column row _ c.requires.0 p ne

pub returns-clause-other_rows : goal.returns-clause-other_rows
unfolding mark_at
returns-clause-other_rows c = λ column row p ne. other_row _ _ c.args.x c.args.y column row _ c.requires.0 p ne
