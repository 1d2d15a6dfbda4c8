use Rattle.std.proofs.Common.{sym}
use Rattle.vx_run.specs.Grammar.{Placing}
use Rattle.vx_run.specs.inner.Placings.{spelled, placed}
use Rattle.vx_run.proofs.PlacingWords.{made_at}
use Rattle.vx_run.proofs.placings.Placings.file.Goals as goal

pub returns : goal.returns
returns c = sym (made_at (λ (p : Placing). p.file) (spelled c.args.self.now.words.now) c.args.k (placed c.at.result) c.at.ensures)
