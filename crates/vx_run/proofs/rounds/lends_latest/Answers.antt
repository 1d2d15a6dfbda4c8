use Rattle.std.proofs.Common.{subst}
use Rattle.vx_pic.specs.Readings.{pictures}
use Rattle.vx_assemble.specs.Held.{ShowsLatest}
use Rattle.vx_run.proofs.rounds.lends_latest.Goals as goal

pub returns : goal.returns
returns c = record {
  holds = c.requires;
  shows = λ R g units readings fed. subst (λ q. ShowsLatest q (pictures readings)) c.picture-picture.ensures.lent (c.picture-picture.ensures.shows R g units readings fed);
}
