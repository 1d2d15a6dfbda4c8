use Rattle.std.proofs.Common.{ap, ◌∙◌}
use Rattle.std.proofs.lemmas.Result.{on_ok_weaker}
use Rattle.vx_frame.specs.Bodies.{with_bodies}
use Rattle.vx_frame.proofs.filters.add_luma.Goals as goal

pub returns : goal.returns
returns c = on_ok_weaker c.add_all.result (λ is. is ∙ ap (with_bodies _) c.in_ok-luma.ensures) c.add_all.ensures
