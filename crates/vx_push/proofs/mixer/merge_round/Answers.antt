use Rattle.std.proofs.Common.{◌∙◌, ap, sym}
use Rattle.vx_io.specs.Memory.{Growth}
use Rattle.vx_pic.specs.Parts.{Parts}
use Rattle.vx_push.specs.inner.Mixing.{round_of}
use Rattle.vx_push.proofs.Merged.{first_of_round, merges_ok, merges_err}
use Rattle.vx_push.proofs.mixer.merge_round.Goals as goal

pub returns-in-Ok-clause-merges : goal.returns-in-Ok-clause-merges
returns-in-Ok-clause-merges c done stands =
    let first = first_of_round c.args.intakes.now c.index-intakes-0.result c.requires.some c.index-intakes-0.is in
    let kind = c.kind.ensures.value ∙ ap (λ (q : Parts). q.kind) (c.picture.ensures.lent ∙ sym first) in
    merges_ok (round_of c.args.intakes.now) done c.round.new.self c.new.result.taken c.round.new.out.taken _ _ c.args.rounds c.kind.result (ap (λ (g : Growth). g.taken) c.new.ensures) kind (c.in-Ok.ensures.answer done stands)

pub returns-in-Err-clause-merges : goal.returns-in-Err-clause-merges
returns-in-Err-clause-merges c done stands =
    rw c.stop_of_merge.ensures (merges_err (round_of c.args.intakes.now) done c.round.new.self _ _ c.round.new.out.taken _ _ c.args.rounds c.in-Err.error (c.in-Err.ensures.answer done stands))
