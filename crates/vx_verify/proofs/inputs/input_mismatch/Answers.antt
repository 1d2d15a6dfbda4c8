use Rattle.std.proofs.Common.{length, refl, arith}
use Rattle.std.proofs.lemmas.Option.{slice_get_read}
use Rattle.vx_verify.specs.Verified.{HasInputs}
use Rattle.vx_verify.proofs.Differing.{found_input}
use Rattle.vx_verify.proofs.Searching.{before_all, before_more}
use Rattle.vx_verify.proofs.inputs.input_mismatch.Goals as goal

pub returns-in-Some : goal.returns-in-Some
returns-in-Some c =
    let round = c.args.round.now in
    let k = c.loop-k.k in
    let q = c.index-round-k.result in
    found_input c.args.finished.now round k q c.in-Some.differing _ (slice_get_read round (length round) k q refl c.loop-k-test.true c.index-round-k.is)
    (rw c.in-Some.is at c.in_ok-found.ensures) c.loop-k.invariant refl

pub loop-k-preserved : goal.loop-k-preserved
loop-k-preserved c =
    let round = c.args.round.now in
    let k = c.loop-k.k in
    let q = c.index-round-k.result in
    before_more round (HasInputs c.args.finished.now) k q (slice_get_read round (length round) k q refl c.loop-k-test.true c.index-round-k.is)
    (rw c.in_default.is at c.in_ok-found.ensures) c.loop-k.invariant

pub returns : goal.returns
returns c = before_all c.args.round.now (HasInputs c.args.finished.now) c.loop-k.k (omega arith) c.loop-k.invariant
