use Rattle.std.proofs.Common.{◌≡◌, List, Ok, Err, Some, drop, length, map, refl, slice_get, subst, arith}
use Rattle.std.proofs.lemmas.Option.{slice_get_read}
use Rattle.vx_pic.specs.Parts.{Parts}
use Rattle.vx_assemble.specs.Held.{lent_by}
use Rattle.vx_assemble.specs.Feed.{Feeding}
use Rattle.vx_verify.specs.Verifying.{Judges}
use Rattle.vx_run.proofs.Verifying.{behind_first, is_of_command, judged_in, verified_in}
use Rattle.vx_run.proofs.verify.verify_round.Goals as goal

pub returns-in-Ok : goal.returns-in-Ok
returns-in-Ok c =
    let feeds : List Feeding = c.args.feeds.now in
    let lent : List Feeding → List Parts = λ l. map (λ (f : Feeding). lent_by f.assembler) l in
    let spots = c.args.verifier.now.spots in
    record {
      verifies = λ none.
          let at : slice_get feeds 0 ≡ Some c.index-feeds-0.result = slice_get_read feeds (length feeds) 0 c.index-feeds-0.result refl (omega (arith, c.requires.count)) c.index-feeds-0.is in
          let judged = subst (λ (l : List Feeding). Judges spots c.picture.result (lent l) (Ok tt)) (behind_first feeds) (c.in-Ok.ensures.answer none) in
          let own = subst (λ (q : Parts). Judges spots q (lent (drop 1 feeds)) (Ok tt)) c.picture.ensures.lent judged in
          verified_in spots feeds c.index-feeds-0.result c.args.rounds at own;
      stays = c.in-Ok.ensures.stays;
      stop = tt;
    }

pub returns : goal.returns
returns c =
    let feeds : List Feeding = c.args.feeds.now in
    let lent : List Feeding → List Parts = λ l. map (λ (f : Feeding). lent_by f.assembler) l in
    let spots = c.args.verifier.now.spots in
    record {
      verifies = λ none.
          let at : slice_get feeds 0 ≡ Some c.index-feeds-0.result = slice_get_read feeds (length feeds) 0 c.index-feeds-0.result refl (omega (arith, c.requires.count)) c.index-feeds-0.is in
          let judged = subst (λ (l : List Feeding). Judges spots c.picture.result (lent l) (Err c.in-Err.error)) (behind_first feeds) (c.in-Err.ensures.answer none) in
          let own = subst (λ (q : Parts). Judges spots q (lent (drop 1 feeds)) (Err c.in-Err.error)) c.picture.ensures.lent judged in
          rw c.stop_of_round.ensures (judged_in spots feeds c.index-feeds-0.result c.args.rounds c.in-Err.error at own);
      stays = tt;
      stop = rw c.stop_of_round.ensures (is_of_command c.in-Err.error c.args.rounds);
    }
