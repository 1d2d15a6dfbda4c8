use Rattle.std.proofs.Common.{◌∙◌, inl, inr, sym, arith}
use Rattle.vx_run.specs.declared.stop.Stop.TheVariants.{WriteFault}
use Rattle.vx_run.proofs.Ending.{not_two, status_2_exact}
use Rattle.vx_run.proofs.whole.run_whole.Goals as goal

pub returns-clause-whole : goal.returns-clause-whole
returns-clause-whole g c = record {
  ends = record {
    outcome = c.run-status.ensures.ends.0;
    ended = c.run-status.result;
    made = c.run-status.new.out;
    told = c.run-status.new.err;
    exits = c.run-status.ensures.ends.2;
    finishes = c.finish.ensures.status;
    kept = c.finish.ensures.bytes;
  };
  performs = c.run-status.ensures.ends.1;
}

-- the last write changes nothing of that
pub returns-clause-words : goal.returns-clause-words
returns-clause-words g c =
    let of_run = status_2_exact _ _ _ _ _ c.run-status.ensures.ends in
    elim c.finish.ensures.status [
      | inl kept ↦ (λ two. of_run.0 (sym kept.1 ∙ two), λ none. kept.1 ∙ of_run.1 none)
      | inr fault ↦ (λ two. absurd (not_two _ WriteFault _ tt fault.2 two), λ none. absurd (omega (arith, fault.1, of_run.1 none)))
    ]
