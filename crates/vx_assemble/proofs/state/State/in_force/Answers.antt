use Rattle.std.proofs.lemmas.Result.{err_from_is_err_and}
use Rattle.vx_assemble.proofs.InForce.{no_sets, no_layout}
use Rattle.vx_assemble.proofs.state.State.in_force.Goals as goal

pub returns-in_err-pair : goal.returns-in_err-pair
returns-in_err-pair c =
    let p = err_from_is_err_and c.from_residual-in_err-pair.result c.from_residual-in_err-pair.ensures.1 in
    record { sets = rw p.1 tt; answer = λ R h. rw (p.1, p.2) (no_sets R c.args.self.now c.args.id _ c.in_err-pair.ensures) }

pub returns-in_err-made : goal.returns-in_err-made
returns-in_err-made c =
    let p = err_from_is_err_and c.from_residual-in_err-made.result c.from_residual-in_err-made.ensures.1 in
    record {
      sets = rw p.1 tt;
      answer = λ R h. rw (p.1, p.2) (no_layout R c.args.self.now c.args.id c.in_ok-pair.pair _ c.in_ok-pair.ensures (c.in_err-made.ensures.answer R h));
    }
