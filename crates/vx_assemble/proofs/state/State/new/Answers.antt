use Rattle.std.proofs.Common.{◌≡◌, ℕ, zero, suc, get_or, refl, rules}
use Rattle.std.specs.Prelude.{Option, None, replicate}
use Rattle.vx_assemble.proofs.state.State.new.Goals as goal

no_set : {A : Type 0} (n id : ℕ) → get_or {A = Option A} (replicate n None) id None ≡ None
no_set zero id = refl
no_set (suc n) zero = refl
no_set (suc n) (suc id) = no_set n id

pub returns-clause-held : goal.returns-clause-held
returns-clause-held c = record {
  apart = record {
    sps = λ id. no_set 16 id;
    pps = λ id. no_set 64 id;
    aps = c.new.ensures;
    gathered = c.new-7.ensures;
    last = refl;
    previous = search rules;
    ended = refl;
  };
  picture = refl;
  items = tt;
}
