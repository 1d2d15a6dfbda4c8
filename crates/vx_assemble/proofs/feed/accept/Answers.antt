use Rattle.std.proofs.Common.{refl}
use Rattle.std.proofs.lemmas.Result.{err_from_is_err_and}
use Rattle.vx_assemble.proofs.InMemory.{accepts_none}
use Rattle.vx_assemble.proofs.feed.accept.Goals as goal

pub returns-in_err-what : goal.returns-in_err-what
returns-in_err-what c =
    let p = err_from_is_err_and c.from_residual.result c.from_residual.ensures.1 in
    record {
      answer = λ R of before stands. rw (p.1, p.2) (accepts_none R before c.accept.new.self c.args.unit.now c.args.offset _ (c.in_err-what.ensures.answer R of before stands));
      told = rw p.1 tt;
      bounded = c.accept.ensures.bounded;
      nal = λ is. let e = p.1 in cc;
    }

pub returns : goal.returns
returns c = record {
  answer = λ R of before stands. (c.in_ok-what.ensures.answer R of before stands, c.nal_header-header.ensures, refl, refl);
  told = c.in_ok-what.ensures.told;
  bounded = c.accept.ensures.bounded;
  nal = λ is. absurd (cc);
}
