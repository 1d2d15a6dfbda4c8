use Rattle.std.proofs.Common.{◌+◌, refl, arith}
use Rattle.std.proofs.lemmas.Result.{err_from_is_err_and}
use Rattle.vx_annexb.proofs.Taking.{finds_unit, finds_none, finds_long, finds_refusal}
use Rattle.vx_assemble.specs.Memory.{given}
use Rattle.vx_assemble.specs.inner.Feed.{feeding}
use Rattle.vx_assemble.proofs.Feeding.{refused_by_bytes, gives_end, refused_at_end}
use Rattle.vx_assemble.proofs.InMemory.{is_long, isnt_long, isnt_failed, takes_unit, refuses_unit}
use Rattle.vx_assemble.proofs.memory_feed.take_unit.Goals as goal

pub returns-in_err-span : goal.returns-in_err-span
returns-in_err-span c =
    let p = err_from_is_err_and c.from_residual.result c.from_residual.ensures.1 in
    record {
      answer = λ R of g places before fed.
          let finds = finds_refusal (given c.args.splitter.now c.args.given) c.next.new.self c.next.ensures.lends.all g places fed.read _ (c.in_err-span.ensures.answer _ places fed.read.stands) in
          rw (p.1, p.2) (refused_by_bytes R g places before _ (feeding (given c.next.new.self c.args.given) c.args.assembler.now c.args.units.now) _ fed finds);
      count = rw p.1 tt;
      fed = c.next.ensures.lends.fed;
      all = c.next.ensures.lends.all;
      falls = rw p.1 tt;
      kept = rw p.1 refl;
      told = rw p.1 tt;
      bounded = c.requires.bounded;
    }

pub returns-in_err-what : goal.returns-in_err-what
returns-in_err-what c =
    let p = err_from_is_err_and c.from_residual-in_err-what.result c.from_residual-in_err-what.ensures.1 in
    record {
      answer = λ R of g places before fed.
          let answer = rw c.in-Some.is at c.in_ok-span.ensures.answer in
          let finds = finds_unit (given c.args.splitter.now c.args.given) c.next.new.self c.next.ensures.lends.all g places fed.read c.in-Some.span (answer _ places fed.read.stands) in
          let new = feeding (given c.next.new.self c.args.given) c.accept.new.self c.args.units.now in
          rw (p.1, p.2) (refuses_unit R g places before _ new c.in-Some.span _ _ fed finds c.bytes.ensures (c.in_err-what.ensures.answer R of before fed.stands));
      count = rw p.1 tt;
      fed = c.next.ensures.lends.fed;
      all = c.next.ensures.lends.all;
      falls = rw p.1 tt;
      kept = rw p.1 refl;
      told = rw p.1 tt;
      bounded = c.accept.ensures.bounded;
    }

pub returns-in-Some : goal.returns-in-Some
returns-in-Some c =
    let falls = rw c.in-Some.is at c.in_ok-span.ensures.falls in
    record {
      answer = λ R of g places before fed.
          let answer = rw c.in-Some.is at c.in_ok-span.ensures.answer in
          let finds = finds_unit (given c.args.splitter.now c.args.given) c.next.new.self c.next.ensures.lends.all g places fed.read c.in-Some.span (answer _ places fed.read.stands) in
          let new = feeding (given c.next.new.self c.args.given) c.accept.new.self (c.args.units.now + 1) in
          takes_unit R g places before _ new c.in-Some.span _ _ fed finds c.bytes.ensures (c.in_ok-what.ensures.answer R of before fed.stands) refl refl;
      count = omega (arith, falls);
      fed = c.next.ensures.lends.fed;
      all = c.next.ensures.lends.all;
      falls = falls;
      kept = tt;
      told = c.in_ok-what.ensures.told;
      bounded = c.accept.ensures.bounded;
    }

pub returns-then-given-gt-SOURCE_LIMIT : goal.returns-then-given-gt-SOURCE_LIMIT
returns-then-given-gt-SOURCE_LIMIT c =
    record {
      answer = λ R of g places before fed.
          let answer = rw c.in_default.is at c.in_ok-span.ensures.answer in
          let finds = finds_long (given c.args.splitter.now c.args.given) c.next.new.self c.next.ensures.lends.all g places fed.read (answer _ places fed.read.stands) (is_long c.args.given c.if-given-gt-SOURCE_LIMIT.true) in
          refused_by_bytes R g places before _ (feeding (given c.next.new.self c.args.given) c.args.assembler.now c.args.units.now) _ fed finds;
      count = tt;
      fed = c.next.ensures.lends.fed;
      all = c.next.ensures.lends.all;
      falls = tt;
      kept = refl;
      told = tt;
      bounded = c.requires.bounded;
    }

pub returns-in_err-finish : goal.returns-in_err-finish
returns-in_err-finish c =
    let p = err_from_is_err_and c.from_residual-in_err-finish.result c.from_residual-in_err-finish.ensures.1 in
    record {
      answer = λ R of g places before fed.
          let answer = rw c.in_default.is at c.in_ok-span.ensures.answer in
          let finds = finds_none (given c.args.splitter.now c.args.given) c.next.new.self c.next.ensures.lends.all g places fed.read (answer _ places fed.read.stands) (isnt_long c.args.given c.if-given-gt-SOURCE_LIMIT.false) in
          let new = feeding (given c.next.new.self c.args.given) c.finish.new.self c.args.units.now in
          rw (p.1, p.2) (refused_at_end R g places before _ new _ fed finds refl (isnt_failed c.args.given c.if-given-gt-SOURCE_LIMIT.false) (c.in_err-finish.ensures.answer before fed.stands));
      count = rw p.1 tt;
      fed = c.next.ensures.lends.fed;
      all = c.next.ensures.lends.all;
      falls = rw p.1 tt;
      kept = rw p.1 refl;
      told = rw p.1 tt;
      bounded = c.finish.ensures.bounded;
    }

pub returns : goal.returns
returns c =
    record {
      answer = λ R of g places before fed.
          let answer = rw c.in_default.is at c.in_ok-span.ensures.answer in
          let finds = finds_none (given c.args.splitter.now c.args.given) c.next.new.self c.next.ensures.lends.all g places fed.read (answer _ places fed.read.stands) (isnt_long c.args.given c.if-given-gt-SOURCE_LIMIT.false) in
          let new = feeding (given c.next.new.self c.args.given) c.finish.new.self c.args.units.now in
          gives_end R g places before _ new fed finds refl (isnt_failed c.args.given c.if-given-gt-SOURCE_LIMIT.false) (c.in_ok-finish.ensures.answer before fed.stands)
          (rw c.in_ok-finish.ensures.same fed.stands) refl refl;
      count = omega (arith, c.in_ok-span.ensures.stays);
      fed = c.next.ensures.lends.fed;
      all = c.next.ensures.lends.all;
      falls = tt;
      kept = tt;
      told = tt;
      bounded = c.finish.ensures.bounded;
    }
