use Rattle.std.proofs.Common.{Option, arith, ◌≡◌, ◌∙◌, ◌<◌, ◌+◌, ℕ, None, Some, IsSome, refl, sym}
use Rattle.std.proofs.lemmas.Result.{err_from_is_err_and}
use Rattle.vx_assemble.specs.Feed.{Lowers, Counts}
use Rattle.vx_assemble.specs.inner.Feed.{feeding}
use Rattle.vx_assemble.specs.declared.feed.Taken.TheVariants as taken
use Rattle.vx_assemble.specs.declared.feed.Taken.{Taken}
use Rattle.vx_assemble.proofs.Feeding.{gives_unit, refused_by_bytes, refused_by_unit, gives_none, gives_end, refused_at_end, sees_unit, sees_refused, sees_no_bytes, sees_end}
use Rattle.vx_assemble.proofs.Results.{never, untrue, given_none, none_is_given, given_same, if_none, on_none, on_err, le_self, le_more, more_taken, as_many}
use Rattle.vx_assemble.proofs.feed.take_seen.Goals as goal

lowers_by : (t : Taken) (old new : ℕ) → new < old → Lowers (Some t) old new
lowers_by (taken.Nal header place bytes what) old new falls = falls
lowers_by taken.End old new falls = omega (arith, falls)

counts_by : (t : Taken) (old new : ℕ) → new ≡ old + 1 → Counts t old new
counts_by (taken.Nal header place bytes what) old new is = is
counts_by taken.End old new is = tt

none_given : {A : Type 0} (o : Option A) → IsSome o → o ≡ None → ⊥
none_given (Some x) some is = absurd (cc)
none_given None some is = absurd (cc)

pub returns-in_err-span : goal.returns-in_err-span
returns-in_err-span g c =
    let p = err_from_is_err_and c.from_residual.result c.from_residual.ensures.1 in
    record {
      answer = λ R of b places before fed.
          rw (p.1, p.2) (refused_by_bytes R b places before _ (feeding c.next.new.self c.args.assembler.now c.args.units.now) _ fed (c.in_err-span.ensures.answer b places fed.read));
      seen = λ R of b places before fed.
          rw (p.1, p.2) (sees_no_bytes (g.V.UnitView.sees R of) g.V.UnitView.nothing R b places before (feeding c.next.new.self c.args.assembler.now c.args.units.now) _ _ (c.in_err-span.ensures.answer b places fed.read)
          c.look_away.ensures);
      count = on_none _ _ p.1;
      fed = c.next.ensures.lends.fed;
      «open» = λ is. never p.1 is;
      sought = λ is. never p.1 is;
      within = λ is. never p.1 is;
      taken = c.next.ensures.taken;
      closed = c.next.ensures.closed;
      lowers = if_none _ _ p.1;
      units = if_none _ _ p.1;
      none = λ is. refl;
      kept = on_err _ refl;
      grows = le_self _;
      held = c.next.ensures.held;
      bounded = c.requires.bounded;
      all = c.next.ensures.lends.all;
      ended = λ end open_. never p.1 end;
      told = if_none _ _ p.1;
    }

pub returns-in_err-look : goal.returns-in_err-look
returns-in_err-look g c =
    let p = err_from_is_err_and c.from_residual-in_err-look.result c.from_residual-in_err-look.ensures.1 in
    record {
      answer = λ R of b places before fed.
          rw (p.1, p.2) tt;
      seen = λ R of b places before fed.
          rw (p.1, p.2) tt;
      count = on_none _ _ p.1;
      fed = c.next.ensures.lends.fed;
      «open» = λ is. never p.1 is;
      sought = λ is. never p.1 is;
      within = λ is. never p.1 is;
      taken = c.next.ensures.taken;
      closed = c.next.ensures.closed;
      lowers = if_none _ _ p.1;
      units = if_none _ _ p.1;
      none = λ is. refl;
      kept = on_err _ refl;
      grows = le_self _;
      held = c.next.ensures.held;
      bounded = c.requires.bounded;
      all = c.next.ensures.lends.all;
      ended = λ end open_. never p.1 end;
      told = if_none _ _ p.1;
    }

pub returns-in_err-taken : goal.returns-in_err-taken
returns-in_err-taken g c =
    let p = err_from_is_err_and c.from_residual-in_err-taken.result c.from_residual-in_err-taken.ensures.1 in
    let finds = rw c.in-Some.is at c.in_ok-span.ensures.answer in
    record {
      answer = λ R of b places before fed.
          rw (p.1, p.2) (refused_by_unit R b places before _ (feeding c.next.new.self c.accept.new.assembler c.args.units.now) c.in-Some.span _ _ fed (finds b places fed.read) c.bytes-unit.ensures (c.in_err-taken.ensures.answer R of before fed.stands));
      seen = λ R of b places before fed.
          rw (p.1, p.2) (sees_refused (g.V.UnitView.sees R of) g.V.UnitView.nothing R b places before (feeding c.next.new.self c.accept.new.assembler c.args.units.now) c.in-Some.span _ _ _ (finds b places fed.read)
          c.bytes-unit.ensures (c.in_err-taken.ensures.answer R of before fed.stands) (c.in_ok-look.ensures R of before fed.stands));
      count = on_none _ _ p.1;
      fed = c.next.ensures.lends.fed;
      «open» = λ is. never p.1 is;
      sought = λ is. never p.1 is;
      within = λ is. never p.1 is;
      taken = c.next.ensures.taken;
      closed = c.next.ensures.closed;
      lowers = if_none _ _ p.1;
      units = if_none _ _ p.1;
      none = λ is. refl;
      kept = on_err _ refl;
      grows = le_self _;
      held = c.next.ensures.held;
      bounded = c.accept.ensures.bounded;
      all = c.next.ensures.lends.all;
      ended = λ end open_. never p.1 end;
      told = if_none _ _ p.1;
    }

pub returns-in_err-finish : goal.returns-in_err-finish
returns-in_err-finish g c =
    let p = err_from_is_err_and c.from_residual-in_err-finish.result c.from_residual-in_err-finish.ensures.1 in
    let finds = rw c.in_default.is at c.in_ok-span.ensures.answer in
    let some : IsSome c.next.new.self.closed = c.if-is_open.ensures.closed untrue in
    let new = feeding c.next.new.self c.finish.new.self c.args.units.now in
    record {
      answer = λ R of b places before fed.
          rw (p.1, p.2) (refused_at_end R b places before _ new _ fed (finds b places fed.read) some (λ failed. c.requires.going (sym c.next.ensures.closed ∙ failed))
          (c.in_err-finish.ensures.answer before fed.stands));
      seen = λ R of b places before fed.
          rw (p.1, p.2) (sees_end (g.V.UnitView.sees R of) g.V.UnitView.nothing R b places before new _ _ (finds b places fed.read) some (λ failed. c.requires.going (sym c.next.ensures.closed ∙ failed))
          (c.in_err-finish.ensures.answer before fed.stands) c.look_away.ensures);
      count = on_none _ _ p.1;
      fed = c.next.ensures.lends.fed;
      «open» = λ is. never p.1 is;
      sought = λ is. never p.1 is;
      within = λ is. never p.1 is;
      taken = c.next.ensures.taken;
      closed = c.next.ensures.closed;
      lowers = if_none _ _ p.1;
      units = if_none _ _ p.1;
      none = λ is. refl;
      kept = on_err _ refl;
      grows = le_self _;
      held = c.next.ensures.held;
      bounded = c.finish.ensures.bounded;
      all = c.next.ensures.lends.all;
      ended = λ end open_. never p.1 end;
      told = if_none _ _ p.1;
    }

pub returns-in-Some : goal.returns-in-Some
returns-in-Some g c =
    let finds = rw c.in-Some.is at c.in_ok-span.ensures.answer in
    let falls = rw c.in-Some.is at c.in_ok-span.ensures.falls in
    record {
      answer = λ R of b places before fed.
          gives_unit R b places before _ _ c.in-Some.span _ _ fed (finds b places fed.read) c.bytes-unit.ensures (c.in_ok-taken.ensures.answer R of before fed.stands) refl refl;
      seen = λ R of b places before fed.
          sees_unit (g.V.UnitView.sees R of) g.V.UnitView.nothing R b places before _ _ c.in-Some.span _ _ _ fed (finds b places fed.read) c.bytes-unit.ensures (c.in_ok-taken.ensures.answer R of before fed.stands) refl refl (c.in_ok-look.ensures R of before fed.stands);
      count = more_taken _ _ _ falls;
      fed = c.next.ensures.lends.fed;
      «open» = λ is. given_none is;
      sought = λ is. given_none is;
      within = λ is. given_none is;
      taken = c.next.ensures.taken;
      closed = c.next.ensures.closed;
      lowers = lowers_by c.in_ok-taken.taken _ _ falls;
      units = counts_by c.in_ok-taken.taken _ _ refl;
      none = λ is. given_none is;
      kept = tt;
      grows = le_more _;
      held = c.next.ensures.held;
      bounded = c.accept.ensures.bounded;
      all = c.next.ensures.lends.all;
      ended = λ end open_. c.in_ok-taken.ensures.nal (given_same end);
      told = c.in_ok-taken.ensures.told;
    }

pub returns-then-is_open : goal.returns-then-is_open
returns-then-is_open g c =
    let finds = rw c.in_default.is at c.in_ok-span.ensures.answer in
    let going : c.next.new.self.closed ≡ None = c.if-is_open.ensures.«open» refl in
    record {
      answer = λ R of b places before fed.
          gives_none R b places before (feeding c.args.reader.now c.args.assembler.now c.args.units.now) (feeding c.next.new.self c.args.assembler.now c.args.units.now) fed (finds b places fed.read) refl refl refl going;
      seen = λ R of b places before fed. c.look_away.ensures;
      count = as_many _ _ _ c.in_ok-span.ensures.stays;
      fed = c.next.ensures.lends.fed;
      «open» = λ is. going;
      sought = λ is. rw c.in_default.is at c.in_ok-span.ensures.sought;
      within = λ is. c.if-is_open.ensures.within refl;
      taken = c.next.ensures.taken;
      closed = c.next.ensures.closed;
      lowers = c.in_ok-span.ensures.stays;
      units = tt;
      none = λ is. refl;
      kept = tt;
      grows = le_self _;
      held = c.next.ensures.held;
      bounded = c.requires.bounded;
      all = c.next.ensures.lends.all;
      ended = λ end open_. none_is_given end;
      told = tt;
    }

pub returns : goal.returns
returns g c =
    let finds = rw c.in_default.is at c.in_ok-span.ensures.answer in
    let some : IsSome c.next.new.self.closed = c.if-is_open.ensures.closed untrue in
    record {
      answer = λ R of b places before fed.
          gives_end R b places before (feeding c.args.reader.now c.args.assembler.now c.args.units.now) (feeding c.next.new.self c.finish.new.self c.args.units.now) fed (finds b places fed.read) some (λ failed. c.requires.going (sym c.next.ensures.closed ∙ failed))
          (c.in_ok-finish.ensures.answer before fed.stands) (rw c.in_ok-finish.ensures.same fed.stands) refl refl;
      seen = λ R of b places before fed. c.look_away.ensures;
      count = as_many _ _ _ c.in_ok-span.ensures.stays;
      fed = c.next.ensures.lends.fed;
      «open» = λ is. given_none is;
      sought = λ is. given_none is;
      within = λ is. given_none is;
      taken = c.next.ensures.taken;
      closed = c.next.ensures.closed;
      lowers = c.in_ok-span.ensures.stays;
      units = tt;
      none = λ is. refl;
      kept = tt;
      grows = le_self _;
      held = c.next.ensures.held;
      bounded = c.finish.ensures.bounded;
      all = c.next.ensures.lends.all;
      ended = λ end open_. none_given _ some open_;
      told = tt;
    }
