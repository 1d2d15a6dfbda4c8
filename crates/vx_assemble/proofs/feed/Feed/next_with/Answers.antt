use Rattle.std.proofs.Common.{◌≡◌, ◌≤◌, ◌∙◌, None, refl, ap, subst}
use Rattle.std.specs.Prelude.{IfSome}
use Rattle.vx_annexb.specs.Held.{ahead, is_all}
use Rattle.vx_annexb.specs.Reading.{Reading}
use Rattle.vx_assemble.specs.Feed.{Lowers, Counts}
use Rattle.vx_assemble.specs.inner.Feed.{feeding}
use Rattle.vx_assemble.proofs.Feeding.{few_bytes, still_gives, still_refused, still_seen, still_seen_refused}
use Rattle.vx_assemble.proofs.Results.{error_no_value}
use Rattle.vx_assemble.proofs.Within.{fed_within, not_stopped, reader_within, units_within, few_units}
use Rattle.vx_assemble.proofs.feed.Feed.next_with.Goals as goal

pub returns-in-Ok : goal.returns-in-Ok
returns-in-Ok g c =
    let first : c.self.inside.first ≡ None = c.in_default.is in
    let reader = reader_within _ _ _ _ _ c.self.view_is in
    let units = units_within _ _ _ _ _ c.self.view_is in
    record {
      answer = λ R of b places before fed.
          let old = fed_within _ _ _ _ _ c.self.view_is R b places before first fed in
          still_gives R b places before c.take_seen.new.reader c.take_seen.new.assembler c.take_seen.new.units c.self.inside.first _ first (c.in-Ok.ensures.answer R of b places before old);
      seen = λ R of b places before fed.
          let old = fed_within _ _ _ _ _ c.self.view_is R b places before first fed in
          still_seen (g.V.UnitView.sees R of) g.V.UnitView.nothing R b places before c.take_seen.new.reader c.take_seen.new.assembler c.take_seen.new.units c.self.inside.first _ _ first
          (c.in-Ok.ensures.seen R of b places before old);
      going = first;
      first = tt;
      again = λ f is. not_stopped _ _ _ _ _ c.self.view_is f first is;
      «open» = λ none. record { reader = c.in-Ok.ensures.«open» none; going = first };
      sought = c.in-Ok.ensures.sought;
      within = c.in-Ok.ensures.within;
      taken = c.in-Ok.ensures.taken ∙ ap (λ (h : Reading). h.taken) reader;
      closed = c.in-Ok.ensures.closed ∙ ap (λ (h : Reading). h.closed) reader;
      lowers = subst (λ (h : Reading). Lowers c.in-Ok.given (ahead h.splitter) (ahead c.take_seen.new.reader.splitter)) reader c.in-Ok.ensures.lowers;
      counts = subst (λ n. IfSome c.in-Ok.given (λ taken. Counts taken n c.take_seen.new.units)) units c.in-Ok.ensures.units;
      units = λ none. c.in-Ok.ensures.none none ∙ units;
      kept = tt;
      grows = subst (λ n. n ≤ c.take_seen.new.units) units c.in-Ok.ensures.grows;
      few = few_units _ _ _ _ c.in-Ok.ensures.count (c.self.invariant.units first) c.self.invariant.fed;
      held = c.in-Ok.ensures.held;
      bytes = few_bytes c.take_seen.new.reader c.take_seen.new.assembler c.in-Ok.ensures.held c.in-Ok.ensures.bounded;
      bounded = c.in-Ok.ensures.bounded;
      all = c.in-Ok.ensures.all ∙ ap (λ (h : Reading). is_all h.splitter) reader;
      ended = λ end open_. c.in-Ok.ensures.ended end open_.reader;
      told = c.in-Ok.ensures.told;
    }

pub returns-in-Err : goal.returns-in-Err
returns-in-Err g c =
    let first : c.self.inside.first ≡ None = c.in_default.is in
    let reader = reader_within _ _ _ _ _ c.self.view_is in
    let units = units_within _ _ _ _ _ c.self.view_is in
    let f = feeding c.take_seen.new.reader c.take_seen.new.assembler c.take_seen.new.units in
    record {
      answer = λ R of b places before fed.
          let old = fed_within _ _ _ _ _ c.self.view_is R b places before first fed in
          still_refused R b places before f f _ refl (c.in-Err.ensures.answer R of b places before old);
      seen = λ R of b places before fed.
          let old = fed_within _ _ _ _ _ c.self.view_is R b places before first fed in
          still_seen_refused (g.V.UnitView.sees R of) g.V.UnitView.nothing R b places before f f _ _ refl (c.in-Err.ensures.seen R of b places before old);
      going = tt;
      first = rw c.first_of.ensures refl;
      again = λ f is. not_stopped _ _ _ _ _ c.self.view_is f first is;
      «open» = λ is. error_no_value is;
      sought = λ is. error_no_value is;
      within = λ is. error_no_value is;
      taken = c.in-Err.ensures.taken ∙ ap (λ (h : Reading). h.taken) reader;
      closed = c.in-Err.ensures.closed ∙ ap (λ (h : Reading). h.closed) reader;
      lowers = tt;
      counts = tt;
      units = λ is. error_no_value is;
      kept = c.in-Err.ensures.kept ∙ units;
      grows = subst (λ n. n ≤ c.take_seen.new.units) units c.in-Err.ensures.grows;
      few = tt;
      held = c.in-Err.ensures.held;
      bytes = few_bytes c.take_seen.new.reader c.take_seen.new.assembler c.in-Err.ensures.held c.in-Err.ensures.bounded;
      bounded = c.in-Err.ensures.bounded;
      all = c.in-Err.ensures.all ∙ ap (λ (h : Reading). is_all h.splitter) reader;
      ended = λ end open_. error_no_value end;
      told = tt;
    }

pub returns-in-Some-clause-bytes : goal.returns-in-Some-clause-bytes
returns-in-Some-clause-bytes g c = rw (← c.self.view_is) (few_bytes c.self.inside.reader c.self.inside.assembler c.self.invariant.held c.self.invariant.bounded)
