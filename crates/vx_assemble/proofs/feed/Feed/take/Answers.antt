use Rattle.std.proofs.Common.{◌≡◌, ℕ, ◌≤◌, ◌∙◌, Ok, Err, ap, sym, arith}
use Rattle.std.proofs.lemmas.Result.{err_from_is_err_and}
use Rattle.vx_annexb.proofs.Needed.{fewer_reads}
use Rattle.vx_assemble.specs.Feed.{Feeding, IsOpen}
use Rattle.vx_assemble.proofs.Results.{same_error, value_no_error, if_none, on_none, on_err}
use Rattle.vx_assemble.proofs.Seeking.{seeks_first, takes_given, takes_stopped, takes_fault, seeks_more}
use Rattle.vx_assemble.proofs.feed.Feed.take.Goals as goal

pub loop-taken-init : goal.loop-taken-init
loop-taken-init g c = seeks_first c.args.self.now _ _

grows_same : (old n : ℕ) → n ≡ old → old ≤ n
grows_same old n same = omega (arith, same)

pub returns-in_err-taken : goal.returns-in_err-taken
returns-in_err-taken g c =
    let p = err_from_is_err_and c.from_residual.result c.from_residual.ensures.1 in
    record {
      answer = λ R of bytes places before fed needed.
          rw (p.1, p.2) (takes_stopped _ _ _ _ _ _ _ c.loop-taken.invariant _ c.in_err-taken.ensures.answer R of bytes places before fed needed);
      first = rw (p.1, p.2) c.in_err-taken.ensures.first;
      stopped = λ first is.
          let same = c.loop-taken.invariant.stopped first is in
          let again = c.in_err-taken.ensures.again first (ap (λ (x : Feeding). x.first) same.0 ∙ is) in
          (p.1 ∙ ap Err p.2 ∙ same_error again.0, again.1 ∙ same.0, same.1, same.2);
      counts = if_none _ _ p.1;
      few = on_none _ _ p.1;
      kept = on_err _ (c.in_err-taken.ensures.kept ∙ c.loop-taken.invariant.units);
      grows = rw (sym c.loop-taken.invariant.units) c.next.ensures.grows;
      going = on_none _ _ p.1;
      told = if_none _ _ p.1;
      end = λ going end. c.loop-taken.invariant.end going (sym c.next.ensures.closed ∙ end);
      held = c.next.ensures.held;
      bytes = c.next.ensures.bytes;
      bounded = c.next.ensures.bounded;
    }

pub returns-in-Some : goal.returns-in-Some
returns-in-Some g c = record {
  answer = λ R of bytes places before fed needed.
      takes_given _ _ _ _ _ _ _ c.loop-taken.invariant _ (rw c.in-Some.is at c.in_ok-taken.ensures.answer) R of bytes places before fed needed;
  first = tt;
  stopped = λ first is.
      let same = c.loop-taken.invariant.stopped first is in
      value_no_error (c.in_ok-taken.ensures.again first (ap (λ (x : Feeding). x.first) same.0 ∙ is)).0;
  counts = let counts = rw c.in-Some.is at c.in_ok-taken.ensures.counts in rw (sym c.loop-taken.invariant.units) counts;
  few = c.in_ok-taken.ensures.few;
  kept = tt;
  grows = rw (sym c.loop-taken.invariant.units) c.next.ensures.grows;
  going = c.in_ok-taken.ensures.going;
  told = rw c.in-Some.is at c.in_ok-taken.ensures.told;
  end = λ going end. c.loop-taken.invariant.end going (sym c.next.ensures.closed ∙ end);
  held = c.next.ensures.held;
  bytes = c.next.ensures.bytes;
  bounded = c.next.ensures.bounded;
}

pub read-requires : goal.read-requires
read-requires g c = record {
  «open» = c.in_ok-taken.ensures.«open» (ap Ok c.in_default.is);
  sought = c.in_ok-taken.ensures.sought (ap Ok c.in_default.is);
}

pub returns-in_err-read : goal.returns-in_err-read
returns-in_err-read g c =
    let p = err_from_is_err_and c.from_residual-in_err-read.result c.from_residual-in_err-read.ensures.1 in
    let units : c.next.new.self.units ≡ c.loop-taken.self.units = c.in_ok-taken.ensures.units (ap Ok c.in_default.is) in
    let same = c.read.ensures.units ∙ units ∙ c.loop-taken.invariant.units in
    record {
      answer = λ R of bytes places before fed needed.
          rw (p.1, p.2) (takes_fault _ _ _ _ _ _ _ c.loop-taken.invariant (rw c.in_default.is at c.in_ok-taken.ensures.answer) _ _ _ _ c.in_err-read.ensures.answer R of bytes places before fed needed);
      first = rw (p.1, p.2) c.in_err-read.ensures.first;
      stopped = λ first is.
          let same = c.loop-taken.invariant.stopped first is in
          value_no_error (c.in_ok-taken.ensures.again first (ap (λ (x : Feeding). x.first) same.0 ∙ is)).0;
      counts = if_none _ _ p.1;
      few = on_none _ _ p.1;
      kept = on_err _ same;
      grows = grows_same _ _ same;
      going = on_none _ _ p.1;
      told = if_none _ _ p.1;
      end = λ going end. absurd (c.in_err-read.ensures.unended end);
      held = c.read.ensures.held;
      bytes = c.read.ensures.bytes;
      bounded = c.read.ensures.bounded;
    }

pub loop-taken-preserved : goal.loop-taken-preserved
loop-taken-preserved g c =
    let units : c.next.new.self.units ≡ c.loop-taken.self.units = c.in_ok-taken.ensures.units (ap Ok c.in_default.is) in
    let going : IsOpen c.next.new.self = c.in_ok-taken.ensures.«open» (ap Ok c.in_default.is) in
    seeks_more _ _ _ _ _ _ _ c.loop-taken.invariant (rw c.in_default.is at c.in_ok-taken.ensures.answer) going.reader _ _ _ c.in_ok-read.ensures.answer
    c.in_ok-read.ensures.end (λ first is. value_no_error (c.in_ok-taken.ensures.again first is).0)
    units c.read.ensures.units

pub loop-taken-smaller : goal.loop-taken-smaller
loop-taken-smaller g c =
    let going : IsOpen c.next.new.self = c.in_ok-taken.ensures.«open» (ap Ok c.in_default.is) in
    let within : c.next.new.self.reader.taken ≤ 1099511627776 = c.in_ok-taken.ensures.within (ap Ok c.in_default.is) in
    fewer_reads _ _ _ _ (sym c.next.ensures.closed ∙ going.reader) (rw c.next.ensures.taken at within)
    (λ open_. rw c.next.ensures.taken at (c.in_ok-read.ensures.grows (record { reader = open_; going = c.in_ok-read.ensures.going })))
