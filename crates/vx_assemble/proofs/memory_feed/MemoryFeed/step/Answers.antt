use Rattle.std.proofs.Common.{◌≡◌, ◌<◌, Some, None, refl, subst}
use Rattle.vx_annexb.specs.Held.{ahead}
use Rattle.vx_annexb.specs.Reading.{Reading}
use Rattle.vx_assemble.specs.Memory.{given}
use Rattle.vx_assemble.specs.inner.Feed.{feeding}
use Rattle.vx_assemble.proofs.InMemory.{sees_step, sees_stop, picture_by, falls_by}
use Rattle.vx_assemble.proofs.Results.{error_no_value}
use Rattle.vx_assemble.proofs.Within.{seen_within, not_stopped, reader_within, few_units}
use Rattle.vx_assemble.proofs.memory_feed.MemoryFeed.step.Goals as goal

pub returns-in-Ok : goal.returns-in-Ok
returns-in-Ok c =
    let first : c.self.inside.first ≡ None = c.in_default.is in
    record {
      answer = λ R of bytes ps qs ending seen are.
          let old = seen_within _ _ _ _ _ c.self.view_is R bytes ps first seen in
          sees_step R bytes qs ending are _ ps old (given c.take_unit.new.splitter c.self.inside.taken) c.take_unit.new.assembler c.take_unit.new.units c.self.inside.first c.in-Ok.what _
          first c.step_of.ensures.step c.take_unit.ensures.all (c.in-Ok.ensures.answer R of old.front old.places old.before old.fed) c.step_of.ensures.lends;
      picture = λ is. c.step_of.ensures.holds (picture_by c.in-Ok.what _ _ c.step_of.ensures.step refl is);
      going = first;
      first = tt;
      stopped = λ f is. not_stopped _ _ _ _ _ c.self.view_is f first is;
      falls = λ is.
          subst (λ (h : Reading). ahead c.take_unit.new.splitter < ahead h.splitter) (reader_within _ _ _ _ _ c.self.view_is)
          (falls_by c.in-Ok.what _ _ c.step_of.ensures.step refl is c.in-Ok.ensures.falls);
      few = few_units _ _ _ _ c.in-Ok.ensures.count (c.self.invariant.units first) c.self.invariant.fed;
      bounded = c.take_unit.ensures.bounded;
    }

pub returns-in-Err : goal.returns-in-Err
returns-in-Err c =
    let first : c.self.inside.first ≡ None = c.in_default.is in
    record {
      answer = λ R of bytes ps qs ending seen are.
          let old = seen_within _ _ _ _ _ c.self.view_is R bytes ps first seen in
          let reader = given c.take_unit.new.splitter c.self.inside.taken in
          let new = feeding reader c.take_unit.new.assembler c.take_unit.new.units in
          let last = record new { first = Some c.first_of.result } in
          sees_stop R bytes qs ending are _ new ps old c.take_unit.ensures.all last c.in-Err.fault c.in-Err.ensures.kept (c.in-Err.ensures.answer R of old.front old.places old.before old.fed);
      picture = λ is. error_no_value is;
      going = tt;
      first = rw c.first_of.ensures refl;
      stopped = λ f is. not_stopped _ _ _ _ _ c.self.view_is f first is;
      falls = λ is. error_no_value is;
      few = tt;
      bounded = c.take_unit.ensures.bounded;
    }

pub returns-in-Some-clause-bounded : goal.returns-in-Some-clause-bounded
returns-in-Some-clause-bounded c = rw (← c.self.view_is) c.self.invariant.bounded
