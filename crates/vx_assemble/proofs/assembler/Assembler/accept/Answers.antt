use Rattle.std.proofs.Common.{refl, sym, subst}
use Rattle.vx_assemble.specs.Held.{Stands}
use Rattle.vx_assemble.proofs.Bounds.{kept_bounded}
use Rattle.vx_assemble.proofs.Results.{value_no_error}
use Rattle.vx_assemble.proofs.Stopping.{goes_on, stops, stops_by, stopped_by, nothing_done, memory_no_stop, refused_no_stop}
use Rattle.vx_assemble.proofs.assembler.Assembler.accept.Goals as goal

pub returns-in-Ok : goal.returns-in-Ok
returns-in-Ok c = record {
  answer = λ R of before stands.
      let old = subst (λ h. Stands h before) (sym c.self.view_is) stands in
      let took = c.in-Ok.ensures.answer R of before old.state in
      record {
        reading = took.reading;
        reads = took.reads;
        stands = record { state = took.held; told = took.told; first = c.in_default.is };
        told = took.told;
      };
  told = refl;
  none = tt;
  nothing = tt;
  bounded = kept_bounded _ c.take.ensures.order;
  fault = tt;
  again = λ f is. goes_on _ _ c.self.view_is f c.in_default.is is;
  stopped = λ f is. value_no_error is;
}

pub returns-in-Some : goal.returns-in-Some
returns-in-Some c = record {
  answer = λ R of before stands. stops _ _ c.self.view_is _ c.in-Some.is stands.first;
  told = tt;
  none = λ is. nothing_done is;
  nothing = refl;
  bounded = kept_bounded _ c.self.invariant.order;
  fault = c.in-Some.is;
  again = λ f is. stops_by _ _ c.self.view_is _ f c.in-Some.is is;
  stopped = λ f is. stopped_by _ _ c.self.view_is _ f c.in-Some.is is;
}

pub returns-in-Err-Memory : goal.returns-in-Err-Memory
returns-in-Err-Memory c = record {
  answer = λ R of before stands. tt;
  told = tt;
  none = λ is. nothing_done is;
  nothing = refl;
  bounded = kept_bounded _ c.take.ensures.order;
  fault = refl;
  again = λ f is. goes_on _ _ c.self.view_is f c.in_default.is is;
  stopped = λ f is. memory_no_stop is;
}

pub returns-in-Err-Refused : goal.returns-in-Err-Refused
returns-in-Err-Refused c = record {
  answer = λ R of before stands.
      let old = subst (λ h. Stands h before) (sym c.self.view_is) stands in
      rw c.in-Err-Refused.field-0-is at (c.in-Err-Refused.ensures.answer R of before old.state);
  told = tt;
  none = λ is. nothing_done is;
  nothing = refl;
  bounded = kept_bounded _ c.take.ensures.order;
  fault = refl;
  again = λ f is. goes_on _ _ c.self.view_is f c.in_default.is is;
  stopped = λ f is. refused_no_stop is;
}
