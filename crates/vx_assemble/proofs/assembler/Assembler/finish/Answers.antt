use Rattle.std.proofs.Common.{refl, sym, subst, ap, ◌∙◌, Some}
use Rattle.vx_pic.specs.Readings.{current}
use Rattle.vx_assemble.specs.Held.{Stands, IsBounded}
use Rattle.vx_assemble.proofs.Bounds.{kept_bounded, lacks_one, lacks_none}
use Rattle.vx_assemble.proofs.Results.{value_no_error}
use Rattle.vx_assemble.proofs.Stopping.{goes_on, stops, stops_by, stopped_by, nothing_done, refused_no_stop}
use Rattle.vx_assemble.proofs.assembler.Assembler.finish.Goals as goal

pub returns-in-Some : goal.returns-in-Some
returns-in-Some c = record {
  answer = λ before stands. stops _ _ c.self.view_is _ c.in-Some.is stands.first;
  same = tt;
  none = λ is. nothing_done is;
  nothing = refl;
  bounded = kept_bounded _ c.self.invariant.order;
  fault = c.in-Some.is;
  again = λ f is. stops_by _ _ c.self.view_is _ f c.in-Some.is is;
  stopped = λ f is. stopped_by _ _ c.self.view_is _ f c.in-Some.is is;
}

pub returns-then-is_open : goal.returns-then-is_open
returns-then-is_open c = record {
  answer = λ before stands.
      let old = subst (λ h. Stands h before) (sym c.self.view_is) stands in
      lacks_one before c.is_open.result (c.is_open.ensures (current before) old.state.picture) c.if-is_open.true ∙ ap Some (sym c.structure-refusal.ensures);
  same = tt;
  none = λ is. nothing_done is;
  nothing = refl;
  bounded = kept_bounded _ c.self.invariant.order;
  fault = refl;
  again = λ f is. goes_on _ _ c.self.view_is f c.in_default.is is;
  stopped = λ f is. refused_no_stop is;
}

pub returns : goal.returns
returns c = record {
  answer = λ before stands.
      let old = subst (λ h. Stands h before) (sym c.self.view_is) stands in
      lacks_none before c.is_open.result (c.is_open.ensures (current before) old.state.picture) c.if-is_open.false;
  same = refl;
  none = tt;
  nothing = tt;
  bounded = subst (λ h. IsBounded h) c.self.view_is (kept_bounded _ c.self.invariant.order);
  fault = tt;
  again = λ f is. goes_on _ _ c.self.view_is f c.in_default.is is;
  stopped = λ f is. value_no_error is;
}
