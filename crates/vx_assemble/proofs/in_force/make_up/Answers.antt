use Rattle.std.proofs.Common.{◌∙◌, ap, sym, length}
use Rattle.vx_assemble.proofs.in_force.make_up.Goals as goal

pub returns-clause-made : goal.returns-clause-made
returns-clause-made c =
    let numbers = c.in_ok-layout.ensures.numbers in
    record {
      size = sym c.have_same_size.ensures ∙ c.if-not-have_same_size.false;
      make = c.in_ok-layout.ensures.make;
      layout = numbers;
      ids = c.in_ok-ids.ensures.ids;
      one_each = c.in_ok-ids.ensures.one_each ∙ sym (ap (λ l. length l.subpics) numbers);
      slices = c.slice_count.ensures ∙ sym (ap (λ l. length l.slices) numbers);
      few = c.in_ok-layout.ensures.few;
      few_subpics = c.in_ok-layout.ensures.few_subpics;
      scope = c.in_ok-scope.ensures;
    }
