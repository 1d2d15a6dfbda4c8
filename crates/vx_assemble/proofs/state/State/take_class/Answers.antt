use Rattle.std.proofs.Common.{subst}
use Rattle.vx_pic.specs.Units.{slice_unit}
use Rattle.vx_pic.specs.Rules.{reads_as}
use Rattle.vx_assemble.specs.inner.Takes.{TakesUnit}
use Rattle.vx_assemble.specs.declared.unit.UnitClass.TheVariants as classes
use Rattle.vx_assemble.proofs.Bounds.{none_done}
use Rattle.vx_assemble.proofs.Taking.{as_class}
use Rattle.vx_assemble.proofs.state.State.take_class.Goals as goal

pub returns-in-Vps : goal.returns-in-Vps
returns-in-Vps c = record {
  answer = λ R h before held.
      as_class R c.args.class classes.Vps before c.args.unit.bytes.now c.take_vps.new.self c.take_vps.result c.in-Vps.is (c.take_vps.ensures.answer R h before held);
  order = c.take_vps.ensures.order;
  done = none_done _ c.take_vps.result c.take_vps.ensures.quiet;
}

pub returns-in-Sps : goal.returns-in-Sps
returns-in-Sps c = record {
  answer = λ R h before held.
      as_class R c.args.class classes.Sps before c.args.unit.bytes.now c.take_sps.new.self c.take_sps.result c.in-Sps.is (c.take_sps.ensures.answer R h before held);
  order = c.take_sps.ensures.order;
  done = none_done _ c.take_sps.result c.take_sps.ensures.quiet;
}

pub returns-in-Pps : goal.returns-in-Pps
returns-in-Pps c = record {
  answer = λ R h before held.
      as_class R c.args.class classes.Pps before c.args.unit.bytes.now c.take_pps.new.self c.take_pps.result c.in-Pps.is (c.take_pps.ensures.answer R h before held);
  order = c.take_pps.ensures.order;
  done = none_done _ c.take_pps.result c.take_pps.ensures.quiet;
}

pub returns-in-PrefixAps : goal.returns-in-PrefixAps
returns-in-PrefixAps c = record {
  answer = λ R h before held.
      as_class R c.args.class classes.PrefixAps before c.args.unit.bytes.now c.take_prefix_aps.new.self c.take_prefix_aps.result c.in-PrefixAps.is (c.take_prefix_aps.ensures.answer R h before held);
  order = c.take_prefix_aps.ensures.order;
  done = none_done _ c.take_prefix_aps.result c.take_prefix_aps.ensures.quiet;
}

pub returns-in-SuffixAps : goal.returns-in-SuffixAps
returns-in-SuffixAps c = record {
  answer = λ R h before held.
      as_class R c.args.class classes.SuffixAps before c.args.unit.bytes.now c.take_suffix_aps.new.self c.take_suffix_aps.result c.in-SuffixAps.is (c.take_suffix_aps.ensures.answer R h before held);
  order = c.take_suffix_aps.ensures.order;
  done = none_done _ c.take_suffix_aps.result c.take_suffix_aps.ensures.quiet;
}

pub returns-in-Header : goal.returns-in-Header
returns-in-Header c = record {
  answer = λ R h before held.
      as_class R c.args.class classes.Header before c.args.unit.bytes.now c.take_header.new.self c.take_header.result c.in-Header.is (c.take_header.ensures.answer R h before held);
  order = c.take_header.ensures.order;
  done = none_done _ c.take_header.result c.take_header.ensures.quiet;
}

pub returns-in-Slice : goal.returns-in-Slice
returns-in-Slice c = record {
  answer = λ R h before held.
      as_class R c.args.class classes.Slice before c.args.unit.bytes.now c.take_slice.new.self c.take_slice.result c.in-Slice.is
      (subst (λ u. TakesUnit (reads_as R slice_unit before u) before c.take_slice.new.self c.take_slice.result) c.as_slice.ensures
      (c.take_slice.ensures.answer R h before held));
  order = c.take_slice.ensures.order;
  done = c.take_slice.ensures.done;
}

pub returns-in-End : goal.returns-in-End
returns-in-End c = record {
  answer = λ R h before held.
      as_class R c.args.class classes.End before c.args.unit.bytes.now c.take_end.new.self c.take_end.result c.in-End.is (c.take_end.ensures.answer R c.args.unit.bytes.now h before held);
  order = c.take_end.ensures.order;
  done = none_done _ c.take_end.result c.take_end.ensures.quiet;
}

pub returns-in-Sei : goal.returns-in-Sei
returns-in-Sei c = record {
  answer = λ R h before held.
      as_class R c.args.class classes.Sei before c.args.unit.bytes.now c.take_sei.new.self c.take_sei.result c.in-Sei.is (c.take_sei.ensures.answer R h before held);
  order = c.take_sei.ensures.order;
  done = none_done _ c.take_sei.result c.take_sei.ensures.quiet;
}

pub returns-in-Other-clause-order : goal.returns-in-Other-clause-order
returns-in-Other-clause-order c = c.requires

pub returns-in-Other-clause-done : goal.returns-in-Other-clause-done
returns-in-Other-clause-done c is = absurd (cc)
