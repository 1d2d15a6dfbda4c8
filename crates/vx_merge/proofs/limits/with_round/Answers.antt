use Rattle.std.proofs.Common.{map, subst}
use Rattle.std.specs.Prelude.{option_to_list}
use Rattle.std.specs.List.{AllByRecursion}
use Rattle.vx_pic.specs.Written.{eos_units}
use Rattle.vx_bits.specs.Codes.{AreBytes}
use Rattle.vx_frame.proofs.Gathered.{all_both}
use Rattle.vx_merge.proofs.Limiting.{eos_bytes}
use Rattle.vx_merge.proofs.limits.with_round.Goals as goal

pub returns-clause-bytes : goal.returns-clause-bytes
returns-clause-bytes c =
    let sets = subst (λ us. AllByRecursion AreBytes (map (λ u. u.items) us)) c.as_slice.ensures.value c.with_units-sets.ensures.bytes in
    let sei = subst (λ o. AllByRecursion AreBytes (option_to_list o)) c.sei_unit.ensures c.with_some-sei.ensures.bytes in
    let header = subst AreBytes c.as_slice-2.ensures.value c.with_unit-header.ensures.bytes in
    all_both AreBytes (eos_units c.args.units.now.after_eos) _ (eos_bytes c.args.units.now.after_eos)
    (all_both AreBytes (map (λ u. u.items) c.args.units.now.sets.items) _ sets (all_both AreBytes _ _ sei (header, c.with_slices.ensures.bytes)))
