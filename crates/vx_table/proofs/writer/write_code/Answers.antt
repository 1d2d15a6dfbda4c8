use Rattle.std.specs.Int.RustNames.{unsigned_abs}
use Rattle.std.proofs.Common.{rules, ◌∙◌, sym, inl, inr, ◌^◌, ◌≤◌, arith, w64, w32}
use Rattle.std.proofs.lemmas.Int.{to_z-of_z}
use Rattle.std.proofs.lemmas.List.{append-nil}
use Rattle.std.proofs.Math.Pow.{pow_mono}
use mir.Val.{SFits}
use Rattle.vx_table.specs.Spelling.{HasCode, code_of}
use Rattle.vx_table.proofs.Values.{fixed_number, golomb_number, signed_fits}
use Rattle.vx_table.proofs.writer.write_code.Goals as goal

pub u-requires-clause-range : goal.u-requires-clause-range
u-requires-clause-range c =
    let fits : SFits w64 c.args.value = search rules in
    let has = fixed_number c.in-Fixed.width c.args.value (rw c.in-Fixed.is at c.requires.code) in
    let width : c.in-Fixed.width ≤ 32 = rw c.in-Fixed.is at c.requires.width in
    let bound : 2 ^ c.in-Fixed.width ≤ 2 ^ 32 = pow_mono width in
    let is = c.number.ensures (unsigned_abs c.args.value) (to_z-of_z w64 c.args.value fits ∙ has.0) (omega (arith, has.1)) in
    rw (c.from.ensures, is) has.1

pub ue-requires : goal.ue-requires
ue-requires c =
    let fits : SFits w64 c.args.value = search rules in
    let has = golomb_number c.args.value (rw c.in-Golomb.is at c.requires.code) in
    let is = c.number-in-Golomb.ensures (unsigned_abs c.args.value) (to_z-of_z w64 c.args.value fits ∙ has.0) (omega (arith, has.1)) in
    rw is has.1

pub overflow_cast-value : goal.overflow_cast-value
overflow_cast-value c =
    let fits : SFits w64 c.args.value = search rules in
    let narrow = signed_fits c.args.value (rw c.in-SignedGolomb.is at c.requires.code) in
    rw (to_z-of_z w64 c.args.value fits) narrow

pub se-requires : goal.se-requires
unfolding HasCode
se-requires c =
    let fits : SFits w64 c.args.value = search rules in
    let has = rw c.in-SignedGolomb.is at c.requires.code in
    let narrow = signed_fits c.args.value has in
    rw (to_z-of_z w64 c.args.value fits, to_z-of_z w32 c.args.value narrow) has

pub returns-in-Fixed-clause-ok : goal.returns-in-Fixed-clause-ok
unfolding code_of
returns-in-Fixed-clause-ok c =
    let fits : SFits w64 c.args.value = search rules in
    let has = fixed_number c.in-Fixed.width c.args.value (rw c.in-Fixed.is at c.requires.code) in
    let width : c.in-Fixed.width ≤ 32 = rw c.in-Fixed.is at c.requires.width in
    let bound : 2 ^ c.in-Fixed.width ≤ 2 ^ 32 = pow_mono width in
    let is = c.number.ensures (unsigned_abs c.args.value) (to_z-of_z w64 c.args.value fits ∙ has.0) (omega (arith, has.1)) in
    rw c.in-Fixed.is (rw (c.from.ensures, is) at c.u.ensures.ok)

pub returns-in-Golomb-clause-ok : goal.returns-in-Golomb-clause-ok
unfolding code_of
returns-in-Golomb-clause-ok c =
    let fits : SFits w64 c.args.value = search rules in
    let has = golomb_number c.args.value (rw c.in-Golomb.is at c.requires.code) in
    let is = c.number-in-Golomb.ensures (unsigned_abs c.args.value) (to_z-of_z w64 c.args.value fits ∙ has.0) (omega (arith, has.1)) in
    rw c.in-Golomb.is (rw is at c.ue.ensures.ok)

pub returns-in-SignedGolomb-clause-ok : goal.returns-in-SignedGolomb-clause-ok
unfolding code_of
returns-in-SignedGolomb-clause-ok c =
    let fits : SFits w64 c.args.value = search rules in
    let narrow = signed_fits c.args.value (rw c.in-SignedGolomb.is at c.requires.code) in
    rw c.in-SignedGolomb.is (rw (to_z-of_z w64 c.args.value fits, to_z-of_z w32 c.args.value narrow) at c.se.ensures.ok)

pub returns-in-Zeros-clause-ok : goal.returns-in-Zeros-clause-ok
unfolding code_of
returns-in-Zeros-clause-ok c = rw c.in-Zeros.is c.align.ensures.ok

pub returns-in-OneAndZeros-clause-ok : goal.returns-in-OneAndZeros-clause-ok
unfolding code_of
returns-in-OneAndZeros-clause-ok c = elim c.in-OneAndZeros.is [ inl is ↦ rw is c.align_after_one.ensures.ok | inr is ↦ rw is c.align_after_one.ensures.ok ]

pub returns-in-Absent-clause-ok : goal.returns-in-Absent-clause-ok
unfolding code_of
returns-in-Absent-clause-ok c = elim c.in-Absent.is [ inl is ↦ rw is (sym (append-nil _)) | inr is ↦ rw is (sym (append-nil _)) ]
