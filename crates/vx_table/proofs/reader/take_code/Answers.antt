use Rattle.std.proofs.Common.{rules, arith, ◌≡◌, pos, ◌^◌, ◌<◌, ◌≤◌, w64, w32, to_z}
use Rattle.std.proofs.Math.Pow.{pow_mono}
use mir.Val.{SFits}
use Rattle.std.proofs.lemmas.Result.{err_from_is_err_and}
use Rattle.std.proofs.lemmas.Int.{ints, to_z-of_z}
use Rattle.vx_table.proofs.Taking.{fixed_taken, golomb_taken, signed_taken, zeros_answered, one_answered, trailing_answered, absent_taken, refused_missed, fixed_missed, golomb_missed, signed_missed}
use Rattle.vx_table.proofs.reader.take_code.Goals as goal

pub returns-in_err-u-in-Fixed : goal.returns-in_err-u-in-Fixed
returns-in_err-u-in-Fixed c =
    let p = err_from_is_err_and c.from_residual.result c.from_residual.ensures.1 in
    let e = c.in_err-u-in-Fixed.ensures in
    rw (p.1, p.2, c.in-Fixed.is) (fixed_missed _ _ _ _ e.cause e.short e.unchanged)

pub returns-in_err-ue-in-Golomb : goal.returns-in_err-ue-in-Golomb
returns-in_err-ue-in-Golomb c =
    let p = err_from_is_err_and c.from_residual-in_err-ue-in-Golomb.result c.from_residual-in_err-ue-in-Golomb.ensures.1 in
    let e = c.in_err-ue-in-Golomb.ensures in
    rw (p.1, p.2, c.in-Golomb.is) (golomb_missed _ _ _ e.cause e.short e.long e.unchanged)

pub returns-in_err-se-in-SignedGolomb : goal.returns-in_err-se-in-SignedGolomb
returns-in_err-se-in-SignedGolomb c =
    let p = err_from_is_err_and c.from_residual-in_err-se-in-SignedGolomb.result c.from_residual-in_err-se-in-SignedGolomb.ensures.1 in
    let e = c.in_err-se-in-SignedGolomb.ensures in
    rw (p.1, p.2, c.in-SignedGolomb.is) (signed_missed _ _ _ e.cause e.short e.long e.unchanged)

pub returns-in_ok-u-in-Fixed : goal.returns-in_ok-u-in-Fixed
returns-in_ok-u-in-Fixed c =
    let e = c.in_ok-u-in-Fixed.ensures.value in
    let width : c.in-Fixed.width ≤ 32 = rw c.in-Fixed.is at c.requires in
    let bound : 2 ^ c.in-Fixed.width ≤ 2 ^ 32 = pow_mono width in
    let small : c.in_ok-u-in-Fixed.field-0 < 2 ^ 32 = omega (arith, e.0) in
    let same : to_z w64 c.in_ok-u-in-Fixed.field-0 ≡ pos c.in_ok-u-in-Fixed.field-0 = omega (arith, ints) in
    rw (c.in-Fixed.is, same) (fixed_taken _ _ _ _ e.0 e.1)

pub returns-in_ok-ue-in-Golomb : goal.returns-in_ok-ue-in-Golomb
returns-in_ok-ue-in-Golomb c =
    let e = c.in_ok-ue-in-Golomb.ensures.value in
    let fits : SFits w64 c.from.result = search rules in
    rw (c.in-Golomb.is, to_z-of_z w64 c.from.result fits, c.from.ensures) (golomb_taken _ _ _ e.0 e.1)

pub returns-in_ok-se-in-SignedGolomb : goal.returns-in_ok-se-in-SignedGolomb
returns-in_ok-se-in-SignedGolomb c =
    let e = c.in_ok-se-in-SignedGolomb.ensures.value in
    let fits : SFits w64 c.from-in-SignedGolomb.result = search rules in
    let narrow : SFits w32 c.in_ok-se-in-SignedGolomb.field-0 = search rules in
    rw (c.in-SignedGolomb.is, to_z-of_z w64 c.from-in-SignedGolomb.result fits, c.from-in-SignedGolomb.ensures, to_z-of_z w32 c.in_ok-se-in-SignedGolomb.field-0 narrow)
    (signed_taken _ _ _ e.0 e.1)

pub returns-in-Zeros : goal.returns-in-Zeros
returns-in-Zeros c =
    let e = c.align.ensures in
    rw (c.in-Zeros.is, c.and.ensures) (zeros_answered _ _ _ e.value e.others e.cause e.unchanged)

pub returns-in-OneAndZeros : goal.returns-in-OneAndZeros
returns-in-OneAndZeros c =
    let e = c.align_after_one.ensures in
    rw (c.in-OneAndZeros.is, c.and-in-OneAndZeros.ensures) (one_answered _ _ _ e.value e.cause e.short e.bad e.unchanged)

pub returns-in-Trailing : goal.returns-in-Trailing
returns-in-Trailing c =
    let e = c.trailing.ensures in
    rw (c.in-Trailing.is, c.and-in-Trailing.ensures) (trailing_answered _ _ _ e.value e.last e.cause e.short e.bad e.unchanged)

pub returns-in-Absent : goal.returns-in-Absent
returns-in-Absent c = rw c.in-Absent.is (absent_taken _)

pub returns-in-Refused : goal.returns-in-Refused
returns-in-Refused c = rw c.in-Refused.is (refused_missed _)
