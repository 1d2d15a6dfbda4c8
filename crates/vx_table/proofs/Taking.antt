-- What a call of the bit reader says of the code that it takes.
use Rattle.std.proofs.Common.{◌≡◌, ◌≢◌, ◌↔◌, ◌⊎◌, inl, inr, ℕ, ℤ, pos, ◌^◌, ◌<◌, [], length, Result, Ok, Err, OnOk, OnErr, IfErr, refl, ap}
use Rattle.std.specs.Result.{result_and, IsErrOf}
use Rattle.vx_bits.specs.Codes.{fixed, exp_golomb, signed_exp_golomb, code_number, IsCodeNumber, zeros_from, one_from, BeginsWith, EndsWithinCode, BeginsTooLong}
use Rattle.vx_bits.specs.Place.{Place, taken, Takes}
use Rattle.vx_bits.specs.declared.refusal.BitCause.{BitCause}
use Rattle.vx_bits.specs.declared.refusal.BitCause.TheVariants as causes
use Rattle.vx_table.specs.declared.rows.Coding.TheVariants.{Fixed, Golomb, SignedGolomb, Zeros, OneAndZeros, Trailing, Absent, Refused}
use Rattle.vx_table.specs.Spelling.{HasCode, code_of, MayEnd, Misses}
use Rattle.vx_table.specs.Reading.{TakesCode}

pub fixed_taken : (n v : ℕ) (old new : Place) → v < 2 ^ n → Takes (fixed n v) old new → TakesCode (Fixed n) old (Ok (pos v)) new
unfolding HasCode code_of MayEnd
fixed_taken n v old new small took = (record { value = small; bits = took.left; end = tt }, took.total)

pub golomb_taken : (v : ℕ) (old new : Place) → IsCodeNumber v → Takes (exp_golomb v) old new → TakesCode Golomb old (Ok (pos v)) new
unfolding HasCode code_of MayEnd
golomb_taken v old new is took = (record { value = is; bits = took.left; end = tt }, took.total)

pub signed_taken : (v : ℤ) (old new : Place) → IsCodeNumber (code_number v) → Takes (signed_exp_golomb v) old new → TakesCode SignedGolomb old (Ok v) new
unfolding HasCode code_of MayEnd
signed_taken v old new is took = (record { value = is; bits = took.left; end = tt }, took.total)

pub zeros_taken : (old new : Place) → Takes (zeros_from (taken old)) old new → TakesCode Zeros old (Ok (pos 0)) new
unfolding HasCode code_of MayEnd
zeros_taken old new took = (record { value = refl; bits = took.left; end = tt }, took.total)

pub one_taken : (old new : Place) → Takes (one_from (taken old)) old new → TakesCode OneAndZeros old (Ok (pos 0)) new
unfolding HasCode code_of MayEnd
one_taken old new took = (record { value = refl; bits = took.left; end = tt }, took.total)

pub trailing_taken : (old new : Place) → Takes (one_from (taken old)) old new → new.left ≡ [] → TakesCode Trailing old (Ok (pos 0)) new
unfolding HasCode code_of MayEnd
trailing_taken old new took last = (record { value = refl; bits = took.left; end = last }, took.total)

pub absent_taken : (old : Place) → TakesCode Absent old (Ok (pos 0)) old
unfolding HasCode code_of MayEnd
absent_taken old = (record { value = refl; bits = refl; end = tt }, refl)

pub refused_missed : (old : Place) → TakesCode Refused old (Err causes.OutOfRange) old
unfolding Misses
refused_missed old = (tt, refl)

pub fixed_missed : {T : Type 0} (n : ℕ) (old new : Place) (e : BitCause) → e ≡ causes.Short → ((◌≡◌ {A = Result T BitCause} (Err e) (Err causes.Short)) ↔ (length old.left < n)) → new ≡ old
    → TakesCode (Fixed n) old (Err e) new
unfolding Misses
fixed_missed n old new e is short same = rw is (short.0 (ap Err is), same)

pub golomb_missed : {T : Type 0} (old new : Place) (e : BitCause) → (e ≡ causes.Short) ⊎ (e ≡ causes.LongCode)
    → ((◌≡◌ {A = Result T BitCause} (Err e) (Err causes.Short)) ↔ EndsWithinCode old.left) → ((◌≡◌ {A = Result T BitCause} (Err e) (Err causes.LongCode)) ↔ BeginsTooLong old.left) → new ≡ old
    → TakesCode Golomb old (Err e) new
unfolding Misses
golomb_missed old new e (inl is) short long same = rw is (short.0 (ap Err is), same)
golomb_missed old new e (inr is) short long same = rw is (long.0 (ap Err is), same)

pub signed_missed : {T : Type 0} (old new : Place) (e : BitCause) → (e ≡ causes.Short) ⊎ (e ≡ causes.LongCode)
    → ((◌≡◌ {A = Result T BitCause} (Err e) (Err causes.Short)) ↔ EndsWithinCode old.left) → ((◌≡◌ {A = Result T BitCause} (Err e) (Err causes.LongCode)) ↔ BeginsTooLong old.left) → new ≡ old
    → TakesCode SignedGolomb old (Err e) new
unfolding Misses
signed_missed old new e (inl is) short long same = rw is (short.0 (ap Err is), same)
signed_missed old new e (inr is) short long same = rw is (long.0 (ap Err is), same)

pub zeros_missed : (old new : Place) (e : BitCause) → e ≡ causes.BadAlignment → (¬ BeginsWith old.left (zeros_from (taken old))) → new ≡ old → TakesCode Zeros old (Err e) new
unfolding Misses
zeros_missed old new e is others same = rw is (others, same)

pub one_missed : {T : Type 0} (old new : Place) (e : BitCause) → (e ≡ causes.Short) ⊎ (e ≡ causes.BadAlignment)
    → ((◌≡◌ {A = Result T BitCause} (Err e) (Err causes.Short)) ↔ (old.left ≡ [])) → ((◌≡◌ {A = Result T BitCause} (Err e) (Err causes.BadAlignment)) ↔ ((old.left ≢ []) × (¬ BeginsWith old.left (one_from (taken old))))) → new ≡ old
    → TakesCode OneAndZeros old (Err e) new
unfolding Misses
one_missed old new e (inl is) short bad same = rw is (short.0 (ap Err is), same)
one_missed old new e (inr is) short bad same = rw is (bad.0 (ap Err is), same)

pub trailing_missed : {T : Type 0} (old new : Place) (e : BitCause) → (e ≡ causes.Short) ⊎ (e ≡ causes.BadTrailing)
    → ((◌≡◌ {A = Result T BitCause} (Err e) (Err causes.Short)) ↔ (old.left ≡ [])) → ((◌≡◌ {A = Result T BitCause} (Err e) (Err causes.BadTrailing)) ↔ ((old.left ≢ []) × (old.left ≢ one_from (taken old)))) → new ≡ old
    → TakesCode Trailing old (Err e) new
unfolding Misses
trailing_missed old new e (inl is) short bad same = rw is (short.0 (ap Err is), same)
trailing_missed old new e (inr is) short bad same = rw is (bad.0 (ap Err is), same)

-- what is taken of a gap: 0 for its bits
pub zeros_answered : {T : Type 0} (old new : Place) (r : Result T BitCause) → OnOk r (Takes (zeros_from (taken old)) old new) → OnErr r (¬ BeginsWith old.left (zeros_from (taken old)))
    → IfErr r (λ e. e ≡ causes.BadAlignment) → OnErr r (new ≡ old) → TakesCode Zeros old (result_and r (Ok (pos 0))) new
zeros_answered old new (Ok x) took others is same = zeros_taken old new took
zeros_answered old new (Err e) took others is same = zeros_missed old new e is others same

pub one_answered : {T : Type 0} (old new : Place) (r : Result T BitCause) → OnOk r (Takes (one_from (taken old)) old new) → IfErr r (λ e. (e ≡ causes.Short) ⊎ (e ≡ causes.BadAlignment))
    → (IsErrOf r causes.Short ↔ (old.left ≡ [])) → (IsErrOf r causes.BadAlignment ↔ ((old.left ≢ []) × (¬ BeginsWith old.left (one_from (taken old))))) → OnErr r (new ≡ old)
    → TakesCode OneAndZeros old (result_and r (Ok (pos 0))) new
one_answered old new (Ok x) took is short bad same = one_taken old new took
one_answered old new (Err e) took is short bad same = one_missed old new e is short bad same

pub trailing_answered : {T : Type 0} (old new : Place) (r : Result T BitCause) → OnOk r (Takes (one_from (taken old)) old new) → OnOk r (new.left ≡ [])
    → IfErr r (λ e. (e ≡ causes.Short) ⊎ (e ≡ causes.BadTrailing)) → (IsErrOf r causes.Short ↔ (old.left ≡ []))
    → (IsErrOf r causes.BadTrailing ↔ ((old.left ≢ []) × (old.left ≢ one_from (taken old)))) → OnErr r (new ≡ old) → TakesCode Trailing old (result_and r (Ok (pos 0))) new
trailing_answered old new (Ok x) took last is short bad same = trailing_taken old new took last
trailing_answered old new (Err e) took last is short bad same = trailing_missed old new e is short bad same
