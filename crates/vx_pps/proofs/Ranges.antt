-- What the range of a field says of its number.
use Rattle.std.proofs.Common.{◌≡◌, ◌&&◌, ℕ, ℤ, pos, negsuc, ◌+◌, ◌-◌, ◌*◌, ◌^◌, ◌<◌, ◌≤◌, min, Bool, true, false, cond, None, Some, Result, Ok, Err, IfOk, inl, inr, refl, sym, arith, leb, ltb}
use Rattle.std.proofs.Math.Nat.{mul-le-mul_left}
use Rattle.std.proofs.Math.Pow.{pow_mono}
use Rattle.std.proofs.lemmas.Grind.{div_ceil_times}
use Rattle.std.proofs.lemmas.Option.{none-some}
use Rattle.std.proofs.lemmas.Bool.{cases_Bool, le-leb, leb-true, ltb-true}
use Rattle.std.specs.Int.{div_ceil, saturate_to_bits}
use Rattle.vx_table.specs.declared.rows.Fault.{Fault}
use Rattle.vx_table.specs.declared.rows.Fault.TheVariants.{OutOfRange}
use Rattle.vx_table.specs.declared.rows.Limits.TheVariants.{Below}
use Rattle.vx_table.specs.declared.rows.Coding.TheVariants.{Fixed, Golomb}
use Rattle.vx_table.specs.declared.rows.Limits.{Limits}
use Rattle.vx_table.specs.Scope.{natural}
use Rattle.vx_table.specs.Spelling.{HasCode, fault_of}
use Rattle.vx_pps.specs.Slices.{below, height_limits}

-- a number of ue(v) is its value
pub golomb_range : (limits : Limits ℕ) (v : ℤ) → HasCode Golomb v → fault_of limits v ≡ None → fault_of limits (pos (natural v)) ≡ None
unfolding HasCode natural
golomb_range limits (pos n) code range =
    let same : min n 4294967295 ≡ n = omega (arith, code) in
    rw same range
golomb_range limits (negsuc n) code range = absurd code

-- and so is one of u(n)
pub fixed_range : (bits : ℕ) (limits : Limits ℕ) (v : ℤ) → bits ≤ 32 → HasCode (Fixed bits) v → fault_of limits v ≡ None → fault_of limits (pos (natural v)) ≡ None
unfolding HasCode natural
fixed_range bits limits (pos n) narrow code range =
    let wide : 2 ^ bits ≤ 2 ^ 32 = pow_mono narrow in
    let most : n < 2 ^ 32 = omega (arith, wide, code) in
    let same : min n 4294967295 ≡ n = omega (arith, most) in
    rw same range
fixed_range bits limits (negsuc n) narrow code range = absurd code

-- no fault
none_when : {F : Type 0} (b : Bool) (fault : F) → cond b None (Some fault) ≡ None → b ≡ true
none_when true fault range = refl
none_when false fault range = absurd (none-some fault (sym range))

and-right : (a b : Bool) → (a && b) ≡ true → b ≡ true
and-right true b e = e
and-right false b e = absurd (grind (arith, e))

-- a number in a range below a bound is below it
pub limited_bound : (bound n : ℕ) (fault : Fault) → fault_of (Below bound fault) (pos n) ≡ None → n < bound
unfolding fault_of
limited_bound bound n fault range =
    let holds = none_when (leb 0 n && ltb n bound) fault range in
    ltb-true n bound (and-right (leb 0 n) (ltb n bound) holds)

pub below_bound : (bound n : ℕ) → fault_of (below bound) (pos n) ≡ None → n < bound
below_bound bound n range = limited_bound bound n OutOfRange range

-- the height, less 1, of an explicit slice stays in the tile
pub height_fits : (is_last : Bool) (left room v : ℕ) → fault_of (height_limits is_last left room) (pos v) ≡ None → v + 1 ≤ left
unfolding fault_of
height_fits false left room v range = omega (arith, below_bound left v range)
height_fits true left room v range = elim (cases_Bool (leb 1 left)) [
  | inl some ↦
      let inside = none_when (leb (div_ceil left room - 1) v && leb v (left - 1)) OutOfRange (rw some at range) in
      omega (arith, leb-true v (left - 1) (and-right (leb (div_ceil left room - 1) v) (leb v (left - 1)) inside), leb-true 1 left some)
  | inr none ↦ omega (arith, below_bound left v (rw none at range))
]

and-left : (a b : Bool) → (a && b) ≡ true → a ≡ true
and-left true b e = refl
and-left false b e = absurd (grind (arith, e))

-- and the last one is so high that as many of its height as there is room for cover what is left
pub height_suffices : (left room v : ℕ) → 1 ≤ room → 1 ≤ left → fault_of (height_limits true left room) (pos v) ≡ None → left ≤ room * (v + 1)
unfolding fault_of
height_suffices left room v some more range =
    let is : leb 1 left ≡ true = le-leb 1 left more in
    let inside = none_when (leb (div_ceil left room - 1) v && leb v (left - 1)) OutOfRange (rw is at range) in
    let low : div_ceil left room ≤ v + 1 = omega (arith, leb-true (div_ceil left room - 1) v (and-left (leb (div_ceil left room - 1) v) (leb v (left - 1)) inside)) in
    omega (arith, (div_ceil_times left room (omega arith)).0, mul-le-mul_left room low)

-- what holds of an answer holds too where it says more
pub ok_by : {T E : Type 0} {P Q : T → Type 0} (r : Result T E) → ((t : T) → P t → Q t) → IfOk r P → IfOk r Q
ok_by (Ok t) on p = on t p
ok_by (Err e) on p = tt

-- the number of a value counts no more than 32 bits, so those of 63 are enough
pub natural-saturated : (z : ℤ) → natural (saturate_to_bits 63 z) ≡ natural z
unfolding natural
natural-saturated (pos n) = omega arith
natural-saturated (negsuc n) = refl
