-- The units of generated streams: their headers, their RBSPs, and that they can stand in a stream.
use Rattle.std.proofs.Common.{◌≡◌, ℕ, zero, suc, ◌+◌, ◌*◌, ◌/◌, ◌%◌, ◌<◌, ◌≤◌, ◌&&◌, true, ◌∷◌, length, drop, refl, ap, arith}
use Rattle.std.specs.List.{AllByRecursion}
use Rattle.std.proofs.lemmas.Bool.{and_parts}
use Rattle.vx_annexb.specs.Laws.{CanStand}
use Rattle.vx_pic.specs.declared.unit_types.TheConstants as types
use Rattle.vx_pic.specs.Units.{rbsp_of}
use Rattle.vx_write.specs.Again.{UnitsStand}
use Rattle.vx_write.specs.Units.{IsUnitOf}
use Rattle.vx_gen.specs.Draws.{byte_of, payload}
use Rattle.vx_gen.specs.Units as units
use Rattle.vx_gen.specs.Units.{lsb, slice, slice_front}
use Rattle.vx_gen.specs.Pictures.{nal_type}
use Rattle.vx_gen.proofs.Below.{below_16}
use Rattle.vx_gen.proofs.Clear.{ends_nonzero, escaped_itself, is_clear, itself, last_nonzero, nonzero_clear}

-- ---- sets

pub sps_is : IsUnitOf types.SPS_NUT 0 (drop 2 units.sps) units.sps
sps_is = escaped_itself units.sps refl (last_nonzero units.sps refl)

IsPlain : ℕ → Type 0
IsPlain k = (is_clear (units.pps k) && ends_nonzero (units.pps k)) ≡ true

pps_plain : (k : ℕ) → k < 16 → IsPlain k
unfolding IsPlain
pps_plain = below_16 IsPlain refl refl refl refl refl refl refl refl refl refl refl refl refl refl refl refl

pub pps_is : (k : ℕ) → k < 16 → IsUnitOf types.PPS_NUT 0 (drop 2 (units.pps k)) (units.pps k)
unfolding IsPlain
pps_is k low =
    let plain = and_parts (is_clear (units.pps k)) (ends_nonzero (units.pps k)) (pps_plain k low) in
    escaped_itself (units.pps k) plain.0 (last_nonzero (units.pps k) plain.1)

IsShort : ℕ → Type 0
IsShort k = length (units.pps k) ≤ 11

pub pps_short : (k : ℕ) → k < 16 → length (units.pps k) ≤ 11
unfolding IsShort
pps_short = below_16 IsShort (omega arith) (omega arith) (omega arith) (omega arith) (omega arith) (omega arith) (omega arith) (omega arith)
    (omega arith) (omega arith) (omega arith) (omega arith) (omega arith) (omega arith) (omega arith) (omega arith)

-- ---- slices

drawn_nonzero : (r : ℕ) → 0 < byte_of r
unfolding byte_of
drawn_nonzero r = omega arith

pub payload_nonzero : (seed n : ℕ) → AllByRecursion (λ b. 0 < b) (payload seed n)
payload_nonzero seed n = (drawn_nonzero _, (drawn_nonzero _, (drawn_nonzero _, (drawn_nonzero _, (drawn_nonzero _, (omega arith, tt))))))

slice_clear : (seed n p : ℕ) → is_clear (slice seed n p) ≡ true
slice_clear seed n zero = nonzero_clear (payload seed n) (payload_nonzero seed n)
slice_clear seed n (suc p) = nonzero_clear ((136 + lsb (suc p) / 2) ∷ (120 + 128 * (lsb (suc p) % 2)) ∷ payload seed n) (omega arith, (omega arith, payload_nonzero seed n))

slice_ends : (seed n p : ℕ) → ends_nonzero (slice seed n p) ≡ true
slice_ends seed n zero = refl
slice_ends seed n (suc p) = refl

-- a slice's RBSP
pub slice_rbsp : (seed n p : ℕ) → rbsp_of (slice seed n p) ≡ drop 2 (slice seed n p)
unfolding rbsp_of
slice_rbsp seed n p = ap (drop 2) (itself (slice seed n p) (slice_clear seed n p))

pub slice_is : (seed n p : ℕ) → IsUnitOf (nal_type p) 0 (drop 2 (slice seed n p)) (slice seed n p)
slice_is seed n zero = escaped_itself (slice seed n 0) (slice_clear seed n 0) (last_nonzero (slice seed n 0) (slice_ends seed n 0))
slice_is seed n (suc p) = escaped_itself (slice seed n (suc p)) (slice_clear seed n (suc p)) (last_nonzero (slice seed n (suc p)) (slice_ends seed n (suc p)))

pub slice_long : (seed n p : ℕ) → length (slice seed n p) ≡ 10
slice_long seed n zero = refl
slice_long seed n (suc p) = refl

-- ---- all of them

module _ (stand : UnitsStand) where
  pub sps_stands : CanStand units.sps
  sps_stands = stand types.SPS_NUT 0 (drop 2 units.sps) units.sps (omega arith) sps_is (omega arith)

  pub pps_stands : (k : ℕ) → k < 16 → CanStand (units.pps k)
  pps_stands k low =
      let short = pps_short k low in
      stand types.PPS_NUT 0 (drop 2 (units.pps k)) (units.pps k) (omega arith) (pps_is k low) (omega (arith, short))

  pub slice_stands : (seed n p : ℕ) → CanStand (slice seed n p)
  slice_stands seed n p =
      let long = slice_long seed n p in
      stand (nal_type p) 0 (drop 2 (slice seed n p)) (slice seed n p) (omega arith) (slice_is seed n p) (omega (arith, long))
