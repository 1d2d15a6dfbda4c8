-- Lemmas on bits: numbers and their bits, the bits of bytes.
use Rattle.std.proofs.Common.{◌≡◌, ℕ, ◌+◌, ◌-◌, ◌*◌, ◌/◌, ◌%◌, ◌^◌, ◌<◌, ◌≤◌, zero, suc, Bool, true, false, cond, List, [], ◌∷◌, ◌++◌, length, take, drop, refl, sym, ◌∙◌, ap, arith, add-one, inl, inr}
use Rattle.std.specs.Prelude.{nat_le}
use Rattle.std.proofs.Math.Nat.{pow-le-pow_right}
use Rattle.std.proofs.lemmas.Nat.{pow-add, div-mul-add, mod-mul-add}
use Rattle.std.proofs.lemmas.List.{append_assoc, length-append, length-take-le, length-drop, take-append-drop, take_at, drop_at}
use Rattle.std.proofs.lemmas.Bool.Decides.{leb_tells}
use Rattle.vx_bits.specs.Codes.{AreBytes, number, fixed, bits_of}
use Rattle.vx_bits.specs.Place.{Place, Takes}

pub two_pow : (n : ℕ) → 2 ^ suc n ≡ 2 * 2 ^ n
two_pow n = rw (← add-one n, pow-add 2 n 1) (omega arith)

pub pow_le : (i j : ℕ) → i ≤ j → 2 ^ i ≤ 2 ^ j
pow_le i j h = pow-le-pow_right {n = 2} (omega arith) h

-- a one that a shift doesn't lose
pub shifted_one : (count : ℕ) → count < 64 → 1 * 2 ^ count % 2 ^ 64 ≡ 2 ^ count
shifted_one count h = omega (arith, pow_le count 63 (omega arith))

-- ---- numbers of bits

pub number-below : (xs : List Bool) → number xs < 2 ^ length xs
number-below [] = omega arith
number-below (true ∷ xs) = omega (arith, number-below xs, two_pow (length xs))
number-below (false ∷ xs) = omega (arith, number-below xs, two_pow (length xs))

pub number-append : (xs ys : List Bool) → number (xs ++ ys) ≡ number xs * 2 ^ length ys + number ys
number-append [] ys = omega arith
number-append (true ∷ xs) ys =
    rw (length-append xs ys, pow-add 2 (length xs) (length ys), number-append xs ys) (omega arith)
number-append (false ∷ xs) ys = rw (number-append xs ys) (omega arith)

-- ---- u(n)

pub fixed_none : (v : ℕ) → fixed 0 v ≡ []
fixed_none v = unfold fixed in refl

pub length-fixed : (n v : ℕ) → length (fixed n v) ≡ n
unfolding fixed
length-fixed zero v = refl
length-fixed (suc n) v =
    elim (nat_le (2 ^ n) v) as (λ b. length (cond b (true ∷ fixed n (v - 2 ^ n)) (false ∷ fixed n v)) ≡ suc n) [
      | true ↦ ap suc (length-fixed n (v - 2 ^ n))
      | false ↦ ap suc (length-fixed n v)
    ]

pub fixed-one : (n v : ℕ) → 2 ^ n ≤ v → fixed (suc n) v ≡ true ∷ fixed n (v - 2 ^ n)
unfolding fixed
fixed-one n v h =
    elim (leb_tells (2 ^ n) v) [
      | inl p ↦ rw p.0 refl
      | inr p ↦ absurd (omega (arith, p.1))
    ]

pub fixed-zero : (n v : ℕ) → v < 2 ^ n → fixed (suc n) v ≡ false ∷ fixed n v
unfolding fixed
fixed-zero n v h =
    elim (leb_tells (2 ^ n) v) [
      | inl p ↦ absurd (omega (arith, p.1))
      | inr p ↦ rw p.0 refl
    ]

-- n bits are those of their number
pub fixed-number : (xs : List Bool) → fixed (length xs) (number xs) ≡ xs
fixed-number [] = unfold fixed in refl
fixed-number (true ∷ xs) =
    let high : 2 ^ length xs ≤ 2 ^ length xs + number xs = omega arith in
    let low : 2 ^ length xs + number xs - 2 ^ length xs ≡ number xs = omega arith in
    rw (fixed-one (length xs) (2 ^ length xs + number xs) high, low, fixed-number xs) refl
fixed-number (false ∷ xs) =
    let low : 0 + number xs ≡ number xs = omega arith in
    rw (low, fixed-zero (length xs) (number xs) (number-below xs), fixed-number xs) refl

pub fixed_of : (n : ℕ) (xs : List Bool) → length xs ≡ n → fixed n (number xs) ≡ xs
fixed_of n xs e = rw (← e) (fixed-number xs)

pub number-fixed : (n v : ℕ) → v < 2 ^ n → number (fixed n v) ≡ v
number-fixed zero v h = unfold fixed in omega arith
number-fixed (suc n) v h =
    elim (leb_tells (2 ^ n) v) [
      | inl p ↦
          let rest : v - 2 ^ n < 2 ^ n = omega (arith, p.1, two_pow n) in
          rw (fixed-one n v p.1, length-fixed n (v - 2 ^ n), number-fixed n (v - 2 ^ n) rest) (omega (arith, p.1))
      | inr p ↦
          rw (fixed-zero n v p.1, number-fixed n v p.1) (omega arith)
    ]

-- ---- parts of bits

-- lists of equal length in front of two equal lists are equal, and so are the rests
pub same_fronts : {A : Type 0} (xs ys rs ss : List A) → length xs ≡ length ys → xs ++ rs ≡ ys ++ ss → (xs ≡ ys) × (rs ≡ ss)
same_fronts xs ys rs ss e h =
    let front : xs ≡ ys = sym (take_at xs rs (length xs) refl) ∙ ap (take (length xs)) h ∙ take_at ys ss (length xs) (sym e) in
    let back : rs ≡ ss = sym (drop_at xs rs (length xs) refl) ∙ ap (drop (length xs)) h ∙ drop_at ys ss (length xs) (sym e) in
    (front, back)

-- a number in two parts
pub number-split : (n m : ℕ) (xs : List Bool) → length xs ≡ n + m → (number xs ≡ number (take n xs) * 2 ^ m + number (drop n xs)) × (number (drop n xs) < 2 ^ m)
number-split n m xs e =
    let back : length (drop n xs) ≡ m = omega (arith, length-drop n xs) in
    rw (← back) (ap number (sym (take-append-drop n xs)) ∙ number-append (take n xs) (drop n xs), number-below (drop n xs))

pub number-take : (n m : ℕ) (xs : List Bool) → length xs ≡ n + m → number (take n xs) ≡ number xs / 2 ^ m
number-take n m xs e =
    let split = number-split n m xs e in
    rw split.0 (sym (div-mul-add (number (take n xs)) (2 ^ m) (number (drop n xs)) split.1))

pub number-drop : (n m : ℕ) (xs : List Bool) → length xs ≡ n + m → number (drop n xs) ≡ number xs % 2 ^ m
number-drop n m xs e =
    let split = number-split n m xs e in
    rw split.0 (sym (mod-mul-add (number (take n xs)) (2 ^ m) (number (drop n xs)) split.1))

-- ---- the bits of bytes

pub length-bits_of : (bytes : List ℕ) → length (bits_of bytes) ≡ 8 * length bytes
length-bits_of [] = refl
length-bits_of (b ∷ bytes) = rw (length-append (fixed 8 b) (bits_of bytes), length-fixed 8 b, length-bits_of bytes) (omega arith)

pub bits_of-append : (xs ys : List ℕ) → bits_of (xs ++ ys) ≡ bits_of xs ++ bits_of ys
bits_of-append [] ys = refl
bits_of-append (x ∷ xs) ys = rw (bits_of-append xs ys) (sym (append_assoc (fixed 8 x) (bits_of xs) (bits_of ys)))

-- ---- taking

pub takes_fixed : (n v : ℕ) (old new : Place) → n ≤ length old.left → v ≡ number (take n old.left) → new.left ≡ drop n old.left → new.total ≡ old.total → (v < 2 ^ n) × Takes (fixed n v) old new
takes_fixed n v old new within is behind total =
    let size : length (take n old.left) ≡ n = length-take-le n old.left within in
    let fits = rw size at (number-below (take n old.left)) in
    let below : v < 2 ^ n = rw is fits in
    let code : fixed n v ≡ take n old.left = rw is (fixed_of n (take n old.left) size) in
    (below, record { left = rw (code, behind) (sym (take-append-drop n old.left)); total = total })

-- bytes are told by their bits
pub bytes_one : (a b : List ℕ) → AreBytes a → AreBytes b → bits_of a ≡ bits_of b → a ≡ b
bytes_one [] [] is of same = refl
bytes_one [] (y ∷ ys) is of same = absurd (omega (arith, ap length same, length-bits_of (y ∷ ys)))
bytes_one (x ∷ xs) [] is of same = absurd (omega (arith, ap length same, length-bits_of (x ∷ xs)))
bytes_one (x ∷ xs) (y ∷ ys) is of same =
    let parts = same_fronts (fixed 8 x) (fixed 8 y) (bits_of xs) (bits_of ys) (length-fixed 8 x ∙ sym (length-fixed 8 y)) same in
    let first : x ≡ y = sym (number-fixed 8 x is.0) ∙ (ap number parts.0 ∙ number-fixed 8 y of.0) in
    let rest = bytes_one xs ys is.1 of.1 parts.1 in
    λ j. first j ∷ rest j
