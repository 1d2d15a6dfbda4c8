-- Lemmas on appending codes to bits.
use Rattle.std.proofs.Common.{◌≡◌, ℕ, ◌+◌, ◌-◌, ◌*◌, ◌/◌, ◌%◌, ◌^◌, ◌<◌, ◌≤◌, ◌↔◌, suc, Bool, true, false, List, [], ◌∷◌, ◌++◌, length, refl, sym, ◌∙◌, ap, arith, add-one}
use Rattle.std.specs.Prelude.{◌==◌, IsTrue, replicate, slice_index}
use Rattle.std.proofs.Math.Nat.{mul-lt-mul_of_pos_right}
use Rattle.std.proofs.Math.Seq.{get_or-append_seam}
use Rattle.std.proofs.lemmas.Bool.{eqb-true, eq-eqb}
use Rattle.std.proofs.lemmas.List.{append-nil, append_assoc, length-append, length-replicate}
use Rattle.std.proofs.lemmas.Nat.{pow-add, pow_pos, pow_below, div_below, mod_below, div-add-mod', leading_top}
use lib.Count.{count_leading_zeros}
use Rattle.vx_bits.specs.Codes.{number, fixed, bits_of, to_boundary, zeros_from, one_from, exp_golomb, EndsInNoZero}
use Rattle.vx_bits.proofs.Bits.{two_pow, pow_le, number-below, number-append, length-fixed, number-fixed, fixed_of, fixed-one, bits_of-append, length-bits_of, fixed_none, shifted_one}
use Rattle.vx_bits.proofs.Alignment.{number-zeros, number-stop}
use Rattle.vx_bits.proofs.Golomb.{exp_golomb_is}

-- the bits of two numbers, one behind the other
pub joined : (n m v w : ℕ) → v < 2 ^ n → w < 2 ^ m → (length (fixed n v ++ fixed m w) ≡ n + m) × (number (fixed n v ++ fixed m w) ≡ v * 2 ^ m + w)
joined n m v w high low = (
  rw (length-append (fixed n v) (fixed m w), length-fixed n v, length-fixed m w) refl,
  rw (number-append (fixed n v) (fixed m w), length-fixed m w, number-fixed n v high, number-fixed m w low) refl,
)

pub fixed_join : (n m v w : ℕ) → v < 2 ^ n → w < 2 ^ m → fixed n v ++ fixed m w ≡ fixed (n + m) (v * 2 ^ m + w)
fixed_join n m v w high low =
    let both = joined n m v w high low in
    sym (fixed_of (n + m) (fixed n v ++ fixed m w) both.0) ∙ ap (fixed (n + m)) both.1

pub join_below : (n m v w : ℕ) → v < 2 ^ n → w < 2 ^ m → v * 2 ^ m + w < 2 ^ (n + m)
join_below n m v w high low =
    let both = joined n m v w high low in
    rw (← both.1, ← both.0) (number-below (fixed n v ++ fixed m w))

-- the bits of a number in two parts
pub fixed_split : (n m v : ℕ) → v < 2 ^ (n + m) → fixed (n + m) v ≡ fixed n (v / 2 ^ m) ++ fixed m (v % 2 ^ m)
fixed_split n m v below =
    let high : v / 2 ^ m < 2 ^ n = div_below v (2 ^ m) (2 ^ n) (pow_pos m) (rw (← pow-add 2 n m) below) in
    let low : v % 2 ^ m < 2 ^ m = mod_below v (2 ^ m) (pow_pos m) in
    sym (fixed_join n m (v / 2 ^ m) (v % 2 ^ m) high low ∙ ap (fixed (n + m)) (div-add-mod' v (2 ^ m)))

pub high_byte : (left rest : ℕ) → 8 ≤ left → rest < 2 ^ left → rest / 2 ^ (left - 8) < 256
high_byte left rest enough below =
    let size : 8 + (left - 8) ≡ left = omega arith in
    div_below rest (2 ^ (left - 8)) (2 ^ 8) (pow_pos (left - 8)) (rw (← pow-add 2 8 (left - 8), size) below)

-- the first byte of a word goes to the bytes
pub byte_moves : (bytes items : List ℕ) (left rest : ℕ) → 8 ≤ left → rest < 2 ^ left → items ≡ bytes ++ rest / 2 ^ (left - 8) ∷ []
    → bits_of items ++ fixed (left - 8) (rest % 2 ^ (left - 8)) ≡ bits_of bytes ++ fixed left rest
byte_moves bytes items left rest enough below pushed =
    let size : 8 + (left - 8) ≡ left = omega arith in
    let parts : fixed left rest ≡ fixed 8 (rest / 2 ^ (left - 8)) ++ fixed (left - 8) (rest % 2 ^ (left - 8))
    = ap (λ k. fixed k rest) (sym size) ∙ fixed_split 8 (left - 8) rest (rw size below) in
    rw (pushed, parts, bits_of-append bytes (rest / 2 ^ (left - 8) ∷ []), append-nil (fixed 8 (rest / 2 ^ (left - 8))))
    (append_assoc (bits_of bytes) (fixed 8 (rest / 2 ^ (left - 8))) (fixed (left - 8) (rest % 2 ^ (left - 8))))

-- ---- zeros, and then a number

pub zeros_fixed : (n : ℕ) → fixed n 0 ≡ replicate n false
zeros_fixed n = ap (fixed n) (sym (number-zeros n)) ∙ fixed_of n (replicate n false) (length-replicate n false)

-- a shift that loses nothing
pub shift_fits : (used m v : ℕ) → v < 2 ^ used → used + m < 64 → (v * 2 ^ m % 2 ^ 64 ≡ v * 2 ^ m) × (v * 2 ^ m < 2 ^ (used + m))
shift_fits used m v below few =
    let fits : v * 2 ^ m + 0 < 2 ^ (used + m) = join_below used m v 0 below (pow_pos m) in
    let room : 2 ^ (used + m) ≤ 2 ^ 63 = pow_le (used + m) 63 (omega arith) in
    (omega arith, omega arith)

pub zeros_join : (used m v : ℕ) → v < 2 ^ used → fixed (used + m) (v * 2 ^ m) ≡ fixed used v ++ replicate m false
zeros_join used m v below =
    let whole : v * 2 ^ m ≡ v * 2 ^ m + 0 = omega arith in
    ap (fixed (used + m)) whole ∙ sym (fixed_join used m v 0 below (pow_pos m)) ∙ ap (λ ys. fixed used v ++ ys) (zeros_fixed m)

-- the word of the second step
pub word_below : (used n v value : ℕ) → v < 2 ^ used → value < 2 ^ n → used + n < 64 → v * 2 ^ n % 2 ^ 64 + value < 2 ^ (used + n)
word_below used n v value below range few =
    rw (shift_fits used n v below few).0 (join_below used n v value below range)

pub put_is : (bits0 bits1 bits2 : List Bool) (used zeros n begun value mid : ℕ) → used < 8 → zeros ≤ 32 → n ≤ 32 → begun < 2 ^ used → value < 2 ^ n
    → mid < 2 ^ ((used + zeros) % 8)
    → bits1 ++ fixed ((used + zeros) % 8) mid ≡ bits0 ++ fixed (used + zeros) (begun * 2 ^ zeros % 2 ^ 64)
    → bits2 ≡ bits1 ++ fixed ((used + zeros) % 8 + n) (mid * 2 ^ n % 2 ^ 64 + value)
    → bits2 ≡ (bits0 ++ fixed used begun) ++ (replicate zeros false ++ fixed n value)
put_is bits0 bits1 bits2 used zeros n begun value mid few many width below range between first second =
    let k : ℕ = (used + zeros) % 8 in
    let low : k < 8 = omega arith in
    let shift : mid * 2 ^ n % 2 ^ 64 ≡ mid * 2 ^ n = (shift_fits k n mid between (omega arith)).0 in
    let word : fixed (k + n) (mid * 2 ^ n % 2 ^ 64 + value) ≡ fixed k mid ++ fixed n value
    = ap (λ m. fixed (k + n) (m + value)) shift ∙ sym (fixed_join k n mid value between range) in
    let shift' : begun * 2 ^ zeros % 2 ^ 64 ≡ begun * 2 ^ zeros = (shift_fits used zeros begun below (omega arith)).0 in
    let front : fixed (used + zeros) (begun * 2 ^ zeros % 2 ^ 64) ≡ fixed used begun ++ replicate zeros false
    = ap (fixed (used + zeros)) shift' ∙ zeros_join used zeros begun below in
    second
    ∙ ap (λ ys. bits1 ++ ys) word
    ∙ sym (append_assoc bits1 (fixed k mid) (fixed n value))
    ∙ ap (λ ys. ys ++ fixed n value) (first ∙ ap (λ ys. bits0 ++ ys) front)
    ∙ simp append_assoc

-- ---- ue(v)

-- a number of 32 bits and the zeros before it
pub code_size : (code : ℕ) → 0 < code → code < 2 ^ 32 → (2 ^ (31 - count_leading_zeros 32 code) ≤ code) × (code < 2 ^ (31 - count_leading_zeros 32 code + 1)) × (31 - count_leading_zeros 32 code < 32)
code_size code some fits =
    let top = leading_top 32 code some fits in
    let is : 31 - count_leading_zeros 32 code ≡ top.0 = omega (arith, top.1) in
    rw (is, add-one top.0) (top.2, top.3, omega (arith, top.1))

pub code_is : (zeros v : ℕ) → zeros < 32 → 2 ^ zeros ≤ v + 1 → v + 1 < 2 ^ (zeros + 1) → replicate zeros false ++ fixed (zeros + 1) (v + 1) ≡ exp_golomb v
code_is zeros v few low high =
    rw (exp_golomb_is zeros v few low (rw (← add-one zeros) high), add-one zeros, fixed-one zeros (v + 1) low) refl

-- ---- the end

pub length_begun : (bytes : List ℕ) (used begun : ℕ) → length (bits_of bytes ++ fixed used begun) ≡ 8 * length bytes + used
length_begun bytes used begun = rw (length-append (bits_of bytes) (fixed used begun), length-bits_of bytes, length-fixed used begun) refl

pub boundary_of : (bytes : List ℕ) (used begun : ℕ) → used < 8 → (8 - used) % 8 ≡ to_boundary (length (bits_of bytes ++ fixed used begun))
boundary_of bytes used begun few = rw (length_begun bytes used begun) (omega arith)

pub stop_of : (bytes : List ℕ) (used begun : ℕ) → used < 8 → 7 - used ≡ to_boundary (length (bits_of bytes ++ fixed used begun) + 1)
stop_of bytes used begun few = rw (length_begun bytes used begun) (omega arith)

-- a one and zeros as a number
pub fixed-stop : (zeros : ℕ) → fixed (suc zeros) (2 ^ zeros) ≡ true ∷ replicate zeros false
fixed-stop zeros = ap (fixed (suc zeros)) (sym (number-stop zeros)) ∙ fixed_of (suc zeros) (true ∷ replicate zeros false) (ap suc (length-replicate zeros false))

-- the last byte: what was begun, a one and zeros
pub last_word : (used begun : ℕ) → begun * 2 ^ suc (7 - used) + 2 ^ (7 - used) ≡ (begun * 2 + 1) * 2 ^ (7 - used)
last_word used begun = rw (two_pow (7 - used)) (omega arith)

pub last_byte : (used begun : ℕ) → used < 8 → begun < 2 ^ used → fixed 8 ((begun * 2 + 1) * 2 ^ (7 - used)) ≡ fixed used begun ++ true ∷ replicate (7 - used) false
last_byte used begun few below =
    let size : used + suc (7 - used) ≡ 8 = omega arith in
    let low : 2 ^ (7 - used) < 2 ^ suc (7 - used) = pow_below (7 - used) (suc (7 - used)) (omega arith) in
    sym (ap (λ ys. fixed used begun ++ ys) (sym (fixed-stop (7 - used))) ∙ fixed_join used (suc (7 - used)) begun (2 ^ (7 - used)) below low ∙ ap (λ k. fixed k (begun * 2 ^ suc (7 - used) + 2 ^ (7 - used))) size ∙ ap (fixed 8) (last_word used begun))

pub last_fits : (used begun : ℕ) → used < 8 → begun < 2 ^ used → (begun * 2 + 1) * 2 ^ (7 - used) < 256
last_fits used begun few below =
    let size : used + suc (7 - used) ≡ 8 = omega arith in
    let low : 2 ^ (7 - used) < 2 ^ suc (7 - used) = pow_below (7 - used) (suc (7 - used)) (omega arith) in
    let all : begun * 2 ^ suc (7 - used) + 2 ^ (7 - used) < 2 ^ (used + suc (7 - used)) = join_below used (suc (7 - used)) begun (2 ^ (7 - used)) below low in
    let end : 2 ^ (used + suc (7 - used)) ≡ 256 = rw size refl in
    omega (arith, last_word used begun)

pub align_is : (zeros : ℕ) (old : List Bool) → zeros ≡ to_boundary (length old) → replicate zeros false ++ fixed 0 0 ≡ zeros_from (length old)
align_is zeros old is = rw (fixed_none 0, append-nil (replicate zeros false), is) refl

-- the word of a one and zeros
pub stop_word : (zeros : ℕ) → zeros < 8 → (1 * 2 ^ zeros % 2 ^ 64 ≡ 2 ^ zeros) × (2 ^ zeros < 2 ^ (zeros + 1))
stop_word zeros few = (shifted_one zeros (omega arith), pow_below zeros (zeros + 1) (omega arith))

pub stop_put : (zeros : ℕ) (old : List Bool) → zeros < 8 → zeros ≡ to_boundary (length old + 1) → replicate 0 false ++ fixed (zeros + 1) (1 * 2 ^ zeros % 2 ^ 64) ≡ one_from (length old)
stop_put zeros old few is = rw ((stop_word zeros few).0, add-one zeros, fixed-stop zeros, is) refl

pub close_is : (bytes items : List ℕ) (used begun : ℕ) → used < 8 → begun < 2 ^ used → items ≡ bytes ++ ((begun * 2 + 1) * 2 ^ (7 - used) % 256) ∷ []
    → bits_of items ≡ (bits_of bytes ++ fixed used begun) ++ one_from (length (bits_of bytes ++ fixed used begun))
close_is bytes items used begun few below pushed =
    let fits : (begun * 2 + 1) * 2 ^ (7 - used) % 256 ≡ (begun * 2 + 1) * 2 ^ (7 - used) = omega (arith, last_fits used begun few below) in
    let end : true ∷ replicate (7 - used) false ≡ one_from (length (bits_of bytes ++ fixed used begun))
    = ap (λ n. true ∷ replicate n false) (stop_of bytes used begun few) in
    rw (pushed, fits, bits_of-append bytes (((begun * 2 + 1) * 2 ^ (7 - used)) ∷ []), append-nil (fixed 8 ((begun * 2 + 1) * 2 ^ (7 - used))), last_byte used begun few below)
    (sym (append_assoc (bits_of bytes) (fixed used begun) (true ∷ replicate (7 - used) false)) ∙ ap (λ ys. (bits_of bytes ++ fixed used begun) ++ ys) end)

-- the last byte has a one
pub close_end : (bytes items : List ℕ) (used begun : ℕ) → used < 8 → begun < 2 ^ used → items ≡ bytes ++ ((begun * 2 + 1) * 2 ^ (7 - used) % 256) ∷ []
    → EndsInNoZero items
close_end bytes items used begun few below pushed k size none =
    let at_end : length bytes ≡ k = omega (arith, size, ap length pushed, length-append bytes (((begun * 2 + 1) * 2 ^ (7 - used) % 256) ∷ [])) in
    let is_zero : (begun * 2 + 1) * 2 ^ (7 - used) % 256 ≡ 0
    = sym (get_or-append_seam bytes ((begun * 2 + 1) * 2 ^ (7 - used) % 256) [] 0) ∙ ap (λ n. slice_index (bytes ++ ((begun * 2 + 1) * 2 ^ (7 - used) % 256) ∷ []) n) at_end ∙ ap (λ xs. slice_index xs k) (sym pushed) ∙ none in
    let one : 0 * 2 ^ (7 - used) < (begun * 2 + 1) * 2 ^ (7 - used) = mul-lt-mul_of_pos_right (omega arith) (pow_pos (7 - used)) in
    absurd (omega (arith, last_fits used begun few below, is_zero, one))

-- bits that end at a byte boundary are those of the whole bytes
pub whole_bytes : (bytes : List ℕ) (used begun : ℕ) → used < 8 → length (bits_of bytes ++ fixed used begun) % 8 ≡ 0 → bits_of bytes ≡ bits_of bytes ++ fixed used begun
whole_bytes bytes used begun below whole =
    let none : used ≡ 0 = omega (arith, whole, length_begun bytes used begun) in
    rw (none, fixed_none begun) (sym (append-nil (bits_of bytes)))

-- bits end at a byte boundary where no further byte has begun
pub aligned_is : (bytes : List ℕ) (used begun : ℕ) → used < 8 → IsTrue (used == 0) ↔ (length (bits_of bytes ++ fixed used begun) % 8 ≡ 0)
aligned_is bytes used begun below = (
  λ none. omega (arith, eqb-true used 0 none, length_begun bytes used begun),
  λ whole. eq-eqb used 0 (omega (arith, whole, below, length_begun bytes used begun)),
)
