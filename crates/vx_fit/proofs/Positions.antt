-- A CTU lies in a region exactly where its first sample does.
use Rattle.std.proofs.Common.{◌≡◌, ℕ, ◌+◌, ◌*◌, ◌/◌, ◌%◌, ◌<◌, ◌≤◌, true, inl, inr, arith}
use Rattle.std.proofs.Math.Nat.{add-mul, div-mul-le_self, le_of_mul-le-mul_right, lt_of_mul-lt-mul_right, mul-le-mul_right}
use Rattle.std.proofs.lemmas.Bool.{cases_order}
use Rattle.std.proofs.lemmas.Grind.{div_ceil_times}
use Rattle.std.specs.Int.{div_ceil}
use Rattle.vx_fit.specs.declared.placed.Placed.{Placed}
use Rattle.vx_fit.specs.Placing.{IsOnGrid, covers, in_ctus}
use Rattle.vx_fit.proofs.Overlapping.{covers_from, covers_tells}
use Rattle.vx_layout.specs.Rects.{holds}
use Rattle.vx_layout.proofs.Holding.{holds_from, holds_tells}

-- a number on the grid is so many times the grid's step
pub on_grid : (c n : ℕ) → n % c ≡ 0 → n / c * c ≡ n
on_grid c n even = grind (arith, even)

low_there : (c n i : ℕ) → n % c ≡ 0 → n / c ≤ i → n ≤ i * c
low_there c n i even low = let more : n / c * c ≤ i * c = mul-le-mul_right c low in omega (arith, more, on_grid c n even)

low_back : (c n i : ℕ) → 0 < c → n ≤ i * c → n / c ≤ i
low_back c n i some low =
    let less : n / c * c ≤ i * c = omega (arith, div-mul-le_self n c) in
    le_of_mul-le-mul_right less some

pub high_there : (c n m i : ℕ) → 0 < c → n % c ≡ 0 → i < n / c + div_ceil m c → i * c < n + m
high_there c n m i some even below =
    let next : i + 1 ≤ n / c + div_ceil m c = omega arith in
    let more : (i + 1) * c ≤ (n / c + div_ceil m c) * c = mul-le-mul_right c next in
    let top = (div_ceil_times m c some).1 in
    omega (arith, more, top, add-mul (n / c) (div_ceil m c) c, add-mul i 1 c, on_grid c n even)

pub high_back : (c n m i : ℕ) → 0 < c → n % c ≡ 0 → i * c < n + m → i < n / c + div_ceil m c
high_back c n m i some even below =
    let upto = (div_ceil_times m c some).0 in
    let less : i * c < (n / c + div_ceil m c) * c = omega (arith, upto, add-mul (n / c) (div_ceil m c) c, on_grid c n even) in
    lt_of_mul-lt-mul_right c less

pub ctu_there : (c : ℕ) (p : Placed) (i j : ℕ) → 0 < c → IsOnGrid c p → holds (in_ctus c p) i j ≡ true → covers p (i * c) (j * c) ≡ true
ctu_there c p i j some grid on =
    let q = holds_tells (in_ctus c p) i j on in
    covers_from p (i * c) (j * c) (low_there c p.x i grid.0 q.0) (high_there c p.x p.w i some grid.0 q.1) (low_there c p.y j grid.1 q.2) (high_there c p.y p.h j some grid.1 q.3)

pub ctu_back : (c : ℕ) (p : Placed) (i j : ℕ) → 0 < c → IsOnGrid c p → covers p (i * c) (j * c) ≡ true → holds (in_ctus c p) i j ≡ true
ctu_back c p i j some grid on =
    let q = covers_tells p (i * c) (j * c) on in
    holds_from (in_ctus c p) i j (low_back c p.x i some q.0) (high_back c p.x p.w i some grid.0 q.1) (low_back c p.y j some q.2) (high_back c p.y p.h j some grid.1 q.3)

-- so many CTUs as begin before n
pub ceil_is : (c n w : ℕ) → 0 < c → ((i : ℕ) → i < w → i * c < n) → ((i : ℕ) → i * c < n → i < w) → w ≡ div_ceil n c
ceil_is c n w some there back =
    let none : 0 / c ≡ 0 = omega arith in
    let even : 0 % c ≡ 0 = omega arith in
    let ends : ℕ = div_ceil n c in
    elim (cases_order w ends) [
      | inl same ↦ same
      | inr (inl below) ↦ let past : w < w = back w (omega (arith, high_there c 0 n w some even (omega (arith, below, none)))) in absurd (omega arith)
      | inr (inr above) ↦ let past : ends < 0 / c + ends = high_back c 0 n ends some even (omega (arith, there ends above)) in absurd (omega (arith, past, none))
    ]
