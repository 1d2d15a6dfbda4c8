-- Lemmas on alignment: zeros, or a one and zeros, up to the byte boundary.
use Rattle.std.proofs.Common.{◌≡◌, ◌≢◌, ℕ, ◌+◌, ◌-◌, ◌%◌, ◌^◌, ◌≤◌, zero, suc, Bool, true, false, List, [], ◌∷◌, ◌++◌, length, take, drop, refl, sym, ◌∙◌, ap, arith}
use Rattle.std.specs.Prelude.{replicate, Contains}
use Rattle.std.proofs.lemmas.Nat.{pow_pos}
use Rattle.std.proofs.lemmas.List.{length-take-le, length-replicate, take-append-drop, take_at}
use Rattle.vx_bits.specs.Codes.{number, to_boundary, zeros_from, one_from, BeginsWith}
use Rattle.vx_bits.specs.Place.{Place, Takes, taken}
use Rattle.vx_bits.proofs.Bits.{fixed_of}

-- ---- the place

pub stop_is : (at : ℕ) → 8 - at % 8 ≡ length (one_from at)
stop_is at = rw (length-replicate (to_boundary (at + 1)) false) (omega arith)

-- ---- numbers of zeros

pub number-zeros : (n : ℕ) → number (replicate n false) ≡ 0
number-zeros zero = refl
number-zeros (suc n) = rw (number-zeros n) refl

pub zeros_word : (xs : List Bool) → number xs ≡ 0 → xs ≡ replicate (length xs) false
zeros_word [] e = refl
zeros_word (true ∷ xs) e = absurd (omega (arith, pow_pos (length xs)))
zeros_word (false ∷ xs) e = ap (λ ys. false ∷ ys) (zeros_word xs (omega arith))

pub some_one : (xs : List Bool) → number xs ≢ 0 → Contains xs true
some_one [] h = absurd (h refl)
some_one (true ∷ xs) h = (0, omega arith, refl)
some_one (false ∷ xs) h =
    let rest = some_one xs (λ e. h (omega arith)) in
    (suc rest.0, omega (arith, rest.1), rest.2)

pub no_one : (n : ℕ) → Contains (replicate n false) true → ⊥
no_one zero (i, below, is) = omega arith
no_one (suc n) (zero, below, is) = cc
no_one (suc n) (suc i, below, is) = no_one n (i, omega arith, is)

-- ---- zeros up to the boundary

pub align_takes : (count : ℕ) (old new : Place) → count ≡ to_boundary (taken old) → count ≤ length old.left → number (take count old.left) ≡ 0 → new.left ≡ drop count old.left → new.total ≡ old.total → Takes (zeros_from (taken old)) old new
align_takes count old new is within zeros behind total =
    let front : take count old.left ≡ replicate count false = zeros_word (take count old.left) zeros ∙ rw (length-take-le count old.left within) refl in
    let code : zeros_from (taken old) ≡ take count old.left = rw (← is) (sym front) in
    record { left = rw (code, behind) (sym (take-append-drop count old.left)); total = total }

pub align_clean : (count : ℕ) (old : Place) → count ≡ to_boundary (taken old) → count ≤ length old.left → number (take count old.left) ≡ 0 → Contains (take (to_boundary (taken old)) old.left) true → ⊥
align_clean count old is within zeros ones =
    let front : take (to_boundary (taken old)) old.left ≡ replicate count false = rw (← is) (zeros_word (take count old.left) zeros ∙ rw (length-take-le count old.left within) refl) in
    no_one count (rw front at ones)

pub align_dirty : (count : ℕ) (old : Place) → count ≡ to_boundary (taken old) → number (take count old.left) ≢ 0 → Contains (take (to_boundary (taken old)) old.left) true
align_dirty count old is ones = rw (← is) (some_one (take count old.left) ones)

pub align_others : (count : ℕ) (old : Place) → count ≡ to_boundary (taken old) → number (take count old.left) ≢ 0 → BeginsWith old.left (zeros_from (taken old)) → ⊥
align_others count old is ones (rest, e) =
    let front : take count old.left ≡ zeros_from (taken old)
    = ap (take count) e ∙ take_at (zeros_from (taken old)) rest count (length-replicate (to_boundary (taken old)) false ∙ sym is) in
    ones (rw front (number-zeros (to_boundary (taken old))))

-- ---- a one, and zeros up to the boundary

pub number-stop : (k : ℕ) → number (true ∷ replicate k false) ≡ 2 ^ k
number-stop k = rw (number-zeros k, length-replicate k false) (omega arith)

pub stop_begins : (count : ℕ) (old : Place) → count ≡ length (one_from (taken old)) → count ≤ length old.left → number (take count old.left) ≡ 2 ^ (count - 1) → BeginsWith old.left (one_from (taken old))
stop_begins count old is within word =
    let k : ℕ = to_boundary (taken old + 1) in
    let size : count ≡ suc k = is ∙ ap suc (length-replicate k false) in
    let same : number (take count old.left) ≡ number (one_from (taken old)) = word ∙ rw (number-stop k) (let less : count - 1 ≡ k = omega arith in rw less refl) in
    let code : take count old.left ≡ one_from (taken old)
    = sym (fixed_of count (take count old.left) (length-take-le count old.left within)) ∙ rw same (fixed_of count (one_from (taken old)) (sym is)) in
    (drop count old.left, sym (take-append-drop count old.left) ∙ ap (λ ys. ys ++ drop count old.left) code)

pub stop_others : (count : ℕ) (old : Place) → count ≡ length (one_from (taken old)) → number (take count old.left) ≢ 2 ^ (count - 1) → BeginsWith old.left (one_from (taken old)) → ⊥
stop_others count old is word (rest, e) =
    let k : ℕ = to_boundary (taken old + 1) in
    let size : count ≡ suc k = is ∙ ap suc (length-replicate k false) in
    let less : count - 1 ≡ k = omega arith in
    let front : take count old.left ≡ one_from (taken old) = ap (take count) e ∙ take_at (one_from (taken old)) rest count (sym is) in
    word (rw (front, less) (number-stop k))
