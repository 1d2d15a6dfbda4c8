-- Lemmas on Exp-Golomb codes: which code a list of bits begins with.
use Rattle.std.proofs.Common.{◌≡◌, ◌≢◌, ℕ, ◌+◌, ◌-◌, ◌*◌, ◌^◌, ◌<◌, ◌≤◌, zero, suc, Bool, true, false, List, [], ◌∷◌, ◌++◌, length, take, drop, min, refl, sym, ◌∙◌, ap, arith, add-one, ◌⊎◌, inl, inr, ℤ, pos, negsuc, ◌/◌, ◌%◌}
use Rattle.std.specs.Prelude.{replicate, neg_ℤ}
use Rattle.std.proofs.lemmas.Nat.{pow_pos, leading_top, leading_length}
use Rattle.std.proofs.lemmas.List.{append-nil, append_assoc, length-append, length-take, length-take-le, take_all, take_min, length-replicate, take-append-drop, drop_at}
use Rattle.std.proofs.lemmas.Bool.Decides.{leb_tells}
use lib.Count.{count_leading_zeros}
use Rattle.vx_bits.specs.Codes.{number, fixed, magnitude, leading_zeros, exp_golomb, IsCodeNumber, BeginsWithCode, EndsWithinCode, BeginsTooLong, code_number}
use Rattle.vx_bits.specs.inner.Zeros.{zeros_in_front}
use Rattle.vx_bits.specs.laws.Codes.{mapped}
use Rattle.vx_bits.specs.Place.{Place, Takes}
use Rattle.vx_bits.proofs.Bits.{two_pow, pow_le, number-below, length-fixed, fixed-one, fixed_of, number-fixed, same_fronts}

-- 2^k ≤ n < 2^(k + 1) tells k
pub magnitude_is : (limit k n : ℕ) → k ≤ limit → 2 ^ k ≤ n → n < 2 ^ suc k → magnitude limit n ≡ k
unfolding magnitude
magnitude_is zero k n w low high = omega arith
magnitude_is (suc limit) k n w low high =
    elim (leb_tells (2 ^ suc limit) n) [
      | inl p ↦
          let same : k ≡ suc limit =
          elim (leb_tells (suc limit) k) [
            | inl q ↦ omega (arith, q.1)
            | inr q ↦ absurd (omega (arith, p.1, pow_le (suc k) (suc limit) (omega (arith, q.1))))
          ] in
          rw p.0 (sym same)
      | inr p ↦
          let below : k ≤ limit =
          elim (leb_tells (suc limit) k) [
            | inl q ↦ let same : k ≡ suc limit = omega (arith, q.1) in let reached : 2 ^ suc limit ≤ n = rw same at low in absurd (omega (arith, p.1))
            | inr q ↦ omega (arith, q.1)
          ] in
          rw p.0 (magnitude_is limit k n below low high)
    ]

pub leading_zeros_is : (k v : ℕ) → k < 32 → 2 ^ k ≤ v + 1 → v + 1 < 2 ^ suc k → leading_zeros v ≡ k
unfolding leading_zeros
leading_zeros_is k v w low high = magnitude_is 31 k (v + 1) (omega arith) low high

-- every number has a magnitude below a limit that it does not reach
pub magnitude-fits : (limit n : ℕ) → 0 < n → n < 2 ^ suc limit → (magnitude limit n ≤ limit) × (2 ^ magnitude limit n ≤ n) × (n < 2 ^ suc (magnitude limit n))
unfolding magnitude
magnitude-fits zero n some below = (omega arith, omega arith, below)
magnitude-fits (suc limit) n some below =
    elim (leb_tells (2 ^ suc limit) n) [
      | inl p ↦ rw p.0 (omega arith, p.1, below)
      | inr p ↦ let rec = magnitude-fits limit n some p.1 in rw p.0 (omega (arith, rec.0), rec.1, rec.2)
    ]

pub leading_zeros-fits : (v : ℕ) → IsCodeNumber v → (leading_zeros v < 32) × (2 ^ leading_zeros v ≤ v + 1) × (v + 1 < 2 ^ suc (leading_zeros v))
unfolding leading_zeros
leading_zeros-fits v valid = let fits = magnitude-fits 31 (v + 1) (omega arith) valid in (omega (arith, fits.0), fits.1, fits.2)

-- the code of v: k zeros, a one, and the k bits of v + 1 below its highest
pub exp_golomb_is : (k v : ℕ) → k < 32 → 2 ^ k ≤ v + 1 → v + 1 < 2 ^ suc k → exp_golomb v ≡ replicate k false ++ true ∷ fixed k (v + 1 - 2 ^ k)
unfolding exp_golomb
exp_golomb_is k v w low high =
    rw (leading_zeros_is k v w low high, add-one k, fixed-one k (v + 1) low) refl

-- the same, of bits that are there
pub exp_golomb_from : (k : ℕ) (xs : List Bool) → k < 32 → length xs ≡ k → (v : ℕ) × IsCodeNumber v × (v + 1 ≡ number (true ∷ xs)) × (exp_golomb v ≡ replicate k false ++ true ∷ xs)
exp_golomb_from k xs w e =
    let below : number xs < 2 ^ k = rw (← e) (number-below xs) in
    let v : ℕ = 2 ^ k + number xs - 1 in
    let is : v + 1 ≡ 2 ^ k + number xs = omega (arith, pow_pos k) in
    let valid : v + 1 < 2 ^ 32 = omega (arith, two_pow k, pow_le (suc k) 32 (omega arith)) in
    let code : exp_golomb v ≡ replicate k false ++ true ∷ xs =
    rw (exp_golomb_is k v w (omega arith) (omega (arith, two_pow k)), is) (
    let low : 2 ^ k + number xs - 2 ^ k ≡ number xs = omega arith in
    rw (low, fixed_of k xs e) refl) in
    (v, valid, rw e is, code)

-- as clause 9.2 reads them
pub exp_golomb_parsed : (xs : List Bool) → length xs < 32 → IsCodeNumber (2 ^ length xs - 1 + number xs) × (exp_golomb (2 ^ length xs - 1 + number xs) ≡ replicate (length xs) false ++ true ∷ xs)
exp_golomb_parsed xs few =
    let code = exp_golomb_from (length xs) xs few refl in
    let same : code.0 ≡ 2 ^ length xs - 1 + number xs = omega (arith, code.2, pow_pos (length xs)) in
    rw (← same) (code.1, code.3)

-- ---- what some bits begin with

-- the zeros before the first one tell how many there are
pub same_zeros : (k l : ℕ) (r s : List Bool) → replicate k false ++ true ∷ r ≡ replicate l false ++ true ∷ s → (k ≡ l) × (r ≡ s)
same_zeros zero zero r s e = (refl, cc)
same_zeros zero (suc l) r s e = absurd cc
same_zeros (suc k) zero r s e = absurd cc
same_zeros (suc k) (suc l) r s e =
    let rec = same_zeros k l r s cc in (ap suc rec.0, rec.1)

-- a code as its zeros, its one and the bits behind
pub exp_golomb_parts : (v : ℕ) → IsCodeNumber v → exp_golomb v ≡ replicate (leading_zeros v) false ++ true ∷ fixed (leading_zeros v) (v + 1 - 2 ^ leading_zeros v)
exp_golomb_parts v valid = let fits = leading_zeros-fits v valid in exp_golomb_is (leading_zeros v) v fits.0 fits.1 fits.2

pub fixed_apart : (n v w : ℕ) (r s : List Bool) → v < 2 ^ n → w < 2 ^ n → fixed n v ++ r ≡ fixed n w ++ s → (v ≡ w) × (r ≡ s)
fixed_apart n v w r s hv hw e =
    let fronts = same_fronts (fixed n v) (fixed n w) r s (rw (length-fixed n v, length-fixed n w) refl) e in
    (sym (number-fixed n v hv) ∙ ap number fronts.0 ∙ number-fixed n w hw, fronts.1)

pub exp_golomb_apart_at : (k l v w : ℕ) (r s : List Bool) → k ≡ l → 2 ^ k ≤ v + 1 → v + 1 < 2 ^ suc k → 2 ^ l ≤ w + 1 → w + 1 < 2 ^ suc l → fixed k (v + 1 - 2 ^ k) ++ r ≡ fixed l (w + 1 - 2 ^ l) ++ s → (v ≡ w) × (r ≡ s)
exp_golomb_apart_at k l v w r s same lv hv lw hw e =
    let lw' : 2 ^ k ≤ w + 1 = rw same lw in
    let hw' : w + 1 < 2 ^ suc k = rw same hw in
    let e' : fixed k (v + 1 - 2 ^ k) ++ r ≡ fixed k (w + 1 - 2 ^ k) ++ s = e ∙ rw same refl in
    let rest = fixed_apart k (v + 1 - 2 ^ k) (w + 1 - 2 ^ k) r s (omega (arith, two_pow k)) (omega (arith, two_pow k)) e' in
    (omega (arith, rest.0), rest.1)

pub exp_golomb_apart : (v w : ℕ) (r s : List Bool) → IsCodeNumber v → IsCodeNumber w → exp_golomb v ++ r ≡ exp_golomb w ++ s → (v ≡ w) × (r ≡ s)
exp_golomb_apart v w r s hv hw e =
    let k : ℕ = leading_zeros v in
    let l : ℕ = leading_zeros w in
    let fv = leading_zeros-fits v hv in
    let fw = leading_zeros-fits w hw in
    let open_v : exp_golomb v ++ r ≡ replicate k false ++ true ∷ (fixed k (v + 1 - 2 ^ k) ++ r)
    = rw (exp_golomb_parts v hv) (append_assoc (replicate k false) (true ∷ fixed k (v + 1 - 2 ^ k)) r) in
    let open_w : exp_golomb w ++ s ≡ replicate l false ++ true ∷ (fixed l (w + 1 - 2 ^ l) ++ s)
    = rw (exp_golomb_parts w hw) (append_assoc (replicate l false) (true ∷ fixed l (w + 1 - 2 ^ l)) s) in
    let zeros = same_zeros k l (fixed k (v + 1 - 2 ^ k) ++ r) (fixed l (w + 1 - 2 ^ l) ++ s) (sym open_v ∙ e ∙ open_w) in
    exp_golomb_apart_at k l v w r s zeros.0 fv.1 fv.2 fw.1 fw.2 zeros.1

-- ---- the three ways in which bits begin

-- 32 zeros, fewer zeros and no more, or fewer zeros and a one
pub data Front (bits : List Bool) : Type 0 where
  zeros_32 : (rest : List Bool) → zeros_in_front (take 32 bits) ≡ 32 → bits ≡ replicate 32 false ++ rest → Front bits
  zeros_alone : (k : ℕ) → zeros_in_front (take 32 bits) ≡ k → k < 32 → bits ≡ replicate k false → Front bits
  zeros_one : (k : ℕ) (more : List Bool) → zeros_in_front (take 32 bits) ≡ k → k < 32 → bits ≡ replicate k false ++ true ∷ more → Front bits

-- zeros alone, or zeros and a one
pub zeros_split : (xs : List Bool) → ((xs ≡ replicate (length xs) false) × (zeros_in_front xs ≡ length xs)) ⊎ ((more : List Bool) × (xs ≡ replicate (zeros_in_front xs) false ++ true ∷ more))
zeros_split [] = inl (refl, refl)
zeros_split (true ∷ xs) = inr (xs, refl)
zeros_split (false ∷ xs) =
    elim (zeros_split xs) [
      | inl p ↦ inl (ap (λ ys. false ∷ ys) p.0, ap suc p.1)
      | inr p ↦ inr (p.0, ap (λ ys. false ∷ ys) p.1)
    ]

pub front_of : (bits : List Bool) → Front bits
front_of bits =
    let size : length (take 32 bits) ≡ min 32 (length bits) = length-take 32 bits in
    elim (zeros_split (take 32 bits)) [
      | inl p ↦
          elim (leb_tells 32 (length bits)) [
            | inl q ↦
                let full : length (take 32 bits) ≡ 32 = length-take-le 32 bits q.1 in
                let zeros : take 32 bits ≡ replicate 32 false = p.0 ∙ rw full refl in
                zeros_32 (drop 32 bits) (p.1 ∙ full) (sym (take-append-drop 32 bits) ∙ rw zeros refl)
            | inr q ↦
                let whole : take 32 bits ≡ bits = take_all 32 bits (omega (arith, q.1)) in
                zeros_alone (length bits) (p.1 ∙ ap length whole) (omega (arith, q.1)) (sym whole ∙ p.0 ∙ rw whole refl)
          ]
      | inr p ↦
          let k : ℕ = zeros_in_front (take 32 bits) in
          let parts : length (take 32 bits) ≡ k + suc (length p.0) = ap length p.1 ∙ rw (length-append (replicate k false) (true ∷ p.0), length-replicate k false) refl in
          zeros_one k (p.0 ++ drop 32 bits) refl (omega arith)
          (sym (take-append-drop 32 bits) ∙ ap (λ ys. ys ++ drop 32 bits) p.1 ∙ append_assoc (replicate k false) (true ∷ p.0) (drop 32 bits))
    ]

-- a one within 32 zeros
pub one_too_early : (k n : ℕ) (r s : List Bool) → k < n → replicate k false ++ true ∷ r ≡ replicate n false ++ s → ⊥
one_too_early zero zero r s h e = omega arith
one_too_early zero (suc n) r s h e = cc
one_too_early (suc k) zero r s h e = omega arith
one_too_early (suc k) (suc n) r s h e = one_too_early k n r s (omega arith) cc

pub begins_not_long : (bits : List Bool) → BeginsWithCode bits → BeginsTooLong bits → ⊥
begins_not_long bits (v, valid, (rest, e)) (zeros, f) =
    let k : ℕ = leading_zeros v in
    let fits = leading_zeros-fits v valid in
    let apart : replicate k false ++ true ∷ (fixed k (v + 1 - 2 ^ k) ++ rest) ≡ replicate 32 false ++ zeros
    = sym (append_assoc (replicate k false) (true ∷ fixed k (v + 1 - 2 ^ k)) rest) ∙ ap (λ ys. ys ++ rest) (sym (exp_golomb_parts v valid)) ∙ sym e ∙ f in
    one_too_early k 32 (fixed k (v + 1 - 2 ^ k) ++ rest) zeros fits.0 apart

pub ends_not_long : (bits : List Bool) → EndsWithinCode bits → BeginsTooLong bits → ⊥
ends_not_long bits (v, valid, (bit, more, e)) (zeros, f) =
    let k : ℕ = leading_zeros v in
    let fits = leading_zeros-fits v valid in
    let apart : replicate k false ++ true ∷ fixed k (v + 1 - 2 ^ k) ≡ replicate 32 false ++ (zeros ++ bit ∷ more)
    = sym (exp_golomb_parts v valid) ∙ e ∙ ap (λ ys. ys ++ bit ∷ more) f ∙ append_assoc (replicate 32 false) zeros (bit ∷ more) in
    one_too_early k 32 (fixed k (v + 1 - 2 ^ k)) (zeros ++ bit ∷ more) fits.0 apart

pub nothing_follows : (r : List Bool) (bit : Bool) (more : List Bool) → r ++ bit ∷ more ≡ [] → ⊥
nothing_follows [] bit more e = cc
nothing_follows (x ∷ r) bit more e = cc

pub begins_not_ends : (bits : List Bool) → BeginsWithCode bits → EndsWithinCode bits → ⊥
begins_not_ends bits (v, hv, (rest, e)) (w, hw, (bit, more, f)) =
    let both : exp_golomb w ++ [] ≡ exp_golomb v ++ (rest ++ bit ∷ more)
    = append-nil (exp_golomb w) ∙ f ∙ ap (λ ys. ys ++ bit ∷ more) e ∙ append_assoc (exp_golomb v) rest (bit ∷ more) in
    let same = exp_golomb_apart w v [] (rest ++ bit ∷ more) hw hv both in
    nothing_follows rest bit more (sym same.1)

-- zeros alone end within a code
pub zeros_end_within : (k : ℕ) (bits : List Bool) → k < 32 → bits ≡ replicate k false → EndsWithinCode bits
zeros_end_within k bits w e =
    let code = exp_golomb_from k (replicate k false) w (length-replicate k false) in
    (code.0, code.1, (true, replicate k false, code.3 ∙ ap (λ ys. ys ++ true ∷ replicate k false) (sym e)))

-- k zeros, a one and fewer than k bits end within a code
pub one_ends_within : (k : ℕ) (bits more : List Bool) → k < 32 → length more < k → bits ≡ replicate k false ++ true ∷ more → EndsWithinCode bits
one_ends_within k bits more w few e =
    let d : ℕ = k - length more - 1 in
    let size : length (more ++ false ∷ replicate d false) ≡ k = rw (length-append more (false ∷ replicate d false), length-replicate d false) (omega arith) in
    let code = exp_golomb_from k (more ++ false ∷ replicate d false) w size in (
      code.0,
      code.1,
      (
        false,
        replicate d false,
        code.3 ∙ sym (append_assoc (replicate k false) (true ∷ more) (false ∷ replicate d false)) ∙ ap (λ ys. ys ++ false ∷ replicate d false) (sym e),
      ),
    )

-- k zeros, a one and k bits are a code
pub one_begins_code : (k : ℕ) (bits more : List Bool) → k < 32 → k ≤ length more → bits ≡ replicate k false ++ true ∷ more
    → (v : ℕ) × IsCodeNumber v × (v + 1 ≡ number (true ∷ take k more)) × (bits ≡ exp_golomb v ++ drop k more)
one_begins_code k bits more w enough e =
    let code = exp_golomb_from k (take k more) w (length-take-le k more enough) in (
      code.0,
      code.1,
      code.2,
      rw (e, code.3, append_assoc (replicate k false) (true ∷ take k more) (drop k more), take-append-drop k more) refl,
    )

pub three_ways : (bits : List Bool) → BeginsWithCode bits ⊎ (EndsWithinCode bits ⊎ BeginsTooLong bits)
three_ways bits =
    elim (front_of bits) [
      | zeros_32 rest counted e ↦ inr (inr (rest, e))
      | zeros_alone k counted few e ↦ inr (inl (zeros_end_within k bits few e))
      | zeros_one k more counted few e ↦
          elim (leb_tells k (length more)) [
            | inl p ↦ let code = one_begins_code k bits more few p.1 e in inl (code.0, code.1, (drop k more, code.3))
            | inr p ↦ inr (inl (one_ends_within k bits more few p.1 e))
          ]
    ]

-- ---- zeros counted in a word

-- two powers of 2 next below a number are equal
pub same_power : (j k n : ℕ) → 2 ^ j ≤ n → n < 2 ^ suc j → 2 ^ k ≤ n → n < 2 ^ suc k → j ≡ k
same_power j k n lj hj lk hk =
    elim (leb_tells (suc j) k) [
      | inl p ↦ absurd (omega (arith, pow_le (suc j) k p.1))
      | inr p ↦
          elim (leb_tells (suc k) j) [
            | inl q ↦ absurd (omega (arith, pow_le (suc k) j q.1))
            | inr q ↦ omega (arith, p.1, q.1)
          ]
    ]

pub no_bits : (m : ℕ) → 2 ^ m ≤ 2 * 0 + 1 → m ≡ 0
no_bits zero h = refl
no_bits (suc m) h = absurd (omega (arith, two_pow m, pow_pos m))

pub counted_zeros : (xs : List Bool) → length xs ≤ 64 → count_leading_zeros 64 (number xs) + length xs ≡ 64 + zeros_in_front xs
counted_zeros [] room =
    let all = leading_length 64 0 (omega arith) in
    let none : all.0 ≡ 0 = no_bits all.0 all.3 in
    omega (arith, all.1)
counted_zeros (true ∷ xs) room =
    let high : number (true ∷ xs) < 2 ^ 64 = omega (arith, number-below (true ∷ xs), pow_le (length (true ∷ xs)) 64 room) in
    let top = leading_top 64 (number (true ∷ xs)) (omega (arith, pow_pos (length xs))) high in
    let place : top.0 ≡ length xs = same_power top.0 (length xs) (number (true ∷ xs)) top.2 top.3 (omega arith) (number-below (true ∷ xs)) in
    omega (arith, top.1)
counted_zeros (false ∷ xs) room =
    let rec = counted_zeros xs (omega arith) in
    let same : 0 + number xs ≡ number xs = omega arith in
    rw same (omega (arith, rec))

pub take_less : (xs : List Bool) → take (min (length xs) 32) xs ≡ take 32 xs
take_less xs = let swap : min (length xs) 32 ≡ min 32 (length xs) = omega arith in rw swap (take_min 32 xs)

-- the zeros that come first, of which at most 32 are counted
pub zeros_counted : (left : List Bool) (window word : ℕ) → window ≡ min (length left) 32 → word ≡ number (take window left) → (64 - window ≤ count_leading_zeros 64 word) × (count_leading_zeros 64 word - (64 - window) ≡ zeros_in_front (take 32 left))
zeros_counted left window word size is =
    let same : take window left ≡ take 32 left = rw size (take_less left) in
    let span : length (take 32 left) ≡ window = length-take 32 left ∙ omega arith in
    let counted : count_leading_zeros 64 word + window ≡ 64 + zeros_in_front (take 32 left)
    = rw (is, same, ← span) (counted_zeros (take 32 left) (omega arith)) in
    (omega arith, omega arith)

-- ---- the answers of ue(v)

pub few_zeros : (bits : List Bool) (z : ℕ) → z ≡ zeros_in_front (take 32 bits) → z ≢ 32 → z < 32
few_zeros bits z is less =
    elim (front_of bits) [
      | zeros_32 rest counted e ↦ absurd (less (is ∙ counted))
      | zeros_alone k counted few e ↦ omega (arith, is, counted)
      | zeros_one k more counted few e ↦ omega (arith, is, counted)
    ]

pub long_code : (bits : List Bool) (z : ℕ) → z ≡ zeros_in_front (take 32 bits) → z ≡ 32 → BeginsTooLong bits
long_code bits z is full =
    elim (front_of bits) [
      | zeros_32 rest counted e ↦ (rest, e)
      | zeros_alone k counted few e ↦ absurd (omega (arith, is, counted))
      | zeros_one k more counted few e ↦ absurd (omega (arith, is, counted))
    ]

pub short_code : (bits : List Bool) (z : ℕ) → z ≡ zeros_in_front (take 32 bits) → z ≢ 32 → length bits < 2 * z + 1 → EndsWithinCode bits
short_code bits z is less short =
    elim (front_of bits) [
      | zeros_32 rest counted e ↦ absurd (less (is ∙ counted))
      | zeros_alone k counted few e ↦ zeros_end_within k bits few e
      | zeros_one k more counted few e ↦
          let size : length bits ≡ k + suc (length more) = ap length e ∙ rw (length-append (replicate k false) (true ∷ more), length-replicate k false) refl in
          one_ends_within k bits more few (omega (arith, is, counted)) e
    ]

-- what was read of a whole code
pub record IsRead (code : ℕ) (old new : Place) : Type 0 where
  pub some : 0 < code
  pub fits : code < 2 ^ 32
  pub takes : Takes (exp_golomb (code - 1)) old new

pub code_read : (k code : ℕ) (bits more : List Bool) → k < 32 → k ≤ length more → bits ≡ replicate k false ++ true ∷ more → code ≡ number (take (k + 1) (drop k bits))
    → (0 < code) × (code < 2 ^ 32) × (bits ≡ exp_golomb (code - 1) ++ drop (k + 1) (drop k bits))
code_read k code bits more few enough e is =
    let behind : drop k bits ≡ true ∷ more = ap (drop k) e ∙ drop_at (replicate k false) (true ∷ more) k (length-replicate k false) in
    let found = one_begins_code k bits more few enough e in
    let word : code ≡ found.0 + 1 = is ∙ rw (behind, add-one k) (sym found.2) in
    let less : code - 1 ≡ found.0 = omega (arith, word) in
    (omega (arith, word), omega (arith, word, found.1), rw (less, behind, add-one k) found.3)

pub whole_code_read : (z code : ℕ) (old mid new : Place) → z ≡ zeros_in_front (take 32 old.left) → z ≢ 32 → 2 * z + 1 ≤ length old.left → mid.left ≡ drop z old.left → mid.total ≡ old.total
    → code ≡ number (take (z + 1) mid.left) → new.left ≡ drop (z + 1) mid.left → new.total ≡ mid.total → IsRead code old new
whole_code_read z code old mid new is less room middle total word behind total' =
    elim (front_of old.left) [
      | zeros_32 rest counted e ↦ absurd (less (is ∙ counted))
      | zeros_alone k counted few e ↦
          let size : length old.left ≡ k = ap length e ∙ length-replicate k false in
          absurd (omega (arith, is, counted))
      | zeros_one k more counted few e ↦
          let size : length old.left ≡ k + suc (length more) = ap length e ∙ rw (length-append (replicate k false) (true ∷ more), length-replicate k false) refl in
          let same : z ≡ k = is ∙ counted in
          let read = code_read k code old.left more few (omega (arith, same)) e (word ∙ rw (middle, same) refl) in
          record {
            some = read.0;
            fits = read.1;
            takes = record { left = read.2 ∙ ap (λ ys. exp_golomb (code - 1) ++ ys) (sym (behind ∙ rw (middle, same) refl)); total = total' ∙ total };
          }
    ]

-- ---- signed numbers

pub signed_once : (v w : ℤ) → code_number v ≡ code_number w → v ≡ w
signed_once (pos zero) (pos zero) e = refl
signed_once (pos zero) (pos (suc m)) e = absurd (omega arith)
signed_once (pos zero) (negsuc m) e = absurd (omega arith)
signed_once (pos (suc n)) (pos zero) e = absurd (omega arith)
signed_once (pos (suc n)) (pos (suc m)) e = let same : n ≡ m = omega arith in rw same refl
signed_once (pos (suc n)) (negsuc m) e = absurd (omega arith)
signed_once (negsuc n) (pos zero) e = absurd (omega arith)
signed_once (negsuc n) (pos (suc m)) e = absurd (omega arith)
signed_once (negsuc n) (negsuc m) e = let same : n ≡ m = omega arith in rw same refl

pub mapped_code : (v : ℤ) → v ≡ mapped (code_number v)
mapped_code (pos zero) = refl
mapped_code (pos (suc n)) =
    let odd : (2 * n + 1) % 2 ≡ 1 = omega arith in
    let half : (2 * n + 1 + 1) / 2 ≡ suc n = omega arith in
    rw (odd, half) refl
mapped_code (negsuc n) =
    let even : (2 * n + 2) % 2 ≡ 0 = omega arith in
    let half : (2 * n + 2 + 1) / 2 ≡ suc n = omega arith in
    rw (even, half) refl

code_of_half : (k m : ℕ) → m ≡ k / 2 → k % 2 ≡ 0 → code_number (neg_ℤ (pos m)) ≡ k
code_of_half k zero half even = omega (arith, half, even)
code_of_half k (suc m) half even = omega (arith, half, even)

pub code_mapped : (k : ℕ) → code_number (mapped k) ≡ k
code_mapped k =
    elim (leb_tells 1 (k % 2)) [
      | inl p ↦
          let odd : k % 2 ≡ 1 = omega (arith, p.1) in
          let half : (k + 1) / 2 ≡ suc (k / 2) = omega (arith, odd) in
          rw (odd, half) (omega (arith, odd))
      | inr p ↦
          let even : k % 2 ≡ 0 = omega (arith, p.1) in
          rw even (code_of_half k ((k + 1) / 2) (omega (arith, even)) even)
    ]
