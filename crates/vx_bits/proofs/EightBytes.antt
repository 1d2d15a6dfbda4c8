-- Lemmas on a window that is filled from eight bytes at once.
use Rattle.std.proofs.Common.{◌≡◌, ℕ, ◌+◌, ◌-◌, ◌*◌, ◌/◌, ◌%◌, ◌^◌, ◌<◌, ◌≤◌, Bool, List, [], ◌∷◌, ◌++◌, length, take, drop, get_or, refl, sym, ◌∙◌, ap, subst, arith}
use Rattle.std.specs.Int.{w64, from_be_bytes}
use Rattle.std.proofs.lemmas.List.{append_assoc, length-take-le, length-drop, take-append-drop, take_at, take-take, drop-drop, get_or-take, get_or-drop}
use Rattle.vx_bits.specs.declared.window.Window.{Window}
use Rattle.vx_bits.specs.Codes.{number, fixed, bits_of}
use Rattle.vx_bits.specs.inner.Window.{bits_ahead, IsWindow}
use Rattle.vx_bits.proofs.Bits.{number-append, number-fixed, number-take, number-below, length-bits_of, bits_of-append, fixed_of}
use Rattle.vx_bits.proofs.Appending.{fixed_join, join_below, shift_fits}

pub number-bytes : (b : ℕ) (bytes : List ℕ) → b < 256 → number (bits_of (b ∷ bytes)) ≡ b * 2 ^ (8 * length bytes) + number (bits_of bytes)
number-bytes b bytes range =
    rw (number-append (fixed 8 b) (bits_of bytes), length-bits_of bytes, number-fixed 8 b range) refl

-- the number of eight bytes, the highest first, is that of their bits
eight_bytes : (bs : List ℕ) → length bs ≡ 8 → ((i : ℕ) → i < 8 → get_or bs i 0 < 256) → from_be_bytes w64 bs ≡ number (bits_of bs)
eight_bytes (a ∷ b ∷ c ∷ d ∷ e ∷ f ∷ g ∷ h ∷ []) size range =
    rw (
      number-bytes a (b ∷ c ∷ d ∷ e ∷ f ∷ g ∷ h ∷ []) (range 0 (omega arith)),
      number-bytes b (c ∷ d ∷ e ∷ f ∷ g ∷ h ∷ []) (range 1 (omega arith)),
      number-bytes c (d ∷ e ∷ f ∷ g ∷ h ∷ []) (range 2 (omega arith)),
      number-bytes d (e ∷ f ∷ g ∷ h ∷ []) (range 3 (omega arith)),
      number-bytes e (f ∷ g ∷ h ∷ []) (range 4 (omega arith)),
      number-bytes f (g ∷ h ∷ []) (range 5 (omega arith)),
      number-bytes g (h ∷ []) (range 6 (omega arith)),
      number-bytes h [] (range 7 (omega arith)),
    ) (omega arith)
eight_bytes _ size range = absurd (omega (arith, size))

pub eight_here : (bytes bs : List ℕ) (next : ℕ) → next + 8 ≤ length bytes → bs ≡ take 8 (drop next bytes) → ((i : ℕ) → get_or bytes i 0 < 256)
    → from_be_bytes w64 bs ≡ number (bits_of (take 8 (drop next bytes)))
eight_here bytes bs next within is range =
    let enough : 8 ≤ length (drop next bytes) = omega (arith, length-drop next bytes) in
    let size : length bs ≡ 8 = ap length is ∙ length-take-le 8 (drop next bytes) enough in
    let each : (i : ℕ) → i < 8 → get_or bs i 0 < 256
    = λ i few. rw (is, get_or-take 8 (drop next bytes) i 0 few, get_or-drop next bytes i 0) (range (next + i)) in
    eight_bytes bs size each ∙ ap (λ xs. number (bits_of xs)) is

-- the bits of the first bytes
pub take-bits_of : (k : ℕ) (bytes : List ℕ) → k ≤ length bytes → take (8 * k) (bits_of bytes) ≡ bits_of (take k bytes)
take-bits_of k bytes within =
    let whole : bits_of bytes ≡ bits_of (take k bytes) ++ bits_of (drop k bytes)
    = ap bits_of (sym (take-append-drop k bytes)) ∙ bits_of-append (take k bytes) (drop k bytes) in
    let size : length (bits_of (take k bytes)) ≡ 8 * k
    = length-bits_of (take k bytes) ∙ ap (λ n. 8 * n) (length-take-le k bytes within) in
    ap (take (8 * k)) whole ∙ take_at (bits_of (take k bytes)) (bits_of (drop k bytes)) (8 * k) size

-- the first k of eight bytes: their bits are the highest of the number's
pub first_of_eight : (rest : List ℕ) (k eight : ℕ) → 8 ≤ length rest → k ≤ 8 → eight ≡ number (bits_of (take 8 rest))
    → (fixed (8 * k) (eight / 2 ^ (64 - 8 * k)) ≡ bits_of (take k rest)) × (eight / 2 ^ (64 - 8 * k) < 2 ^ (8 * k))
first_of_eight rest k eight enough few is =
    let bits : List Bool = bits_of (take 8 rest) in
    let size : length bits ≡ 8 * k + (64 - 8 * k) = length-bits_of (take 8 rest) ∙ ap (λ n. 8 * n) (length-take-le 8 rest enough) ∙ omega arith in
    let high : eight / 2 ^ (64 - 8 * k) ≡ number (take (8 * k) bits) = rw is (sym (number-take (8 * k) (64 - 8 * k) bits size)) in
    let front : take (8 * k) bits ≡ bits_of (take k rest)
    = take-bits_of k (take 8 rest) (rw (length-take-le 8 rest enough) few) ∙ ap bits_of (take-take k 8 rest few) in
    let span : length (take (8 * k) bits) ≡ 8 * k = length-take-le (8 * k) bits (omega (arith, size)) in (
      ap (fixed (8 * k)) high ∙ fixed_of (8 * k) (take (8 * k) bits) span ∙ front,
      rw high (subst (λ n. number (take (8 * k) bits) < 2 ^ n) span (number-below (take (8 * k) bits))),
    )

-- what is ahead stays where the first k of eight bytes go into the window
pub eight_ahead : (bytes : List ℕ) (window : Window) (k eight : ℕ) → IsWindow bytes window → window.next + 8 ≤ length bytes → window.held + 8 * k < 64 → k ≤ 8
    → eight ≡ number (bits_of (take 8 (drop window.next bytes)))
    → (fixed (window.held + 8 * k) (window.word * 2 ^ (8 * k) % 2 ^ 64 + eight / 2 ^ (64 - 8 * k)) ++ bits_of (drop (window.next + k) bytes) ≡ bits_ahead bytes window)
    × (window.word * 2 ^ (8 * k) % 2 ^ 64 + eight / 2 ^ (64 - 8 * k) < 2 ^ (window.held + 8 * k))
eight_ahead bytes window k eight sound within room few is =
    let rest : List ℕ = drop window.next bytes in
    let enough : 8 ≤ length rest = omega (arith, length-drop window.next bytes) in
    let first = first_of_eight rest k eight enough few is in
    let shift : window.word * 2 ^ (8 * k) % 2 ^ 64 ≡ window.word * 2 ^ (8 * k) = (shift_fits window.held (8 * k) window.word sound.range room).0 in
    let behind : bits_of rest ≡ bits_of (take k rest) ++ bits_of (drop (window.next + k) bytes)
    = ap bits_of (sym (take-append-drop k rest)) ∙ bits_of-append (take k rest) (drop k rest) ∙ ap (λ xs. bits_of (take k rest) ++ bits_of xs) (drop-drop k window.next bytes) in (
      rw (shift, ← fixed_join window.held (8 * k) window.word (eight / 2 ^ (64 - 8 * k)) sound.range first.1, first.0, behind)
          (append_assoc (fixed window.held window.word) (bits_of (take k rest)) (bits_of (drop (window.next + k) bytes))),
      rw shift (join_below window.held (8 * k) window.word (eight / 2 ^ (64 - 8 * k)) sound.range first.1),
    )
