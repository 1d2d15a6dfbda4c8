-- Lemmas on the window of a reader.
use Rattle.std.proofs.Common.{◌≡◌, ◌≢◌, ℕ, ◌+◌, ◌-◌, ◌*◌, ◌/◌, ◌%◌, ◌^◌, ◌<◌, ◌≤◌, Bool, List, [], ◌++◌, length, take, drop, get_or, refl, sym, ◌∙◌, ap, arith}
use Rattle.std.proofs.lemmas.List.{append_assoc, length-append, length-drop, take-append-le, drop-append-le, drop_more, nil_from_length}
use Rattle.vx_bits.specs.declared.window.Window.{Window}
use Rattle.vx_bits.specs.Codes.{number, fixed, bits_of, to_boundary, one_from}
use Rattle.vx_bits.specs.inner.Window.{bits_ahead, IsWindow}
use Rattle.vx_bits.proofs.Bits.{number-fixed, length-fixed, number-take, number-drop, fixed_of, length-bits_of}
use Rattle.vx_bits.proofs.Appending.{fixed_join, join_below}
use Rattle.vx_bits.proofs.Alignment.{stop_is}

pub length_ahead : (bytes : List ℕ) (window : Window) → length (bits_ahead bytes window) ≡ window.held + 8 * (length bytes - window.next)
length_ahead bytes window =
    rw (length-append (fixed window.held window.word) (bits_of (drop window.next bytes)), length-fixed window.held window.word, length-bits_of (drop window.next bytes), length-drop window.next bytes) refl

-- ---- one more byte

pub byte_ahead : (bytes : List ℕ) (word held next byte : ℕ) → word < 2 ^ held → next < length bytes → byte ≡ get_or bytes next 0 → byte < 256
    → fixed (held + 8) (word * 256 + byte) ++ bits_of (drop (next + 1) bytes) ≡ fixed held word ++ bits_of (drop next bytes)
byte_ahead bytes word held next byte below within here range =
    let opened : bits_of (drop next bytes) ≡ fixed 8 byte ++ bits_of (drop (next + 1) bytes)
    = ap bits_of (drop_more bytes next 0 within) ∙ rw here refl in
    rw (opened, ← fixed_join held 8 word byte below range) (append_assoc (fixed held word) (fixed 8 byte) (bits_of (drop (next + 1) bytes)))

pub byte_below : (word held byte : ℕ) → word < 2 ^ held → byte < 256 → word * 256 + byte < 2 ^ (held + 8)
byte_below word held byte below range = join_below held 8 word byte below range

-- ---- the bits at the front of the window

pub front_number : (bytes : List ℕ) (window : Window) (count : ℕ) → IsWindow bytes window → count ≤ window.held
    → window.word / 2 ^ (window.held - count) ≡ number (take count (bits_ahead bytes window))
front_number bytes window count sound enough =
    let size : length (fixed window.held window.word) ≡ count + (window.held - count) = length-fixed window.held window.word ∙ omega arith in
    let front : take count (bits_ahead bytes window) ≡ take count (fixed window.held window.word)
    = take-append-le count (fixed window.held window.word) (bits_of (drop window.next bytes)) (omega (arith, size)) in
    rw (front, number-take count (window.held - count) (fixed window.held window.word) size, number-fixed window.held window.word sound.range) refl

pub rest_ahead : (bytes : List ℕ) (window : Window) (count : ℕ) → IsWindow bytes window → count ≤ window.held
    → fixed (window.held - count) (window.word % 2 ^ (window.held - count)) ++ bits_of (drop window.next bytes) ≡ drop count (bits_ahead bytes window)
rest_ahead bytes window count sound enough =
    let m : ℕ = window.held - count in
    let word : List Bool = fixed window.held window.word in
    let size : length word ≡ count + m = length-fixed window.held window.word ∙ omega arith in
    let behind : length (drop count word) ≡ m = length-drop count word ∙ omega (arith, size) in
    let low : window.word % 2 ^ m ≡ number (drop count word)
    = sym (number-drop count m word size ∙ ap (λ v. v % 2 ^ m) (number-fixed window.held window.word sound.range)) in
    rw (drop-append-le count word (bits_of (drop window.next bytes)) (omega (arith, size)), low, fixed_of m (drop count word) behind) refl

-- ---- the place

pub taken_ahead : (bytes : List ℕ) (window : Window) → IsWindow bytes window → 8 * window.next - window.held ≡ 8 * length bytes - length (bits_ahead bytes window)
taken_ahead bytes window sound = rw (length_ahead bytes window) (omega (arith, sound.passed, sound.within))

pub boundary_ahead : (bytes : List ℕ) (window : Window) → IsWindow bytes window → window.held % 8 ≡ to_boundary (8 * length bytes - length (bits_ahead bytes window))
boundary_ahead bytes window sound = rw (← taken_ahead bytes window sound) (omega (arith, sound.passed))

pub stop_ahead : (bytes : List ℕ) (window : Window) → IsWindow bytes window → (window.held + 7) % 8 + 1 ≡ length (one_from (8 * length bytes - length (bits_ahead bytes window)))
stop_ahead bytes window sound =
    rw (← taken_ahead bytes window sound, ← stop_is (8 * window.next - window.held)) (omega (arith, sound.passed))

pub stop_ahead_within : (bytes : List ℕ) (window : Window) → IsWindow bytes window → bits_ahead bytes window ≢ [] → (window.held + 7) % 8 + 1 ≤ length (bits_ahead bytes window)
stop_ahead_within bytes window sound more =
    let some : length (bits_ahead bytes window) ≢ 0 = λ e. more (nil_from_length (bits_ahead bytes window) e) in
    let size : length (bits_ahead bytes window) ≡ window.held + 8 * (length bytes - window.next) = length_ahead bytes window in
    omega arith
