-- Messages, one behind another.
use Rattle.std.proofs.Common.{◌≡◌, ℕ, ◌+◌, ◌<◌, ◌≤◌, List, [], ◌∷◌, ◌++◌, length, take, drop, refl, sym, ◌∙◌, ap, arith, length-append, add-zero}
use Rattle.std.specs.Prelude.{Some, slice_get}
use Rattle.std.proofs.lemmas.Grind.{flat_map-append}
use Rattle.std.proofs.lemmas.List.{take_more, take_all, append-nil, append_assoc, take-append-drop}
use Rattle.std.proofs.lemmas.Option.{slice_get_within, get_or_from_slice_get}
use Rattle.vx_sei.specs.declared.message.Message.{Message}
use Rattle.vx_sei.specs.Sei.{sei_message, sei_messages, spelled_length}

taken_more : (ms : List Message) (i : ℕ) (m : Message) → slice_get ms i ≡ Some m → take (i + 1) ms ≡ take i ms ++ m ∷ []
taken_more ms i m at = rw (take_more ms i m (slice_get_within ms i m at), get_or_from_slice_get ms i m m at) refl

-- ---- their bytes

pub spelled_append : (a b : List Message) → spelled_length (a ++ b) ≡ spelled_length a + spelled_length b
spelled_append a b = ap length (flat_map-append sei_message a b) ∙ length-append (sei_messages a) (sei_messages b)

pub spelled_none : (before : ℕ) → before ≡ before + spelled_length []
spelled_none before = sym (add-zero before)

pub spelled_more : (before total more i : ℕ) (ms : List Message) (m : Message) → slice_get ms i ≡ Some m → more ≡ length (sei_message m)
    → total ≡ before + spelled_length (take i ms) → total + more ≡ before + spelled_length (take (i + 1) ms)
spelled_more before total more i ms m at is far =
    let one : spelled_length (m ∷ []) ≡ length (sei_message m) = ap length (append-nil (sei_message m)) in
    let all : spelled_length (take (i + 1) ms) ≡ spelled_length (take i ms) + length (sei_message m) =
    ap spelled_length (taken_more ms i m at) ∙ spelled_append (take i ms) (m ∷ []) ∙ ap (λ n. spelled_length (take i ms) + n) one in
    omega (arith, is, far, all)

pub spelled_past : (before total more i limit : ℕ) (ms : List Message) (m : Message) → slice_get ms i ≡ Some m → more ≡ length (sei_message m)
    → total ≡ before + spelled_length (take i ms) → limit < total + more → limit < before + spelled_length ms
spelled_past before total more i limit ms m at is far over =
    let on = spelled_more before total more i ms m at is far in
    let split : spelled_length ms ≡ spelled_length (take (i + 1) ms) + spelled_length (drop (i + 1) ms) =
    ap spelled_length (sym (take-append-drop (i + 1) ms)) ∙ spelled_append (take (i + 1) ms) (drop (i + 1) ms) in
    omega (arith, on, split, over)

pub spelled_all : (before total i : ℕ) (ms : List Message) → length ms ≤ i → total ≡ before + spelled_length (take i ms)
    → total ≡ before + spelled_length ms
spelled_all before total i ms past is = is ∙ ap (λ l. before + spelled_length l) (take_all i ms past)

-- ---- one behind another

pub appended_none : (old : List Message) → old ≡ old ++ []
appended_none old = sym (append-nil old)

pub appended_more : (old now new ms : List Message) (i : ℕ) (m copy : Message) → slice_get ms i ≡ Some m → copy ≡ m → now ≡ old ++ take i ms
    → new ≡ now ++ copy ∷ [] → new ≡ old ++ take (i + 1) ms
appended_more old now new ms i m copy at same far is =
    is ∙ ap (λ l. l ++ copy ∷ []) far ∙ ap (λ x. (old ++ take i ms) ++ x ∷ []) same ∙ append_assoc old (take i ms) (m ∷ [])
    ∙ ap (λ l. old ++ l) (sym (taken_more ms i m at))

pub appended_all : (old now ms : List Message) (i : ℕ) → length ms ≤ i → now ≡ old ++ take i ms → now ≡ old ++ ms
appended_all old now ms i past far = far ∙ ap (λ l. old ++ l) (take_all i ms past)
