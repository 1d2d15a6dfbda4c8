-- Lemmas on the calls of memory sources and sinks.
use Rattle.std.proofs.Common.{◌≡◌, ℕ, ◌+◌, ◌-◌, ◌<◌, ◌≤◌, min, List, [], ◌∷◌, ◌++◌, length, take, drop, sym, ap, ◌∙◌, arith, length-append, length-take, length-drop, length-take-le, take-append-drop, drop-drop, subst}
use Rattle.std.proofs.lemmas.List.{take_rest, take_at, nil_from_length}
use Rattle.vx_io.specs.Memory.{moved_len}

-- a call moves no more than it is given
pub moved_len-le : (pieces : List ℕ) (call n : ℕ) → moved_len pieces call n ≤ n
moved_len-le [] call n = omega arith
moved_len-le (p ∷ ps) call n = omega arith

-- a call moves nothing only where it is given nothing
pub moved_len-zero : (pieces : List ℕ) (call n : ℕ) → moved_len pieces call n ≡ 0 → n ≡ 0
moved_len-zero [] call n e = e
moved_len-zero (p ∷ ps) call n e = omega arith

-- a read that moved n bytes to the front of a buffer: it consumed them, and moved none only at the end or with no room
pub read_moves : (left bytes copied into : List ℕ) (from n most : ℕ) (pieces : List ℕ) (call : ℕ)
    → left ≡ drop from bytes
    → n ≡ moved_len pieces call most
    → most ≡ min (length into) (length (take (length bytes - from) (drop from bytes)))
    → copied ≡ take n (take (length bytes - from) (drop from bytes))
    → length copied ≡ length (take n into)
    → (left ≡ take n (copied ++ drop n into) ++ drop (from + n) bytes) × (n ≡ 0 → 0 < length (copied ++ drop n into) → drop (from + n) bytes ≡ [])
read_moves left bytes copied into from n most pieces call is-left is-n is-most is-copied same =
    let rest : length (take (length bytes - from) (drop from bytes)) ≡ length left = ap length (take_rest bytes from ∙ sym is-left) in
    let bound : n ≤ most = subst (λ m. m ≤ most) (sym is-n) (moved_len-le pieces call most) in
    let fits : n ≤ length left = omega arith in
    let front : copied ≡ take n left = is-copied ∙ ap (take n) (take_rest bytes from ∙ sym is-left) in
    let given : take n (copied ++ drop n into) ≡ take n left = take_at copied (drop n into) n (ap length front ∙ length-take-le n left fits) ∙ front in
    let behind : drop n left ≡ drop (from + n) bytes = ap (drop n) is-left ∙ drop-drop n from bytes in (
      sym (take-append-drop n left) ∙ ap (λ l. l ++ drop n left) (sym given) ∙ ap (λ l. take n (copied ++ drop n into) ++ l) behind,
      λ none room.
          let no_most : most ≡ 0 = moved_len-zero pieces call most (sym is-n ∙ none) in
          nil_from_length (drop (from + n) bytes) (omega (arith, length-append copied (drop n into), length-take n into, length-drop n into, ap length is-left, length-drop from bytes, length-drop (from + n) bytes)),
    )
