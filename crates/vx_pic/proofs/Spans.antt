-- Spans of bytes.
use Rattle.std.proofs.Common.{◌≡◌, ℕ, zero, suc, ◌+◌, ◌-◌, ◌≤◌, List, [], ◌∷◌, ◌++◌, Some, slice_get, length, take, drop, refl, sym, subst, ap, ◌∙◌, arith}
use Rattle.std.specs.List.{AllByRecursion}
use Rattle.std.proofs.lemmas.Option.{slice_get_within, get_or_from_slice_get}
use Rattle.std.proofs.lemmas.List.{drop-take, length-drop, length-take-le, drop-drop, take_more}

length_of : (bytes : List ℕ) (start end : ℕ) → start ≤ end → end ≤ length bytes → length (take (end - start) (drop start bytes)) ≡ end - start
length_of bytes start end order within = length-take-le (end - start) (drop start bytes) (rw (length-drop start bytes) (omega arith))

-- a span that ends where another ends is a suffix of it
pub suffix : (bytes : List ℕ) (start from end : ℕ) → start ≤ from → from ≤ end → end ≤ length bytes
    → take (end - from) (drop from bytes) ≡ drop (length (take (end - start) (drop start bytes)) - length (take (end - from) (drop from bytes)))
    (take (end - start) (drop start bytes))
suffix bytes start from end low high within =
    let long : length (take (end - start) (drop start bytes)) ≡ end - start = length_of bytes start end (omega arith) within in
    let short : length (take (end - from) (drop from bytes)) ≡ end - from = length_of bytes from end high within in
    let size : end - start ≡ (from - start) + (end - from) = omega arith in
    let ahead : (end - start) - (end - from) ≡ from - start = omega arith in
    let cut = drop-take (from - start) (end - from) (drop start bytes) in
    let place : start + (from - start) ≡ from = omega arith in
    let on : drop (from - start) (drop start bytes) ≡ drop from bytes = drop-drop (from - start) start bytes ∙ ap (λ n. drop n bytes) place in
    rw (long, short, ahead, size, cut, on) refl

-- one element more of a list
pub gained : {A : Type 0} (xs copy more : List A) (i : ℕ) (x : A) → slice_get xs i ≡ Some x → copy ≡ take i xs → more ≡ copy ++ x ∷ []
    → more ≡ take (i + 1) xs
gained xs copy more i x at is gain =
    gain
    ∙ ap (λ ys. ys ++ x ∷ []) is
    ∙ ap (λ y. take i xs ++ y ∷ []) (sym (get_or_from_slice_get xs i x x at))
    ∙ sym (take_more xs i x (slice_get_within xs i x at))

-- what holds of each element holds of the one at a place
pub each_at : {A : Type 0} (P : A → Type 0) (xs : List A) (i : ℕ) (x : A) → AllByRecursion P xs → slice_get xs i ≡ Some x → P x
each_at P [] i x all at = let low = slice_get_within [] i x at in absurd (omega (arith, low))
each_at P (y ∷ xs) zero x all at = subst P (get_or_from_slice_get (y ∷ xs) zero x y at) all.0
each_at P (y ∷ xs) (suc i) x all at = each_at P xs i x all.1 at
