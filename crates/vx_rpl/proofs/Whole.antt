-- A list that a loop gathers, of so many entries at most, is whole where no more comes or where it is full.
use Rattle.std.proofs.Common.{◌≡◌, ℕ, ◌≤◌, List, [], ◌++◌, length, take, ◌∙◌, ap, sym}
use Rattle.std.proofs.lemmas.List.{append-nil, take_all, take_at}

pub whole_end : {A : Type 0} (n : ℕ) (list more all : List A) → length list ≤ n → more ≡ [] → take n (list ++ more) ≡ all → list ≡ all
whole_end n list more all few none e = sym (take_all n list few) ∙ ap (take n) (sym (append-nil list)) ∙ ap (λ xs. take n (list ++ xs)) (sym none) ∙ e

pub whole_full : {A : Type 0} (n : ℕ) (list more all : List A) → length list ≡ n → take n (list ++ more) ≡ all → list ≡ all
whole_full n list more all full e = sym (take_at list more n full) ∙ e
