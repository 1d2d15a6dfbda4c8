-- Where the word of a part ends.
use Rattle.std.proofs.Common.{◌≡◌, ℕ, ◌≤◌, Bool, true, false, nat_lt, List, length, Some, refl, ap, ◌∙◌, arith}
use Rattle.std.specs.Prelude.{Option, None, cond, unwrap_or}
use Rattle.std.specs.List.{position_or_len}
use Rattle.std.proofs.lemmas.Bool.{ltb-false}
use Rattle.std.proofs.lemmas.List.Sums.{prefix_len-le-length}

found_or_len : (found : Bool) (i n : ℕ) → i ≤ n → nat_lt i n ≡ found → unwrap_or (cond found (Some i) None) n ≡ i
found_or_len true i n within is = refl
found_or_len false i n within is = let past = ltb-false i n is in omega (arith, within, past)

pub place_or_len : (test : ℕ → Bool) (bytes : List ℕ) (place : Option ℕ)
    → place ≡ cond (nat_lt (position_or_len test bytes) (length bytes)) (Some (position_or_len test bytes)) None
    → unwrap_or place (length bytes) ≡ position_or_len test bytes
place_or_len test bytes place is =
    ap (λ o. unwrap_or o (length bytes)) is
    ∙ found_or_len (nat_lt (position_or_len test bytes) (length bytes)) (position_or_len test bytes) (length bytes) (prefix_len-le-length _ bytes) refl
