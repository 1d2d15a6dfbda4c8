-- Which words there is something to tell of: those that the parts begin with.
use Rattle.std.proofs.Common.{◌≡◌, ℕ, zero, suc, Bool, true, false, List, [], ◌∷◌, ◌++◌, map, refl, sym, subst, decimal, arith}
use Rattle.std.specs.Prelude.{Option, Some, cond, IsSome, Contains, find}
use Rattle.std.specs.Str.{bytes_eq}
use Rattle.std.proofs.lemmas.Bool.{false≢true}
use Rattle.std.proofs.lemmas.Slice.Eq.{bytes_eq-Decides}
use Rattle.vx_explain.specs.Explained.{parts, word_of, explanation, rules, fields, RulesAndFieldsAreExplained}

-- ---- of a list of parts one is found exactly where one begins with the word

part_in : List (List ℕ) → List ℕ → Option (List ℕ)
part_in some word = find (λ part. bytes_eq (word_of part) word) some

first_or_later : (part word : List ℕ) (more : List (List ℕ)) (first : Bool) → bytes_eq (word_of part) word ≡ first → (IsSome (part_in more word) → Contains (map word_of more) word)
    → IsSome (cond first (Some part) (part_in more word)) → Contains (map word_of (part ∷ more)) word
first_or_later part word more true same later is = (0, omega arith, (bytes_eq-Decides (word_of part) word).0 same)
first_or_later part word more false other later is = let place = later is in (suc place.0, omega (arith, place.1), place.2)

begun : (some : List (List ℕ)) (word : List ℕ) → IsSome (part_in some word) → Contains (map word_of some) word
unfolding part_in
begun [] word is = absurd (false≢true is)
begun (part ∷ more) word is = first_or_later part word more (bytes_eq (word_of part) word) refl (begun more word) is

found_later : (part : List ℕ) (first : Bool) (more : Option (List ℕ)) → IsSome more → IsSome (cond first (Some part) more)
found_later part true more is = refl
found_later part false more is = is

found : (some : List (List ℕ)) (word : List ℕ) → Contains (map word_of some) word → IsSome (part_in some word)
unfolding part_in
found [] word (k, within, is) = let none : ⊥ = omega (arith, within) in absurd none
found (part ∷ more) word (zero, within, is) = rw ((bytes_eq-Decides (word_of part) word).1 is) refl
found (part ∷ more) word (suc k, within, is) = found_later part (bytes_eq (word_of part) word) (part_in more word) (found more word (k, omega (arith, within), is))

-- ---- what the parts begin with is said in order

pub all_explained : map word_of parts ≡ rules ++ map decimal fields → RulesAndFieldsAreExplained
unfolding explanation part_in
all_explained begin word = (
  λ is. subst (λ words. Contains words word) begin (begun parts word is),
  λ told. found parts word (subst (λ words. Contains words word) (sym begin) told),
)
