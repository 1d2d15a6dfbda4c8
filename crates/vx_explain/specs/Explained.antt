-- The explanation of a rule or of a field. Our own. The contracts of `explanation` and of `run` rely on it.
use Rattle.std.specs.Prelude.{ℕ, ◌==◌, List, [], ◌∷◌, ◌++◌, Contains, map, find, codes, decimal, Option, IsSome, ◌↔◌}
use Rattle.std.specs.List.{slice_split, before_first, range_with_len}
use Rattle.std.specs.Str.{bytes_eq}
use Rattle.vx_explain.specs.declared.text.TheConstants.{TEXT}

-- The parts of the text, which bars separate.
abbrev pub parts : List (List ℕ)
parts = slice_split (λ byte. byte == 124) TEXT

-- The word that a part begins with, up to its first blank.
abbrev pub word_of : List ℕ → List ℕ
word_of part = before_first (λ byte. byte == 32) part

-- The explanation of a word: the part that begins with it.
unfoldable pub explanation : List ℕ → Option (List ℕ)
explanation word = find (λ part. bytes_eq (word_of part) word) parts

-- A letter's rules, by their numbers from 1 on.
abbrev pub numbered : List ℕ → ℕ → List (List ℕ)
numbered letter count = map (λ n. letter ++ decimal n) (range_with_len 1 count)

-- All rules.
abbrev pub rules : List (List ℕ)
rules = numbered (codes "F") 3 ++ codes "Y" ∷ [] ++ numbered (codes "P") 15 ++ numbered (codes "S") 15
    ++ numbered (codes "L") 11 ++ numbered (codes "E") 5 ++ numbered (codes "M") 16 ++ numbered (codes "C") 5

-- The numbers of all fields, in runs, each from its first one on.
abbrev pub fields : List ℕ
fields = range_with_len 1 3 ++ range_with_len 11 13 ++ range_with_len 31 3 ++ range_with_len 41 20 ++ range_with_len 100 132
    ++ range_with_len 301 11 ++ range_with_len 321 10 ++ range_with_len 400 71 ++ range_with_len 501 3 ++ range_with_len 600 57
    ++ range_with_len 681 10 ++ range_with_len 700 36

-- Each rule and each number of a field has an explanation, and no other word has one.
abbrev pub RulesAndFieldsAreExplained : Type 0
RulesAndFieldsAreExplained = (word : List ℕ) → IsSome (explanation word) ↔ Contains (rules ++ map decimal fields) word
