-- Words of `merge` and `play`: a level where there is one, and placings.
use Rattle.std.proofs.Common.{◌≡◌, ℕ, ◌≤◌, List, [], ◌∷◌, ◌++◌, ◌∙◌, Option, length, get_or, drop, map, codes, decimal, sym, ap, refl, subst, arith}
use Rattle.std.specs.List.{AllByRecursion}
use Rattle.vx_run.specs.Grammar.{Placing, placing_word, IsPlacing, IsLevel, merge, play, AskFor, level_words}
use Rattle.vx_run.specs.inner.Placings.{placing_in, NameLevelAndFiles, PlaceFiles}
use Rattle.vx_run.specs.inner.Words.{BeginsNot, IsOptionFirst}
use Rattle.vx_run.proofs.Numbering.{first_digit, option_spelled, option_first, option_once}
use Rattle.vx_run.proofs.PlacingWords.{words_read, some_placings, placings_are}

-- ---- no placing is the name of the option

first_stays : (xs ys : List ℕ) → 48 ≤ get_or xs 0 0 → get_or (xs ++ ys) 0 0 ≡ get_or xs 0 0
first_stays [] ys digit = absurd (omega (arith, digit))
first_stays (x ∷ xs) ys digit = refl

placing_digit : (p : Placing) → IsPlacing p → 48 ≤ get_or (placing_word p) 0 0
placing_digit p named =
    let digit = first_digit p.x (omega (arith, named.0)) in
    omega (arith, digit, first_stays (decimal p.x) (codes "," ++ (decimal p.y ++ (codes "=" ++ p.file))) digit)

no_level : (ps : List Placing) → AllByRecursion IsPlacing ps → BeginsNot (codes "--level") (map placing_word ps)
no_level [] all rest is = absurd (omega (arith, ap (λ (l : List (List ℕ)). length l) is))
no_level (p ∷ ps) all rest is =
    let same : placing_word p ≡ codes "--level" = ap (λ (l : List (List ℕ)). get_or l 0 []) is in
    omega (arith, placing_digit p all.0, ap (λ (w : List ℕ). get_or w 0 0) same)

pub merge_level : (level : Option ℕ) (ps : List Placing) → IsLevel level → AllByRecursion IsPlacing ps → IsOptionFirst (codes "--level") 255 (level_words level ++ map placing_word ps) level (map placing_word ps)
merge_level level ps within all = option_first (codes "--level") 255 level (map placing_word ps) within (no_level ps all)

-- ---- words with a level and placings

pub level_and_placings : (words : List (List ℕ)) (level : Option ℕ) (rest : List (List ℕ)) → IsOptionFirst (codes "--level") 255 words level rest → PlaceFiles rest → NameLevelAndFiles words level (map placing_in rest)
level_and_placings words level rest first place =
    let read = words_read rest place.1 in
    let option = option_spelled (codes "--level") 255 words level rest first in
    record {
      spelled = option.0 ∙ ap (λ (l : List (List ℕ)). level_words level ++ l) read.0;
      named = (option.1, some_placings rest place.0, read.1);
    }

-- and words that have none
module _ (words : List (List ℕ)) (level : Option ℕ) (ps : List Placing) (names : NameLevelAndFiles words level ps) where
  level_there : IsOptionFirst (codes "--level") 255 words level (map placing_word ps)
  level_there = rw names.spelled (merge_level level ps names.named.0 names.named.2)

  pub no_level_there : ((n : Option ℕ) (rest : List (List ℕ)) → IsOptionFirst (codes "--level") 255 words n rest → ⊥) → ⊥
  no_level_there none = none level (map placing_word ps) level_there

  pub no_placings_there : (n : Option ℕ) (rest : List (List ℕ)) → IsOptionFirst (codes "--level") 255 words n rest → (PlaceFiles rest → ⊥) → ⊥
  no_placings_there n rest first none =
      let one = option_once (codes "--level") 255 words n level rest (map placing_word ps) (omega arith) first level_there in
      none (subst PlaceFiles (sym one.1) (placings_are ps names.named.1 names.named.2))

-- ---- words that ask for a merge, or to play

pub asks_to_merge : (words : List (List ℕ)) (level : Option ℕ) (ps : List Placing) → NameLevelAndFiles words level ps → AskFor (codes "merge" ∷ words) (merge level ps)
asks_to_merge words level ps names = record { spelled = ap (λ (l : List (List ℕ)). codes "merge" ∷ l) names.spelled; named = names.named }

pub names_to_merge : (words : List (List ℕ)) (level : Option ℕ) (ps : List Placing) → AskFor (codes "merge" ∷ words) (merge level ps) → NameLevelAndFiles words level ps
names_to_merge words level ps asks = record { spelled = ap (λ (l : List (List ℕ)). drop 1 l) asks.spelled; named = asks.named }

pub asks_to_play : (words : List (List ℕ)) (level : Option ℕ) (ps : List Placing) → NameLevelAndFiles words level ps → AskFor (codes "play" ∷ words) (play level ps)
asks_to_play words level ps names = record { spelled = ap (λ (l : List (List ℕ)). codes "play" ∷ l) names.spelled; named = names.named }

pub names_to_play : (words : List (List ℕ)) (level : Option ℕ) (ps : List Placing) → AskFor (codes "play" ∷ words) (play level ps) → NameLevelAndFiles words level ps
names_to_play words level ps asks = record { spelled = ap (λ (l : List (List ℕ)). drop 1 l) asks.spelled; named = asks.named }
