-- The words of `show`.
use Rattle.std.proofs.Common.{◌≡◌, ℕ, true, false, Bool, cond, List, [], ◌∷◌, ◌++◌, ◌∙◌, get_or, length, drop, arith, refl, ap, sym, codes}
use Rattle.vx_run.specs.Grammar.{show, fields_words, inputs_words, AskFor}
use Rattle.vx_run.specs.inner.Words.{IsFlagFirst}

-- what stands behind an option, where it doesn't begin with it itself
flag_same : (name : List ℕ) (found asked : Bool) (words rest more : List (List ℕ)) → IsFlagFirst name words found rest → words ≡ cond asked (name ∷ more) more → (more ≡ [] → ⊥)
    → ((after : List (List ℕ)) → more ≡ name ∷ after → after ≡ []) → rest ≡ more
flag_same name true true words rest more first is some alone = ap (drop 1) (sym first.0 ∙ is)
flag_same name true false words rest more first is some alone = absurd (first.1 (alone rest (sym is ∙ first.0)))
flag_same name false true words rest more first is some alone = absurd (some (first.1 more is))
flag_same name false false words rest more first is some alone = first.0 ∙ is

fields_first : (fields : Bool) (more : List (List ℕ)) → fields_words fields ++ more ≡ cond fields (codes "--fields" ∷ more) more
fields_first true more = refl
fields_first false more = refl

inputs_first : (inputs : Bool) (more : List (List ℕ)) → inputs_words inputs ++ more ≡ cond inputs (codes "--inputs" ∷ more) more
inputs_first true more = refl
inputs_first false more = refl

some_behind : (inputs : Bool) (file : List ℕ) → inputs_words inputs ++ file ∷ [] ≡ [] → ⊥
some_behind true file none = omega (arith, ap (λ (ws : List (List ℕ)). length ws) none)
some_behind false file none = omega (arith, ap (λ (ws : List (List ℕ)). length ws) none)

no_fields : (inputs : Bool) (file : List ℕ) (after : List (List ℕ)) → inputs_words inputs ++ file ∷ [] ≡ codes "--fields" ∷ after → after ≡ []
no_fields true file after is = absurd (omega (arith, ap (λ (ws : List (List ℕ)). get_or (get_or ws 0 []) 2 0) is))
no_fields false file after is = ap (drop 1) (sym is)

-- no file stands alone behind both options
pub no_file : (words rest last : List (List ℕ)) (fields inputs : Bool) → IsFlagFirst (codes "--fields") words fields rest → IsFlagFirst (codes "--inputs") rest inputs last
    → ((file : List ℕ) → last ≡ file ∷ [] → file ≡ []) → (asked with_inputs : Bool) (file : List ℕ) → AskFor (codes "show" ∷ words) (show asked with_inputs file) → ⊥
no_file words rest last fields inputs first second none asked with_inputs file p =
    let more : List (List ℕ) = inputs_words with_inputs ++ file ∷ [] in
    let one : rest ≡ more =
    flag_same (codes "--fields") fields asked words rest more first (ap (drop 1) p.spelled ∙ fields_first asked more) (some_behind with_inputs file) (no_fields with_inputs file) in
    let two : last ≡ file ∷ [] =
    flag_same (codes "--inputs") inputs with_inputs rest last (file ∷ []) second (one ∙ inputs_first with_inputs (file ∷ []))
    (λ no. omega (arith, ap (λ (ws : List (List ℕ)). length ws) no)) (λ after is. ap (drop 1) (sym is)) in
    p.named (none file two)

-- the words that were read
pub spelled_show : (words rest last : List (List ℕ)) (fields inputs : Bool) (file : List ℕ) → IsFlagFirst (codes "--fields") words fields rest → IsFlagFirst (codes "--inputs") rest inputs last
    → last ≡ file ∷ [] → words ≡ fields_words fields ++ (inputs_words inputs ++ file ∷ [])
spelled_show words rest last true true file first second is = first.0 ∙ ap (λ (ws : List (List ℕ)). codes "--fields" ∷ ws) (second.0 ∙ ap (λ (ws : List (List ℕ)). codes "--inputs" ∷ ws) is)
spelled_show words rest last true false file first second is = first.0 ∙ ap (λ (ws : List (List ℕ)). codes "--fields" ∷ ws) (sym second.0 ∙ is)
spelled_show words rest last false true file first second is = sym first.0 ∙ (second.0 ∙ ap (λ (ws : List (List ℕ)). codes "--inputs" ∷ ws) is)
spelled_show words rest last false false file first second is = sym first.0 ∙ (sym second.0 ∙ is)
