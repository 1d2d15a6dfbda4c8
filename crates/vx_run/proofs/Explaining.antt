-- Which words there is something to tell of.
use Rattle.std.proofs.Common.{◌≡◌, ◌∙◌, ℕ, Bool, List, Option, Some, None, Bor, IsTrue, ◌↔◌, sym, ap, refl}
use Rattle.std.specs.Prelude.{IsSome, is_some, option_copied}
use Rattle.vx_explain.specs.Explained.{explanation, RulesAndFieldsAreExplained}
use Rattle.vx_run.specs.Grammar.{IsRuleOrField}

copied_some : (o : Option (Bor (List ℕ))) → is_some (option_copied o) ≡ is_some o
copied_some None = refl
copied_some (Some text) = refl

-- a text is found exactly of a rule or of the number of a field
pub found_exactly : RulesAndFieldsAreExplained → (word bytes : List ℕ) (text : Option (Bor (List ℕ))) (found : Bool) → bytes ≡ word → option_copied text ≡ explanation bytes → found ≡ is_some text → IsTrue found ↔ IsRuleOrField word
unfolding IsRuleOrField
found_exactly law word bytes text found same is some =
    let one : found ≡ is_some (explanation word) = some ∙ sym (copied_some text) ∙ ap is_some is ∙ ap (λ (w : List ℕ). is_some (explanation w)) same in
    (λ yes_. (law word).0 (sym one ∙ yes_), λ rule. one ∙ (law word).1 rule)

-- so it is found of one
pub text_there : RulesAndFieldsAreExplained → (word bytes : List ℕ) (text : Option (Bor (List ℕ))) → bytes ≡ word → option_copied text ≡ explanation bytes → IsRuleOrField word → IsSome text
text_there law word bytes text same is rule = (found_exactly law word bytes text (is_some text) same is refl).1 rule
