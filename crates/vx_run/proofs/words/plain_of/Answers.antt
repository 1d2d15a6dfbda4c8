use Rattle.std.proofs.Common.{rules, ◌≡◌, ℕ, ◌<◌, ◌≤◌, length, List, [], ◌∷◌, slice_index_or, string_bytes, String, arith}
use Rattle.vx_run.specs.Grammar.{texts}
use Rattle.vx_run.proofs.words.plain_of.Goals as goal

-- one word by its bytes
one_text : {A : Type 0} (words : List (String A)) (name : String A) (n : List ℕ) → 1 ≤ length words → length words < 2 → name ≡ slice_index_or words 0 name → string_bytes name ≡ n → texts words ≡ n ∷ []
one_text [] name n low high at_name is_name = absurd (omega arith)
one_text (a ∷ []) name n low high at_name is_name = cc
one_text (a ∷ x ∷ xs) name n low high at_name is_name = absurd (omega arith)

pub returns-in-len1-clause-some : goal.returns-in-len1-clause-some
returns-in-len1-clause-some c =
    record { spelled = one_text c.args.words.now c.word-item.result _ (search rules) (search rules) c.word-item.is (search rules); named = tt }

pub returns-in-len1-2-clause-some : goal.returns-in-len1-2-clause-some
returns-in-len1-2-clause-some c =
    record { spelled = one_text c.args.words.now c.word-item-then-words-lt2.result _ (search rules) (search rules) c.word-item-then-words-lt2.is (search rules); named = tt }
