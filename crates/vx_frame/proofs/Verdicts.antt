-- Verdicts by rules one behind another.
use Rattle.std.proofs.Common.{◌≡◌, ℕ, ◌<◌, List, [], ◌∷◌, ◌++◌, Option, Some, None, Err, ap, sym, ◌∙◌, inl, inr}
use Rattle.std.proofs.lemmas.Option.{none-some}
use Rattle.vx_bits.specs.declared.refusal.Refusal.{Refusal}
use Rattle.vx_bits.specs.declared.refusal.Refusal.TheVariants.{Merge}
use Rattle.vx_fit.specs.Lowest.{IsLowestAnswer}
use Rattle.vx_fit.proofs.Single.{lowest_one}
use Rattle.vx_write.specs.declared.fault.WriteError.{WriteError}
use Rattle.vx_write.specs.declared.fault.WriteError.TheVariants as errors
use Rattle.vx_frame.specs.Verdict.{Rule, IsVerdict}
use Rattle.vx_frame.specs.declared.told.Differing.{Differing}
use Rattle.vx_frame.specs.Rules.{of_field, of_source}
use Rattle.vx_frame.specs.inner.Found.{Finds, IsLowestField, Tries, told_field, told_source}

pub verdict_one : (n : ℕ) (rules : List Rule) (a b : Option Refusal) → IsVerdict n rules a → IsVerdict n rules b → a ≡ b
verdict_one n [] a b p q = p ∙ sym q
verdict_one n (rule ∷ rules) a b p q =
    elim p [
      | inl f ↦
          elim q [
            | inl g ↦ verdict_one n rules a b f.1 g.1
            | inr g ↦ absurd (f.0 g.0 g.1.in_range g.1.breaks)
          ]
      | inr f ↦
          elim q [
            | inl g ↦ absurd (g.0 f.0 f.1.in_range f.1.breaks)
            | inr g ↦ f.2 ∙ (ap (λ i. Some (rule.tells i)) (lowest_one n rule.breaks f.0 g.0 f.1 g.1) ∙ sym g.2)
          ]
    ]

-- ---- a rule alone, and before others

pub broken : (n : ℕ) (rule : Rule) (rules : List Rule) (r : Refusal) → Finds n (rule ∷ []) (Some r) → Finds n (rule ∷ rules) (Some r)
broken n rule rules r found =
    elim found.verdict [
      | inl f ↦ absurd (none-some r (sym f.1))
      | inr f ↦ record { verdict = inr f }
    ]

pub passed : (n : ℕ) (rule : Rule) (rules : List Rule) (answer : Option Refusal) → Finds n (rule ∷ []) None → Finds n rules answer → Finds n (rule ∷ rules) answer
passed n rule rules answer found more =
    elim found.verdict [
      | inl f ↦ record { verdict = inl (f.0, more.verdict) }
      | inr f ↦ absurd (none-some (rule.tells f.0) f.2)
    ]

-- none breaks a rule that passed
pub none_breaks : (n : ℕ) (rule : Rule) → Finds n (rule ∷ []) None → (k : ℕ) → k < n → ¬ rule.breaks k
none_breaks n rule found =
    elim found.verdict [
      | inl f ↦ f.0
      | inr f ↦ absurd (none-some (rule.tells f.0) f.2)
    ]

-- ---- some rules before others

pub broken_all : (n : ℕ) (rules more : List Rule) (r : Refusal) → Finds n rules (Some r) → Finds n (rules ++ more) (Some r)
broken_all n [] more r found = absurd (none-some r (sym found.verdict))
broken_all n (rule ∷ rules) more r found =
    elim found.verdict [
      | inl f ↦ record { verdict = inl (f.0, (broken_all n rules more r (record { verdict = f.1 })).verdict) }
      | inr f ↦ record { verdict = inr f }
    ]

pub passed_all : (n : ℕ) (rules more : List Rule) (answer : Option Refusal) → Finds n rules None → Finds n more answer → Finds n (rules ++ more) answer
passed_all n [] more answer found others = others
passed_all n (rule ∷ rules) more answer found others =
    elim found.verdict [
      | inl f ↦ record { verdict = inl (f.0, (passed_all n rules more answer (record { verdict = f.1 }) others).verdict) }
      | inr f ↦ absurd (none-some (rule.tells f.0) f.2)
    ]

-- ---- where something is made as far as they let it

-- an answer to the first of some rules
pub tries_front : {A B : Type 0} (n : ℕ) (rules more : List Rule) (P : A → Type 0) (Q : B → Type 0) (e : WriteError) → Tries n rules P (Err e) → Tries n (rules ++ more) Q (Err e)
tries_front n rules more P Q errors.Memory is = tt
tries_front n rules more P Q errors.SinkFailed is = is
tries_front n rules more P Q (errors.Refused r) is = broken_all n rules more r is
tries_front n rules more P Q (errors.Stopped first) is = is

-- and to those behind some that have passed
pub tries_behind : {A B : Type 0} (n : ℕ) (rules more : List Rule) (P : A → Type 0) (Q : B → Type 0) (e : WriteError) → Finds n rules None → Tries n more P (Err e)
    → Tries n (rules ++ more) Q (Err e)
tries_behind n rules more P Q errors.Memory passed is = tt
tries_behind n rules more P Q errors.SinkFailed passed is = is
tries_behind n rules more P Q (errors.Refused r) passed is = passed_all n rules more (Some r) passed is
tries_behind n rules more P Q (errors.Stopped first) passed is = is

-- an error says the same whatever is to be made
pub tries_other : {A B : Type 0} (n : ℕ) (rules : List Rule) (P : A → Type 0) (Q : B → Type 0) (e : WriteError) → Tries n rules P (Err e) → Tries n rules Q (Err e)
tries_other n rules P Q errors.Memory is = is
tries_other n rules P Q errors.SinkFailed is = is
tries_other n rules P Q (errors.Refused r) is = is
tries_other n rules P Q (errors.Stopped first) is = is

-- ---- what the lowest source tells

pub finds_source : (n code : ℕ) (breaks : ℕ → Type 0) (lowest : Option ℕ) (answer : Option Refusal) → answer ≡ told_source code lowest
    → IsLowestAnswer n breaks lowest → Finds n (of_source code breaks ∷ []) answer
finds_source n code breaks None answer is none = record { verdict = inl (none, is) }
finds_source n code breaks (Some k) answer is lowest = record { verdict = inr (k, lowest, is) }

pub finds_field : (n code : ℕ) (breaks : ℕ → Type 0) (field : ℕ → ℕ) (lowest : Option Differing) (answer : Option Refusal) → answer ≡ told_field code lowest
    → IsLowestField n breaks field lowest → Finds n (of_field code breaks field ∷ []) answer
finds_field n code breaks field None answer is none = record { verdict = inl (none, is) }
finds_field n code breaks field (Some d) answer is lowest =
    record { verdict = inr (d.source, lowest.0, is ∙ ap (λ f. Some (Merge code d.source f)) lowest.1) }
