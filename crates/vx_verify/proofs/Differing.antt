-- Inputs that differ aren't equal.
use Rattle.std.proofs.Common.{◌≡◌, ℕ, suc, ◌+◌, List, [], ◌∷◌, ◌++◌, length, slice_get, Some, refl, sym, ap, subst, ◌∙◌, inl, inr, arith}
use Rattle.std.proofs.lemmas.Option.{same_Some}
use Rattle.vx_pic.specs.declared.compare.Difference.{Difference}
use Rattle.vx_pic.specs.Differences.{DiffersFirst, Part, parts_in_force, parts_in_headers}
use Rattle.vx_pic.specs.Inputs.{Input, inputs_in}
use Rattle.vx_pic.specs.Parts.{Parts}
use Rattle.vx_pic.specs.inner.Compared.{AreSame}
use Rattle.vx_verify.specs.declared.inputs.Differing.{Differing}
use Rattle.vx_verify.specs.declared.mismatch.Mismatch.{Mismatch}
use Rattle.vx_verify.specs.declared.mismatch.Mismatch.TheVariants as mismatches
use Rattle.vx_verify.specs.Verified.{DiffersAt, HasInputs}
use Rattle.vx_verify.specs.inner.Found.{FindsInput}
use Rattle.vx_verify.proofs.Searching.{BeforeIt, lowest_file}

-- where all parts are the same none is the first that differs
none_first : (parts : List Part) (n : ℕ) (d : Difference) → AreSame parts → ¬ DiffersFirst parts n d
none_first [] n d same = λ first. first
none_first (p ∷ parts) n d same = λ first. elim first [ inl here ↦ here.0 same.0 | inr later ↦ none_first parts (n + 1) d same.1 later.1 ]

all_same : (a b : Input) → a ≡ b → AreSame (parts_in_headers a b ++ parts_in_force a b)
all_same a b same =
    let P : Input → Type 0 = λ c. AreSame (parts_in_headers a c ++ parts_in_force a c) in
    subst P same (refl, (refl, (refl, (refl, (refl, (refl, (refl, (refl, (refl, (refl, (refl, (refl, tt))))))))))))

unlike : (inputs others : List Input) (i : ℕ) (d : Difference) → DiffersAt inputs others i d → ¬ (inputs ≡ others)
unlike inputs others i d differs = λ same.
    let one : differs.input ≡ differs.other = same_Some differs.input differs.other (sym differs.here ∙ (ap (λ xs. slice_get xs i) same ∙ differs.there)) in
    none_first (parts_in_headers differs.input differs.other ++ parts_in_force differs.input differs.other) 1 d (all_same differs.input differs.other one) differs.differ

-- the source whose inputs differ first, and what is told of it
pub found_input : (finished : Parts) (round : List Parts) (k : ℕ) (q : Parts) (d : Differing) (m : Mismatch) → slice_get round k ≡ Some q
    → DiffersAt (inputs_in finished k) (inputs_in q 0) d.slice d.difference → BeforeIt round (HasInputs finished) k
    → m ≡ mismatches.Input (k + 1) d.slice d.difference → FindsInput finished round (Some m)
found_input finished round k q d m here differs before is =
    let other = unlike (inputs_in finished k) (inputs_in q 0) d.slice d.difference differs in
    let number : suc k ≡ k + 1 = omega arith in
    let told : m ≡ mismatches.Input (suc k) d.slice d.difference = is ∙ ap (λ n. mismatches.Input n d.slice d.difference) (sym number) in (
      suc k,
      lowest_file round (HasInputs finished) ⊥ (λ none. none) (length round) k (suc k) q refl number here other before,
      (q, here, (d.slice, d.difference, differs, told)),
    )
