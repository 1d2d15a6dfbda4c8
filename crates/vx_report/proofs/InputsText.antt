-- The lines of the slices of a picture, as they go on.
use Rattle.std.proofs.Common.{◌≡◌, ℕ, zero, suc, ◌+◌, ◌<◌, ◌≤◌, List, [], ◌∷◌, ◌++◌, ◌∙◌, Option, Some, None, length, inl, inr, refl, sym, ap, arith, append_assoc, append-nil}
use Rattle.std.specs.Prelude.{slice_get, option_map, unwrap_or, IfSome}
use Rattle.std.proofs.lemmas.Option.{slice_get_cases}
use Rattle.std.proofs.lemmas.List.Concat.{flat_map-append}
use Rattle.std.specs.List.{flat_map, range_with_len}
use Rattle.vx_pic.specs.Parts.{Parts, SlicePart}
use Rattle.vx_pic.specs.Inputs.{Input, input_in}
use Rattle.vx_report.specs.declared.slice.SliceNumbers.{SliceNumbers}
use Rattle.vx_report.specs.SliceLine.{slice_numbers, slice_text}
use Rattle.vx_report.specs.InputLines.{input_text, input_text_at, inputs_text}

-- those of the first n
abbrev pub first_inputs : ℕ → Parts → ℕ → List ℕ
first_inputs before p n = flat_map (input_text_at before p) (range_with_len 0 n)

range_more : (a n : ℕ) → range_with_len a (suc n) ≡ range_with_len a n ++ (a + n) ∷ []
range_more a zero = let e : a ≡ a + 0 = omega arith in ap (λ x. x ∷ []) e
range_more a (suc n) =
    let e : (a + 1) + n ≡ a + suc n = omega arith in
    ap (λ xs. a ∷ xs) (range_more (a + 1) n ∙ ap (λ x. range_with_len (a + 1) n ++ x ∷ []) e)

first_more : (before : ℕ) (p : Parts) (n : ℕ) → first_inputs before p (n + 1) ≡ first_inputs before p n ++ input_text_at before p n
first_more before p n =
    let f = input_text_at before p in
    let next : n + 1 ≡ suc n = omega arith in
    let here : 0 + n ≡ n = omega arith in
    ap (first_inputs before p) next
    ∙ ap (flat_map f) (range_more 0 n)
    ∙ flat_map-append f (range_with_len 0 n) ((0 + n) ∷ [])
    ∙ ap (λ l. first_inputs before p n ++ l) (append-nil (f (0 + n)) ∙ ap f here)

pub inputs_none : (before : ℕ) (p : Parts) (old : List ℕ) → old ≡ old ++ first_inputs before p 0
inputs_none before p old = sym (append-nil old)

pub inputs_more : (before : ℕ) (p : Parts) (i : ℕ) (old so_far new : List ℕ) → so_far ≡ old ++ first_inputs before p i
    → new ≡ so_far ++ input_text_at before p i → new ≡ old ++ first_inputs before p (i + 1)
inputs_more before p i old so_far new is more =
    more
    ∙ ap (λ l. l ++ input_text_at before p i) is
    ∙ append_assoc old (first_inputs before p i) (input_text_at before p i)
    ∙ ap (λ l. old ++ l) (sym (first_more before p i))

pub inputs_all : (before : ℕ) (p : Parts) (i : ℕ) (old new : List ℕ) → i ≡ length p.slices → new ≡ old ++ first_inputs before p i
    → new ≡ old ++ inputs_text before p
inputs_all before p i old new same is = is ∙ ap (λ n. old ++ first_inputs before p n) same

-- ---- one of them

within_some : {X : Type 0} (xs : List X) (i : ℕ) → i < length xs → slice_get xs i ≡ None → ⊥
within_some xs i low none = elim (slice_get_cases xs i).1 [
  | inl found ↦ let is : None ≡ Some found.0 = sym none ∙ found.2 in absurd (cc)
  | inr past ↦ let high : length xs ≤ i = past.0 in absurd (omega arith)
]

of_slice : (before : ℕ) (p : Parts) (i : ℕ) (n : SliceNumbers) (d : Input) (line : List ℕ) (o : Option SlicePart) → (o ≡ None → ⊥)
    → IfSome o (λ s. n ≡ slice_numbers before p i s) → IfSome o (λ s. d ≡ input_in p s) → line ≡ slice_text n d
    → line ≡ unwrap_or (option_map (input_text before p i) o) []
of_slice before p i n d line None some numbers input is = absurd (some refl)
of_slice before p i n d line (Some s) some numbers input is =
    is ∙ ap (λ m. slice_text m d) numbers ∙ ap (slice_text (slice_numbers before p i s)) input

-- the line of the slice at a place
pub line_is : (before : ℕ) (p : Parts) (i : ℕ) (n : SliceNumbers) (d : Input) (line : List ℕ) → i < length p.slices
    → IfSome (slice_get p.slices i) (λ s. n ≡ slice_numbers before p i s) → IfSome (slice_get p.slices i) (λ s. d ≡ input_in p s)
    → line ≡ slice_text n d → line ≡ input_text_at before p i
unfolding input_text_at
line_is before p i n d line low numbers input is = of_slice before p i n d line (slice_get p.slices i) (within_some p.slices i low) numbers input is
