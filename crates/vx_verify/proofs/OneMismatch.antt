-- One mismatch is told of a round.
use Rattle.std.proofs.Common.{◌≡◌, ℕ, zero, suc, ◌+◌, ◌<◌, List, [], ◌∷◌, ◌++◌, ◌∙◌, Some, length, take, slice_get, inl, inr, sym, ap, refl, subst, arith}
use Rattle.std.proofs.lemmas.Bool.{cases_lt}
use Rattle.std.proofs.lemmas.Option.{same_Some}
use Rattle.vx_fit.specs.Lowest.{IsLowest}
use Rattle.vx_pic.specs.declared.compare.Difference.{Difference}
use Rattle.vx_pic.specs.Differences.{Part, DiffersFirst, IsDifference, parts_in_headers, parts_in_force}
use Rattle.vx_pic.specs.Inputs.{Input, inputs_in}
use Rattle.vx_pic.specs.Parts.{Parts}
use Rattle.vx_verify.specs.declared.mismatch.Mismatch.{Mismatch}
use Rattle.vx_verify.specs.declared.mismatch.Mismatch.TheVariants as mismatches
use Rattle.vx_verify.specs.Verified.{Check, IsFirst, DiffersAt, TellsInput, count_check, corner_check, slice_check, input_check, MismatchIsOne}

-- ---- the first check that a file fails

lowest_one : (n : ℕ) (Breaks : ℕ → Type 0) (j k : ℕ) → IsLowest n Breaks j → IsLowest n Breaks k → j ≡ k
lowest_one n Breaks j k p q = elim (cases_lt j k) [
  | inl before ↦ absurd (q.lower j before p.breaks)
  | inr behind ↦ elim (cases_lt k j) [
    | inl after ↦ absurd (p.lower k after q.breaks)
    | inr not_ ↦ omega (arith, behind, not_)
  ]
]

-- each of these checks tells one thing of a file
abbrev TellOne : List Check → Type 0
TellOne [] = Unit {0}
TellOne (c ∷ checks) = ((k : ℕ) (m other : Mismatch) → c.tells k m → c.tells k other → m ≡ other) × TellOne checks

first_one : (n : ℕ) (checks : List Check) → TellOne checks → (m other : Mismatch) → IsFirst n checks m → IsFirst n checks other → m ≡ other
first_one n [] all m other p q = absurd p
first_one n (c ∷ checks) all m other (inl p) (inl q) = first_one n checks all.1 m other p.1 q.1
first_one n (c ∷ checks) all m other (inl p) (inr q) = absurd (p.0 q.0 q.1.in_range q.1.breaks)
first_one n (c ∷ checks) all m other (inr p) (inl q) = absurd (q.0 p.0 p.1.in_range p.1.breaks)
first_one n (c ∷ checks) all m other (inr p) (inr q) =
    all.0 q.0 m other (subst (λ (k : ℕ). c.tells k m) (lowest_one n c.fails p.0 q.0 p.1 q.1) p.2) q.2

-- ---- the first slice whose inputs differ, and the first part of these

parts_one : (ps : List Part) (n : ℕ) (d e : Difference) → DiffersFirst ps n d → DiffersFirst ps n e → d ≡ e
parts_one [] n d e p q = absurd p
parts_one (x ∷ ps) n d e (inl p) (inl q) = p.1 ∙ sym q.1
parts_one (x ∷ ps) n d e (inl p) (inr q) = absurd (p.0 q.0)
parts_one (x ∷ ps) n d e (inr p) (inl q) = absurd (q.0 p.0)
parts_one (x ∷ ps) n d e (inr p) (inr q) = parts_one ps (n + 1) d e p.1 q.1

-- an input doesn't differ from itself
abbrev AllSame : List Part → Type 0
AllSame [] = Unit {0}
AllSame (p ∷ more) = p.same × AllSame more

same_none : (ps : List Part) (n : ℕ) (d : Difference) → AllSame ps → DiffersFirst ps n d → ⊥
same_none [] n d all p = p
same_none (x ∷ ps) n d all (inl p) = p.0 all.0
same_none (x ∷ ps) n d all (inr p) = same_none ps (n + 1) d all.1 p.1

differs_not : (a b : Input) (d : Difference) → a ≡ b → IsDifference a b (Some d) → ⊥
differs_not a b d same p =
    let own : IsDifference a a (Some d) = subst (λ (x : Input). IsDifference a x (Some d)) (sym same) p in
    same_none (parts_in_headers a a ++ parts_in_force a a) 1 d (refl, (refl, (refl, (refl, (refl, (refl, (refl, (refl, (refl, (refl, (refl, (refl, tt)))))))))))) own

taken_same : {A : Type 0} (n : ℕ) (xs ys : List A) → take n xs ≡ take n ys → (i : ℕ) → i < n → slice_get xs i ≡ slice_get ys i
taken_same zero xs ys same i within = absurd (omega (arith, within))
taken_same (suc n) [] [] same i within = refl
taken_same (suc n) [] (y ∷ ys) same i within = absurd (omega (arith, ap (λ l. length l) same))
taken_same (suc n) (x ∷ xs) [] same i within = absurd (omega (arith, ap (λ l. length l) same))
taken_same {A = A} (suc n) (x ∷ xs) (y ∷ ys) same zero within = ap (λ (l : List A). slice_get l 0) same
taken_same {A = A} (suc n) (x ∷ xs) (y ∷ ys) same (suc i) within = taken_same n xs ys (cc) i (omega (arith, within))

-- up to a slice where they differ nothing did before
not_before : (xs ys : List Input) (i j : ℕ) (d e : Difference) → DiffersAt xs ys i d → DiffersAt xs ys j e → i < j → ⊥
not_before xs ys i j d e p q before =
    let same : p.input ≡ p.other = same_Some p.input p.other (sym p.here ∙ taken_same j xs ys q.before i before ∙ p.there) in
    differs_not p.input p.other d same p.differ

slice_one : (xs ys : List Input) (i j : ℕ) (d e : Difference) → DiffersAt xs ys i d → DiffersAt xs ys j e → i ≡ j
slice_one xs ys i j d e p q = elim (cases_lt i j) [
  | inl before ↦ absurd (not_before xs ys i j d e p q before)
  | inr behind ↦ elim (cases_lt j i) [
    | inl after ↦ absurd (not_before xs ys j i e d q p after)
    | inr not_ ↦ omega (arith, behind, not_)
  ]
]

difference_one : (xs ys : List Input) (i j : ℕ) (d e : Difference) → DiffersAt xs ys i d → DiffersAt xs ys j e → d ≡ e
difference_one xs ys i j d e p q =
    let at = slice_one xs ys i j d e p q in
    let left : p.input ≡ q.input = same_Some p.input q.input (sym p.here ∙ ap (λ (k : ℕ). slice_get xs k) at ∙ q.here) in
    let right : p.other ≡ q.other = same_Some p.other q.other (sym p.there ∙ ap (λ (k : ℕ). slice_get ys k) at ∙ q.there) in
    let moved = subst (λ (x : Input). IsDifference x q.other (Some d)) left (subst (λ (y : Input). IsDifference p.input y (Some d)) right p.differ) in
    parts_one (parts_in_headers q.input q.other ++ parts_in_force q.input q.other) 1 d e moved q.differ

input_one : (finished : Parts) (round : List Parts) (k : ℕ) (m other : Mismatch) → TellsInput finished round k m → TellsInput finished round k other → m ≡ other
input_one finished round zero m other p q = absurd p
input_one finished round (suc k) m other p q =
    let xs = inputs_in finished k in
    let ys = inputs_in q.0 0 in
    let source : p.0 ≡ q.0 = same_Some p.0 q.0 (sym p.1 ∙ q.1) in
    let differs = subst (λ (x : Parts). DiffersAt xs (inputs_in x 0) p.2.0 p.2.1) source p.2.2 in
    let slice = slice_one xs ys p.2.0 q.2.0 p.2.1 q.2.1 differs q.2.2 in
    let difference = difference_one xs ys p.2.0 q.2.0 p.2.1 q.2.1 differs q.2.2 in
    p.2.3 ∙ ap (λ (i : ℕ). mismatches.Input (suc k) i p.2.1) slice ∙ ap (λ (d : Difference). mismatches.Input (suc k) q.2.0 d) difference ∙ sym q.2.3

pub mismatch_one : MismatchIsOne
mismatch_one spots finished round m other p q =
    first_one (suc (length round)) (count_check finished round ∷ corner_check spots finished ∷ slice_check finished round ∷ input_check finished round ∷ [])
    (λ k a b x y. x ∙ sym y, (λ k a b x y. x ∙ sym y, (λ k a b x y. x ∙ sym y, (input_one finished round, tt)))) m other p q
