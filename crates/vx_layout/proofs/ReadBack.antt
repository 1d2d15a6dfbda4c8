-- Sizes that are listed, and what is read back from them.
use Rattle.std.proofs.Common.{◌≡◌, ℕ, ◌+◌, ◌-◌, ◌<◌, ◌≤◌, leb, List, [], ◌∷◌, ◌++◌, length, take, sum, refl, ap, sym, ◌∙◌, subst, inl, inr, arith}
use Rattle.std.proofs.lemmas.Bool.{cases_Bool, cases_lt, leb-true}
use Rattle.std.proofs.lemmas.List.{append-nil, length-take-le, take_all, take_more}
use Rattle.std.proofs.lemmas.List.Elements.{All-cons, All-nil}
use Rattle.std.proofs.lemmas.List.Sums.{sum_by-append, sum_by-cons}
use Rattle.std.specs.List.{All}
use Rattle.vx_layout.specs.Bounds.{Rises, RisesAbove, bounds_of, gaps_after, last, last_after, repeated_sizes, sizes_between, sums_after, tile_sizes}
use Rattle.vx_layout.specs.Heights.{all_but_last, written_heights}
use Rattle.vx_layout.proofs.Tiling.{last-get_or, repeated_sizes-more, repeated_sizes-none, repeated_sizes-rest}

pub last-some : (sizes : List ℕ) → 0 < length sizes → All (λ s. 1 ≤ s) sizes → 1 ≤ last sizes
last-some sizes some all = subst (λ n. 1 ≤ n) (last-get_or sizes some) (all (length sizes - 1) 0 (omega arith))

-- sizes that are all listed
pub tile_sizes-all : (sizes : List ℕ) → 0 < length sizes → All (λ s. 1 ≤ s) sizes → tile_sizes sizes (sum sizes) ≡ sizes
tile_sizes-all sizes some all =
    let none : sum sizes - sum sizes ≡ 0 = omega arith in
    ap (λ n. sizes ++ repeated_sizes (last sizes) n) none
    ∙ (ap (λ t. sizes ++ t) (repeated_sizes-none (last sizes) (last-some sizes some all)) ∙ append-nil sizes)

pub bounds_of-all : (sizes : List ℕ) → 0 < length sizes → All (λ s. 1 ≤ s) sizes → bounds_of sizes (sum sizes) ≡ 0 ∷ sums_after 0 sizes
bounds_of-all sizes some all = ap (λ t. 0 ∷ sums_after 0 t) (tile_sizes-all sizes some all)

-- a rest that isn't above the size
repeated_sizes-one : (size left : ℕ) → 1 ≤ left → left ≤ size → repeated_sizes size left ≡ left ∷ []
repeated_sizes-one size left some low =
    elim (cases_lt left size) [
      | inl less ↦ repeated_sizes-rest size left (omega arith) less
      | inr level ↦
          let same : size ≡ left = omega arith in
          let none : left - left ≡ 0 = omega arith in
          subst (λ n. repeated_sizes n left ≡ left ∷ []) (sym same)
          (repeated_sizes-more left left some (omega arith) ∙ (ap (λ n. left ∷ repeated_sizes left n) none ∙ ap (λ t. left ∷ t) (repeated_sizes-none left some)))
    ]

-- the last height apart from the others
pub split_last : (hs : List ℕ) → 0 < length hs → all_but_last hs ++ last hs ∷ [] ≡ hs
split_last hs some =
    let end : length hs - 1 + 1 ≡ length hs = omega arith in
    let more = take_more hs (length hs - 1) 0 (omega arith) in
    let whole : take (length hs - 1 + 1) hs ≡ hs = ap (λ n. take n hs) end ∙ take_all (length hs) hs (omega arith) in
    ap (λ n. all_but_last hs ++ n ∷ []) (sym (last-get_or hs some)) ∙ (sym more ∙ whole)

pub heights_read : (hs : List ℕ) → 0 < length hs → All (λ h. 1 ≤ h) hs → tile_sizes (written_heights hs) (sum hs) ≡ hs
heights_read hs some all =
    elim (cases_Bool (leb (last hs) (last (all_but_last hs)))) [
      | inr higher ↦ rw higher (tile_sizes-all hs some all)
      | inl level ↦
          let low : last hs ≤ last (all_but_last hs) = leb-true _ _ level in
          let whole : sum hs ≡ sum (all_but_last hs) + last hs =
          ap sum (sym (split_last hs some)) ∙ (sum_by-append (λ n. n) (all_but_last hs) (last hs ∷ []) ∙ omega arith)
          in
          let left : sum hs - sum (all_but_last hs) ≡ last hs = omega arith in
          rw level
          (ap (λ n. all_but_last hs ++ repeated_sizes (last (all_but_last hs)) n) left
          ∙ (ap (λ t. all_but_last hs ++ t) (repeated_sizes-one (last (all_but_last hs)) (last hs) (last-some hs some all) low) ∙ split_last hs some))
    ]

pub heights_some : (hs : List ℕ) → 2 ≤ length hs → 0 < length (written_heights hs)
heights_some hs several =
    let fewer : length (all_but_last hs) ≡ length hs - 1 = length-take-le (length hs - 1) hs (omega arith) in
    elim (cases_Bool (leb (last hs) (last (all_but_last hs)))) [ inl level ↦ rw level (omega (arith, fewer)) | inr higher ↦ rw higher (omega arith) ]

-- sizes between bounds, and bounds made of sizes
gaps_after-sums : (a : ℕ) (sizes : List ℕ) → gaps_after a (sums_after a sizes) ≡ sizes
gaps_after-sums a [] = refl
gaps_after-sums a (s ∷ ss) =
    let first : a + s - a ≡ s = omega arith in
    ap (λ n. n ∷ gaps_after (a + s) (sums_after (a + s) ss)) first ∙ ap (λ t. s ∷ t) (gaps_after-sums (a + s) ss)

pub sizes_between-sums : (sizes : List ℕ) → sizes_between (0 ∷ sums_after 0 sizes) ≡ sizes
sizes_between-sums sizes = gaps_after-sums 0 sizes

sums_after-gaps : (a : ℕ) (bs : List ℕ) → RisesAbove a bs → sums_after a (gaps_after a bs) ≡ bs
sums_after-gaps a [] rises = refl
sums_after-gaps a (b ∷ bs) rises =
    let above : a < b = rises.0 in
    let first : a + (b - a) ≡ b = omega arith in
    ap (λ n. n ∷ sums_after n (gaps_after b bs)) first ∙ ap (λ t. b ∷ t) (sums_after-gaps b bs rises.1)

gaps_after-some : (a : ℕ) (bs : List ℕ) → RisesAbove a bs → All (λ s. 1 ≤ s) (gaps_after a bs)
gaps_after-some a [] rises = All-nil (λ s. 1 ≤ s)
gaps_after-some a (b ∷ bs) rises =
    let above : a < b = rises.0 in
    All-cons (λ s. 1 ≤ s) (b - a) (gaps_after b bs) (omega arith) (gaps_after-some b bs rises.1)

sum-gaps_after : (a : ℕ) (bs : List ℕ) → RisesAbove a bs → a + sum (gaps_after a bs) ≡ last_after a bs
sum-gaps_after a [] rises = omega arith
sum-gaps_after a (b ∷ bs) rises =
    let above : a < b = rises.0 in
    omega (arith, sum_by-cons (λ n. n) (b - a) (gaps_after b bs), sum-gaps_after b bs rises.1)

length-gaps_after : (a : ℕ) (bs : List ℕ) → length (gaps_after a bs) ≡ length bs
length-gaps_after a [] = refl
length-gaps_after a (b ∷ bs) = omega (arith, length-gaps_after b bs)

pub sizes_between-some : (bs : List ℕ) → Rises bs → All (λ s. 1 ≤ s) (sizes_between bs)
sizes_between-some [] rises = All-nil (λ s. 1 ≤ s)
sizes_between-some (a ∷ bs) rises = gaps_after-some a bs rises.1

pub sum-sizes_between : (bs : List ℕ) → Rises bs → sum (sizes_between bs) ≡ last bs
sum-sizes_between [] rises = omega arith
sum-sizes_between (a ∷ bs) rises = omega (arith, rises.0, sum-gaps_after a bs rises.1)

pub length-sizes_between : (bs : List ℕ) → length (sizes_between bs) ≡ length bs - 1
length-sizes_between [] = omega arith
length-sizes_between (a ∷ bs) = omega (arith, length-gaps_after a bs)

sums-sizes_between : (bs : List ℕ) → 0 < length bs → Rises bs → 0 ∷ sums_after 0 (sizes_between bs) ≡ bs
sums-sizes_between [] some rises = absurd (omega arith)
sums-sizes_between (a ∷ bs) some rises =
    ap (λ n. 0 ∷ sums_after n (gaps_after a bs)) (sym rises.0) ∙ (ap (λ t. 0 ∷ t) (sums_after-gaps a bs rises.1) ∙ ap (λ n. n ∷ bs) (sym rises.0))

pub bounds_of-sizes : (bs : List ℕ) → Rises bs → 2 ≤ length bs → bounds_of (sizes_between bs) (last bs) ≡ bs
bounds_of-sizes bs rises several =
    ap (λ n. bounds_of (sizes_between bs) n) (sym (sum-sizes_between bs rises))
    ∙ (bounds_of-all (sizes_between bs) (omega (arith, length-sizes_between bs)) (sizes_between-some bs rises) ∙ sums-sizes_between bs (omega arith) rises)
