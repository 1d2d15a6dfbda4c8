-- Numbers of several pictures, one picture more at a time.
use Rattle.std.proofs.Common.{◌≡◌, ℕ, ◌+◌, ◌<◌, Bool, true, false, cond, ◌||◌, List, [], ◌∷◌, ◌++◌, map, filter, take, length, get_or, Option, Some, refl, sym, ap, ◌∙◌, arith}
use Rattle.std.specs.Prelude.{◌==◌, min, max, unwrap_or}
use Rattle.std.specs.List.{list_any, zip}
use Rattle.std.proofs.lemmas.List.{map-append, append-nil, take_more, take_all, get_or_default}
use Rattle.std.proofs.lemmas.List.Elements.{filter_more}
use Rattle.std.proofs.lemmas.Slice.Zip.{get_or-zip, length-zip}
use Rattle.vx_fit.specs.declared.placed.Placed.{Placed}
use Rattle.vx_table.specs.Loaded.{number}
use Rattle.vx_pic.specs.Parts.{Parts}
use Rattle.vx_frame.specs.Shapes.{greatest, least, numbers_in_round, offsets_at}
use Rattle.vx_frame.specs.inner.Edges.{least_of, lesser, with_offset}

-- ---- the least

min_min : (a b c : ℕ) → min a (min b c) ≡ min (min a b) c
min_min a b c = omega arith

least_more : (n : ℕ) (xs : List ℕ) (y : ℕ) → least (n ∷ (xs ++ y ∷ [])) ≡ min (least (n ∷ xs)) y
least_more n [] y = refl
least_more n (x ∷ xs) y = ap (λ m. min n m) (least_more x xs y) ∙ min_min n (least (x ∷ xs)) y

least_of_more : (xs : List ℕ) (y : ℕ) → least_of (xs ++ y ∷ []) ≡ Some (lesser (least_of xs) y)
least_of_more [] y = refl
least_of_more (x ∷ xs) y = ap Some (least_more x xs y)

pub least_is : (xs : List ℕ) → unwrap_or (least_of xs) 0 ≡ least xs
least_is [] = refl
least_is (x ∷ xs) = refl

-- the offsets of the first regions
abbrev pub so_far : (Placed → Bool) → ℕ → List Placed → List Parts → ℕ → List ℕ
so_far touches of placed round k = map (λ r. number r.1.sps of) (filter (λ r. touches r.0) (take k (zip placed round)))

with_one : {R : Type 0} (f : R → ℕ) (xs : List R) (r : R) (b : Bool) → least_of (map f (xs ++ cond b (r ∷ []) [])) ≡ with_offset (least_of (map f xs)) b (f r)
with_one f xs r true = ap least_of (map-append f xs (r ∷ [])) ∙ least_of_more (map f xs) (f r)
with_one f xs r false = ap (λ ys. least_of (map f ys)) (append-nil xs)

pub one_more : (touches : Placed → Bool) (of : ℕ) (placed : List Placed) (round : List Parts) (k : ℕ) (p : Placed) (q : Parts) → length placed ≡ length round
    → k < length round → p ≡ get_or placed k p → q ≡ get_or round k q
    → least_of (so_far touches of placed round (k + 1)) ≡ with_offset (least_of (so_far touches of placed round k)) (touches p) (number q.sps of)
one_more touches of placed round k p q same within at_p at_q =
    let pairs : List (Placed × Parts) = zip placed round in
    let f : Placed × Parts → ℕ = λ r. number r.1.sps of in
    let test : Placed × Parts → Bool = λ r. touches r.0 in
    let long : length pairs ≡ min (length placed) (length round) = length-zip placed round in
    let here : get_or pairs k (p, q) ≡ (p, q) = get_or-zip placed round k (p, q) (omega (arith, within, same)) within ∙ ap (λ x. (x, get_or round k q)) (sym at_p) ∙ ap (λ x. (p, x)) (sym at_q) in
    ap (λ xs. least_of (map f xs))
    (filter_more test pairs k (p, q) (omega (arith, within, same, long))
    ∙ ap (λ r. filter test (take k pairs) ++ cond (test r) (r ∷ []) []) here)
    ∙ with_one f (filter test (take k pairs)) (p, q) (touches p)

pub all_of_them : (touches : Placed → Bool) (of : ℕ) (placed : List Placed) (round : List Parts) (k : ℕ) → length placed ≡ length round → k ≡ length round
    → so_far touches of placed round k ≡ offsets_at touches of placed round
all_of_them touches of placed round k same all =
    let long : length (zip placed round) ≡ min (length placed) (length round) = length-zip placed round in
    ap (λ xs. map (λ r. number r.1.sps of) (filter (λ r. touches r.0) xs)) (take_all k (zip placed round) (omega (arith, same, all, long)))

pub offset_step : (touches : Placed → Bool) (of : ℕ) (placed : List Placed) (round : List Parts) (k : ℕ) (d : Placed) (q : Parts) (is_there : Bool) (n : ℕ) (old new : Option ℕ)
    → length placed ≡ length round → k < length round → q ≡ get_or round k q → is_there ≡ touches (get_or placed k d) → n ≡ number q.sps of
    → new ≡ with_offset old is_there n → old ≡ least_of (so_far touches of placed round k) → new ≡ least_of (so_far touches of placed round (k + 1))
offset_step touches of placed round k d q is_there n old new same within at is_t is_n step before =
    step ∙ ap (λ b. with_offset old b n) is_t ∙ ap (λ m. with_offset old (touches (get_or placed k d)) m) is_n
    ∙ ap (λ o. with_offset o (touches (get_or placed k d)) (number q.sps of)) before
    ∙ sym (one_more touches of placed round k (get_or placed k d) q same within (get_or_default placed k d (get_or placed k d) (omega (arith, same, within))) at)

pub offset_all : (touches : Placed → Bool) (of : ℕ) (placed : List Placed) (round : List Parts) (k : ℕ) (o : Option ℕ) (n : ℕ) → length placed ≡ length round → k ≡ length round
    → n ≡ unwrap_or o 0 → o ≡ least_of (so_far touches of placed round k) → n ≡ least (offsets_at touches of placed round)
offset_all touches of placed round k o n same all is before =
    is ∙ ap (λ x. unwrap_or x 0) before ∙ least_is (so_far touches of placed round k) ∙ ap least (all_of_them touches of placed round k same all)

-- ---- the greatest

max_max : (a b c : ℕ) → max a (max b c) ≡ max b (max a c)
max_max a b c = omega arith

greatest_more : (xs : List ℕ) (y : ℕ) → greatest (xs ++ y ∷ []) ≡ max y (greatest xs)
greatest_more [] y = refl
greatest_more (x ∷ xs) y = ap (λ m. max x m) (greatest_more xs y) ∙ max_max x y (greatest xs)

numbers_more : (round : List Parts) (of k : ℕ) (q : Parts) → k < length round → q ≡ get_or round k q
    → numbers_in_round (take (k + 1) round) of ≡ numbers_in_round (take k round) of ++ number q.sps of ∷ []
numbers_more round of k q within at =
    let f : Parts → ℕ = λ q. number q.sps of in
    ap (map f) (take_more round k q within ∙ ap (λ x. take k round ++ x ∷ []) (sym at)) ∙ map-append f (take k round) (q ∷ [])

greatest_next : (round : List Parts) (of k : ℕ) (q : Parts) → k < length round → q ≡ get_or round k q
    → greatest (numbers_in_round (take (k + 1) round) of) ≡ max (number q.sps of) (greatest (numbers_in_round (take k round) of))
greatest_next round of k q within at = ap greatest (numbers_more round of k q within at) ∙ greatest_more (numbers_in_round (take k round) of) (number q.sps of)

pub greatest_step : (round : List Parts) (of k : ℕ) (q : Parts) (n old new : ℕ) → k < length round → q ≡ get_or round k q → n ≡ number q.sps of → new ≡ max n old
    → old ≡ greatest (numbers_in_round (take k round) of) → new ≡ greatest (numbers_in_round (take (k + 1) round) of)
greatest_step round of k q n old new within at is step before =
    step ∙ ap (λ m. max m old) is ∙ ap (λ m. max (number q.sps of) m) before ∙ sym (greatest_next round of k q within at)

-- ---- whether one is 0

any_more : (test : ℕ → Bool) (xs : List ℕ) (y : ℕ) → list_any test (xs ++ y ∷ []) ≡ (list_any test xs || test y)
any_more test [] y = or_false (test y)
  where
    or_false : (b : Bool) → (b || false) ≡ b
    or_false true = refl
    or_false false = refl
any_more test (x ∷ xs) y = ap (λ b. test x || b) (any_more test xs y) ∙ assoc (test x) (list_any test xs) (test y)
  where
    assoc : (a b c : Bool) → (a || (b || c)) ≡ ((a || b) || c)
    assoc true b c = refl
    assoc false b c = refl

pub zero_step : (round : List Parts) (of k : ℕ) (q : Parts) (n : ℕ) (old new : Bool) → k < length round → q ≡ get_or round k q → n ≡ number q.sps of → new ≡ (old || n == 0)
    → old ≡ list_any (λ n. n == 0) (numbers_in_round (take k round) of) → new ≡ list_any (λ n. n == 0) (numbers_in_round (take (k + 1) round) of)
zero_step round of k q n old new within at is step before =
    step ∙ ap (λ b. b || n == 0) before ∙ ap (λ m. list_any (λ n. n == 0) (numbers_in_round (take k round) of) || m == 0) is
    ∙ sym (any_more (λ n. n == 0) (numbers_in_round (take k round) of) (number q.sps of)) ∙ ap (list_any (λ n. n == 0)) (sym (numbers_more round of k q within at))
