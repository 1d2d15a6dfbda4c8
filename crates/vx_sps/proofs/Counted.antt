-- Items of a field, one by one.
use Rattle.std.proofs.Common.{◌≡◌, ℕ, zero, suc, ◌+◌, ◌<◌, nat_lt, ltb-true, ltb-false, Bool, true, false, cond, List, [], ◌∷◌, ◌++◌, length, take, map, filter, slice_get, Option, Some, refl, arith, ap, sym, ◌∙◌}
use Rattle.std.specs.Prelude.{◌==◌, ◌&&◌}
use Rattle.std.proofs.lemmas.List.{map-append, append-nil, length-append}
use Rattle.std.proofs.lemmas.List.Elements.{filter_more}
use Rattle.std.proofs.lemmas.List.Sums.{count_by_more_yes, count_by_more_no}
use Rattle.std.proofs.lemmas.Option.{slice_get_within, get_or_from_slice_get}
use Rattle.vx_bits.specs.declared.list.Item.{Item}
use Rattle.vx_table.specs.Scope.{natural, capped, is_set}
use Rattle.vx_sps.specs.Set.{set_flags}
use Rattle.vx_table.specs.Loaded.{numbers_of}
use Rattle.vx_sps.specs.declared.subpictures.Subpicture.{Subpicture}
use Rattle.vx_sps.specs.inner.Kept.{subpicture_of, AreSubpictures}

mapped : (b : Bool) (item : Item) → map (λ (x : Item). natural x.value) (cond b (item ∷ []) []) ≡ cond b (natural item.value ∷ []) []
mapped true item = refl
mapped false item = refl

more : (items : List Item) (of i : ℕ) (item : Item) → slice_get items i ≡ Some item
    → numbers_of (take (i + 1) items) of ≡ numbers_of (take i items) of ++ cond (item.field == of) (natural item.value ∷ []) []
more items of i item at =
    let within = slice_get_within items i item at in
    let same = get_or_from_slice_get items i item item at in
    let found : filter (λ (x : Item). x.field == of) (take (i + 1) items) ≡ filter (λ (x : Item). x.field == of) (take i items) ++ cond (item.field == of) (item ∷ []) []
    = filter_more (λ (x : Item). x.field == of) items i item within ∙ ap (λ (x : Item). filter (λ (y : Item). y.field == of) (take i items) ++ cond (x.field == of) (x ∷ []) []) same in
    ap (λ xs. map (λ (x : Item). natural x.value) xs) found
    ∙ map-append (λ (x : Item). natural x.value) (filter (λ (x : Item). x.field == of) (take i items)) (cond (item.field == of) (item ∷ []) [])
    ∙ ap (λ xs. numbers_of (take i items) of ++ xs) (mapped (item.field == of) item)

-- a number of the field more, or none
pub number_more : (items : List Item) (of i : ℕ) (item : Item) → slice_get items i ≡ Some item → (item.field == of) ≡ true
    → numbers_of (take (i + 1) items) of ≡ numbers_of (take i items) of ++ natural item.value ∷ []
number_more items of i item at is = more items of i item at ∙ ap (λ b. numbers_of (take i items) of ++ cond b (natural item.value ∷ []) []) is

pub number_passed : (items : List Item) (of i : ℕ) (item : Item) → slice_get items i ≡ Some item → (item.field == of) ≡ false
    → numbers_of (take (i + 1) items) of ≡ numbers_of (take i items) of
number_passed items of i item at is =
    more items of i item at ∙ ap (λ b. numbers_of (take i items) of ++ cond b (natural item.value ∷ []) []) is ∙ append-nil (numbers_of (take i items) of)

-- a flag more that is 1, or none
pub flag_more : (items : List Item) (of i : ℕ) (item : Item) → slice_get items i ≡ Some item → (item.field == of && is_set (natural item.value)) ≡ true
    → set_flags of (take (i + 1) items) ≡ capped (set_flags of (take i items) + 1)
flag_more items of i item at is =
    let test : Item → Bool = λ x. x.field == of && is_set (natural x.value) in
    let on = count_by_more_yes test items i item (slice_get_within items i item at) (ap test (get_or_from_slice_get items i item item at) ∙ is) in
    omega (arith, on)

pub flag_passed : (items : List Item) (of i : ℕ) (item : Item) → slice_get items i ≡ Some item → (item.field == of && is_set (natural item.value)) ≡ false
    → set_flags of (take (i + 1) items) ≡ set_flags of (take i items)
flag_passed items of i item at is =
    let test : Item → Bool = λ x. x.field == of && is_set (natural x.value) in
    ap capped (count_by_more_no test items i item (slice_get_within items i item at) (ap test (get_or_from_slice_get items i item item at) ∙ is))

-- a list with one entry more
get_before : {X : Type 0} (xs ys : List X) (k : ℕ) → k < length xs → slice_get (xs ++ ys) k ≡ slice_get xs k
get_before [] ys k below = absurd (omega (arith, below))
get_before (x ∷ xs) ys zero below = refl
get_before (x ∷ xs) ys (suc k) below = get_before xs ys k (omega (arith, below))

get_last : {X : Type 0} (xs : List X) (y : X) (k : ℕ) → k ≡ length xs → slice_get (xs ++ y ∷ []) k ≡ Some y
get_last [] y zero same = refl
get_last [] y (suc k) same = absurd (omega (arith, same))
get_last (x ∷ xs) y zero same = absurd (omega (arith, same))
get_last (x ∷ xs) y (suc k) same = get_last xs y k (omega (arith, same))

-- one subpicture more
one_of : (items : List Item) (i : ℕ) (list : List Subpicture) → AreSubpictures items i list → (k : ℕ) (b : Bool) → nat_lt k i ≡ b → k < i + 1
    → slice_get (list ++ subpicture_of items i ∷ []) k ≡ Some (subpicture_of items k)
one_of items i list are k true before below =
    let less = ltb-true k i before in
    let count = are.count in
    get_before list (subpicture_of items i ∷ []) k (omega (arith, less, count)) ∙ are.each k less
one_of items i list are k false before below =
    let same : k ≡ i = omega (arith, ltb-false k i before, below) in
    get_last list (subpicture_of items i) k (same ∙ sym are.count) ∙ ap (λ n. Some (subpicture_of items n)) (sym same)

pub subpicture_more : (items : List Item) (i : ℕ) (list : List Subpicture) → AreSubpictures items i list
    → AreSubpictures items (i + 1) (list ++ subpicture_of items i ∷ [])
subpicture_more items i list are = record {
  count = length-append list (subpicture_of items i ∷ []) ∙ ap (λ n. n + 1) are.count;
  each = λ k below. one_of items i list are k (nat_lt k i) refl below;
}

pub same_entry : {X : Type 0} (o : Option X) (x y : X) → o ≡ Some x → o ≡ Some y → x ≡ y
same_entry o x y one other = (cc)
