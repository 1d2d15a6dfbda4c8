-- The items of one field: of those that are rewritten, and of lists that are put together.
use Rattle.std.proofs.Common.{◌≡◌, inl, inr, ℕ, ℤ, pos, zero, suc, ◌+◌, ◌<◌, ◌^◌, min, true, false, cond, ◌==◌, IsFalse, List, [], ◌∷◌, ◌++◌, length, slice_index, slice_set, replicate, refl, ap, sym, ◌∙◌, arith}
use Rattle.std.specs.Prelude.{Bool, filter}
use Rattle.std.proofs.lemmas.Bool.{cases_Bool, cases_lt, eq-eqb, eqb-true, false≢true}
use Rattle.std.proofs.lemmas.Grind.{get_or-set_at}
use Rattle.std.proofs.lemmas.List.{append-nil, length-set, get_or-set_other, set_past}
use Rattle.std.proofs.lemmas.List.Elements.{All-nil, filter-append}
use Rattle.vx_bits.specs.declared.list.Item.{Item}
use Rattle.vx_bits.specs.Fields.{first_value}
use Rattle.vx_table.specs.declared.rows.Cell.{Cell}
use Rattle.vx_table.specs.EachField.{EachField}
use Rattle.vx_table.specs.Forms.{Form, has_value}
use Rattle.vx_table.specs.Scope.{fresh, most, natural, loaded}
use Rattle.vx_table.specs.Spelling.{item_of, items_along}
use Rattle.vx_table.specs.Values.{Follows, to_end, through}
use Rattle.vx_table.specs.Depends.{has}
use Rattle.vx_table.specs.Loaded.{number}
use Rattle.vx_table.specs.Rewritten.{other_items}
use Rattle.vx_table.specs.Rewrites.{in_all_turns}
use Rattle.vx_table.proofs.Loading.{number_of_last, number_of_none}

abbrev pub with_field : ℕ → List Item → List Item
with_field of items = filter (λ item. item.field == of) items

-- ---- they tell a field's numbers

pub number_with : (of : ℕ) (items : List Item) → number items of ≡ number (with_field of items) of
number_with of items = go fresh fresh items refl refl
  where
    go : (s t : List ℕ) (items : List Item) → length s ≡ length t → slice_index s of ≡ slice_index t of → slice_index (loaded s items) of ≡ slice_index (loaded t (with_field of items)) of
    go s t [] size same = same
    go s t (item ∷ items) size same = elim (cases_Bool (item.field == of)) [
      | inl is ↦ rw is
          (go (slice_set s item.field (natural item.value)) (slice_set t item.field (natural item.value)) items (length-set s item.field (natural item.value) ∙ size ∙ sym (length-set t item.field (natural item.value)))
          (both s t item.field (natural item.value) (eqb-true item.field of is) size same))
      | inr other ↦ rw other
          (go (slice_set s item.field (natural item.value)) t items (length-set s item.field (natural item.value) ∙ size)
          (get_or-set_other s item.field of (natural item.value) 0 (λ e. false≢true (sym other ∙ eq-eqb item.field of (sym e))) ∙ same))
    ]
      where
        both : (s t : List ℕ) (n v : ℕ) → n ≡ of → length s ≡ length t → slice_index s of ≡ slice_index t of → slice_index (slice_set s n v) of ≡ slice_index (slice_set t n v) of
        both s t n v is size same = elim (cases_lt n (length s)) [
          | inl within ↦ get_or-set_at s n of v 0 (sym is) within ∙ sym (get_or-set_at t n of v 0 (sym is) (omega (arith, size)))
          | inr past ↦ rw (set_past s n v past, set_past t n v (omega (arith, size))) same
        ]

-- items of a field that isn't one of some names are those of the others
pub others_with : (names : List ℕ) (of : ℕ) (items : List Item) → IsFalse (has names of) → with_field of (other_items names items) ≡ with_field of items
others_with names of [] outside = refl
others_with names of (item ∷ items) outside = elim (cases_Bool (item.field == of)) [
  | inl is ↦ let hidden : has names item.field ≡ false = ap (λ n. has names n) (eqb-true item.field of is) ∙ outside in rw (hidden, is) (ap (λ x. item ∷ x) (others_with names of items outside))
  | inr other ↦ elim (cases_Bool (has names item.field)) [
    | inl shown ↦ rw (shown, other) (others_with names of items outside)
    | inr hidden ↦ rw (hidden, other) (others_with names of items outside)
  ]
]

-- ---- lists all of whose fields pass a test

abbrev pub Passing : (ℕ → Bool) → List Item → Type 0
Passing test [] = Unit {0}
Passing test (item ∷ items) = (test item.field ≡ true) × Passing test items

pub passing_append : (test : ℕ → Bool) (xs ys : List Item) → Passing test xs → Passing test ys → Passing test (xs ++ ys)
passing_append test [] ys first second = second
passing_append test (x ∷ xs) ys first second = (first.0, passing_append test xs ys first.1 second)

pub passing_where : (test : ℕ → Bool) (b : Bool) (xs : List Item) → Passing test xs → Passing test (cond b xs [])
passing_where test true xs all = all
passing_where test false xs all = tt

pub passing_times : (test : ℕ → Bool) (n : ℕ) (x : Item) → test x.field ≡ true → Passing test (replicate n x)
passing_times test zero x is = tt
passing_times test (suc n) x is = (is, passing_times test n x is)

pub passing_turns : (test : ℕ → Bool) (items : ℕ → List Item) (turn n : ℕ) → ((i : ℕ) → Passing test (items i)) → Passing test (in_all_turns items turn n)
passing_turns test items turn zero each = tt
passing_turns test items turn (suc n) each = passing_append test (items turn) (in_all_turns items (turn + 1) n) (each turn) (passing_turns test items (turn + 1) n each)

-- they have no item of a field that doesn't
pub lacks : (test : ℕ → Bool) (of : ℕ) (items : List Item) → test of ≡ false → Passing test items → with_field of items ≡ []
lacks test of [] fails all = refl
lacks test of (item ∷ items) fails all = elim (cases_Bool (item.field == of)) [
  | inl is ↦ absurd (false≢true (sym fails ∙ ap test (sym (eqb-true item.field of is)) ∙ all.0))
  | inr other ↦ rw other (lacks test of items fails all.1)
]

-- ---- lists put together

pub with_first : (of : ℕ) (xs ys : List Item) → with_field of ys ≡ [] → with_field of (xs ++ ys) ≡ with_field of xs
with_first of xs ys none = filter-append (λ item. item.field == of) xs ys ∙ rw none (append-nil (with_field of xs))

pub with_second : (of : ℕ) (xs ys : List Item) → with_field of xs ≡ [] → with_field of (xs ++ ys) ≡ with_field of ys
with_second of xs ys none = filter-append (λ item. item.field == of) xs ys ∙ rw none refl

-- ---- one item, and none

pub one_number : (of n : ℕ) (items : List Item) → of < 1024 → n < 2 ^ 32 → with_field of items ≡ record { field = of; value = pos n } ∷ [] → number items of ≡ n
unfolding natural
one_number of n items low small same =
    let whole : min n most ≡ n = omega arith in
    number_with of items ∙ ap (λ xs. number xs of) same ∙ number_of_last of (pos n) [] [] low (All-nil (λ (y : Item). (y.field == of) ≡ false)) ∙ whole

pub no_number : (of : ℕ) (items : List Item) → with_field of items ≡ [] → number items of ≡ 0
no_number of items none = number_with of items ∙ ap (λ xs. number xs of) none ∙ number_of_none of [] (All-nil (λ (y : Item). (y.field == of) ≡ false))

-- lists with the same items of a field give it the same number, and the same first value
pub same_number : (of : ℕ) (xs ys : List Item) → with_field of xs ≡ with_field of ys → number xs of ≡ number ys of
same_number of xs ys same = number_with of xs ∙ ap (λ x. number x of) same ∙ sym (number_with of ys)

pub first_with : (of : ℕ) (items : List Item) → first_value items of ≡ first_value (with_field of items) of
first_with of [] = refl
first_with of (item ∷ items) = elim (cases_Bool (item.field == of)) [ inl is ↦ rw (is, is) refl | inr other ↦ rw other (first_with of items) ]

pub same_first : (of : ℕ) (xs ys : List Item) → with_field of xs ≡ with_field of ys → first_value xs of ≡ first_value ys of
same_first of xs ys same = first_with of xs ∙ ap (λ x. first_value x of) same ∙ sym (first_with of ys)

-- ---- a form without the field

one_lacks : (of : ℕ) (cell : Cell ℕ) (v : ℤ) (b : Bool) → has_value cell.coding ≡ b → (cell.field == of) ≡ false → with_field of (item_of cell v) ≡ []
unfolding item_of
one_lacks of cell v true is other = rw is (rw other refl)
one_lacks of cell v false is other = rw is refl

pub lacks_along : {A : Type 0} (of : ℕ) {f : Form A} {w : List ℤ} {a : A} → EachField (λ cell. (cell.field == of) ≡ false) f → Follows f w a → with_field of (items_along f w) ≡ []
lacks_along of each to_end = refl
lacks_along of each (through {cell} {goes} {v} {w} is more) =
    with_second of (item_of cell v) (items_along (goes v) w) (one_lacks of cell v (has_value cell.coding) refl each.0) ∙ lacks_along of (each.1 v) more
