-- Lists that are compared place by place, and records field by field.
use Rattle.std.proofs.Common.{◌≡◌, ℕ, ◌+◌, ◌≤◌, true, cond, List, [], ◌∷◌, take, drop, map, length, slice_get, get_or, Some, None, unwrap_or, refl, sym, subst, ap, ◌∙◌}
use Rattle.std.proofs.Common.{inl, inr, arith}
use Rattle.std.specs.Prelude.{◌==◌, option_map}
use Rattle.std.specs.Ordering.{int_eq}
use Rattle.std.proofs.lemmas.Bool.{cases_Bool}
use Rattle.std.proofs.lemmas.Bool.Decides.{eqb_tells, Decides-int_eq}
use Rattle.std.proofs.lemmas.List.{take_all, take_more_same, length-map}
use Rattle.std.proofs.lemmas.Option.{slice_get-map, slice_get_within, get_or_from_slice_get}
use Rattle.vx_bits.specs.declared.list.Item.{Item}
use Rattle.vx_pic.specs.Sets.{same_item}
use Rattle.vx_pic.specs.Differences.{differing_field}
use Rattle.vx_pic.proofs.Sent.{item_is}

pub longer : {A : Type 0} (xs ys : List A) → (length xs ≡ length ys → ⊥) → xs ≡ ys → ⊥
longer xs ys other same = other (ap length same)

pub differ_at : {A : Type 0} (xs ys : List A) (i : ℕ) (x y : A) → slice_get xs i ≡ Some x → slice_get ys i ≡ Some y → (x ≡ y → ⊥)
    → xs ≡ ys → ⊥
differ_at xs ys i x y here there other same =
    let e : Some x ≡ Some y = sym here ∙ ap (λ zs. slice_get zs i) same ∙ there in
    other (ap (λ o. unwrap_or o x) e)

pub alike_more : {A : Type 0} (xs ys : List A) (i : ℕ) (x y : A) → slice_get xs i ≡ Some x → slice_get ys i ≡ Some y → x ≡ y
    → take i xs ≡ take i ys → take (i + 1) xs ≡ take (i + 1) ys
alike_more xs ys i x y here there same front =
    take_more_same xs ys i x (slice_get_within xs i x here) (slice_get_within ys i y there) front
    (get_or_from_slice_get xs i x x here ∙ same ∙ sym (get_or_from_slice_get ys i y x there))

pub all_alike : {A : Type 0} (xs ys : List A) (i : ℕ) → length xs ≡ length ys → length xs ≤ i → take i xs ≡ take i ys → xs ≡ ys
all_alike xs ys i size past front =
    let a : take i xs ≡ xs = take_all i xs past in
    let b : take i ys ≡ ys = take_all i ys (omega (arith, size, past)) in
    sym a ∙ front ∙ b

-- ---- what is seen of lists

got : {A B : Type 0} (f : A → B) (xs : List A) (i : ℕ) (x : A) → slice_get xs i ≡ Some x → slice_get (map f xs) i ≡ Some (f x)
got f xs i x at = slice_get-map f xs i ∙ ap (option_map f) at

pub seen_longer : {A B : Type 0} (f : A → B) (xs ys : List A) → (length xs ≡ length ys → ⊥) → map f xs ≡ map f ys → ⊥
seen_longer f xs ys other same = other (sym (length-map xs f) ∙ ap length same ∙ length-map ys f)

pub seen_differ : {A B : Type 0} (f : A → B) (xs ys : List A) (i : ℕ) (x y : A) → slice_get xs i ≡ Some x → slice_get ys i ≡ Some y
    → (f x ≡ f y → ⊥) → map f xs ≡ map f ys → ⊥
seen_differ f xs ys i x y here there other same = differ_at (map f xs) (map f ys) i (f x) (f y) (got f xs i x here) (got f ys i y there) other same

pub seen_more : {A B : Type 0} (f : A → B) (xs ys : List A) (i : ℕ) (x y : A) → slice_get xs i ≡ Some x → slice_get ys i ≡ Some y
    → f x ≡ f y → take i (map f xs) ≡ take i (map f ys) → take (i + 1) (map f xs) ≡ take (i + 1) (map f ys)
seen_more f xs ys i x y here there same front =
    alike_more (map f xs) (map f ys) i (f x) (f y) (got f xs i x here) (got f ys i y there) same front

pub seen_alike : {A B : Type 0} (f : A → B) (xs ys : List A) (i : ℕ) → length xs ≡ length ys → length xs ≤ i
    → take i (map f xs) ≡ take i (map f ys) → map f xs ≡ map f ys
seen_alike f xs ys i size past front =
    all_alike (map f xs) (map f ys) i (length-map xs f ∙ size ∙ sym (length-map ys f)) (subst (λ n. n ≤ i) (sym (length-map xs f)) past) front

-- ---- items

pub same_self : (b : Item) → same_item b b ≡ true
same_self b =
    let f : (b.field == b.field) ≡ true = elim (eqb_tells b.field b.field) [ inl same ↦ same.0 | inr other ↦ absurd (other.1 refl) ] in
    let v : int_eq b.value b.value ≡ true = (Decides-int_eq b.value b.value).1 refl in
    rw (f, v) refl

-- lists with the same item in front differ where those behind it do
pub item_alike : (items others : List Item) (a b : Item) → a ≡ b → differing_field (a ∷ items) (b ∷ others) ≡ differing_field items others
item_alike items others a b e = rw (e, same_self b) refl

-- with other ones they differ there
pub item_differs : (items others : List Item) (a b : Item) → (a ≡ b → ⊥) → differing_field (a ∷ items) (b ∷ others) ≡ Some a.field
item_differs items others a b other =
    elim (cases_Bool (same_item a b)) [
      | inl same ↦ absurd (other (item_is a b same))
      | inr not_same ↦ ap (λ t. cond t (differing_field items others) (Some a.field)) not_same
    ]

-- nothing is told of equal lists alone
pub none_differs : (items others : List Item) → differing_field items others ≡ None → items ≡ others
none_differs [] [] is = refl
none_differs [] (b ∷ others) is = absurd (cc)
none_differs (a ∷ items) [] is = absurd (cc)
none_differs (a ∷ items) (b ∷ others) is =
    elim (cases_Bool (same_item a b)) [
      | inl same ↦
          let behind = ap (λ t. cond t (differing_field items others) (Some a.field)) same in
          rw (item_is a b same, none_differs items others (sym behind ∙ is)) refl
      | inr not_same ↦
          let front = ap (λ t. cond t (differing_field items others) (Some a.field)) not_same in
          let e : Some a.field ≡ None = sym front ∙ is in absurd (cc)
    ]

pub some_differs : (items others : List Item) (field : ℕ) → differing_field items others ≡ Some field → items ≡ others → ⊥
some_differs [] [] field is same = absurd (cc)
some_differs [] (b ∷ others) field is same = absurd (cc)
some_differs (a ∷ items) [] field is same = absurd (cc)
some_differs (a ∷ items) (b ∷ others) field is same =
    let first : a ≡ b = ap (λ xs. get_or xs 0 a) same in
    let rest : items ≡ others = ap (λ xs. drop 1 xs) same in
    some_differs items others field (sym (item_alike items others a b first) ∙ is) rest
