-- What is gathered of pictures, slice by slice and source by source.
use Rattle.std.proofs.Common.{◌≡◌, ℕ, zero, suc, ◌+◌, ◌<◌, ◌≤◌, true, false, List, [], ◌∷◌, ◌++◌, length, get_or, take, drop, slice_get, Some, None, unwrap_or, refl, ap, sym, subst, ◌∙◌, arith, inl, inr}
use Rattle.std.specs.Prelude.{◌||◌, flat_map, option_to_list}
use Rattle.vx_pic.specs.Inputs.{Alf}
use Rattle.vx_pic.specs.Resident.{same_bytes}
use Rattle.std.specs.List.{AllByRecursion}
use Rattle.std.proofs.lemmas.Grind.{flat_map-append}
use Rattle.std.proofs.lemmas.List.{append-nil, drop_all, take_more, take_all}
use Rattle.std.proofs.lemmas.List.Concat.{flat_map-cons}
use Rattle.std.proofs.lemmas.Option.{none-some, get_or_from_slice_get, slice_get_cases, slice_get_within}
use Rattle.vx_frame.specs.Bodies.{bodies_in, is_among, once, with_bodies, with_body}
use Rattle.vx_frame.specs.inner.Found.{piece_at}

-- ---- one more

flat_one : {A B : Type 0} (f : A → List B) (x : A) → flat_map f (x ∷ []) ≡ f x
flat_one f x = flat_map-cons f x [] ∙ append-nil (f x)

pub flat_more : {A B : Type 0} (f : A → List B) (xs : List A) (i : ℕ) (x : A) → slice_get xs i ≡ Some x
    → flat_map f (take (i + 1) xs) ≡ flat_map f (take i xs) ++ f x
flat_more f xs i x at =
    let short = slice_get_within xs i x at in
    let is : get_or xs i x ≡ x = get_or_from_slice_get xs i x x at in
    ap (flat_map f) (take_more xs i x short) ∙ (flat_map-append f (take i xs) (get_or xs i x ∷ [])
    ∙ (ap (λ ys. flat_map f (take i xs) ++ ys) (flat_one f (get_or xs i x)) ∙ ap (λ y. flat_map f (take i xs) ++ f y) is))

pub flat_read : {A B : Type 0} (f : A → List B) (xs : List A) (i : ℕ) (x : A) → i < length xs → x ≡ get_or xs i x
    → flat_map f (take (i + 1) xs) ≡ flat_map f (take i xs) ++ f x
flat_read f xs i x short is =
    ap (flat_map f) (take_more xs i x short) ∙ (flat_map-append f (take i xs) (get_or xs i x ∷ [])
    ∙ (ap (λ ys. flat_map f (take i xs) ++ ys) (flat_one f (get_or xs i x)) ∙ ap (λ y. flat_map f (take i xs) ++ f y) (sym is)))

pub flat_all : {A B : Type 0} (f : A → List B) (xs : List A) (i : ℕ) → length xs ≤ i → flat_map f (take i xs) ≡ flat_map f xs
flat_all f xs i past = ap (flat_map f) (take_all i xs past)

-- ---- the first one

-- where nothing came before it
pub front_first : {A : Type 0} (xs ys : List A) (x : A) → slice_get xs 0 ≡ Some x → slice_get (xs ++ ys) 0 ≡ Some x
front_first [] ys x at = absurd (none-some x at)
front_first (y ∷ xs) ys x at = at

pub none_first : {A : Type 0} (xs : List A) → slice_get xs 0 ≡ None → xs ≡ []
none_first [] is = refl
none_first (x ∷ xs) is = absurd (none-some x (sym is))

in_front : {A : Type 0} (xs ys zs : List A) (b : A) → (slice_get ys 0 ≡ Some b → slice_get zs 0 ≡ Some b) → slice_get (xs ++ ys) 0 ≡ Some b → slice_get (xs ++ zs) 0 ≡ Some b
in_front [] ys zs b more at = more at
in_front (x ∷ xs) ys zs b more at = at

-- what comes first of a front comes first of all
pub front_of_all : {A B : Type 0} (f : A → List B) (xs : List A) (i : ℕ) (b : B) → slice_get (flat_map f (take i xs)) 0 ≡ Some b → slice_get (flat_map f xs) 0 ≡ Some b
front_of_all f [] zero b at = at
front_of_all f [] (suc i) b at = at
front_of_all f (x ∷ xs) zero b at = absurd (none-some b at)
front_of_all f (x ∷ xs) (suc i) b at =
    ap (λ ys. slice_get ys 0) (flat_map-cons f x xs)
    ∙ in_front (f x) (flat_map f (take i xs)) (flat_map f xs) b (λ later. front_of_all f xs i b later) (sym (ap (λ ys. slice_get ys 0) (flat_map-cons f x (take i xs))) ∙ at)

pub first_found : {A B : Type 0} (f : A → List B) (xs : List A) (i : ℕ) (x : A) (b : B) → flat_map f (take i xs) ≡ []
    → flat_map f (take (i + 1) xs) ≡ flat_map f (take i xs) ++ f x → slice_get (f x) 0 ≡ Some b → slice_get (flat_map f xs) 0 ≡ Some b
first_found f xs i x b before more at =
    let here : flat_map f (take (i + 1) xs) ≡ f x = more ∙ ap (λ ys. ys ++ f x) before in
    front_of_all f xs (i + 1) b (ap (λ ys. slice_get ys 0) here ∙ at)

-- ---- pieces

pub piece_is : {A B : Type 0} (f : A → List B) (xs : List A) (i : ℕ) (x : A) → slice_get xs i ≡ Some x → piece_at f xs i ≡ f x
piece_is f xs i x at = ap (λ o. flat_map f (option_to_list o)) at ∙ flat_one f x

pub piece_more : {A B : Type 0} (f : A → List B) (xs : List A) (i : ℕ) → flat_map f (take (i + 1) xs) ≡ flat_map f (take i xs) ++ piece_at f xs i
piece_more f xs i =
    elim (slice_get_cases xs i).1 [
      | inl p ↦ flat_more f xs i p.0 p.2 ∙ ap (λ ys. flat_map f (take i xs) ++ ys) (sym (piece_is f xs i p.0 p.2))
      | inr p ↦
          let none : piece_at f xs i ≡ [] = ap (λ o. flat_map f (option_to_list o)) p.1 in
          flat_all f xs (i + 1) (omega (arith, p.0))
          ∙ (sym (flat_all f xs i p.0) ∙ (sym (append-nil (flat_map f (take i xs))) ∙ ap (λ ys. flat_map f (take i xs) ++ ys) (sym none)))
    ]

-- ---- facts of all of them

pub all_front : {A : Type 0} (P : A → Type 0) (xs ys : List A) → AllByRecursion P (xs ++ ys) → AllByRecursion P xs
all_front P [] ys all = tt
all_front P (x ∷ xs) ys all = (all.0, all_front P xs ys all.1)

pub all_back : {A : Type 0} (P : A → Type 0) (xs ys : List A) → AllByRecursion P (xs ++ ys) → AllByRecursion P ys
all_back P [] ys all = all
all_back P (x ∷ xs) ys all = all_back P xs ys all.1

pub all_both : {A : Type 0} (P : A → Type 0) (xs ys : List A) → AllByRecursion P xs → AllByRecursion P ys → AllByRecursion P (xs ++ ys)
all_both P [] ys front back = back
all_both P (x ∷ xs) ys front back = (front.0, all_both P xs ys front.1 back)

-- at a place, and at one more place
pub all_at : {A : Type 0} (P : A → Type 0) (xs : List A) (i : ℕ) (x : A) → AllByRecursion P xs → slice_get xs i ≡ Some x → P x
all_at P [] i x all at = absurd (none-some x at)
all_at P (y ∷ xs) zero x all at = let same : y ≡ x = ap (λ o. unwrap_or o y) at in subst P same all.0
all_at P (y ∷ xs) (suc i) x all at = all_at P xs i x all.1 at

pub all_more : {A : Type 0} (P : A → Type 0) (xs : List A) (i : ℕ) (x : A) → slice_get xs i ≡ Some x → AllByRecursion P (take i xs) → P x → AllByRecursion P (take (i + 1) xs)
all_more P xs i x at front holds =
    let is : get_or xs i x ≡ x = get_or_from_slice_get xs i x x at in
    subst (AllByRecursion P) (sym (take_more xs i x (slice_get_within xs i x at))) (all_both P (take i xs) (get_or xs i x ∷ []) front (subst P (sym is) holds, tt))

-- of a piece
pub piece_all : {A B : Type 0} (P : B → Type 0) (f : A → List B) (xs : List A) (i : ℕ) → AllByRecursion P (flat_map f xs) → AllByRecursion P (piece_at f xs i)
piece_all P f [] i all = tt
piece_all P f (x ∷ xs) zero all = subst (AllByRecursion P) (sym (flat_one f x)) (all_front P (f x) (flat_map f xs) (subst (AllByRecursion P) (flat_map-cons f x xs) all))
piece_all P f (x ∷ xs) (suc i) all = piece_all P f xs i (all_back P (f x) (flat_map f xs) (subst (AllByRecursion P) (flat_map-cons f x xs) all))

-- and of one piece more
pub piece_joins : {A B : Type 0} (P : B → Type 0) (f : A → List B) (xs : List A) (i : ℕ) → AllByRecursion P (flat_map f (take i xs))
    → AllByRecursion P (piece_at f xs i) → AllByRecursion P (flat_map f (take (i + 1) xs))
piece_joins P f xs i front more = subst (AllByRecursion P) (sym (piece_more f xs i)) (all_both P (flat_map f (take i xs)) (piece_at f xs i) front more)

pub all_pieces : {A B : Type 0} (P : B → Type 0) (f : A → List B) (xs : List A) (i : ℕ) → length xs ≤ i → AllByRecursion P (flat_map f (take i xs)) → AllByRecursion P (flat_map f xs)
all_pieces P f xs i past all = subst (AllByRecursion P) (flat_all f xs i past) all

-- the first one is that of the first piece that has one
pub piece_first : {A B : Type 0} (f : A → List B) (xs : List A) (i : ℕ) (b : B) → flat_map f (take i xs) ≡ [] → slice_get (piece_at f xs i) 0 ≡ Some b → slice_get (flat_map f xs) 0 ≡ Some b
piece_first f xs i b before at =
    let here : flat_map f (take (i + 1) xs) ≡ piece_at f xs i = piece_more f xs i ∙ ap (λ ys. ys ++ piece_at f xs i) before in
    front_of_all f xs (i + 1) b (ap (λ ys. slice_get ys 0) here ∙ at)

pub piece_none : {A B : Type 0} (f : A → List B) (xs : List A) (i : ℕ) → flat_map f (take i xs) ≡ [] → piece_at f xs i ≡ [] → flat_map f (take (i + 1) xs) ≡ []
piece_none f xs i before none = piece_more f xs i ∙ (ap (λ ys. ys ++ piece_at f xs i) before ∙ none)

pub none_of_all : {A B : Type 0} (f : A → List B) (xs : List A) (i : ℕ) → length xs ≤ i → flat_map f (take i xs) ≡ [] → slice_get (flat_map f xs) 0 ≡ None
none_of_all f xs i past none = ap (λ ys. slice_get ys 0) (sym (flat_all f xs i past) ∙ none)

pub none_read : {A B : Type 0} (f : A → List B) (xs : List A) (i : ℕ) (x : A) → i < length xs → x ≡ get_or xs i x → flat_map f (take i xs) ≡ [] → f x ≡ []
    → flat_map f (take (i + 1) xs) ≡ []
none_read f xs i x short is before none = flat_read f xs i x short is ∙ (ap (λ ys. ys ++ f x) before ∙ none)

-- ---- bodies, each once

pub with_more : (bodies xs ys : List (List ℕ)) → with_bodies bodies (xs ++ ys) ≡ with_bodies (with_bodies bodies xs) ys
with_more bodies [] ys = refl
with_more bodies (x ∷ xs) ys = with_more (with_body bodies x) xs ys

pub once_more : (xs ys : List (List ℕ)) → once (xs ++ ys) ≡ with_bodies (once xs) ys
once_more xs ys = with_more [] xs ys

-- a body among those from a place on
among_at : (body : List ℕ) (xs : List (List ℕ)) (i : ℕ) (x : List ℕ) → slice_get xs i ≡ Some x
    → is_among body (drop i xs) ≡ (same_bytes x body || is_among body (drop (suc i) xs))
among_at body [] i x at = absurd (none-some x at)
among_at body (y ∷ xs) zero x at = ap (λ z. same_bytes z body || is_among body xs) (ap (λ o. unwrap_or o y) at)
among_at body (y ∷ xs) (suc i) x at = among_at body xs i x at

pub among_found : (body : List ℕ) (xs : List (List ℕ)) (i : ℕ) (x : List ℕ) → slice_get xs i ≡ Some x → same_bytes x body ≡ true
    → is_among body (drop i xs) ≡ is_among body xs → is_among body xs ≡ true
among_found body xs i x at same is = sym is ∙ (among_at body xs i x at ∙ ap (λ t. t || is_among body (drop (suc i) xs)) same)

pub among_passed : (body : List ℕ) (xs : List (List ℕ)) (i : ℕ) (x : List ℕ) → slice_get xs i ≡ Some x → same_bytes x body ≡ false
    → is_among body (drop i xs) ≡ is_among body xs → is_among body (drop (i + 1) xs) ≡ is_among body xs
among_passed body xs i x at other is =
    let next : suc i ≡ i + 1 = omega arith in
    let here : is_among body (drop (suc i) xs) ≡ is_among body xs =
    sym (ap (λ t. t || is_among body (drop (suc i) xs)) other) ∙ (sym (among_at body xs i x at) ∙ is) in
    subst (λ n. is_among body (drop n xs) ≡ is_among body xs) next here

pub among_none : (body : List ℕ) (xs : List (List ℕ)) (i : ℕ) → length xs ≤ i → is_among body (drop i xs) ≡ is_among body xs → is_among body xs ≡ false
among_none body xs i past is = sym is ∙ ap (is_among body) (drop_all i xs past)

-- one body more
pub with_next : (bodies xs : List (List ℕ)) (i : ℕ) (x : List ℕ) → slice_get xs i ≡ Some x
    → with_bodies bodies (take (i + 1) xs) ≡ with_body (with_bodies bodies (take i xs)) x
with_next bodies xs i x at =
    let is : get_or xs i x ≡ x = get_or_from_slice_get xs i x x at in
    ap (with_bodies bodies) (take_more xs i x (slice_get_within xs i x at) ∙ ap (λ y. take i xs ++ y ∷ []) is) ∙ with_more bodies (take i xs) (x ∷ [])

-- those of a slice, part by part
pub four_more : (bodies a b c d : List (List ℕ)) (alf : Alf) → a ≡ with_bodies bodies alf.luma → b ≡ with_bodies a (option_to_list alf.chroma)
    → c ≡ with_bodies b (option_to_list alf.cc_cb) → d ≡ with_bodies c (option_to_list alf.cc_cr) → d ≡ with_bodies bodies (bodies_in alf)
four_more bodies a b c d alf one two three four =
    let luma : List (List ℕ) = alf.luma in
    let chroma : List (List ℕ) = option_to_list alf.chroma in
    let cb : List (List ℕ) = option_to_list alf.cc_cb in
    let cr : List (List ℕ) = option_to_list alf.cc_cr in
    four ∙ (ap (λ x. with_bodies x cr) (three ∙ (ap (λ x. with_bodies x cb) (two ∙ ap (λ x. with_bodies x chroma) one)))
    ∙ sym (with_more bodies luma (chroma ++ (cb ++ cr)) ∙ (with_more (with_bodies bodies luma) chroma (cb ++ cr) ∙ with_more (with_bodies (with_bodies bodies luma) chroma) cb cr)))
