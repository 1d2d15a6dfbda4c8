-- The list of adaptation parameter sets, place by place.
use Rattle.std.proofs.Common.{◌≡◌, ℕ, zero, suc, ◌+◌, ◌*◌, ◌<◌, ◌≤◌, List, [], ◌∷◌, ◌++◌, map, take, set, slice_set, get_or, length, refl, subst, arith}
use Rattle.std.specs.Prelude.{Option, Some, option_map, IfSome}
use Rattle.std.proofs.lemmas.List.{map-set, take_more, take_more_set, take_all, length-map}
use Rattle.std.proofs.Math.ListN.{get_or-map}
use Rattle.vx_aps.specs.declared.aps.Aps.{Aps}
use Rattle.vx_aps.specs.Aps.{IsValid}
use Rattle.vx_pic.specs.inner.ApsLists.{AreValid}

-- what is seen of a list in which an element is replaced
pub replaced : {A B : Type 0} (f : A → B) (xs : List A) (seen : List B) (n i : ℕ) (y : A) → seen ≡ map f xs → n ≡ i
    → map f (slice_set xs n y) ≡ slice_set seen i (f y)
replaced f xs seen n i y e k = rw (e, k) (map-set f xs i y)

-- a list that is the same as another as far as a place, and gets the same element there
pub filled : {A B : Type 0} (f : A → B) (xs ys : List A) (i : ℕ) (y d : A) → i < length xs → i < length ys
    → take i (map f xs) ≡ take i (map f ys) → f y ≡ f (get_or ys i d) → take (i + 1) (map f (set xs i y)) ≡ take (i + 1) (map f ys)
filled f xs ys i y d within there same element =
    let a : take (i + 1) (map f (set xs i y)) ≡ take i (map f xs) ++ f y ∷ [] =
    rw (map-set f xs i y) (take_more_set (map f xs) i (f y) (rw (length-map xs f) within)) in
    let b : take (i + 1) (map f ys) ≡ take i (map f ys) ++ get_or (map f ys) i (f d) ∷ [] =
    take_more (map f ys) i (f d) (rw (length-map ys f) there) in
    rw (a, b, same, element, get_or-map f ys i d) refl

-- a list that is the same as another as far as both ends
pub all_filled : {A B : Type 0} (f : A → B) (xs ys : List A) (seen : List B) (n i : ℕ) → seen ≡ map f ys → length xs ≡ n → length ys ≡ n
    → n ≤ i → take i (map f xs) ≡ take i (map f ys) → map f xs ≡ seen
all_filled f xs ys seen n i shown e k past same =
    let a : take i (map f xs) ≡ map f xs = take_all i (map f xs) (rw (length-map xs f) (omega arith)) in
    let b : take i (map f ys) ≡ map f ys = take_all i (map f ys) (rw (length-map ys f) (omega arith)) in
    rw (shown) (subst (λ zs. zs ≡ map f ys) a (subst (λ zs. take i (map f xs) ≡ zs) b same))

-- ---- valid sets

-- the place of a type and an id
pub place_within : (eight kind id k i n : ℕ) → eight ≡ 8 → kind ≡ k → id ≡ i → k < 3 → i < 8 → n ≡ 24 → eight * kind + id < n
place_within eight kind id k i n e ek ei types ids all = rw (e, ek, ei, all) (omega (arith, types, ids))

-- one that is read is valid
pub read_valid : {A : Type 0} (f : A → Aps) (xs : List (Option A)) (i : ℕ) (d : Option A) (x : A) → AreValid (map (option_map f) xs) → i < length xs
    → get_or xs i d ≡ Some x → IsValid (f x)
read_valid f [] i d x all within is = absurd (omega (arith, within))
read_valid f (y ∷ xs) zero d x all within is = let all' : IfSome (option_map f y) IsValid = all.0 in subst (λ z. IfSome (option_map f z) IsValid) is all'
read_valid f (y ∷ xs) (suc i) d x all within is = read_valid f xs i d x all.1 (omega (arith, within)) is

-- a valid one in the place of another
pub put_valid : {A : Type 0} (f : A → Aps) (xs : List (Option A)) (i : ℕ) (x : A) → AreValid (map (option_map f) xs) → IsValid (f x)
    → AreValid (map (option_map f) (set xs i (Some x)))
put_valid f [] i x all is = tt
put_valid f (y ∷ xs) zero x all is = (is, all.1)
put_valid f (y ∷ xs) (suc i) x all is = (all.0, put_valid f xs i x all.1 is)
