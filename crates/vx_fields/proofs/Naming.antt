-- Which numbers have names, and that no name is given twice, from what is computed of the places.
use Rattle.std.proofs.Common.{◌≡◌, ◌≢◌, ℕ, zero, suc, ◌+◌, ◌-◌, ◌*◌, ◌<◌, ◌≤◌, Bool, true, false, not, nat_le, nat_lt, nat_eq, cond, List, [], ◌∷◌, length, map, drop, get_or, ⊎_elim, true≢false, zero-add, refl, sym, ap, subst, ◌∙◌, arith, ap₂, Bor, slice_range}
use Rattle.std.specs.Prelude.{◌&&◌, Contains, AllPairs, All, Some, None, IsSome}
use Rattle.std.specs.Option.{option_copied}
use Rattle.std.specs.Bool.{then_some}
use Rattle.std.proofs.lemmas.Bool.{and_parts, cases_order, leb-true, ltb-true, lt-ltb, eq-eqb, eqb-true, false≢true}
use Rattle.std.proofs.lemmas.List.{length-take, length-drop, length-map, get_or-map, get_or_default}
use Rattle.std.proofs.lemmas.List.Elements.{All-cons, All-nil}
use Rattle.std.proofs.lemmas.List.Kept.{AllPairs-cons}
use Rattle.vx_fields.specs.Names.{name_if_any, place_of_name, name_of, FieldsHaveNames, NamesAreDistinct}
use Rattle.vx_fields.specs.laws.Numbers.{numbered_fields}
use Rattle.vx_fields.specs.declared.text.TheConstants.{TEXT, PLACES}

-- ---- places that don't fall, and stay within a bound

unfoldable pub climbs : (bound : ℕ) → List ℕ → Bool
climbs bound [] = true
climbs bound (p ∷ ps) = nat_le p (get_or ps 0 bound) && climbs bound ps

climbs_on : (bound : ℕ) (ps : List ℕ) (n : ℕ) → climbs bound ps ≡ true → get_or ps n bound ≤ get_or ps (suc n) bound
unfolding climbs
climbs_on bound [] n h = omega arith
climbs_on bound (p ∷ ps) zero h = leb-true p (get_or ps 0 bound) (and_parts (nat_le p (get_or ps 0 bound)) (climbs bound ps) h).0
climbs_on bound (p ∷ ps) (suc n) h = climbs_on bound ps n (and_parts (nat_le p (get_or ps 0 bound)) (climbs bound ps) h).1

climbs_within : (bound : ℕ) (ps : List ℕ) (n : ℕ) → climbs bound ps ≡ true → get_or ps n bound ≤ bound
unfolding climbs
climbs_within bound [] n h = omega arith
climbs_within bound (p ∷ ps) zero h =
    let parts = and_parts (nat_le p (get_or ps 0 bound)) (climbs bound ps) h in
    omega (arith, leb-true p (get_or ps 0 bound) parts.0, climbs_within bound ps 0 parts.1)
climbs_within bound (p ∷ ps) (suc n) h = climbs_within bound ps n (and_parts (nat_le p (get_or ps 0 bound)) (climbs bound ps) h).1

-- the numbers from `from` on at whose place a name begins
unfoldable pub begun : (from bound : ℕ) → List ℕ → List ℕ
begun from bound [] = []
begun from bound (p ∷ ps) = cond (nat_lt p (get_or ps 0 bound)) (from ∷ begun (suc from) bound ps) (begun (suc from) bound ps)

-- ---- the places of names

-- as computed
places_climb : climbs (length TEXT) PLACES ≡ true
unfolding climbs
places_climb = refl

pub place_climbs : (n : ℕ) → place_of_name n ≤ place_of_name (n + 1)
place_climbs n = let next : n + 1 ≡ suc n = omega arith in rw next (climbs_on (length TEXT) PLACES n places_climb)

pub place_within : (n : ℕ) → place_of_name n ≤ length TEXT
place_within n = climbs_within (length TEXT) PLACES n places_climb

-- ---- the part of the text between two places

part : ℕ → List ℕ
part n = slice_range TEXT (place_of_name n) (place_of_name (n + 1))

part_length : (n : ℕ) → length (part n) ≡ place_of_name (n + 1) - place_of_name n
unfolding part
part_length n =
    let taken = length-take (place_of_name (n + 1) - place_of_name n) (drop (place_of_name n) TEXT) in
    let dropped = length-drop (place_of_name n) TEXT in
    omega (arith, taken, dropped, place_within (n + 1))

some_named : (l : List ℕ) → 0 < length l → IsSome (name_if_any l)
some_named [] long = absurd (omega (arith, long))
some_named (c ∷ cs) long = refl

named_long : (l : List ℕ) → IsSome (name_if_any l) → 0 < length l
named_long [] is = absurd (false≢true is)
named_long (c ∷ cs) is = omega arith

named_is : (l name : List ℕ) → name_if_any l ≡ Some name → l ≡ name
named_is [] name is = absurd (cc)
named_is (c ∷ cs) name is = (cc)

-- ---- what is given of a part, by whether it is empty

if_long : (l : List ℕ) (empty : Bool) → empty ≡ nat_eq (length l) 0 → cond (not empty) (Some l) None ≡ name_if_any l
if_long [] true is = refl
if_long [] false is = absurd (false≢true is)
if_long (c ∷ cs) true is = absurd (omega (arith, eqb-true (length (c ∷ cs)) 0 (sym is)))
if_long (c ∷ cs) false is = refl

copied : (b : Bool) (l : Bor (List ℕ)) → option_copied (then_some b l) ≡ cond b (Some l.now) None
copied true l = refl
copied false l = refl

pub given_name : (n p q : ℕ) (l : Bor (List ℕ)) (empty : Bool) → p ≡ place_of_name n → q ≡ place_of_name (n + 1) → l.now ≡ slice_range TEXT p q → empty ≡ nat_eq (length l.now) 0
    → option_copied (then_some (not empty) l) ≡ name_of n
unfolding name_of
given_name n p q l empty from end is long =
    copied (not empty) l ∙ if_long l.now empty long ∙ ap name_if_any (is ∙ ap₂ (slice_range TEXT) from end)

-- ---- which numbers have one

later : (first : Bool) (x : ℕ) (xs : List ℕ) (y : ℕ) → Contains xs y → Contains (cond first (x ∷ xs) xs) y
later true x xs y (k, within, is) = (suc k, omega (arith, within), is)
later false x xs y has = has

begun_has : (from bound : ℕ) (ps : List ℕ) (i : ℕ) → get_or ps i bound < get_or ps (suc i) bound → Contains (begun from bound ps) (from + i)
unfolding begun
begun_has from bound [] i rises = absurd (omega (arith, rises))
begun_has from bound (p ∷ ps) zero rises =
    let none : from + 0 ≡ from = omega arith in rw (lt-ltb p (get_or ps 0 bound) rises, none) (0, omega arith, refl)
begun_has from bound (p ∷ ps) (suc i) rises =
    let on : from + suc i ≡ suc from + i = omega arith in
    rw on (later (nat_lt p (get_or ps 0 bound)) from (begun (suc from) bound ps) (suc from + i) (begun_has (suc from) bound ps i rises))

-- a number at whose place, behind the first one, the places rise
RisesAt : (from bound : ℕ) (ps : List ℕ) → ℕ → Type 0
RisesAt from bound ps m = (i : ℕ) × (m ≡ from + i) × (get_or ps i bound < get_or ps (suc i) bound)

first_or_later : (from bound p : ℕ) (ps : List ℕ) (m : ℕ) (first : Bool) → nat_lt p (get_or ps 0 bound) ≡ first → (Contains (begun (suc from) bound ps) m → RisesAt (suc from) bound ps m)
    → Contains (cond first (from ∷ begun (suc from) bound ps) (begun (suc from) bound ps)) m → RisesAt from bound (p ∷ ps) m
unfolding RisesAt
first_or_later from bound p ps m true rises behind (zero, within, is) = (0, omega (arith, is), ltb-true p (get_or ps 0 bound) rises)
first_or_later from bound p ps m true rises behind (suc k, within, is) = let rest = behind (k, omega (arith, within), is) in (suc rest.0, omega (arith, rest.1), rest.2)
first_or_later from bound p ps m false rises behind has = let rest = behind has in (suc rest.0, omega (arith, rest.1), rest.2)

has_begun : (from bound : ℕ) (ps : List ℕ) (m : ℕ) → Contains (begun from bound ps) m → RisesAt from bound ps m
unfolding begun
has_begun from bound [] m (k, within, is) = absurd (omega (arith, within))
has_begun from bound (p ∷ ps) m has = first_or_later from bound p ps m (nat_lt p (get_or ps 0 bound)) refl (has_begun (suc from) bound ps m) has

-- as computed
fields_begun : begun 0 (length TEXT) PLACES ≡ numbered_fields
unfolding begun
fields_begun = refl

pub fields_named : FieldsHaveNames
unfolding name_of part RisesAt
fields_named n =
    let next : n + 1 ≡ suc n = omega arith in (
      λ is.
          let long = named_long (part n) is in
          let rises : place_of_name n < place_of_name (suc n) = subst (λ k. place_of_name n < place_of_name k) next (omega (arith, long, part_length n)) in
          subst (λ m. Contains numbered_fields m) (zero-add n) (subst (λ fs. Contains fs (0 + n)) fields_begun (begun_has 0 (length TEXT) PLACES n rises)),
      λ has.
          let found = has_begun 0 (length TEXT) PLACES n (subst (λ fs. Contains fs n) (sym fields_begun) has) in
          let rises : place_of_name n < place_of_name (suc n) = subst (λ k. place_of_name k < place_of_name (suc k)) (sym (found.1 ∙ zero-add found.0)) found.2 in
          some_named (part n) (omega (arith, part_length n, subst (λ k. place_of_name n < place_of_name k) (sym next) rises)),
    )

-- ---- no name is given twice

-- a text as a number
key : List ℕ → ℕ
key [] = 0
key (c ∷ cs) = suc c + 256 * key cs

absent : ℕ → List ℕ → Bool
absent k [] = true
absent k (j ∷ js) = not (nat_eq k j) && absent k js

differ : List ℕ → Bool
differ [] = true
differ (k ∷ ks) = absent k ks && differ ks

-- as computed
keys_differ : differ (map (λ n. key (part n)) numbered_fields) ≡ true
unfolding differ absent key part
keys_differ = refl

absent_is : (k : ℕ) (js : List ℕ) → absent k js ≡ true → All (λ j. k ≢ j) js
unfolding absent
absent_is k [] h = All-nil (λ j. k ≢ j)
absent_is k (j ∷ js) h =
    let parts = and_parts (not (nat_eq k j)) (absent k js) h in
    All-cons (λ j. k ≢ j) j js (λ same. true≢false (sym parts.0 ∙ ap not (eq-eqb k j same))) (absent_is k js parts.1)

differ_are : (ks : List ℕ) → differ ks ≡ true → AllPairs (λ m n. m ≢ n) ks
unfolding differ
differ_are [] h = λ i j d before within. omega (arith, within)
differ_are (k ∷ ks) h = let parts = and_parts (absent k ks) (differ ks) h in AllPairs-cons (λ m n. m ≢ n) k ks (absent_is k ks parts.0) (differ_are ks parts.1)

-- the keys of two fields at different places
keys_apart : (m n : ℕ) (has : Contains numbered_fields m) (then : Contains numbered_fields n) → has.0 < then.0 → key (part m) ≢ key (part n)
keys_apart m n (i, within, is) (j, within', is') before same =
    let at = get_or-map (λ n. key (part n)) numbered_fields i m 0 within ∙ ap (λ n. key (part n)) is in
    let at' = get_or-map (λ n. key (part n)) numbered_fields j n 0 within' ∙ ap (λ n. key (part n)) is' in
    differ_are (map (λ n. key (part n)) numbered_fields) keys_differ i j 0 before (subst (λ k. j < k) (sym (length-map numbered_fields (λ n. key (part n)))) within') (at ∙ same ∙ sym at')

pub names_differ : NamesAreDistinct
unfolding name_of part
names_differ m n name is is' =
    let has = (fields_named m).0 (rw is refl) in
    let has' = (fields_named n).0 (rw is' refl) in
    let same : key (part m) ≡ key (part n) = ap key (named_is (part m) name is ∙ sym (named_is (part n) name is')) in
    ⊎_elim (λ at. sym has.2 ∙ ap (λ k. get_or numbered_fields k m) at ∙ get_or_default numbered_fields has'.0 m n has'.1 ∙ has'.2)
    (⊎_elim (λ before. absurd (keys_apart m n has has' before same)) (λ before. absurd (keys_apart n m has' has before (sym same))))
    (cases_order has.0 has'.0)
