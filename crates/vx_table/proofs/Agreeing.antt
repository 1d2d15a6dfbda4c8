-- Scopes that agree on a set of names, and what formulas over these are.
use Rattle.std.proofs.Common.{◌≡◌, ◌≢◌, inl, inr, ℕ, true, false, cond, ◌&&◌, ◌||◌, ◌==◌, IsTrue, IsFalse, List, ◌∷◌, ◌++◌, length, slice_set, refl, ap, sym, ◌∙◌, arith}
use Rattle.std.proofs.lemmas.Bool.{both_ways, cases_Bool, cases_eq, cases_lt, and_parts, or_cases, eqb-true}
use Rattle.std.proofs.lemmas.Grind.{get_or-set_at}
use Rattle.std.proofs.lemmas.List.Folds.{list_any-append}
use Rattle.std.proofs.lemmas.List.{length-set, get_or-set_other, get_or_past, set_past}
use Rattle.vx_table.specs.declared.rows.Term.{Term}
use Rattle.vx_table.specs.declared.rows.Term.TheVariants.{Number, Latest}
use Rattle.vx_table.specs.declared.rows.Formula.{Formula}
use Rattle.vx_table.specs.declared.rows.Formula.TheVariants.{Plain, Plus, Minus, Times, Quotient, Least, PowerOfTwo, CeilLog2, Equal, Differs, Below, AtMost, Both, Either}
use Rattle.vx_table.specs.declared.rows.Coding.{Coding}
use Rattle.vx_table.specs.declared.rows.Coding.TheVariants.{Fixed, Golomb, SignedGolomb, Zeros, OneAndZeros, Trailing, Absent, Refused}
use Rattle.vx_table.specs.declared.rows.Limits.{Limits}
use Rattle.vx_table.specs.declared.rows.Limits.TheVariants as ranges
use Rattle.vx_table.specs.declared.rows.Cell.{Cell}
use Rattle.vx_table.specs.Scope.{latest, value}
use Rattle.vx_table.specs.Forms.{has_value, coding_at, limits_at, cell_at}
use Rattle.vx_table.specs.Depends.{has, Inside, Agree}
use Rattle.vx_table.specs.Claims.{knows, knows_formula, knows_width, knows_range, knows_cell, grown}

pub inside_itself : (names : List ℕ) → Inside names names
inside_itself names = record { has_too = λ n h. h }

pub inside_on : {a b c : List ℕ} → Inside a b → Inside b c → Inside a c
inside_on first more = record { has_too = λ n h. more.has_too n (first.has_too n h) }

pub agree_itself : (names s : List ℕ) → Agree names s s
agree_itself names s = record { size = refl; same = λ n h. refl }

pub agree_back : {names s t : List ℕ} → Agree names s t → Agree names t s
agree_back a = record { size = sym a.size; same = λ n h. sym (a.same n h) }

pub agree_on : {names s t u : List ℕ} → Agree names s t → Agree names t u → Agree names s u
agree_on a b = record { size = a.size ∙ b.size; same = λ n h. a.same n h ∙ b.same n h }

pub agree_less : {known shown s t : List ℕ} → Inside known shown → Agree shown s t → Agree known s t
agree_less inside a = record { size = a.size; same = λ n h. a.same n (inside.has_too n h) }

-- a name that both give the same number
pub agree_set : {known more s t : List ℕ} (n v : ℕ) → ((m : ℕ) → m ≢ n → IsTrue (has more m) → IsTrue (has known m)) → Agree known s t → Agree more (slice_set s n v) (slice_set t n v)
agree_set {known} {more} {s} {t} n v others a = record {
  size = length-set s n v ∙ a.size ∙ sym (length-set t n v);
  same = λ m h. elim (cases_eq m n) [
    | inl is ↦ elim (cases_lt n (length s)) [
      | inl within ↦ get_or-set_at s n m v 0 is within ∙ sym (get_or-set_at t n m v 0 is (omega (arith, a.size)))
      | inr past ↦ rw (set_past s n v past, set_past t n v (omega (arith, a.size))) (get_or_past s m 0 (omega (arith, is)) ∙ sym (get_or_past t m 0 (omega (arith, is, a.size))))
    ]
    | inr is_not ↦ get_or-set_other s n m v 0 is_not ∙ a.same m (others m is_not h) ∙ sym (get_or-set_other t n m v 0 is_not)
  ];
}

-- a name outside the set
pub agree_outside : (shown s : List ℕ) (n v : ℕ) → IsFalse (has shown n) → Agree shown s (slice_set s n v)
agree_outside shown s n v outside = record {
  size = sym (length-set s n v);
  same = λ m h. sym (get_or-set_other s n m v 0 (λ is. both_ways _ (ap (has shown) is ∙ outside) h));
}

-- a name of a set with one more, and of two sets together
pub others_too : (names : List ℕ) (n m : ℕ) → m ≢ n → IsTrue (has (n ∷ names) m) → IsTrue (has names m)
others_too names n m is_not h = elim (or_cases (n == m) (has names m) h) [ inl is ↦ absurd (is_not (sym (eqb-true n m is))) | inr more ↦ more ]

pub has_either : (names more : List ℕ) (n : ℕ) → has (names ++ more) n ≡ (has names n || has more n)
has_either names more n = list_any-append (λ name. name == n) names more

-- what more is known behind a name
pub grown_other : (shown known : List ℕ) (n m : ℕ) → m ≢ n → IsTrue (has (grown shown known n) m) → IsTrue (has known m)
grown_other shown known n m is_not h = elim (cases_Bool (has shown n)) [
  | inl it_is ↦ others_too known n m is_not (rw it_is at h)
  | inr it_is_not ↦ rw it_is_not at h
]

pub inside_grown : {shown known : List ℕ} (n : ℕ) → Inside known shown → Inside (grown shown known n) shown
inside_grown {shown} {known} n inside = record {
  has_too = λ m h. elim (cases_eq m n) [
    | inl is ↦ elim (cases_Bool (has shown n)) [
      | inl it_is ↦ ap (has shown) is ∙ it_is
      | inr it_is_not ↦ inside.has_too m (rw it_is_not at h)
    ]
    | inr is_not ↦ inside.has_too m (grown_other shown known n m is_not h)
  ];
}

pub with_one : (names : List ℕ) (n : ℕ) → Inside names (n ∷ names)
with_one names n = record { has_too = λ m h. elim (n == m) as (λ b. (b || has names m) ≡ true) [ true ↦ refl | false ↦ h ] }

pub grows : (shown known : List ℕ) (n : ℕ) → Inside known (grown shown known n)
grows shown known n = elim (has shown n) as (λ b. Inside known (cond b (n ∷ known) known)) [ true ↦ with_one known n | false ↦ inside_itself known ]

-- a term and a formula over known names
same_term : {known s t : List ℕ} (a : Term) → Agree known s t → knows known a ≡ true → latest s a ≡ latest t a
same_term (Number n) agree h = refl
same_term (Latest of) agree h = agree.same of h

two_terms : {known s t : List ℕ} (a b : Term) → Agree known s t → (knows known a && knows known b) ≡ true → (latest s a ≡ latest t a) × (latest s b ≡ latest t b)
two_terms {known} a b agree h =
    let parts = and_parts (knows known a) (knows known b) h in
    (same_term a agree parts.0, same_term b agree parts.1)

pub same_value : {known s t : List ℕ} (f : Formula) → Agree known s t → knows_formula known f ≡ true → value s f ≡ value t f
unfolding knows_formula value
same_value (Plain a) agree h = same_term a agree h
same_value (Plus a b) agree h = let e = two_terms a b agree h in rw (e.0, e.1) refl
same_value (Minus a b) agree h = let e = two_terms a b agree h in rw (e.0, e.1) refl
same_value (Times a b) agree h = let e = two_terms a b agree h in rw (e.0, e.1) refl
same_value (Quotient a b) agree h = let e = two_terms a b agree h in rw (e.0, e.1) refl
same_value (Least a b) agree h = let e = two_terms a b agree h in rw (e.0, e.1) refl
same_value (PowerOfTwo a) agree h = let e = same_term a agree h in rw e refl
same_value (CeilLog2 a) agree h = let e = same_term a agree h in rw e refl
same_value (Equal a b) agree h = let e = two_terms a b agree h in rw (e.0, e.1) refl
same_value (Differs a b) agree h = let e = two_terms a b agree h in rw (e.0, e.1) refl
same_value (Below a b) agree h = let e = two_terms a b agree h in rw (e.0, e.1) refl
same_value (AtMost a b) agree h = let e = two_terms a b agree h in rw (e.0, e.1) refl
same_value (Both a b) agree h = let e = two_terms a b agree h in rw (e.0, e.1) refl
same_value (Either a b) agree h = let e = two_terms a b agree h in rw (e.0, e.1) refl

same_width : {known s t : List ℕ} (coding : Coding Formula) → Agree known s t → knows_width known coding ≡ true → coding_at s coding ≡ coding_at t coding
unfolding knows_width coding_at
same_width (Fixed width) agree h = let e = same_value width agree h in rw e refl
same_width Golomb agree h = refl
same_width SignedGolomb agree h = refl
same_width Zeros agree h = refl
same_width OneAndZeros agree h = refl
same_width Trailing agree h = refl
same_width Absent agree h = refl
same_width Refused agree h = refl

same_range : {known s t : List ℕ} (limits : Limits Formula) → Agree known s t → knows_range known limits ≡ true → limits_at s limits ≡ limits_at t limits
unfolding knows_range limits_at
same_range ranges.Any agree h = refl
same_range (ranges.Within low high fault) agree h = let e = same_value high agree h in rw e refl
same_range (ranges.Below bound fault) agree h = let e = same_value bound agree h in rw e refl
same_range (ranges.Multiple unit high fault) agree h = refl

pub same_cell : {known s t : List ℕ} (c : Cell Formula) → Agree known s t → knows_cell known c ≡ true → cell_at s c ≡ cell_at t c
same_cell {known} c agree h =
    let parts = and_parts (knows_width known c.coding) (knows_range known c.limits) h in
    let width = same_width c.coding agree parts.0 in
    let range = same_range c.limits agree parts.1 in
    rw (width, range) refl

-- a field has a value at each scope or at none
pub valued : (s : List ℕ) (coding : Coding Formula) → has_value (coding_at s coding) ≡ has_value coding
unfolding has_value coding_at
valued s (Fixed width) = refl
valued s Golomb = refl
valued s SignedGolomb = refl
valued s Zeros = refl
valued s OneAndZeros = refl
valued s Trailing = refl
valued s Absent = refl
valued s Refused = refl
