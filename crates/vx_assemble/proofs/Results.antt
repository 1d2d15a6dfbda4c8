-- Answers that are a value or an error, and what is known of each.
use Rattle.std.proofs.Common.{◌≡◌, ◌<◌, ◌≤◌, ◌+◌, ℕ, true, false, Option, None, Some, Result, Ok, Err, ap, arith}
use Rattle.std.specs.Prelude.{IfOk, OnOk, OnErr}

-- an error is no value
pub never : {T E A : Type 0} {r : Result T E} {x : T} {y : E} → r ≡ Err y → r ≡ Ok x → A
never err ok = absurd (cc)

pub value_no_error : {T E A : Type 0} {x : T} {y : E} → ◌≡◌ {A = Result T E} (Ok x) (Err y) → A
value_no_error is = absurd (cc)

pub error_no_value : {T E A : Type 0} {x : T} {y : E} → ◌≡◌ {A = Result T E} (Err y) (Ok x) → A
error_no_value is = absurd (cc)

error_of : {T E : Type 0} {x y : E} → ◌≡◌ {A = Result T E} (Err x) (Err y) → x ≡ y
error_of is = cc

pub same_error : {T S E : Type 0} {x y : E} → ◌≡◌ {A = Result T E} (Err x) (Err y) → ◌≡◌ {A = Result S E} (Err x) (Err y)
same_error is = let e = error_of is in ap (λ z. Err z) e

pub same_value : {T E : Type 0} {x y : T} → ◌≡◌ {A = Result T E} (Ok x) (Ok y) → x ≡ y
same_value is = cc

pub untrue : {A : Type 0} → false ≡ true → A
untrue is = absurd (cc)

pub given_none : {T E A : Type 0} {x : T} → ◌≡◌ {A = Result (Option T) E} (Ok (Some x)) (Ok None) → A
given_none is = absurd (cc)

pub none_is_given : {T E A : Type 0} {x : T} → ◌≡◌ {A = Result (Option T) E} (Ok None) (Ok (Some x)) → A
none_is_given is = absurd (cc)

pub given_same : {T E : Type 0} {x y : T} → ◌≡◌ {A = Result (Option T) E} (Ok (Some x)) (Ok (Some y)) → ◌≡◌ {A = Result T E} (Ok x) (Ok y)
given_same is = cc

pub if_none : {T E : Type 0} (P : T → Type 0) (r : Result T E) {e : E} → r ≡ Err e → IfOk r P
if_none P (Ok x) is = absurd (cc)
if_none P (Err e) is = tt

pub on_none : {T E : Type 0} (P : Type 0) (r : Result T E) {e : E} → r ≡ Err e → OnOk r P
on_none P (Ok x) is = absurd (cc)
on_none P (Err e) is = tt

pub on_err : {T E P : Type 0} (r : Result T E) → P → OnErr r P
on_err (Ok x) p = tt
on_err (Err e) p = p

pub le_self : (n : ℕ) → n ≤ n
le_self n = omega arith

pub le_more : (n : ℕ) → n ≤ n + 1
le_more n = omega arith

pub more_taken : (n new old : ℕ) → new < old → n + 1 + new ≤ n + old
more_taken n new old falls = omega (arith, falls)

pub as_many : (n new old : ℕ) → new ≤ old → n + new ≤ n + old
as_many n new old stays = omega (arith, stays)
