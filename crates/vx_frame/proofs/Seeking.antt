-- What tests tell of a source, by its picture as it was read from a round.
use Rattle.std.proofs.Common.{◌≡◌, ℕ, ◌<◌, Bool, true, false, not, List, length, get_or, slice_get, Option, Some, None, refl, ap, sym, subst, ◌∙◌}
use Rattle.std.specs.Bool.{OnTrue, OnFalse, beq}
use Rattle.std.specs.List.{AllByRecursion}
use Rattle.std.specs.Prelude.{◌≢◌, IsTrue, flat_map}
use Rattle.std.proofs.lemmas.Bool.{OnFalse_from, OnTrue_from, OnFalse_at, OnTrue_at, true≢false}
use Rattle.vx_fit.proofs.Single.{lowest_one}
use Rattle.vx_pic.specs.Parts.{Parts}
use Rattle.vx_frame.specs.Rounds.{SomeUnlike, SomeUnlikeFirst, UnlikeFirst, UnlikeLowest, picture_at}
use Rattle.vx_frame.specs.inner.Gathered.{IsLowestWith}
use Rattle.vx_frame.proofs.Reading.{picture_read, some_alike_read, some_unlike_read}

-- ---- a test of what is so

-- what a test tells
pub record Tells (X : Type 0) (b : Bool) : Type 0 where
  pub has : OnTrue b X
  pub none : OnFalse b (¬ X)

pub tells_bool : (b t : Bool) → b ≡ t → Tells (IsTrue t) b
tells_bool b t is = record {
  has = OnTrue_from b (IsTrue t) (λ so. sym is ∙ so);
  none = OnFalse_from b (¬ IsTrue t) (λ not_so. λ other. absurd (true≢false (sym other ∙ (sym is ∙ not_so))));
}

pub tells_read : (P : Parts → Type 0) (round : List Parts) (k : ℕ) (q : Parts) (b : Bool) → k < length round → q ≡ get_or round k q
    → OnTrue b (P q) → OnFalse b (¬ P q) → Tells (P (picture_at round k)) b
tells_read P round k q b short is holds fails = record {
  has = subst (λ x. OnTrue b (P x)) (picture_read round k q short is) holds;
  none = subst (λ x. OnFalse b (¬ P x)) (picture_read round k q short is) fails;
}

pub tells_bool_read : (has : Parts → Bool) (round : List Parts) (k : ℕ) (q : Parts) (b : Bool) → k < length round → q ≡ get_or round k q → b ≡ has q
    → Tells (IsTrue (has (picture_at round k))) b
tells_bool_read has round k q b short is told = tells_bool b (has (picture_at round k)) (told ∙ ap has (picture_read round k q short is))

-- ---- another than source 0's

tells_other : {A : Type 0} (x y : A) (b : Bool) → OnTrue b (x ≡ y) → OnFalse b (x ≢ y) → Tells (x ≢ y) (not b)
tells_other x y true same other = record { has = tt; none = λ unlike. unlike same }
tells_other x y false same other = record { has = other; none = tt }

pub tells_unlike : {A : Type 0} (f : Parts → A) (round : List Parts) (k : ℕ) (q p : Parts) (b : Bool) → k < length round → 0 < length round
    → q ≡ get_or round k q → p ≡ get_or round 0 p → OnTrue b (f q ≡ f p) → OnFalse b (f q ≢ f p) → Tells (UnlikeFirst f round k) (not b)
tells_unlike f round k q p b short some q_is p_is same other =
    subst (λ x. Tells (f x ≢ f (picture_at round 0)) (not b)) (picture_read round k q short q_is)
    (subst (λ x. Tells (f q ≢ f x) (not b)) (picture_read round 0 p some p_is) (tells_other (f q) (f p) b same other))

-- another than the first of all
pub tells_some : {A : Type 0} (f : Parts → List A) (round : List Parts) (k : ℕ) (q : Parts) (first : Option A) (b : Bool) → k < length round → q ≡ get_or round k q
    → first ≡ slice_get (flat_map f round) 0 → OnTrue b (SomeUnlike (f q) first) → OnFalse b (AllByRecursion (λ x. first ≡ Some x) (f q))
    → Tells (SomeUnlikeFirst f round k) b
tells_some f round k q first b short is first_is unlike alike = record {
  has = OnTrue_from b (SomeUnlikeFirst f round k) (λ so. some_unlike_read f round k q first short is first_is (OnTrue_at so unlike));
  none = OnFalse_from b (¬ SomeUnlikeFirst f round k) (λ not_so. some_alike_read f round k q first short is first_is (OnFalse_at not_so alike));
}

-- ---- another than that of the lowest that has something

-- whether a source has it, by its picture as it was read
pub has_read : (has : Parts → Bool) (round : List Parts) (k : ℕ) (q : Parts) (b t : Bool) → k < length round → q ≡ get_or round k q → b ≡ has q → b ≡ t
    → has (picture_at round k) ≡ t
has_read has round k q b t short is told so = sym (ap has (picture_read round k q short is)) ∙ (sym told ∙ so)

-- none has it, or this one hasn't
pub none_lowest : {A : Type 0} (has : Parts → Bool) (f : Parts → A) (round : List Parts) (k : ℕ) → IsLowestWith has round None → ¬ UnlikeLowest has f round k
none_lowest has f round k none (is, (i, first, other)) = none i first.in_range first.breaks

pub lacks_lowest : {A : Type 0} (has : Parts → Bool) (f : Parts → A) (round : List Parts) (k : ℕ) → has (picture_at round k) ≡ false → ¬ UnlikeLowest has f round k
lacks_lowest has f round k off (is, more) = true≢false (sym is ∙ off)

alike_lowest : {A : Type 0} (has : Parts → Bool) (f : Parts → A) (round : List Parts) (k j : ℕ) → IsLowestWith has round (Some j)
    → f (picture_at round k) ≡ f (picture_at round j) → ¬ UnlikeLowest has f round k
alike_lowest has f round k j lowest same (is, (i, first, other)) =
    let one : i ≡ j = lowest_one _ _ i j first lowest in
    other (same ∙ sym (ap (λ m. f (picture_at round m)) one))

lowest_tells : {A : Type 0} (has : Parts → Bool) (f : Parts → A) (round : List Parts) (k j : ℕ) (b : Bool) → IsLowestWith has round (Some j) → has (picture_at round k) ≡ true
    → OnTrue b (f (picture_at round k) ≡ f (picture_at round j)) → OnFalse b (f (picture_at round k) ≢ f (picture_at round j)) → Tells (UnlikeLowest has f round k) (not b)
lowest_tells has f round k j true lowest here same other = record { has = tt; none = alike_lowest has f round k j lowest same }
lowest_tells has f round k j false lowest here same other = record { has = (here, (j, lowest, other)); none = tt }

-- whether two things of pictures that were read are the same
pub tells_lowest : {A : Type 0} (has : Parts → Bool) (f : Parts → A) (round : List Parts) (k j : ℕ) (q r : Parts) (x y : A) (b : Bool) → IsLowestWith has round (Some j)
    → has (picture_at round k) ≡ true → k < length round → q ≡ get_or round k q → r ≡ get_or round j r → x ≡ f q → y ≡ f r → OnTrue b (x ≡ y) → OnFalse b (x ≢ y)
    → Tells (UnlikeLowest has f round k) (not b)
tells_lowest has f round k j q r x y b lowest here short q_is r_is x_is y_is same other =
    let x_at : x ≡ f (picture_at round k) = x_is ∙ ap f (picture_read round k q short q_is) in
    let y_at : y ≡ f (picture_at round j) = y_is ∙ ap f (picture_read round j r lowest.in_range r_is) in
    lowest_tells has f round k j b lowest here
    (OnTrue_from b _ (λ so. sym x_at ∙ (OnTrue_at so same ∙ y_at)))
    (OnFalse_from b _ (λ not_so. λ alike. OnFalse_at not_so other (x_at ∙ (alike ∙ sym y_at))))

beq_self : (x : Bool) → beq x x ≡ true
beq_self true = refl
beq_self false = refl

beq_same : (x y : Bool) → beq x y ≡ true → x ≡ y
beq_same true true so = refl
beq_same true false so = sym so
beq_same false true so = so
beq_same false false so = refl

-- the same of flags
pub tells_flags : (has f : Parts → Bool) (round : List Parts) (k j : ℕ) (q r : Parts) (x y : Bool) → IsLowestWith has round (Some j)
    → has (picture_at round k) ≡ true → k < length round → q ≡ get_or round k q → r ≡ get_or round j r → x ≡ f q → y ≡ f r
    → Tells (UnlikeLowest has f round k) (not (beq x y))
tells_flags has f round k j q r x y lowest here short q_is r_is x_is y_is =
    tells_lowest has f round k j q r x y (beq x y) lowest here short q_is r_is x_is y_is
    (OnTrue_from (beq x y) (x ≡ y) (λ so. beq_same x y so))
    (OnFalse_from (beq x y) (x ≢ y) (λ not_so. λ same. true≢false (sym (beq_self x) ∙ (ap (λ z. beq x z) same ∙ not_so))))
