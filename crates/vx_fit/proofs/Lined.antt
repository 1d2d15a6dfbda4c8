-- Bounds that are gathered line by line, and two tests that agree.
use Rattle.std.proofs.Common.{◌≡◌, ◌↔◌, ℕ, zero, suc, ◌+◌, ◌-◌, ◌<◌, ◌≤◌, Bool, true, false, not, cond, List, [], ◌∷◌, ◌++◌, length, get_or, refl, sym, ◌∙◌, subst, inl, inr, arith}
use mathlib.Core.Bool.{beq}
use Rattle.std.proofs.lemmas.Bool.{OnTrue_at, OnFalse_at, cases_lt, true≢false, false≢true}
use Rattle.std.proofs.lemmas.List.{append-nil, get_or_default}
use Rattle.std.proofs.lemmas.List.Elements.{Contains-append_left, Contains-get_or, Contains-push, Contains-push_cases}
use Rattle.std.specs.Bool.{OnTrue, OnFalse}
use Rattle.std.specs.List.{All, AllZip, Contains}
use Rattle.vx_layout.specs.declared.numbers.Numbers.{Numbers}
use Rattle.vx_layout.specs.declared.rect.Rect.{Rect}
use Rattle.vx_layout.specs.Bounds.{Rises, last}
use Rattle.vx_layout.specs.Layouts.{no_rect}
use Rattle.vx_layout.proofs.FrameSlices.{AllZip-at}
use Rattle.vx_layout.proofs.Rising.{Contains-last, Contains-le-last}
use Rattle.vx_layout.proofs.Tiling.{Rises-push}
use Rattle.vx_fit.specs.FrameLines.{AreBounds, HasBound, IsFull, IsVertical, PassesInside, corner_at, no_numbers, part_at}
use Rattle.vx_fit.specs.Sources.{IsSized}
use Rattle.vx_fit.specs.inner.Passing.{AreOwn, LinesBelow}

pub same_answers : (a b : Bool) (P Q : Type 0) → OnTrue a P → OnFalse a (¬ P) → OnTrue b Q → OnFalse b (¬ Q) → not (beq a b) ≡ false → P ↔ Q
same_answers true true P Q p np q nq same = (λ _. OnTrue_at refl q, λ _. OnTrue_at refl p)
same_answers false false P Q p np q nq same = (λ is. absurd (OnFalse_at refl np is), λ is. absurd (OnFalse_at refl nq is))
same_answers true false P Q p np q nq same = absurd (true≢false same)
same_answers false true P Q p np q nq same = absurd (true≢false same)

pub other_answers : (a b : Bool) (P Q : Type 0) → OnTrue a P → OnFalse a (¬ P) → OnTrue b Q → OnFalse b (¬ Q) → not (beq a b) ≡ true → ¬ (P ↔ Q)
other_answers true true P Q p np q nq other = absurd (false≢true other)
other_answers false false P Q p np q nq other = absurd (false≢true other)
other_answers true false P Q p np q nq other = λ both. OnFalse_at refl nq (both.0 (OnTrue_at refl p))
other_answers false true P Q p np q nq other = λ both. OnFalse_at refl np (both.1 (OnTrue_at refl q))

no_element : (m : ℕ) → Contains [] m → ⊥
no_element m inside = omega (arith, inside.1)

pub LinesBelow-none : (IsLine : ℕ → Type 0) → LinesBelow IsLine [] 0
LinesBelow-none IsLine = record { rises = tt; each = λ m. (λ inside. absurd (no_element m inside), λ line. absurd (omega (arith, line.0))) }

-- the next line may be appended, where 0 is the first
pub LinesBelow-may : (IsLine : ℕ → Type 0) (bounds : List ℕ) (n : ℕ) → IsLine 0 → LinesBelow IsLine bounds n → Rises (bounds ++ n ∷ [])
LinesBelow-may IsLine [] zero first below = (refl, tt)
LinesBelow-may IsLine [] (suc n) first below = absurd (no_element 0 ((below.each 0).1 (omega arith, first)))
LinesBelow-may IsLine (b ∷ bs) n first below =
    let some : 0 < length (b ∷ bs) = omega arith in
    let under : last (b ∷ bs) < n =
    elim (cases_lt 0 (last (b ∷ bs))) [
      | inl above ↦ ((below.each (last (b ∷ bs))).0 (Contains-last (b ∷ bs) above)).0
      | inr none ↦ let head : b < n = ((below.each b).0 (Contains-get_or (b ∷ bs) 0 b some)).0 in omega arith
    ]
    in
    Rises-push (b ∷ bs) n below.rises some under

LinesBelow-cases : (IsLine : ℕ → Type 0) (bounds : List ℕ) (n : ℕ) (t : Bool) → OnTrue t (IsLine n) → OnFalse t (¬ IsLine n) → IsLine 0 → LinesBelow IsLine bounds n → LinesBelow IsLine (bounds ++ cond t (n ∷ []) []) (n + 1)
LinesBelow-cases IsLine bounds n true so not_so first below = record {
  rises = LinesBelow-may IsLine bounds n first below;
  each = λ m. (
    λ inside.
        elim (Contains-push_cases bounds n m inside) [
          | inl before ↦ let line = (below.each m).0 before in (omega (arith, line.0), line.1)
          | inr here ↦ (omega arith, subst IsLine here (OnTrue_at refl so))
        ],
    λ line.
        elim (cases_lt m n) [
          | inl less ↦ Contains-append_left bounds (n ∷ []) m ((below.each m).1 (less, line.1))
          | inr last ↦ let here : n ≡ m = omega (arith, line.0) in subst (λ k. Contains (bounds ++ n ∷ []) k) here (Contains-push bounds n)
        ],
  );
}
LinesBelow-cases IsLine bounds n false so not_so first below =
    rw (append-nil bounds) (record {
      rises = below.rises;
      each = λ m. (
        λ inside. let line = (below.each m).0 inside in (omega (arith, line.0), line.1),
        λ line.
            elim (cases_lt m n) [
              | inl less ↦ (below.each m).1 (less, line.1)
              | inr last ↦ let here : m ≡ n = omega (arith, line.0) in absurd (OnFalse_at refl not_so (subst IsLine here line.1))
            ],
      );
    })

-- one number more
pub LinesBelow-more : (IsLine : ℕ → Type 0) (bounds new : List ℕ) (n : ℕ) (t : Bool) → OnTrue t (IsLine n) → OnFalse t (¬ IsLine n) → IsLine 0 → LinesBelow IsLine bounds n → new ≡ bounds ++ cond t (n ∷ []) [] → LinesBelow IsLine new (n + 1)
LinesBelow-more IsLine bounds new n t so not_so first below grown = subst (λ ns. LinesBelow IsLine ns (n + 1)) (sym grown) (LinesBelow-cases IsLine bounds n t so not_so first below)

-- and all
pub AreBounds-from : (IsLine : ℕ → Type 0) (bounds : List ℕ) (end n : ℕ) → end + 1 ≤ n → ((m : ℕ) → IsLine m → m ≤ end) → LinesBelow IsLine bounds n → AreBounds IsLine bounds
AreBounds-from IsLine bounds end n past upto below = record {
  rises = below.rises;
  each = λ m. (λ inside. ((below.each m).0 inside).1, λ line. let low = upto m line in (below.each m).1 (omega arith, line));
}

-- region k and its picture
pub sized_at : (corners : List Rect) (parts : List Numbers) (k : ℕ) → AllZip IsSized corners parts → k < length corners → IsSized (corner_at corners k) (part_at parts k)
sized_at corners parts k sized short = AllZip-at IsSized corners parts k no_rect no_numbers sized short

-- no line stands right of all regions, nor below them
pub vertical_upto : (corners : List Rect) (parts : List Numbers) (end m : ℕ) → AllZip IsSized corners parts → All (λ s. s.x + s.w ≤ end) corners → IsVertical corners parts m → m ≤ end
vertical_upto corners parts end m sized reach line =
    let here = sized_at corners parts line.0 sized line.1 in
    let upto : line.2.0 ≤ last (part_at parts line.0).columns = Contains-le-last (part_at parts line.0).columns line.2.0 here.columns line.2.1 in
    let inside : (corner_at corners line.0).x + (corner_at corners line.0).w ≤ end = reach line.0 no_rect line.1 in
    omega (arith, upto, inside, here.wide, line.2.2)

pub full_upto : (corners : List Rect) (parts : List Numbers) (end m : ℕ) → AllZip IsSized corners parts → All (λ s. s.y + s.h ≤ end) corners → IsFull corners parts m → m ≤ end
full_upto corners parts end m sized reach line =
    let here = sized_at corners parts line.0 sized line.1 in
    let upto : line.2.0 ≤ last (part_at parts line.0).rows = Contains-le-last (part_at parts line.0).rows line.2.0 here.rows line.2.1 in
    let inside : (corner_at corners line.0).y + (corner_at corners line.0).h ≤ end = reach line.0 no_rect line.1 in
    omega (arith, upto, inside, here.high, line.2.2)

-- the same bounds strictly inside, counted from the corner or not
pub own_tells : (bounds : List ℕ) (from size : ℕ) (own : List ℕ) (c : ℕ) → 1 ≤ c → c < size → AreOwn bounds from size own → Contains bounds (from + c) ↔ Contains own c
own_tells bounds from size own c some short are =
    let inside : PassesInside from size (from + c) = (omega arith, omega arith) in
    let both = are (from + c) inside in (
      λ has.
          let bound = both.0 has in
          let is : bound.0 ≡ c = omega (arith, bound.2) in
          subst (Contains own) is bound.1,
      λ has. both.1 (c, has, refl),
    )

pub own_from : (bounds : List ℕ) (from size : ℕ) (own : List ℕ) → ((c : ℕ) → 1 ≤ c → c < size → Contains bounds (from + c) ↔ Contains own c) → AreOwn bounds from size own
own_from bounds from size own each = λ n inside.
    let c : ℕ = n - from in
    let is : from + c ≡ n = omega (arith, inside.0) in
    let both = each c (omega (arith, inside.0)) (omega (arith, inside)) in (
      λ has. (c, both.0 (subst (Contains bounds) (sym is) has), is),
      λ bound.
          let same : bound.0 ≡ c = omega (arith, bound.2) in
          subst (Contains bounds) is (both.1 (subst (Contains own) same bound.1)),
    )

-- lines that are exactly the bounds are a picture's own where the bounds are
pub own_from_lines : (IsLine : ℕ → Type 0) (bounds : List ℕ) (from size : ℕ) (own : List ℕ) → AreBounds IsLine bounds → ((n : ℕ) → PassesInside from size n → IsLine n ↔ HasBound from own n) → AreOwn bounds from size own
own_from_lines IsLine bounds from size own are keep = λ n inside. (λ has. (keep n inside).0 ((are.each n).0 has), λ bound. (are.each n).1 ((keep n inside).1 bound))

pub lines_from_own : (IsLine : ℕ → Type 0) (bounds : List ℕ) (from size : ℕ) (own : List ℕ) → AreBounds IsLine bounds → AreOwn bounds from size own → (n : ℕ) → PassesInside from size n → IsLine n ↔ HasBound from own n
lines_from_own IsLine bounds from size own are keep n inside = (λ line. (keep n inside).0 ((are.each n).1 line), λ bound. (are.each n).0 ((keep n inside).1 bound))

-- a picture that was read from the list
pub part_read : (parts : List Numbers) (k : ℕ) (p : Numbers) → k < length parts → p ≡ get_or parts k p → p ≡ part_at parts k
part_read parts k p short is = is ∙ get_or_default parts k p no_numbers short
