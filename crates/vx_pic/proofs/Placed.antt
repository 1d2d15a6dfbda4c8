-- The latest of a list, by its place.
use Rattle.std.proofs.Common.{◌≡◌, ℕ, zero, suc, ◌<◌, false, cond, List, [], ◌∷◌, refl, sym, ◌∙◌, ap, inl, inr, arith, find}
use Rattle.std.specs.Prelude.{◌⊎◌, Option, Some, None, slice_get}
use Rattle.std.specs.Option.{option_or}
use Rattle.std.proofs.lemmas.Option.{none-some}
use Rattle.vx_pic.specs.Readings.{Reading, latest_given, sps_in, pps_in, aps_in, Picture}
use Rattle.vx_pic.specs.Counts.{is_tid0_picture, counts_or_none}
use Rattle.vx_pic.specs.laws.Pictures.{IsLatestAt, IsByPlaces, StoredByPlaces, IsPrevTid0At, PreviousByPlaces}

-- an option, by what it is
is_of : {A : Type 0} (x : Option A) → (x ≡ None) ⊎ ((a : A) × (x ≡ Some a))
is_of None = inl refl
is_of (Some a) = inr (a, refl)

below : (n k : ℕ) → suc k < suc n → k < n
below n k h = omega arith

past : {A : Type 0} (gives : Reading → Option A) (r : Reading) (before : List Reading) (n : ℕ) → gives r ≡ None
    → ((k : ℕ) (s : Reading) → k < n → slice_get before k ≡ Some s → gives s ≡ None)
    → (k : ℕ) (s : Reading) → k < suc n → slice_get (r ∷ before) k ≡ Some s → gives s ≡ None
past gives r before n none more zero s lt is = cc
past gives r before n none more (suc k) s lt is = more k s (below n k lt) is

found_at : {A : Type 0} (gives : Reading → Option A) (before : List Reading) (a : A) → latest_given gives before ≡ Some a → (n : ℕ) × IsLatestAt gives before n a
found_at gives [] a is = absurd (none-some a is)
found_at {A} gives (r ∷ before) a is = elim (is_of (gives r)) [
  | inl none ↦
      let later = found_at gives before a (ap (λ x. option_or x (latest_given gives before)) (sym none) ∙ is) in (
        suc later.0,
        record {
          reading = later.1.reading;
          here = later.1.here;
          given = later.1.given;
          later = past gives r before later.0 none later.1.later;
        },
      )
  | inr some ↦ (
    0,
    record {
      reading = r;
      here = refl;
      given = some.1 ∙ (ap (λ x. option_or x (latest_given gives before)) (sym some.1) ∙ is);
      later = λ k s lt. absurd (omega arith);
    },
  )
]

at_found : {A : Type 0} (gives : Reading → Option A) (before : List Reading) (a : A) (n : ℕ) → IsLatestAt gives before n a → latest_given gives before ≡ Some a
at_found gives [] a n at = absurd (none-some at.reading at.here)
at_found gives (r ∷ before) a zero at =
    let h = at.here in let g = at.given in
    let is : gives r ≡ Some a = cc in
    ap (λ x. option_or x (latest_given gives before)) is
at_found gives (r ∷ before) a (suc n) at =
    let none : gives r ≡ None = at.later 0 r (omega arith) refl in
    let more = at_found gives before a n (record {
      reading = at.reading;
      here = at.here;
      given = at.given;
      later = λ k s lt is. at.later (suc k) s (omega (arith, lt)) is;
    }) in
    ap (λ x. option_or x (latest_given gives before)) none ∙ more

by_places : {A : Type 0} (gives : Reading → Option A) → IsByPlaces gives
by_places gives before a = (found_at gives before a, at_found gives before a)

pub stored_by_places : StoredByPlaces
stored_by_places = (λ id. by_places (sps_in id), λ id. by_places (pps_in id), λ kind id. by_places (aps_in kind id))

-- ---- prevTid0Pic

find_at : (earlier : List Picture) (n : ℕ) (p : Picture) → IsPrevTid0At earlier n p → find is_tid0_picture earlier ≡ Some p
find_at [] n p at = absurd (none-some p at.here)
find_at (q ∷ earlier) zero p at =
    let h = at.here in let can = at.can in
    let same : q ≡ p = cc in
    rw same (ap (λ b. cond b (Some p) (find is_tid0_picture earlier)) can)
find_at (q ∷ earlier) (suc n) p at =
    let not_it : is_tid0_picture q ≡ false = at.later 0 q (omega arith) refl in
    ap (λ b. cond b (Some q) (find is_tid0_picture earlier)) not_it
    ∙ find_at earlier n p (record { here = at.here; can = at.can; later = λ k s lt is. at.later (suc k) s (omega (arith, lt)) is })

find_none : (earlier : List Picture) → ((k : ℕ) (q : Picture) → slice_get earlier k ≡ Some q → is_tid0_picture q ≡ false) → find is_tid0_picture earlier ≡ None
find_none [] none = refl
find_none (q ∷ earlier) none =
    ap (λ b. cond b (Some q) (find is_tid0_picture earlier)) (none 0 q refl) ∙ find_none earlier (λ k p is. none (suc k) p is)

pub previous_by_places : PreviousByPlaces
previous_by_places = (λ earlier n p at. ap counts_or_none (find_at earlier n p at), λ earlier none. ap counts_or_none (find_none earlier none))
