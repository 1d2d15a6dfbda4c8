-- Where no further unit's end is seen in the first bytes, the next unit ends no more than two bytes before they do.
use Rattle.std.proofs.Common.{◌≡◌, ℕ, ◌+◌, ◌-◌, ◌<◌, ◌≤◌, inl, Bool, false, List, [], ◌∷◌, ◌++◌, length, sym, ◌∙◌, arith, ⊎_elim, refl, map, ap₂}
use Rattle.std.proofs.lemmas.Bool.{cases_lt, false≢true}
use Rattle.vx_annexb.specs.Places.{AreZeros}
use Rattle.vx_annexb.specs.ByteStream.{StartsAt, UnitPlace, unit_bytes, IsUnit, FollowsFrom}
use Rattle.vx_annexb.specs.Laws.{LaterUnseen, SeenStays}
use Rattle.vx_annexb.proofs.Places.{index_on, mark_on, end_before, unit_within, bytes_on, follows_on}
use Rattle.vx_annexb.proofs.Unique.{none_or_unit}

-- what stands before the end of the first bytes stands in them
module _ (g more : List ℕ) where
  zeros_before : (i j : ℕ) → j ≤ length g → AreZeros (g ++ more) i j → AreZeros g i j
  zeros_before i j le z = record { order = z.order; within = le; each = λ k low lt. sym (index_on g more k (omega arith)) ∙ z.each k low lt }

  starts_before : (p s : ℕ) → s ≤ length g → StartsAt (g ++ more) p s → StartsAt g p s
  starts_before p s le h = record {
    prefix = h.prefix;
    within = le;
    zeros = zeros_before p (s - 1) (omega arith) h.zeros;
    one = sym (index_on g more (s - 1) (omega (arith, h.prefix))) ∙ h.one;
  }

  unit_before : (all : Bool) (p : ℕ) (u : UnitPlace) → u.end + 2 < length g → IsUnit (g ++ more) all p u → IsUnit g false p u
  unit_before all p u lt is = record {
    starts = starts_before p u.start (omega (arith, is.ends.order)) is.starts;
    ends = record {
      order = is.ends.order;
      here = inl (end_before g more all u.end lt is.ends.here);
      before = λ k le below c. ⊎_elim (λ m. is.ends.before k le below (inl (mark_on g more 1 k m))) (λ z. false≢true z.0) c;
    };
  }

pub later_unseen : LaterUnseen
later_unseen g more all p u none is = ⊎_elim
    (λ near. near)
    (λ far. absurd (none_or_unit g false p u none (unit_before g more all p u (omega arith) is)))
    (cases_lt (length g) (u.end + 3))

-- units that are seen keep their bytes
seen_bytes : (g more : List ℕ) (p : ℕ) (us : List UnitPlace) → FollowsFrom g false p us → map (unit_bytes (g ++ more)) us ≡ map (unit_bytes g) us
seen_bytes g more p [] f = refl
seen_bytes g more p (u ∷ us) f = ap₂ (λ (x : List ℕ) (xs : List (List ℕ)). x ∷ xs) (bytes_on g more u f.0.ends.order (unit_within g more p u f.0)) (seen_bytes g more u.end us f.2)

pub seen_stays : SeenStays
seen_stays g more all p us f = (follows_on g more all p us f, seen_bytes g more p us f)
