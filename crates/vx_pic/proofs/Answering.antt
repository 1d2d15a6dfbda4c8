-- What is answered of the layout of two sets.
use Rattle.std.proofs.Common.{◌≡◌, inl, inr, ℕ, ◌≤◌, true, false, List, length, Option, Some, None, Result, Ok, Err, refl, sym, subst, ◌∙◌, arith}
use Rattle.vx_bits.specs.declared.list.Item.{Item}
use Rattle.vx_bits.specs.declared.refusal.ReadError.{ReadError}
use Rattle.vx_bits.specs.declared.refusal.ReadError.TheVariants.{Memory, Refused}
use Rattle.vx_layout.specs.declared.numbers.Numbers.{Numbers}
use Rattle.std.specs.Prelude.{unwrap_or, IfOk, IfSome}
use Rattle.std.proofs.lemmas.Bool.{cases_Bool}
use Rattle.std.proofs.lemmas.List.FromFn.{length-map-range_with_len}
use Rattle.vx_layout.specs.declared.rect.Rect.{Rect}
use Rattle.vx_layout.specs.Bounds.{last}
use Rattle.vx_layout.specs.Faults.{IsInLimits, IsLayout, IsLowestFault}
use Rattle.vx_sps.specs.Set as sps
use Rattle.vx_sps.specs.Subpictures.{subpics_of, rect_of}
use Rattle.vx_sps.proofs.Bounded.{subpics_below}
use Rattle.vx_pps.specs.Pps as pps
use Rattle.vx_pps.specs.laws.Sets.{AreSlices, SetsTellPartitions}
use Rattle.vx_pic.proofs.Sizes.{has_ctus}
use Rattle.vx_pic.specs.inner.Layout.{IsLayoutOf}
use Rattle.vx_pic.specs.PictureLayout.{ctu_sizes_differ, IdsAgree, ctu_sizes, ids_differ, numbers, numbers_in, columns_in_picture, rows_in_picture, slices_in_picture, subpictures_of, AnswersLayout, layout_refusal, ctu_size_fault, ids_fault}

pub sizes_differ : (s p : List Item) → ctu_sizes_differ s p ≡ true → AnswersLayout s p (Err (Refused (layout_refusal ctu_size_fault)))
sizes_differ s p differ = (ctu_size_fault, ctu_sizes differ, refl)

pub ids_disagree : (s p : List Item) → ctu_sizes_differ s p ≡ false → ¬ IdsAgree s p → AnswersLayout s p (Err (Refused (layout_refusal ids_fault)))
ids_disagree s p same disagree = (ids_fault, ids_differ same disagree, refl)

pub layout_answered : (s p : List Item) (n : Numbers) (result : Result Numbers ReadError) → ctu_sizes_differ s p ≡ false → IdsAgree s p → n ≡ numbers_in s p → IsLayoutOf n result
    → AnswersLayout s p result
layout_answered s p n (Ok made) same agree is layout = (record { ctus = same; ids = agree; layout = subst IsLayout is layout.0 }, layout.1 ∙ is)
layout_answered s p n (Err Memory) same agree is layout = tt
layout_answered s p n (Err (Refused r)) same agree is fault = (fault.0, numbers same agree (subst (λ m. IsLowestFault m fault.0) is fault.1), fault.2)

-- ---- the limits of a layout

abbrev FewOf : List Rect → Type 0
FewOf rects = (1 ≤ length rects) × (length rects ≤ 1000)

few_slices : (listed : Option (List Rect)) (subpics : List Rect) → IfSome listed AreSlices → FewOf subpics → FewOf (unwrap_or listed subpics)
few_slices None subpics are few = few
few_slices (Some rects) subpics are few = (are.some, are.few)

few_subpics : (s : List Item) → sps.AreSpsItems s → FewOf (subpictures_of s)
few_subpics s set =
    let count = length-map-range_with_len (rect_of s) 0 (subpics_of s) in
    (omega (arith, count), omega (arith, count, subpics_below s set))

abbrev BoundsFit : List ℕ → Type 0
BoundsFit bounds = (2 ≤ length bounds) × (last bounds ≤ 512)

columns_fit : SetsTellPartitions → (s p : List Item) → sps.AreSpsItems s → pps.ArePpsItems p → BoundsFit (columns_in_picture s p)
columns_fit tells s p set other = elim (cases_Bool (pps.is_partitioned p)) [
  | inl is ↦ let told = (tells p other).columns is in rw is (told.several, omega (arith, told.all, told.low))
  | inr none ↦ rw none (omega arith, (has_ctus s set).columns.1)
]

rows_fit : SetsTellPartitions → (s p : List Item) → sps.AreSpsItems s → pps.ArePpsItems p → BoundsFit (rows_in_picture s p)
rows_fit tells s p set other = elim (cases_Bool (pps.is_partitioned p)) [
  | inl is ↦ let told = (tells p other).rows is in rw is (told.several, omega (arith, told.all, told.low))
  | inr none ↦ rw none (omega arith, (has_ctus s set).rows.1)
]

slices_fit : SetsTellPartitions → (s p : List Item) → sps.AreSpsItems s → pps.ArePpsItems p → FewOf (slices_in_picture s p)
slices_fit tells s p set other = elim (cases_Bool (pps.is_partitioned p)) [
  | inl is ↦ rw is (few_slices (pps.slice_list_of p) (subpictures_of s) (tells p other).slices (few_subpics s set))
  | inr none ↦ rw none (omega arith, omega arith)
]

pub in_limits : SetsTellPartitions → (s p : List Item) → sps.AreSpsItems s → pps.ArePpsItems p → IsInLimits (numbers_in s p)
in_limits tells s p set other = record { columns = columns_fit tells s p set other; rows = rows_fit tells s p set other; slices = slices_fit tells s p set other; subpics = few_subpics s set }

pub limits_of : SetsTellPartitions → (s p : List Item) (n : Numbers) → sps.AreSpsItems s → pps.ArePpsItems p → n ≡ numbers_in s p → IsInLimits n
limits_of tells s p n set other is = subst IsInLimits (sym is) (in_limits tells s p set other)

pub limits_made : (n : Numbers) (result : Result Numbers ReadError) → IsInLimits n → IsLayoutOf n result → IfOk result IsInLimits
limits_made n (Ok made) limits layout = subst IsInLimits (sym layout.1) limits
limits_made n (Err e) limits layout = tt
