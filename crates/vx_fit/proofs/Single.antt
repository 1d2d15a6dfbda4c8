-- Regions have one fault at most, and their lines one list.
use Rattle.std.proofs.Common.{◌≡◌, ℕ, List, All, ap, sym, ◌∙◌, refl, inl, inr}
use Rattle.std.proofs.lemmas.Bool.{cases_order}
use Rattle.std.specs.List.{AllPairs}
use Rattle.vx_layout.specs.declared.numbers.Numbers.{Numbers}
use Rattle.vx_layout.specs.declared.rect.Rect.{Rect}
use Rattle.vx_layout.proofs.Members.{Rises-members}
use Rattle.vx_fit.specs.declared.placed.FitFault.{FitFault}
use Rattle.vx_fit.specs.declared.placed.FitFault.TheVariants.{TooLarge, Geometry, Order}
use Rattle.vx_fit.specs.declared.placed.Placed.{Placed}
use Rattle.vx_fit.specs.FitFaults.{HasGap, IsFitFault, IsGeometryFault}
use Rattle.vx_fit.specs.FrameLines.{AreBounds, HaveLines, IsLinesFault}
use Rattle.vx_fit.specs.Lowest.{IsLowest}
use Rattle.vx_fit.specs.Placing.{FitTogether, IsFilled, IsOnGrid, Overlap}
use Rattle.vx_fit.proofs.Together.{apart_none, grid_none, order_none}

pub lowest_one : (count : ℕ) (Breaks : ℕ → Type 0) (j k : ℕ) → IsLowest count Breaks j → IsLowest count Breaks k → j ≡ k
lowest_one count Breaks j k first second =
    elim (cases_order j k) [
      | inl same ↦ same
      | inr (inl below) ↦ absurd (second.lower j below first.breaks)
      | inr (inr above) ↦ absurd (first.lower k above second.breaks)
    ]

no_gap : (placed : List Placed) → IsFilled placed → ¬ HasGap placed
no_gap placed filled gap = gap.uncovered (filled gap.x gap.y gap.in_width gap.in_height)

-- regions of sound geometry
no_cause : (placed : List Placed) (ctb k : ℕ) → All (IsOnGrid ctb) placed → AllPairs (λ p q. ¬ Overlap p q) placed → IsFilled placed → ¬ IsGeometryFault placed ctb k
no_cause placed ctb k grid apart filled fault =
    elim fault.cause [
      | inl off ↦ grid_none placed ctb k grid off.in_range off.breaks
      | inr (inl overlap) ↦ apart_none placed k apart overlap.lowest.in_range overlap.lowest.breaks
      | inr (inr gap) ↦ no_gap placed filled gap.gap
    ]

geometry_one : (placed : List Placed) (ctb j k : ℕ) → IsGeometryFault placed ctb j → IsGeometryFault placed ctb k → j ≡ k
geometry_one placed ctb j k first second =
    elim first.cause [
      | inl off ↦
          elim second.cause [
            | inl too ↦ lowest_one _ _ j k off too
            | inr (inl overlap) ↦ absurd (grid_none placed ctb j overlap.grid off.in_range off.breaks)
            | inr (inr gap) ↦ absurd (grid_none placed ctb j gap.grid off.in_range off.breaks)
          ]
      | inr (inl overlap) ↦
          elim second.cause [
            | inl off ↦ absurd (grid_none placed ctb k overlap.grid off.in_range off.breaks)
            | inr (inl too) ↦ lowest_one _ _ j k overlap.lowest too.lowest
            | inr (inr gap) ↦ absurd (apart_none placed j gap.apart overlap.lowest.in_range overlap.lowest.breaks)
          ]
      | inr (inr gap) ↦
          elim second.cause [
            | inl off ↦ absurd (grid_none placed ctb k gap.grid off.in_range off.breaks)
            | inr (inl overlap) ↦ absurd (apart_none placed k gap.apart overlap.lowest.in_range overlap.lowest.breaks)
            | inr (inr too) ↦ gap.first ∙ sym too.first
          ]
    ]

pub fault_one : (placed : List Placed) (ctb : ℕ) (d e : FitFault) → IsFitFault placed ctb d → IsFitFault placed ctb e → d ≡ e
fault_one placed ctb TooLarge TooLarge first second = refl
fault_one placed ctb TooLarge (Geometry k) first second = absurd (second.small first)
fault_one placed ctb TooLarge (Order k) first second = absurd (second.small first)
fault_one placed ctb (Geometry j) TooLarge first second = absurd (first.small second)
fault_one placed ctb (Geometry j) (Geometry k) first second = ap Geometry (geometry_one placed ctb j k first second)
fault_one placed ctb (Geometry j) (Order k) first second = absurd (no_cause placed ctb j second.grid second.apart second.filled first)
fault_one placed ctb (Order j) TooLarge first second = absurd (first.small second)
fault_one placed ctb (Order j) (Geometry k) first second = absurd (no_cause placed ctb k first.grid first.apart first.filled second)
fault_one placed ctb (Order j) (Order k) first second = ap Order (lowest_one _ _ j k first.lowest second.lowest)

pub fitting_faultless : (placed : List Placed) (ctb : ℕ) (e : FitFault) → FitTogether placed ctb → ¬ IsFitFault placed ctb e
fitting_faultless placed ctb TooLarge fit fault = fit.small fault
fitting_faultless placed ctb (Geometry k) fit fault = no_cause placed ctb k fit.grid fit.apart fit.filled fault
fitting_faultless placed ctb (Order k) fit fault = order_none placed ctb k fit.order fault.lowest.in_range fault.lowest.breaks

pub lines_fault_one : (corners : List Rect) (parts : List Numbers) (j k : ℕ) → IsLinesFault corners parts j → IsLinesFault corners parts k → j ≡ k
lines_fault_one corners parts j k first second = lowest_one _ _ j k first second

pub keeping_faultless : (columns rows : List ℕ) (corners : List Rect) (parts : List Numbers) (k : ℕ) → HaveLines columns rows corners parts → ¬ IsLinesFault corners parts k
keeping_faultless columns rows corners parts k lines fault = fault.breaks (lines.keep k fault.in_range)

bounds_one : (IsLine : ℕ → Type 0) (a b : List ℕ) → AreBounds IsLine a → AreBounds IsLine b → a ≡ b
bounds_one IsLine a b first second =
    Rises-members a b first.rises second.rises (λ n. (λ has. (second.each n).1 ((first.each n).0 has), λ has. (first.each n).1 ((second.each n).0 has)))

pub lines_one : (columns rows others below : List ℕ) (corners : List Rect) (parts : List Numbers) → HaveLines columns rows corners parts → HaveLines others below corners parts → (columns ≡ others) × (rows ≡ below)
lines_one columns rows others below corners parts first second = (bounds_one _ columns others first.vertical second.vertical, bounds_one _ rows below first.horizontal second.horizontal)
