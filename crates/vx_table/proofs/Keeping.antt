-- What is rewritten has the same kept items.
use Rattle.std.proofs.Common.{◌≡◌, inl, inr, ℕ, ℤ, true, false, ◌&&◌, IsTrue, List, [], ◌∷◌, ◌++◌, refl, ap, sym, ◌∙◌}
use Rattle.std.proofs.Math.Bool.{and-false}
use Rattle.std.proofs.lemmas.Bool.{cases_Bool, false≢true}
use Rattle.vx_bits.specs.declared.list.Item.{Item}
use Rattle.vx_table.specs.declared.rows.Formula.{Formula}
use Rattle.vx_table.specs.declared.rows.Coding.{Coding}
use Rattle.vx_table.specs.declared.rows.Coding.TheVariants.{Fixed, Golomb, SignedGolomb, Zeros, OneAndZeros, Trailing, Absent, Refused}
use Rattle.vx_table.specs.declared.rows.Cell.{Cell}
use Rattle.vx_table.specs.declared.rows.Row.TheVariants.{Field}
use Rattle.vx_table.specs.Forms.{Form, has_value, cell_at}
use Rattle.vx_table.specs.EachField.{EachField}
use Rattle.vx_table.specs.Spelling.{item_of, items_along}
use Rattle.vx_table.specs.Values.{Follows, to_end, through}
use Rattle.vx_table.specs.Depends.{has, Inside}
use Rattle.vx_table.specs.Kept.{stands_for_field, kept_item, kept_along}
use Rattle.vx_table.specs.Shown.{shown_items, KeepsShown}
use Rattle.vx_table.specs.Rewritten.{FillsNone, fills_none, RewrittenKeeps, SectionsFillNone}
use Rattle.vx_table.proofs.Agreeing.{valued}
use Rattle.vx_table.proofs.Starred.{not_kept, standing}
use Rattle.vx_table.proofs.Shown.{shown_here, hidden_here}
use Rattle.vx_table.proofs.EachField.{each_of_sections}

stands : (coding : Coding ℕ) → stands_for_field coding ≡ false → has_value coding ≡ false
unfolding stands_for_field has_value
stands (Fixed n) none = none
stands Golomb none = none
stands SignedGolomb none = none
stands Zeros none = refl
stands OneAndZeros none = refl
stands Trailing none = refl
stands Absent none = refl
stands Refused none = refl

-- the kept item of a shown field is its item
kept_is_item : (cell : Cell ℕ) (v : ℤ) → (IsTrue (stands_for_field cell.coding) → cell.kept ≡ true) → FillsNone cell → kept_item cell v ≡ item_of cell v
unfolding item_of
kept_is_item cell v keeps fills = elim (cases_Bool (stands_for_field cell.coding)) [
  | inl is ↦
      let kept = keeps is in
      let both : (cell.kept && stands_for_field cell.coding) ≡ true = rw (kept, is) refl in
      rw (both, fills both) refl
  | inr none ↦ rw (none, and-false cell.kept, stands cell.coding none) refl
]

-- kept items are those of shown fields, where no kept row stands for an absent field
pub kept_are_shown : (kept : List ℕ) {f : Form (List ℕ)} {w : List ℤ} {a : List ℕ} → KeepsShown kept f → EachField FillsNone f → Follows f w a → kept_along f w ≡ shown_items kept (items_along f w)
kept_are_shown kept keeps fills to_end = refl
kept_are_shown kept keeps fills (through {cell} {goes} {v} {w} value on) =
    let more = kept_are_shown kept (keeps.1 v) (fills.1 v) on in
    elim (cases_Bool (has kept cell.field)) [
      | inl is ↦
          ap (λ x. x ++ kept_along (goes v) w) (kept_is_item cell v (λ h. keeps.0 h ∙ is) fills.0) ∙ ap (λ x. item_of cell v ++ x) more
          ∙ sym (shown_here kept cell v (items_along (goes v) w) is)
      | inr is_not ↦
          ap (λ x. x ++ kept_along (goes v) w) (not_kept cell v (λ h. keeps.0 h ∙ is_not)) ∙ more ∙ sym (hidden_here kept cell v (items_along (goes v) w) is_not)
    ]

pub shown_of_shown : (kept names : List ℕ) (items : List Item) → Inside kept names → shown_items kept (shown_items names items) ≡ shown_items kept items
shown_of_shown kept names [] inside = refl
shown_of_shown kept names (item ∷ items) inside = elim (cases_Bool (has names item.field)) [
  | inl is ↦ elim (cases_Bool (has kept item.field)) [
    | inl too ↦ rw (is, too) (ap (λ x. item ∷ x) (shown_of_shown kept names items inside))
    | inr not_too ↦ rw (is, not_too) (shown_of_shown kept names items inside)
  ]
  | inr is_not ↦ elim (cases_Bool (has kept item.field)) [
    | inl too ↦ absurd (false≢true (sym is_not ∙ inside.has_too item.field too))
    | inr not_too ↦ rw (is_not, not_too) (shown_of_shown kept names items inside)
  ]
]

pub rewritten_keeps : RewrittenKeeps
rewritten_keeps kept names f g v w a b inside keeps holds fills fulfills on along same =
    kept_are_shown kept keeps fills on ∙ sym (shown_of_shown kept names (items_along f v) inside) ∙ ap (λ x. shown_items kept x) same
    ∙ shown_of_shown kept names (items_along g w) inside ∙ sym (kept_are_shown kept holds fulfills along)

filled : (c : Cell Formula) (s : List ℕ) → fills_none (Field c) ≡ true → FillsNone (cell_at s c)
unfolding fills_none
filled c s h = λ stands_there. rw (valued s c.coding) (elim (cases_Bool (has_value c.coding)) [
  | inl is ↦ is
  | inr is_not ↦ absurd (false≢true (rw (rw (standing s c.coding) at stands_there, is_not) at h))
])

pub sections_fill_none : SectionsFillNone
sections_fill_none sections s test = each_of_sections FillsNone fills_none (λ c t h. filled c t h) sections s test
