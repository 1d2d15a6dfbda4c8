-- Where the stars of a table tell what is shown, its forms keep the shown fields, and the kept items tell these.
use Rattle.std.proofs.Common.{◌≡◌, inl, inr, ℕ, ℤ, Bool, true, false, cond, not, IsTrue, List, [], ◌∷◌, ◌++◌, refl, sym, subst, ◌∙◌}
use Rattle.std.proofs.Math.Bool.{and-false}
use Rattle.std.proofs.lemmas.Bool.{cases_Bool, not-true}
use Rattle.vx_bits.specs.declared.list.Item.{Item}
use Rattle.vx_table.specs.declared.rows.Formula.{Formula}
use Rattle.vx_table.specs.declared.rows.Coding.{Coding}
use Rattle.vx_table.specs.declared.rows.Coding.TheVariants.{Fixed, Golomb, SignedGolomb, Zeros, OneAndZeros, Trailing, Absent, Refused}
use Rattle.vx_table.specs.declared.rows.Cell.{Cell}
use Rattle.vx_table.specs.declared.rows.Row.{Row}
use Rattle.vx_table.specs.declared.rows.Row.TheVariants.{Field}
use Rattle.vx_table.specs.Forms.{Form, field, coding_at, cell_at, form_of}
use Rattle.vx_table.specs.Parts.{Section, sections_form}
use Rattle.vx_table.specs.Spelling.{HasCode}
use Rattle.vx_table.specs.Values.{Follows, to_end, through}
use Rattle.vx_table.specs.Depends.{has, Agree, Alike, at_ends, both, hidden_left, hidden_right}
use Rattle.vx_table.specs.Kept.{stands_for_field, kept_item, kept_along}
use Rattle.vx_table.proofs.Items.{same_value}
use Rattle.vx_table.proofs.EachField.{each_of_rows, each_of_sections}
use Rattle.vx_table.specs.Shown.{shown_cells, IsKeptWhereShown, KeepsShown, KeepsOnly, CellsFollowKept, KeptTellsKept, star_tells, stars_tell, sections_stars_tell}

-- a field stands for one at each scope or at none
pub standing : (s : List ℕ) (coding : Coding Formula) → stands_for_field (coding_at s coding) ≡ stands_for_field coding
unfolding stands_for_field coding_at
standing s (Fixed width) = refl
standing s Golomb = refl
standing s SignedGolomb = refl
standing s Zeros = refl
standing s OneAndZeros = refl
standing s Trailing = refl
standing s Absent = refl
standing s Refused = refl

same_tests : (kept is : Bool) → cond kept is (not is) ≡ true → kept ≡ is
same_tests true is h = sym h
same_tests false is h = sym (not-true is h)

pub starred : (shown : List ℕ) (c : Cell Formula) (s : List ℕ) → star_tells shown (Field c) ≡ true → IsKeptWhereShown shown (cell_at s c)
unfolding star_tells
starred shown c s h = λ stands. same_tests c.kept (has shown c.field) (rw (sym (standing s c.coding) ∙ stands) at h)

-- What the test of a table and of a structure says.
pub table_keeps_only : (given shown : List ℕ) (rows : List Row) → stars_tell (given ++ shown) rows ≡ true → KeepsOnly given shown (form_of rows)
table_keeps_only given shown rows h =
    let known = given ++ shown in
    record { keeps = λ s. each_of_rows (IsKeptWhereShown known) (star_tells known) (λ c t. starred known c t) rows s h }

pub structure_keeps_only : (given shown : List ℕ) (sections : List Section) → sections_stars_tell (given ++ shown) sections ≡ true → KeepsOnly given shown (sections_form sections)
structure_keeps_only given shown sections h =
    let known = given ++ shown in
    record { keeps = λ s. each_of_sections (IsKeptWhereShown known) (star_tells known) (λ c t. starred known c t) sections s h }

-- what stands for no field has one value
only_value : (coding : Coding ℕ) (v w : ℤ) → stands_for_field coding ≡ false → HasCode coding v → HasCode coding w → v ≡ w
unfolding stands_for_field HasCode
only_value (Fixed n) v w none a b = absurd (cc)
only_value Golomb v w none a b = absurd (cc)
only_value SignedGolomb v w none a b = absurd (cc)
only_value Zeros v w none a b = a ∙ sym b
only_value OneAndZeros v w none a b = a ∙ sym b
only_value Trailing v w none a b = a ∙ sym b
only_value Absent v w none a b = absurd (cc)
only_value Refused v w none a b = absurd a

kept_apart : (cell : Cell ℕ) (v w : ℤ) (r s : List Item) → (IsTrue (stands_for_field cell.coding) → cell.kept ≡ true) → HasCode cell.coding v → HasCode cell.coding w
    → kept_item cell v ++ r ≡ kept_item cell w ++ s → (v ≡ w) × (r ≡ s)
kept_apart cell v w r s keeps a b e = elim (cases_Bool (stands_for_field cell.coding)) [
  | inl stands ↦ same_value cell.field v w r s (rw (keeps stands, stands) at e)
  | inr none ↦ (only_value cell.coding v w none a b, rw (none, and-false cell.kept) at e)
]

pub not_kept : (cell : Cell ℕ) (v : ℤ) → (IsTrue (stands_for_field cell.coding) → cell.kept ≡ false) → kept_item cell v ≡ []
not_kept cell v drops = elim (cases_Bool (stands_for_field cell.coding)) [
  | inl stands ↦ rw (drops stands) refl
  | inr none ↦ rw (none, and-false cell.kept) refl
]

follow_kept : {shown known : List ℕ} {f g : Form (List ℕ)} {v w : List ℤ} {s t : List ℕ} → Alike shown known f g → KeepsShown shown f → KeepsShown shown g → Follows f v s → Follows g w t
    → kept_along f v ≡ kept_along g w → (shown_cells shown f v ≡ shown_cells shown g w) × Agree known s t
follow_kept (at_ends agree) keep hold to_end to_end same = (refl, agree)
follow_kept {shown} {known} {t} (both {cell} {goes} {other} is more) keep hold (through {v} {w = vs} has_v on) (through {v = u} {w = us} has_u along) same =
    let apart = kept_apart cell v u (kept_along (goes v) vs) (kept_along (other u) us) (λ stands. keep.0 stands ∙ is) has_v.code has_u.code same in
    let along_v : Follows (other v) us t = subst (λ x. Follows (other x) us t) (sym apart.0) along in
    let same_rest : kept_along (goes v) vs ≡ kept_along (other v) us = subst (λ x. kept_along (goes v) vs ≡ kept_along (other x) us) (sym apart.0) apart.1 in
    let rest = follow_kept (more v) (keep.1 v) (hold.1 v) on along_v same_rest in
    let cells : shown_cells shown (field cell goes) (v ∷ vs) ≡ shown_cells shown (field cell other) (v ∷ us) = rw (is, rest.0) refl in
    (subst (λ x. shown_cells shown (field cell goes) (v ∷ vs) ≡ shown_cells shown (field cell other) (x ∷ us)) apart.0 cells, rest.1)
follow_kept {shown} (hidden_left {cell} {goes} is more) keep hold (through {v} {w = vs} has_v on) along same =
    let none = not_kept cell v (λ stands. keep.0 stands ∙ is) in
    let rest = follow_kept (more v) (keep.1 v) hold on along (rw none at same) in
    (rw is rest.0, rest.1)
follow_kept {shown} (hidden_right {cell} {goes} is more) keep hold on (through {v} {w = vs} has_v along) same =
    let none = not_kept cell v (λ stands. hold.0 stands ∙ is) in
    let rest = follow_kept (more v) keep (hold.1 v) on along (rw none at same) in
    (rw is rest.0, rest.1)

pub cells_follow_kept : CellsFollowKept
cells_follow_kept shown known f g v w s t alike keep hold on along same = follow_kept alike keep hold on along same

pub kept_tells_kept : KeptTellsKept
kept_tells_kept given shown form s t a b v w depends only agree on along same =
    follow_kept (depends.alike s t agree) (only.keeps s) (only.keeps t) on along same
