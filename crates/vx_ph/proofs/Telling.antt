-- Items of a header whose fields two tests tell alike.
use Rattle.std.proofs.Common.{◌≡◌, ℕ, ℤ, Bool, true, cond, not, ◌||◌, List, ◌++◌, refl, sym, ◌∙◌, inl, inr}
use Rattle.std.specs.Prelude.{filter}
use Rattle.std.proofs.lemmas.Bool.{cases_Bool, not-true}
use Rattle.vx_bits.specs.declared.list.Item.{Item}
use Rattle.vx_table.specs.declared.rows.Cell.{Cell}
use Rattle.vx_table.specs.declared.rows.Formula.{Formula}
use Rattle.vx_table.specs.declared.rows.Row.{Row}
use Rattle.vx_table.specs.declared.rows.Row.TheVariants.{Field, Block, Name}
use Rattle.vx_table.specs.EachField.{EachField}
use Rattle.vx_table.specs.Forms.{Form, has_value, cell_at}
use Rattle.vx_table.specs.Scope.{fresh}
use Rattle.vx_table.specs.Depends.{has}
use Rattle.vx_table.specs.Spelling.{item_of, items_along}
use Rattle.vx_table.specs.Values.{Follows, to_end, through}
use Rattle.vx_table.proofs.Agreeing.{valued}
use Rattle.vx_rpl.specs.declared.entry.RplTable.{RplTable}
use Rattle.vx_ph.specs.declared.tables.TheConstants.{STARRED}
use Rattle.vx_ph.specs.Header.{header_form}
use Rattle.vx_ph.specs.Depends.{kept_ph_fields, kept_with_names, kept_of_sets}
use Rattle.vx_ph.proofs.Passing.{Pass, header_each}

-- the items of fields that pass a test
abbrev pub of_fields : (ℕ → Bool) → List Item → List Item
of_fields test items = filter (λ item. test item.field) items

-- both tests answer alike for the field, unless it is a gap
abbrev pub Alike : (p q : ℕ → Bool) → Cell ℕ → Type 0
Alike p q cell = has_value cell.coding ≡ true → p cell.field ≡ q cell.field

pub alike_items : (p q : ℕ → Bool) {A : Type 0} {form : Form A} {w : List ℤ} {a : A} → EachField (Alike p q) form → Follows form w a
    → of_fields p (items_along form w) ≡ of_fields q (items_along form w)
unfolding item_of
alike_items p q each to_end = refl
alike_items p q each (through {cell} {goes} {v} {w} value on) =
    let more = alike_items p q (each.1 v) on in
    elim (cases_Bool (has_value cell.coding)) [
      | inl valued_ ↦ rw (valued_, each.0 valued_, more) refl
      | inr gap ↦ rw gap more
    ]

-- the test over rows
unfoldable pub tells : (p q : ℕ → Bool) → Row → Bool
tells p q (Field c) = not (has_value c.coding) || cond (p c.field) (q c.field) (not (q c.field))
tells p q (Block presence n) = true
tells p q (Name name formula) = true

pub told : (p q : ℕ → Bool) (c : Cell Formula) (s : List ℕ) → tells p q (Field c) ≡ true → Alike p q (cell_at s c)
unfolding tells
told p q c s is = λ there.
    let has_ : has_value c.coding ≡ true = sym (valued s c.coding) ∙ there in
    elim (cases_Bool (p c.field)) [
      | inl yes_ ↦ yes_ ∙ sym (rw (has_, yes_) at is)
      | inr no_ ↦ no_ ∙ sym (not-true (q c.field) (rw (has_, no_) at is))
    ]

header_alike : (p q : ℕ → Bool) → Pass (tells p q) → (table : RplTable) (s : List ℕ) {w : List ℤ} {a : List ℕ} → Follows (header_form table s) w a
    → of_fields p (items_along (header_form table s) w) ≡ of_fields q (items_along (header_form table s) w)
header_alike p q pass table s on = alike_items p q (header_each (Alike p q) (tells p q) (told p q) table s pass) on

-- ---- sets of a header's fields

abbrev in_kept : ℕ → Bool
in_kept n = has kept_ph_fields n

abbrev in_given : ℕ → Bool
in_given n = has (kept_of_sets ++ kept_with_names) n

abbrev in_starred : ℕ → Bool
in_starred n = has STARRED n

module _ (table : RplTable) (s : List ℕ) {w : List ℤ} {a : List ℕ} (on : Follows (header_form table s) w a) where
  -- what kept fields depend on has none of them besides
  pub given_is_kept : of_fields in_given (items_along (header_form table s) w) ≡ of_fields in_kept (items_along (header_form table s) w)
  unfolding fresh has_value tells
  given_is_kept = header_alike in_given in_kept (record { front = refl; lists = refl; middle = refl; weights = refl; back = refl }) table s on

  pub not_given_is_not_kept : of_fields (λ n. not (in_given n)) (items_along (header_form table s) w) ≡ of_fields (λ n. not (in_kept n)) (items_along (header_form table s) w)
  unfolding fresh has_value tells
  not_given_is_not_kept = header_alike (λ n. not (in_given n)) (λ n. not (in_kept n)) (record { front = refl; lists = refl; middle = refl; weights = refl; back = refl }) table s on

  -- kept are all but those with a star
  pub kept_has_no_star : of_fields in_kept (items_along (header_form table s) w) ≡ of_fields (λ n. not (in_starred n)) (items_along (header_form table s) w)
  unfolding fresh has_value tells
  kept_has_no_star = header_alike in_kept (λ n. not (in_starred n)) (record { front = refl; lists = refl; middle = refl; weights = refl; back = refl }) table s on

  pub not_kept_is_starred : of_fields (λ n. not (in_kept n)) (items_along (header_form table s) w) ≡ of_fields in_starred (items_along (header_form table s) w)
  unfolding fresh has_value tells
  not_kept_is_starred = header_alike (λ n. not (in_kept n)) in_starred (record { front = refl; lists = refl; middle = refl; weights = refl; back = refl }) table s on
