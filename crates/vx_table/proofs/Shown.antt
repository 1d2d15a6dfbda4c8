-- What structures with alike forms have in common.
use Rattle.std.proofs.Common.{◌≡◌, inl, inr, ℕ, ℤ, true, false, cond, IsTrue, IsFalse, List, [], ◌∷◌, ◌++◌, slice_set, refl, sym, subst, ◌∙◌}
use Rattle.std.proofs.lemmas.Bool.{cases_Bool}
use Rattle.vx_bits.specs.declared.list.Item.{Item}
use Rattle.vx_table.specs.declared.rows.Cell.{Cell}
use Rattle.vx_table.specs.Scope.{loaded, natural}
use Rattle.vx_table.specs.Forms.{Form, field, has_value}
use Rattle.vx_table.specs.Spelling.{item_of, items_along}
use Rattle.vx_table.specs.Values.{Follows, to_end, through}
use Rattle.vx_table.specs.Depends.{has, Agree, Alike, at_ends, both, hidden_left, hidden_right}
use Rattle.vx_table.specs.Shown.{shown_items, shown_cells, CellsFollowItems, ScopesFollowItems, AlikeTogether}
use Rattle.vx_table.proofs.Items.{item_apart}
use Rattle.vx_table.proofs.Agreeing.{agree_back, agree_on, agree_set, agree_outside, agree_itself}
use Rattle.vx_table.proofs.Dependence.{alike_then}

pub shown_here : (shown : List ℕ) (cell : Cell ℕ) (v : ℤ) (rest : List Item) → IsTrue (has shown cell.field) → shown_items shown (item_of cell v ++ rest) ≡ item_of cell v ++ shown_items shown rest
unfolding item_of
shown_here shown cell v rest is = elim (has_value cell.coding)
    as (λ b. shown_items shown (cond b (record { field = cell.field; value = v } ∷ []) [] ++ rest) ≡ cond b (record { field = cell.field; value = v } ∷ []) [] ++ shown_items shown rest) [
      | true ↦ rw is refl
      | false ↦ refl
    ]

pub hidden_here : (shown : List ℕ) (cell : Cell ℕ) (v : ℤ) (rest : List Item) → IsFalse (has shown cell.field) → shown_items shown (item_of cell v ++ rest) ≡ shown_items shown rest
unfolding item_of
hidden_here shown cell v rest is = elim (has_value cell.coding)
    as (λ b. shown_items shown (cond b (record { field = cell.field; value = v } ∷ []) [] ++ rest) ≡ shown_items shown rest) [
      | true ↦ rw is refl
      | false ↦ refl
    ]

follow_items : {shown known : List ℕ} {f g : Form (List ℕ)} {v w : List ℤ} {s t : List ℕ} → Alike shown known f g → Follows f v s → Follows g w t
    → shown_items shown (items_along f v) ≡ shown_items shown (items_along g w) → (shown_cells shown f v ≡ shown_cells shown g w) × Agree known s t
follow_items (at_ends agree) to_end to_end same = (refl, agree)
follow_items {shown} {known} {t} (both {cell} {goes} {other} is more) (through {v} {w = vs} has_v on) (through {v = u} {w = us} has_u along) same =
    let here = shown_here shown cell v (items_along (goes v) vs) is in
    let there = shown_here shown cell u (items_along (other u) us) is in
    let apart = item_apart cell {v = v} {w = u} (shown_items shown (items_along (goes v) vs)) (shown_items shown (items_along (other u) us)) has_v.code has_u.code (sym here ∙ same ∙ there) in
    let along_v : Follows (other v) us t = subst (λ x. Follows (other x) us t) (sym apart.0) along in
    let same_rest : shown_items shown (items_along (goes v) vs) ≡ shown_items shown (items_along (other v) us)
    = subst (λ x. shown_items shown (items_along (goes v) vs) ≡ shown_items shown (items_along (other x) us)) (sym apart.0) apart.1 in
    let rest = follow_items (more v) on along_v same_rest in
    let cells : shown_cells shown (field cell goes) (v ∷ vs) ≡ shown_cells shown (field cell other) (v ∷ us) = rw (is, rest.0) refl in
    (subst (λ x. shown_cells shown (field cell goes) (v ∷ vs) ≡ shown_cells shown (field cell other) (x ∷ us)) apart.0 cells, rest.1)
follow_items {shown} (hidden_left {cell} {goes} is more) (through {v} {w = vs} has_v on) along same =
    let rest = follow_items (more v) on along (sym (hidden_here shown cell v (items_along (goes v) vs) is) ∙ same) in
    (rw is rest.0, rest.1)
follow_items {shown} (hidden_right {cell} {goes} is more) on (through {v} {w = vs} has_v along) same =
    let rest = follow_items (more v) on along (same ∙ hidden_here shown cell v (items_along (goes v) vs) is) in
    (rw is rest.0, rest.1)

pub cells_follow_items : CellsFollowItems
cells_follow_items shown known f g v w s t alike on along same = follow_items alike on along same

-- only shown items count
pub loaded_shown : (names s t : List ℕ) (items : List Item) → Agree names s t → Agree names (loaded s items) (loaded t (shown_items names items))
loaded_shown names s t [] agree = agree
loaded_shown names s t (item ∷ items) agree = elim (cases_Bool (has names item.field)) [
  | inl is ↦ rw is (loaded_shown names (slice_set s item.field (natural item.value)) (slice_set t item.field (natural item.value)) items
      (agree_set item.field (natural item.value) (λ m is_not h. h) agree))
  | inr is_not ↦ rw is_not (loaded_shown names (slice_set s item.field (natural item.value)) t items
      (agree_on (agree_back (agree_outside names s item.field (natural item.value) is_not)) agree))
]

pub scopes_follow_items : ScopesFollowItems
scopes_follow_items names s t items others agree same =
    agree_on (rw same at (loaded_shown names s t items agree)) (agree_back (loaded_shown names t t others (agree_itself names t)))

pub alike_together : AlikeTogether
alike_together shown mid known f g next other alike behind = alike_then alike behind
