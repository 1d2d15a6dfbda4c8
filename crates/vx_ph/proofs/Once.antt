-- A field that the rows of a table code in one place outside turns has one item at most.
use Rattle.std.proofs.Common.{◌≡◌, ℕ, ℤ, zero, suc, ◌+◌, ◌-◌, ◌≤◌, min, true, false, cond, ◌==◌, List, [], ◌∷◌, ◌++◌, length, filter, slice_set, refl, ap, subst, ◌∙◌, inl, inr, arith}
use Rattle.std.proofs.lemmas.Bool.{cases_eq, ne_eqb}
use Rattle.std.proofs.lemmas.List.{length-append}
use Rattle.std.proofs.lemmas.List.Elements.{filter-append}
use Rattle.vx_bits.specs.declared.list.Item.{Item}
use Rattle.vx_table.specs.declared.rows.Cell.{Cell}
use Rattle.vx_table.specs.declared.rows.Formula.{Formula}
use Rattle.vx_table.specs.declared.rows.Presence.{Presence}
use Rattle.vx_table.specs.declared.rows.Presence.TheVariants.{When, Repeat}
use Rattle.vx_table.specs.declared.rows.Row.{Row}
use Rattle.vx_table.specs.declared.rows.Row.TheVariants.{Field, Block, Name}
use Rattle.vx_table.specs.Forms.{Form, done, ◌>>=◌, has_value, cell_at, one_field, turns, present, part, form_of}
use Rattle.vx_table.specs.Rewrites.{Takes}
use Rattle.vx_table.specs.Scope.{one_if, value}
use Rattle.vx_table.specs.Spelling.{item_of, items_along}
use Rattle.vx_table.specs.Values.{Follows, to_end, through}
use Rattle.vx_table.proofs.Joined.{items_joined, parted}
use Rattle.vx_fields.specs.declared.alf.TheConstants as alf
use Rattle.vx_ph.specs.declared.tables.TheConstants.{ALF}
use Rattle.vx_ph.specs.Filter.{ComesOnce, FilterNamesOnce}

-- how many items are of the field
abbrev many : ℕ → List Item → ℕ
many of items = length (filter (λ item. item.field == of) items)

-- a form has so many at most
record HasFew (of most : ℕ) (form : Form (List ℕ)) : Type 0 where
  at : (values : List ℤ) (end : List ℕ) → Follows form values end → many of (items_along form values) ≤ most

few_done : (of : ℕ) (s : List ℕ) → HasFew of 0 (done s)
few_done of s = record { at = λ values end follows. omega arith }

few_then : (of k m : ℕ) (f : Form (List ℕ)) (next : List ℕ → Form (List ℕ)) → HasFew of k f → ((t : List ℕ) → HasFew of m (next t)) → HasFew of (k + m) (f >>= next)
few_then of k m f next first more = record {
  at = λ values end follows.
      let p = parted f next follows in
      let items = ap (items_along (f >>= next)) p.all ∙ items_joined next p.others p.first in
      let sum : many of (items_along (f >>= next) values) ≡ many of (items_along f p.front) + many of (items_along (next p.mid) p.others)
      = ap (many of) items ∙ ap length (filter-append (λ item. item.field == of) (items_along f p.front) (items_along (next p.mid) p.others))
      ∙ length-append (filter (λ item. item.field == of) (items_along f p.front)) (filter (λ item. item.field == of) (items_along (next p.mid) p.others)) in
      omega (arith, sum, first.at p.front p.mid p.first, (more p.mid).at p.others end p.second);
}

one_item : (of : ℕ) (cell : Cell ℕ) (v : ℤ) → many of (item_of cell v ++ []) ≤ one_if (cell.field == of)
unfolding item_of
one_item of cell v =
    let one : List Item = record { field = cell.field; value = v } ∷ [] in
    elim (has_value cell.coding) as (λ b. many of (cond {A = List Item} b one [] ++ []) ≤ one_if (cell.field == of)) [
      | true ↦ elim (cell.field == of) as (λ is. length (cond {A = List Item} is one []) ≤ one_if is) [ true ↦ omega arith | false ↦ omega arith ]
      | false ↦ omega arith
    ]

one_followed : (of : ℕ) (s : List ℕ) (c : Cell Formula) (values : List ℤ) (end : List ℕ) → Follows (one_field s c) values end → many of (items_along (one_field s c) values) ≤ one_if (c.field == of)
unfolding one_field
one_followed of s c values end (through {v} is to_end) = one_item of (cell_at s c) v

few_field : (of : ℕ) (s : List ℕ) (c : Cell Formula) → HasFew of (one_if (c.field == of)) (one_field s c)
few_field of s c = record { at = λ values end follows. one_followed of s c values end follows }

few_turns : (of : ℕ) (block : List ℕ → Form (List ℕ)) (counter turn times : ℕ) (s : List ℕ) → ((t : List ℕ) → HasFew of 0 (block t)) → HasFew of 0 (turns block counter turn times s)
unfolding turns
few_turns of block counter turn zero s few = few_done of s
few_turns of block counter turn (suc more) s few =
    few_then of 0 0 (block (slice_set s counter turn)) (turns block counter (turn + 1) more) (few (slice_set s counter turn)) (λ t. few_turns of block counter (turn + 1) more t few)

-- how often rows code the field: those of a block that comes in turns count as two
abbrev in_block : Presence → ℕ → ℕ
in_block (When holds) k = k
in_block (Repeat counter times) k = cond (k == 0) 0 2

unfoldable coded : ℕ → ℕ → ℕ → List Row → ℕ
coded of skip len [] = 0
coded of (suc skip) len (row ∷ rows) = coded of skip len rows
coded of zero zero (row ∷ rows) = 0
coded of zero (suc len) (Field c ∷ rows) = one_if (c.field == of) + coded of zero len rows
coded of zero (suc len) (Block presence n ∷ rows) = in_block presence (coded of zero (min n len) rows) + coded of (min n len) (len - min n len) rows
coded of zero (suc len) (Name name formula ∷ rows) = coded of zero len rows

few_present : (of k : ℕ) (presence : Presence) (block : List ℕ → Form (List ℕ)) (s : List ℕ) → in_block presence k ≤ 1 → (k ≤ 1 → (t : List ℕ) → HasFew of k (block t)) → HasFew of (in_block presence k) (present presence block s)
unfolding present
few_present of k (When holds) block s low few = elim (value s holds == 0) as (λ none. HasFew of k (cond none (done s) (block s))) [
  | true ↦ record { at = λ values end follows. omega (arith, (few_done of s).at values end follows) }
  | false ↦ few low s
]
few_present of k (Repeat counter times) block s low few = elim (cases_eq k 0) [
  | inl none ↦ rw none (few_turns of block counter 0 (value s times) s (λ t. rw none at (few (omega arith) t)))
  | inr some ↦ let two : cond {A = ℕ} (k == 0) 0 2 ≡ 2 = rw (ne_eqb k 0 some) refl in absurd (omega (arith, low, two))
]

few_part : (of skip len : ℕ) (rows : List Row) (s : List ℕ) → coded of skip len rows ≤ 1 → HasFew of (coded of skip len rows) (part skip len rows s)
unfolding coded part
few_part of zero len [] s low = few_done of s
few_part of (suc skip) len [] s low = few_done of s
few_part of (suc skip) len (row ∷ rows) s low = few_part of skip len rows s low
few_part of zero zero (row ∷ rows) s low = few_done of s
few_part of zero (suc len) (Field c ∷ rows) s low =
    few_then of (one_if (c.field == of)) (coded of 0 len rows) (one_field s c) (part 0 len rows) (few_field of s c) (λ t. few_part of 0 len rows t (omega arith))
few_part of zero (suc len) (Block presence n ∷ rows) s low =
    let inside : ℕ = coded of 0 (min n len) rows in
    let behind : ℕ = coded of (min n len) (len - min n len) rows in
    few_then of (in_block presence inside) behind (present presence (part 0 (min n len) rows) s) (part (min n len) (len - min n len) rows)
    (few_present of inside presence (part 0 (min n len) rows) s (omega arith) (λ less t. few_part of 0 (min n len) rows t less))
    (λ t. few_part of (min n len) (len - min n len) rows t (omega arith))
few_part of zero (suc len) (Name name formula ∷ rows) s low = few_part of 0 len rows (slice_set s name (value s formula)) low

-- ---- the filter

once : (of : ℕ) (s : List ℕ) (items : List Item) → coded of 0 (length ALF) ALF ≡ 1 → Takes (form_of ALF s) items → ComesOnce of items
unfolding form_of
once of s items one takes =
    let few = (few_part of 0 (length ALF) ALF s (omega arith)).at takes.values takes.end takes.follows in
    subst (λ some. many of some ≤ 1) takes.all (omega (arith, few, one))

pub filter_names_once : FilterNamesOnce
unfolding coded
filter_names_once s items takes = record {
  chroma = once alf.alf_aps_id_chroma s items refl takes;
  cb = once alf.alf_cc_cb_aps_id s items refl takes;
  cr = once alf.alf_cc_cr_aps_id s items refl takes;
}
