-- A header as the values whose items it has, and how these are written.
use Rattle.std.proofs.Common.{◌≡◌, ℕ, ℤ, pos, ◌+◌, ◌-◌, ◌%◌, Bool, List, [], ◌∷◌, ◌++◌, length, take, Ok, Err, refl, sym, ap, ◌∙◌, arith}
use Rattle.std.proofs.lemmas.List.{append-nil, take_all}
use Rattle.vx_bits.specs.declared.list.Item.{Item}
use Rattle.vx_table.specs.Forms.{Form, coding_at, limits_at, has_value, after, one_field, part, form_of}
use Rattle.vx_bits.specs.Place.{Place}
use Rattle.vx_table.specs.Reading.{Reads}
use Rattle.vx_table.proofs.Spelled.{is_value}
use Rattle.vx_table.specs.Spelling.{Spells, at_end, behind, HasCode, fault_of, item_of, items_along}
use Rattle.vx_table.specs.Values.{Follows, to_end, through, bits_along}
use Rattle.vx_table.specs.Writing.{Writes}
use Rattle.vx_table.specs.declared.writer.SpellError.TheVariants.{NoValue}
use Rattle.vx_table.specs.laws.Trailing.{is_stop, ends_in_stop, EndsInStop}
use Rattle.vx_table.proofs.Stopped.{at_boundary, stops_behind, tables_stop}
use Rattle.vx_table.proofs.Joined.{parted, joined, items_joined}
use Rattle.vx_rpl.specs.declared.entry.RplTable.{RplTable}
use Rattle.vx_ph.specs.declared.tables.TheConstants.{TRAILING}
use Rattle.vx_ph.specs.Header.{header_form}
use Rattle.vx_ph.specs.Picture.{ArePictureHeaderFields, unit_form}

-- ---- what is read

-- what the bits spell goes through the form
pub spells_follow : {A : Type 0} {total : ℕ} {form : Form A} {w : List ℤ} {left rest : List Bool} → Spells total form w left rest → (a : A) × Follows form w a
spells_follow (at_end {a}) = (a, to_end)
spells_follow (behind stands more) = let on = spells_follow more in (on.0, through (is_value stands) on.1)

pub read_is : {B : Type 0} (table : RplTable) (s : List ℕ) (old new : Place) (items : List Item) (b : B)
    → Reads (header_form table s) old [] (Ok b) new items → ArePictureHeaderFields table s items
read_is table s old new items b reads =
    let found = reads.is in
    let on = spells_follow found.spelled in
    record { values = found.values; end = on.0; follows = on.1; all = found.gained }

-- ---- what is written

-- all items from the first on
pub from_all : (n : ℕ) (items : List Item) → n ≡ length items → take (n - 0) items ≡ items
from_all n items is = take_all (n - 0) items (omega (arith, is))

-- what a writer of the items of values has written
pub spelled : {B : Type 0} (f : Form (List ℕ)) (values : List ℤ) (end : List ℕ) (old new : List Bool) (items left : List Item) (b : B)
    → Follows f values end → items ≡ items_along f values → Writes f old items (Ok b) new left → new ≡ old ++ bits_along f (length old) values
spelled f values end old new items left b follows all written =
    (written.only values end [] (record { follows = follows; given = all ∙ sym (append-nil (items_along f values)) })).0

-- it has found a value
pub has_value_left : {B : Type 0} (f : Form (List ℕ)) (values : List ℤ) (end : List ℕ) (old new : List Bool) (items left : List Item)
    → Follows f values end → items ≡ items_along f values → Writes {B = B} f old items (Err NoValue) new left → ⊥
has_value_left f values end old new items left follows all written =
    written.only values end [] (record { follows = follows; given = all ∙ sym (append-nil (items_along f values)) })

-- ---- units

-- the value of a trailing
trails : (s : List ℕ) → Follows (form_of TRAILING s) (pos 0 ∷ []) s
unfolding form_of part one_field coding_at limits_at after has_value HasCode fault_of
trails s = through (record { code = refl; range = refl }) to_end

trails_nothing : (s : List ℕ) → items_along (form_of TRAILING s) (pos 0 ∷ []) ≡ []
unfolding form_of part one_field coding_at limits_at after has_value item_of
trails_nothing s = refl

pub record AreUnit (table : RplTable) (s : List ℕ) (items : List Item) : Type 0 where
  pub values : List ℤ
  pub end : List ℕ
  pub follows : Follows (unit_form table s) values end
  pub all : items ≡ items_along (unit_form table s) values

pub unit_of : (table : RplTable) (s : List ℕ) (items : List Item) → ArePictureHeaderFields table s items → AreUnit table s items
unfolding unit_form
unit_of table s items fields = record {
  values = fields.values ++ (pos 0 ∷ []);
  end = fields.end;
  follows = joined (form_of TRAILING) fields.follows (trails fields.end);
  all = fields.all ∙ sym (append-nil (items_along (header_form table s) fields.values))
      ∙ ap (λ more. items_along (header_form table s) fields.values ++ more) (sym (trails_nothing fields.end))
      ∙ sym (items_joined (form_of TRAILING) (pos 0 ∷ []) fields.follows);
}

-- a trailing has no item
ends_bare : (s : List ℕ) (values : List ℤ) (end : List ℕ) → Follows (form_of TRAILING s) values end → items_along (form_of TRAILING s) values ≡ []
unfolding form_of part one_field coding_at limits_at after has_value item_of
ends_bare s values end (through value to_end) = refl

pub of_unit : (table : RplTable) (s : List ℕ) (items : List Item) → AreUnit table s items → ArePictureHeaderFields table s items
unfolding unit_form
of_unit table s items u =
    let p = parted (header_form table s) (form_of TRAILING) u.follows in
    record {
      values = p.front;
      end = p.mid;
      follows = p.first;
      all = u.all ∙ ap (items_along (unit_form table s)) p.all ∙ items_joined (form_of TRAILING) p.others p.first
          ∙ ap (λ more. items_along (header_form table s) p.front ++ more) (ends_bare p.mid p.others u.end p.second)
          ∙ append-nil (items_along (header_form table s) p.front);
    }

pub read_unit_is : {B : Type 0} (table : RplTable) (s : List ℕ) (old new : Place) (items : List Item) (b : B)
    → Reads (unit_form table s) old [] (Ok b) new items → ArePictureHeaderFields table s items
read_unit_is table s old new items b reads =
    let found = reads.is in
    let on = spells_follow found.spelled in
    of_unit table s items (record { values = found.values; end = on.0; follows = on.1; all = found.gained })

-- it ends in rbsp_trailing_bits( ), at a byte boundary
unit_stops : (table : RplTable) (s : List ℕ) → EndsInStop (unit_form table s)
unfolding unit_form is_stop ends_in_stop
unit_stops table s = stops_behind (header_form table s) (form_of TRAILING) (λ t. tables_stop TRAILING t refl)

pub is_aligned : (table : RplTable) (s : List ℕ) (values : List ℤ) (end : List ℕ) (bits : List Bool) → Follows (unit_form table s) values end
    → bits ≡ [] ++ bits_along (unit_form table s) 0 values → length bits % 8 ≡ 0
is_aligned table s values end bits follows is =
    let whole : 0 + length (bits_along (unit_form table s) 0 values) ≡ length (bits_along (unit_form table s) 0 values) = omega arith in
    rw is (rw whole at (at_boundary 0 (bits_along (unit_form table s) 0 values) ((unit_stops table s).at 0 values end follows)))
