-- Anything may follow a picture header, and what is written of a unit is read as its header.
use Rattle.std.proofs.Common.{◌≡◌, ℕ, ℤ, ◌+◌, ◌*◌, Bool, true, false, not, List, [], ◌∷◌, ◌++◌, length, Ok, refl, ap, sym, ◌∙◌, arith}
use Rattle.std.proofs.lemmas.Bool.{not-true}
use Rattle.std.proofs.lemmas.List.{append-nil}
use Rattle.vx_bits.specs.declared.list.Item.{Item}
use Rattle.vx_bits.specs.Codes.{bits_of}
use Rattle.vx_bits.proofs.Bits.{length-bits_of}
use Rattle.vx_table.specs.declared.rows.Formula.{Formula}
use Rattle.vx_table.specs.declared.rows.Coding.{Coding}
use Rattle.vx_table.specs.declared.rows.Coding.TheVariants.{Fixed, Golomb, SignedGolomb, Zeros, OneAndZeros, Trailing, Absent, Refused}
use Rattle.vx_table.specs.declared.rows.Cell.{Cell}
use Rattle.vx_table.specs.declared.rows.Row.{Row}
use Rattle.vx_table.specs.declared.rows.Row.TheVariants.{Field, Block, Name}
use Rattle.vx_table.specs.Forms.{Form, done, field, ◌>>=◌, coding_at, limits_at, cell_at, after, one_field, part, form_of, has_value}
use Rattle.vx_table.specs.Reading.{Reads}
use Rattle.vx_table.specs.Spelling.{MayEnd, Spells, code_of, items_along}
use Rattle.vx_table.specs.Values.{bits_along, Closes}
use Rattle.vx_table.specs.EachField.{EachField}
use Rattle.vx_table.specs.laws.Trailing.{is_trailing}
use Rattle.vx_table.proofs.Apart.{reads_one_way, answers_one_way}
use Rattle.vx_table.proofs.Spelled.{reads_back}
use Rattle.vx_rpl.specs.declared.entry.RplTable.{RplTable}
use Rattle.vx_ph.specs.declared.tables.TheConstants.{TRAILING}
use Rattle.vx_ph.specs.declared.header.PictureHeader.{PictureHeader}
use Rattle.vx_ph.specs.Header.{header_form}
use Rattle.vx_ph.specs.Picture.{unit_form, IsPictureHeaderUnit, UnitIsRead}
use Rattle.vx_ph.proofs.Passing.{header_each}

-- ---- anything may follow

abbrev pub Opens : Cell ℕ → Type 0
Opens cell = (rest : List Bool) → MayEnd cell.coding rest

unfoldable pub row_opens : Row → Bool
row_opens (Field c) = not (is_trailing c.coding)
row_opens (Block presence n) = true
row_opens (Name name formula) = true

coding_opens : (s : List ℕ) (coding : Coding Formula) → is_trailing coding ≡ false → (rest : List Bool) → MayEnd (coding_at s coding) rest
unfolding is_trailing coding_at MayEnd
coding_opens s (Fixed width) is rest = tt
coding_opens s Golomb is rest = tt
coding_opens s SignedGolomb is rest = tt
coding_opens s Zeros is rest = tt
coding_opens s OneAndZeros is rest = tt
coding_opens s Trailing is rest = absurd (cc)
coding_opens s Absent is rest = tt
coding_opens s Refused is rest = tt

pub row_is_open : (c : Cell Formula) (s : List ℕ) → row_opens (Field c) ≡ true → Opens (cell_at s c)
unfolding row_opens
row_is_open c s is = coding_opens s c.coding (not-true (is_trailing c.coding) is)

pub header_opens : (table : RplTable) (s : List ℕ) → EachField Opens (header_form table s)
unfolding row_opens is_trailing
header_opens table s = header_each Opens row_opens row_is_open table s (record { front = refl; lists = refl; middle = refl; weights = refl; back = refl })

-- ---- units

-- a form that anything may follow, in front of another
closes_then : (f : Form (List ℕ)) (next : List ℕ → Form (List ℕ)) (place : ℕ) (values : List ℤ) (rest : List Bool) → EachField Opens f
    → ((s : List ℕ) (at : ℕ) (w : List ℤ) → Closes (next s) at w rest) → Closes (f >>= next) place values rest
closes_then (done s) next place values rest is last = last s place values
closes_then (field cell goes) next place [] rest is last = tt
closes_then (field cell goes) next place (v ∷ w) rest is last =
    (is.0 (bits_along (goes v >>= next) (place + length (code_of cell.coding place v)) w ++ rest), closes_then (goes v) next (place + length (code_of cell.coding place v)) w rest (is.1 v) last)

trailing_closes : (s : List ℕ) (place : ℕ) (w : List ℤ) → Closes (form_of TRAILING s) place w []
unfolding form_of part one_field coding_at limits_at after has_value MayEnd
trailing_closes s place [] = tt
trailing_closes s place (v ∷ w) = (refl, tt)

pub unit_spells : (table : RplTable) (s : List ℕ) (header : PictureHeader) (bytes : List ℕ) (u : IsPictureHeaderUnit table s header bytes)
    → Spells (8 * length bytes) (unit_form table s) u.values (bits_of bytes) []
unfolding unit_form
unit_spells table s header bytes u =
    let form = header_form table s >>= form_of TRAILING in
    let all = bits_along form 0 u.values in
    let bits : all ++ [] ≡ bits_of bytes = append-nil all ∙ sym u.bits in
    let total : 0 + length (all ++ []) ≡ 8 * length bytes = omega (arith, ap length bits, length-bits_of bytes) in
    rw (← total, ← bits) (reads_back form 0 u.values u.end [] u.follows (closes_then (header_form table s) (form_of TRAILING) 0 u.values [] (header_opens table s) trailing_closes))

-- what bits spell is read of them
pub spelled_is_read : {B : Type 0} (b : B) (form : Form (List ℕ)) (total : ℕ) {values : List ℤ} {left rest : List Bool} {items : List Item} → Spells total form values left rest → items ≡ items_along form values
    → Reads form (record { total = total; left = left }) [] (Ok b) (record { total = total; left = rest }) items
spelled_is_read b form total {values} {left} {rest} spelled all = record {
  is = record { values = values; spelled = spelled; total = refl; gained = all };
  only = λ others more other.
      let one = reads_one_way form total others values left more rest other spelled in
      (sym one.1, all ∙ ap (items_along form) (sym one.0));
  refusal = λ others cell more r reached out. absurd ((answers_one_way form total others values left more rest cell r reached out).0 spelled);
}

pub unit_is_read : UnitIsRead
unit_is_read table s header bytes is u =
    let whole = 8 * length bytes in
    ((record { total = whole; left = [] }, spelled_is_read tt (unit_form table s) whole (unit_spells table s header bytes u) u.all), is.lists)
