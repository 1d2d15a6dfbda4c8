-- A set that was read or written, as the values whose items it has.
use Rattle.std.proofs.Common.{◌≡◌, inl, inr, ℕ, ℤ, ◌+◌, ◌*◌, ◌-◌, ◌≤◌, ◌%◌, Bool, List, [], ◌∷◌, ◌++◌, length, take, drop, Result, Ok, Err, refl, arith, sym, ap, subst, ◌∙◌}
use Rattle.std.proofs.lemmas.List.{append-nil, take_all}
use Rattle.vx_bits.specs.Codes.{bits_of}
use Rattle.vx_bits.specs.declared.list.Item.{Item}
use Rattle.vx_bits.specs.declared.refusal.ReadError.TheVariants as errors
use Rattle.vx_bits.proofs.Bits.{bits_of-append, length-bits_of}
use Rattle.vx_table.specs.declared.parts.Part.{Part}
use Rattle.vx_table.specs.declared.writer.SpellError.{SpellError}
use Rattle.vx_table.specs.declared.writer.SpellError.TheVariants as spellings
use Rattle.vx_table.specs.Parts.{Section}
use Rattle.vx_table.specs.Scope.{fresh}
use Rattle.vx_table.specs.Spelling.{Spells, items_along}
use Rattle.vx_table.specs.Values.{Follows, bits_along, Closes}
use Rattle.vx_table.specs.Reading.{ReadsValue}
use Rattle.vx_table.specs.Writing.{Writes}
use Rattle.vx_table.specs.laws.Trailing.{is_stop, is_trailing, has_trailing, trails_last, ends_in_stop, sections_end_in_stop, parts_trail_last, EndsInStop}
use Rattle.vx_table.specs.Claims.{comes_always}
use Rattle.vx_table.proofs.Closing.{parts_close_at_the_end}
use Rattle.vx_table.proofs.Stopped.{sections_stop, at_boundary}
use Rattle.vx_table.proofs.Spelled.{both_ways, reads_back, spells_apart}
use Rattle.vx_sps.specs.Structure.{sps_sections, sps_form}
use Rattle.vx_sps.specs.Set.{AreSpsItems, IsSpsSpelling, WrittenIsRead, NoProperPrefix}

-- ---- what is read

pub read_is_set : (bytes : List ℕ) (items : List Item) → ReadsValue sps_form bytes (Ok items) → AreSpsItems items
read_is_set bytes items (place, reading) =
    let found = reading.is in
    let within : length (bits_of bytes) ≤ 8 * length bytes = omega (arith, length-bits_of bytes) in
    let is = (both_ways sps_form (8 * length bytes) found.values (bits_of bytes) place.left within).0 found.spelled in
    record { values = found.values; end = is.0; follows = is.1; all = found.gained }

-- ---- what is written

-- it ends in rbsp_trailing_bits( )
pub sps_stops : EndsInStop sps_form
unfolding is_stop ends_in_stop sections_end_in_stop comes_always
sps_stops = sections_stop sps_sections fresh refl

-- and so at a byte boundary
pub ends_aligned : (values : List ℤ) (end : List ℕ) → Follows sps_form values end → length (bits_along sps_form 0 values) % 8 ≡ 0
ends_aligned values end follows =
    let whole : 0 + length (bits_along sps_form 0 values) ≡ length (bits_along sps_form 0 values) = omega arith in
    let aligned = at_boundary 0 (bits_along sps_form 0 values) (sps_stops.at 0 values end follows) in
    omega (arith, whole, aligned)

-- what the writer of a set's items has written
pub spelled : {B : Type 0} (items left : List Item) (b : B) (bits : List Bool) (set : AreSpsItems items) → Writes sps_form [] items (Ok b) bits left
    → bits ≡ bits_along sps_form 0 set.values
spelled items left b bits set written = (written.only set.values set.end [] (record { follows = set.follows; given = set.all ∙ sym (append-nil (items_along sps_form set.values)) })).0

pub is_aligned : {B : Type 0} (items left : List Item) (b : B) (bits : List Bool) → AreSpsItems items → Writes sps_form [] items (Ok b) bits left → length bits % 8 ≡ 0
is_aligned items left b bits set written = rw (spelled items left b bits set written) (ends_aligned set.values set.end set.follows)

-- a writer that begins with no bits, and with all items
pub from_all : {B : Type 0} (result : Result B SpellError) (old bits : List Bool) (fields items left : List Item) (n : ℕ) → old ≡ [] → n ≡ length fields
    → items ≡ take (n - 0) (drop 0 fields) → Writes sps_form old items result bits left → Writes sps_form [] fields result bits left
from_all result old bits fields items left n none size all written =
    let whole : take (n - 0) (drop 0 fields) ≡ fields = take_all (n - 0) fields (omega (arith, size)) in
    subst (λ f. Writes sps_form [] f result bits left) (all ∙ whole) (subst (λ b. Writes sps_form b items result bits left) none written)

-- it isn't refused
pub is_no_value : {B : Type 0} (items left : List Item) (bits : List Bool) → AreSpsItems items → Writes {B = B} sps_form [] items (Err spellings.NoValue) bits left → ⊥
is_no_value items left bits set written = written.only set.values set.end [] (record { follows = set.follows; given = set.all ∙ sym (append-nil (items_along sps_form set.values)) })

-- ---- what is written is read again

part_of : Section → Part
part_of section = record { presence = section.presence; rows = record { ref_ptr = (0, 0); now = section.rows } }

parts_of : List Section → List Part
parts_of [] = []
parts_of (section ∷ sections) = part_of section ∷ parts_of sections

closes : (values : List ℤ) → Closes sps_form 0 values []
unfolding is_trailing has_trailing trails_last parts_trail_last parts_of part_of
closes values = parts_close_at_the_end (parts_of sps_sections) fresh 0 values refl

spells : (items : List Item) (bytes : List ℕ) (is : IsSpsSpelling items bytes) → Spells (8 * length bytes) sps_form is.set.values (bits_of bytes) []
spells items bytes is =
    let values = is.set.values in
    let bits : bits_along sps_form 0 values ++ [] ≡ bits_of bytes = append-nil (bits_along sps_form 0 values) ∙ sym is.bits in
    let whole : 0 + length (bits_along sps_form 0 values ++ []) ≡ 8 * length bytes = omega (arith, ap length bits, length-bits_of bytes) in
    subst (λ n. Spells n sps_form values (bits_of bytes) []) whole (subst (λ b. Spells (0 + length (bits_along sps_form 0 values ++ [])) sps_form values b []) bits (reads_back sps_form 0 values is.set.end [] is.set.follows (closes values)))

pub written_is_read : WrittenIsRead
written_is_read items bytes (Ok got) is (place, reading) = inl (ap Ok ((reading.only is.set.values [] (spells items bytes is)).1 ∙ sym is.set.all))
written_is_read items bytes (Err errors.Memory) is reading = inr refl
written_is_read items bytes (Err (errors.Refused r)) is (place, got, reading) = absurd (reading.only is.set.values [] (spells items bytes is))

none_left : (bytes : List ℕ) → bits_of bytes ≡ [] → bytes ≡ []
none_left [] none = refl
none_left (byte ∷ bytes) none =
    let size = length-bits_of (byte ∷ bytes) in
    let no_bits : length (bits_of (byte ∷ bytes)) ≡ 0 = ap length none in
    absurd (omega (arith, size, no_bits))

pub no_proper_prefix : NoProperPrefix
no_proper_prefix items others bytes more is of =
    let same : bits_along sps_form 0 is.set.values ++ bits_of more ≡ bits_along sps_form 0 of.set.values ++ []
    = ap (λ b. b ++ bits_of more) (sym is.bits) ∙ sym (bits_of-append bytes more) ∙ of.bits ∙ sym (append-nil (bits_along sps_form 0 of.set.values)) in
    let apart = spells_apart sps_form 0 is.set.values of.set.values is.set.end of.set.end (bits_of more) [] is.set.follows of.set.follows same in
    (is.set.all ∙ ap (items_along sps_form) apart.0 ∙ sym of.set.all, none_left more apart.1)
