-- How picture parameter sets are spelled: what is written is read again, and no spelling begins another.
use Rattle.std.proofs.Common.{◌≡◌, inl, inr, ℕ, ℤ, ◌+◌, ◌*◌, List, [], ◌∷◌, ◌++◌, length, Ok, Err, refl, sym, ap, subst, ◌∙◌, arith}
use Rattle.std.proofs.lemmas.List.{append-nil}
use Rattle.vx_bits.specs.Codes.{bits_of}
use Rattle.vx_bits.specs.declared.list.Item.{Item}
use Rattle.vx_bits.specs.declared.refusal.ReadError.TheVariants as errors
use Rattle.vx_bits.proofs.Bits.{bits_of-append, length-bits_of}
use Rattle.vx_table.specs.declared.parts.Part.{Part}
use Rattle.vx_table.specs.Forms.{Form, done, field, ◌>>=◌}
use Rattle.vx_table.specs.Parts.{Section, sections_form}
use Rattle.vx_table.specs.Scope.{fresh}
use Rattle.vx_table.specs.Spelling.{Spells, items_along}
use Rattle.vx_table.specs.laws.Trailing.{has_trailing, is_trailing, parts_have_trailing, parts_trail_last, trails_last}
use Rattle.vx_table.specs.Values.{Closes, bits_along}
use Rattle.vx_table.proofs.Closing.{ComesLast, IsOpen, before, closes_end, last, last_parts, open_parts, over_too, sequence_last}
use Rattle.vx_table.proofs.Spelled.{apart_at, spelled_at}
use Rattle.vx_pps.specs.Pps.{IsPpsSpelling, before_tiles, partition_at, pps_form, after_slices}
use Rattle.vx_pps.specs.laws.Sets.{NoProperPrefix, WrittenIsRead}
use Rattle.vx_pps.proofs.Cutting.{each_weaker}
use Rattle.vx_pps.proofs.Division.{each_division}

-- ---- its trailing comes last

-- nothing is read behind a form
ends_last : {A B : Type 0} (f : Form A) (end : A → B) → ComesLast f → ComesLast (f >>= λ a. done (end a))
ends_last (done a) end is = over_too
ends_last (field cell goes) end (before none more) = before none (λ v. ends_last (goes v) end (more v))
ends_last {A} {B} (field cell goes) end (last ends) = last (λ v. (end (ends v).0, subst (λ (x : Form A). (x >>= λ a. done (end a)) ≡ done (end (ends v).0)) (sym (ends v).1) refl))

part_of : Section → Part
part_of section = record { presence = section.presence; rows = record { ref_ptr = (0, 0); now = section.rows } }

parts_of : List Section → List Part
parts_of [] = []
parts_of (section ∷ sections) = part_of section ∷ parts_of sections

front_open : (s : List ℕ) → IsOpen (sections_form before_tiles s)
unfolding is_trailing has_trailing parts_have_trailing parts_of part_of
front_open s = open_parts (parts_of before_tiles) s refl

division_open : (s : List ℕ) → IsOpen (partition_at s)
division_open s = each_weaker _ _ (partition_at s) (λ cell is. is.3) (each_division _ _ _)

tools_last : (s : List ℕ) → ComesLast (sections_form after_slices s)
unfolding is_trailing has_trailing trails_last parts_trail_last parts_of part_of
tools_last s = last_parts (parts_of after_slices) s refl

set_closes : (values : List ℤ) → Closes pps_form 0 values []
unfolding pps_form
set_closes values =
    closes_end pps_form 0 values
    (sequence_last (sections_form before_tiles fresh) (λ s. partition_at s >>= λ p. sections_form after_slices s >>= λ t. done p) (front_open fresh)
    (λ s. sequence_last (partition_at s) (λ p. sections_form after_slices s >>= λ t. done p) (division_open s) (λ p. ends_last (sections_form after_slices s) (λ t. p) (tools_last s))))

-- ---- what is written is read again

spells : (items : List Item) (bytes : List ℕ) (spelling : IsPpsSpelling items bytes) → Spells (8 * length bytes) pps_form spelling.is.set.values (bits_of bytes) []
spells items bytes spelling =
    let values = spelling.is.set.values in
    let bits : bits_along pps_form 0 values ++ [] ≡ bits_of bytes = append-nil (bits_along pps_form 0 values) ∙ sym spelling.bits in
    let whole : 8 * length bytes ≡ 0 + length (bits_along pps_form 0 values ++ []) = omega (arith, ap length bits, length-bits_of bytes) in
    subst (λ b. Spells (8 * length bytes) pps_form values b []) bits (spelled_at (8 * length bytes) 0 [] spelling.is.set.follows (set_closes values) whole)

pub written_is_read : WrittenIsRead
written_is_read items bytes (Ok got) spelling (place, reading) = inl (ap Ok ((reading.only spelling.is.set.values [] (spells items bytes spelling)).1 ∙ spelling.is.set.given))
written_is_read items bytes (Err errors.Memory) spelling reading = inr refl
written_is_read items bytes (Err (errors.Refused r)) spelling (place, got, reading) = absurd (reading.only spelling.is.set.values [] (spells items bytes spelling))

none_left : (bytes : List ℕ) → bits_of bytes ≡ [] → bytes ≡ []
none_left [] none = refl
none_left (byte ∷ bytes) none =
    let size = length-bits_of (byte ∷ bytes) in
    let no_bits : length (bits_of (byte ∷ bytes)) ≡ 0 = ap length none in
    absurd (omega (arith, size, no_bits))

pub no_proper_prefix : NoProperPrefix
no_proper_prefix items others bytes more spelling other =
    let same : bits_along pps_form 0 spelling.is.set.values ++ bits_of more ≡ bits_along pps_form 0 other.is.set.values ++ []
    = ap (λ b. b ++ bits_of more) (sym spelling.bits) ∙ sym (bits_of-append bytes more) ∙ other.bits ∙ sym (append-nil (bits_along pps_form 0 other.is.set.values)) in
    let apart = apart_at 0 (bits_of more) [] spelling.is.set.follows other.is.set.follows same in
    (sym spelling.is.set.given ∙ ap (items_along pps_form) apart.0 ∙ other.is.set.given, none_left more apart.1)
