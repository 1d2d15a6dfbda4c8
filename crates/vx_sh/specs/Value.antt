-- A slice header as a value: what is read and what is written of it. Our own. The contracts of `read_sh` and `write_sh` rely on it.
use Rattle.std.specs.Prelude.{◌≡◌, ℕ, ℤ, ◌+◌, ◌*◌, ◌<◌, Bool, true, false, List, [], ◌++◌, length, nat_le, take, drop, slice_index, Result, Ok, Err}
use Rattle.vx_bits.specs.declared.list.Item.{Item}
use Rattle.vx_bits.specs.declared.refusal.ReadError.{ReadError}
use Rattle.vx_bits.specs.declared.refusal.ReadError.TheVariants as errors
use Rattle.vx_bits.specs.Codes.{bits_of, EndsInNoZero}
use Rattle.vx_bits.specs.Place.{Place}
use Rattle.vx_table.specs.Scope.{is_set}
use Rattle.vx_table.specs.Forms.{form_of}
use Rattle.vx_table.specs.Spelling.{Spells, items_along}
use Rattle.vx_table.specs.Values.{Follows, bits_along}
use Rattle.vx_table.specs.Reading.{at_front, PassesOver}
use Rattle.vx_fields.specs.declared.sh.TheConstants.{sh_picture_header_in_slice_header_flag, sh_subpic_id, sh_slice_address}
use Rattle.vx_fields.specs.declared.names.sh.TheConstants.{SUBPIC}
use Rattle.vx_rpl.specs.HeaderLists.{lists_of}
use Rattle.vx_ph.specs.Header.{header_form}
use Rattle.vx_sh.specs.declared.header.SliceHeader.{SliceHeader}
use Rattle.vx_sh.specs.declared.tables.TheConstants.{HEADER_INSIDE}
use Rattle.vx_table.specs.Loaded.{number}
use Rattle.vx_sh.specs.Whole.{At, index_of, behind_header, header_inside, slice_form}

-- The items are those of a slice header: of values that go through its form except for the picture header that is inside, whose
-- values are these (7.3.7).
pub record AreFields (n : At) (fields : List Item) (inside : List ℤ) : Type 0 where
  pub first : List ℤ
  pub behind : List ℤ
  pub at : List ℕ
  pub end : List ℕ
  pub begins : Follows (form_of HEADER_INSIDE n.slice) first at
  pub goes_on : Follows (header_inside n.table n.sets at) inside at
  pub ends : Follows (behind_header n.table n.ids n.layout at) behind end
  pub all : fields ≡ items_along (form_of HEADER_INSIDE n.slice) first
      ++ items_along (behind_header n.table n.ids n.layout at) behind

-- All values, in the order of the bits (our own).
abbrev pub values_of : {n : At} {fields : List Item} {inside : List ℤ} → AreFields n fields inside → List ℤ
values_of {inside} f = (f.first ++ inside) ++ f.behind

-- The other values of a slice header: whether the picture header is inside, its subpicture and its address, and the lists that its
-- fields determine.
pub record HasNumbers (n : At) (header : SliceHeader) (end : List ℕ) : Type 0 where
  pub inside : header.inside ≡ is_set (slice_index end sh_picture_header_in_slice_header_flag)
  pub subpic : header.subpic ≡ slice_index end SUBPIC
  pub address : header.address ≡ slice_index end sh_slice_address
  pub lists : header.lists ≡ lists_of n.table n.sets header.fields

-- An RBSP begins with the spelling of a slice header, which takes this number of bytes. The last of these isn't 00 (7.3.7).
pub record BeginsSlice (n : At) (rbsp : List ℕ) (header : SliceHeader) (bytes : ℕ) : Type 0 where
  pub inside : List ℤ
  pub fields : AreFields n header.fields inside
  pub rest : List Bool
  pub spelled : Spells (8 * length rbsp) (slice_form n) (values_of fields) (bits_of rbsp) rest
  pub numbers : HasNumbers n header fields.end
  pub size : 8 * bytes + length rest ≡ 8 * length rbsp
  pub last : EndsInNoZero (take bytes rbsp)

-- The answer of a reader: the slice header at the start of the RBSP, and its bytes; or the first refusal, as when passing over it.
abbrev pub ReadsSlice : At → List ℕ → Result (SliceHeader × ℕ) ReadError → Type 0
ReadsSlice n rbsp (Ok (header, size)) = BeginsSlice n rbsp header size
ReadsSlice n rbsp (Err errors.Memory) = Unit {0}
ReadsSlice n rbsp (Err (errors.Refused r)) = (new : Place) × PassesOver {B = Unit {0}} (slice_form n) (at_front rbsp) (Err r) new

-- The items are those of a slice header in which, if a picture header is inside, it is the one with these items (7.3.7).
pub record IsSliceOf (n : At) (fields header : List Item) : Type 0 where
  pub inside : List ℤ
  pub slice : AreFields n fields inside
  pub others : List Item
  pub given : header ≡ items_along (header_inside n.table n.sets slice.at) inside ++ others

-- The bytes are its spelling, and the last of them isn't 00 (7.3.7).
pub record IsSliceHeaderSpelling (n : At) (fields header : List Item) (bytes : List ℕ) : Type 0 where
  pub is : IsSliceOf n fields header
  pub bits : bits_of bytes ≡ bits_along (slice_form n) 0 (values_of is.slice)
  pub last : EndsInNoZero bytes

-- What is written is read as it, whatever payload follows: the same items, of the same length.
abbrev pub SpellingIsRead : Type 0
SpellingIsRead = (n : At) (fields header : List Item) (bytes payload : List ℕ) (read : SliceHeader) (size : ℕ)
    → IsSliceHeaderSpelling n fields header bytes → BeginsSlice n (bytes ++ payload) read size → (read.fields ≡ fields) × (size ≡ length bytes)

-- The scope at the end of a slice header has the numbers that its items give. They are whether the picture header is inside, the
-- index of the id, which is one of those of the subpictures, and the address.
pub record AreToldBySlice (n : At) (fields : List Item) (end : List ℕ) : Type 0 where
  pub inside : slice_index end sh_picture_header_in_slice_header_flag ≡ number fields sh_picture_header_in_slice_header_flag
  pub subpic : slice_index end SUBPIC ≡ index_of (number fields sh_subpic_id) n.ids
  pub known : slice_index end SUBPIC < length n.ids
  pub address : slice_index end sh_slice_address ≡ number fields sh_slice_address

abbrev pub NumbersAreTold : Type 0
NumbersAreTold = (n : At) (fields : List Item) (inside : List ℤ) (f : AreFields n fields inside) → length n.slice ≡ 1024
    → AreToldBySlice n fields f.end

-- The numbers stored with the items are those that these give.
pub record TellsNumbers (n : At) (header : SliceHeader) : Type 0 where
  pub inside : header.inside ≡ is_set (number header.fields sh_picture_header_in_slice_header_flag)
  pub subpic : header.subpic ≡ index_of (number header.fields sh_subpic_id) n.ids
  pub address : header.address ≡ number header.fields sh_slice_address
  pub lists : header.lists ≡ lists_of n.table n.sets header.fields

-- What is written of such a slice header begins an RBSP, whatever payload follows.
abbrev pub SpellingBegins : Type 0
SpellingBegins = (n : At) (header : SliceHeader) (others : List Item) (bytes payload : List ℕ) → length n.slice ≡ 1024
    → TellsNumbers n header → IsSliceHeaderSpelling n header.fields others bytes → BeginsSlice n (bytes ++ payload) header (length bytes)

-- What was read can be written: with any picture header if none is inside, otherwise with the one that the bits after the first
-- spell.
pub record CanBeWritten (n : At) (rbsp : List ℕ) (header : SliceHeader) : Type 0 where
  pub apart : header.inside ≡ false → (others : List Item) → IsSliceOf n header.fields others
  pub inside : header.inside ≡ true → (values : List ℤ) (rest : List Bool)
      → Spells (8 * length rbsp) (header_form n.table n.sets) values (drop 1 (bits_of rbsp)) rest
      → IsSliceOf n header.fields (items_along (header_form n.table n.sets) values)

abbrev pub ReadCanBeWritten : Type 0
ReadCanBeWritten = (n : At) (rbsp : List ℕ) (header : SliceHeader) (size : ℕ) → BeginsSlice n rbsp header size → CanBeWritten n rbsp header

-- No spelling of a slice header is a proper prefix of another's.
abbrev pub NoProperPrefix : Type 0
NoProperPrefix = (n : At) (fields others header other : List Item) (bytes more : List ℕ)
    → IsSliceHeaderSpelling n fields header bytes → IsSliceHeaderSpelling n others other (bytes ++ more) → (fields ≡ others) × (more ≡ [])

-- The first bit of the RBSP says whether the picture header is inside.
abbrev pub FirstBitIsInside : Type 0
FirstBitIsInside = (n : At) (rbsp : List ℕ) (header : SliceHeader) (size : ℕ) → length n.slice ≡ 1024 → BeginsSlice n rbsp header size
    → header.inside ≡ nat_le 128 (slice_index rbsp 0)
