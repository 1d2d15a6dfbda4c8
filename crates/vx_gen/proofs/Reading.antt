-- What readers of H.266 answer of a generated slice: its picture header and its own.
use Rattle.std.proofs.Common.{◌≡◌, ℕ, ℤ, zero, suc, ◌+◌, ◌-◌, ◌*◌, ◌/◌, ◌%◌, ◌<◌, ◌≤◌, Bool, true, List, [], ◌∷◌, ◌++◌, length, drop, take, None, Ok, refl, ap, sym, subst, ◌∙◌, arith}
use Rattle.std.specs.Prelude.{nat_le, slice_index}
use Rattle.std.proofs.lemmas.Bool.{and_parts, le-leb}
use Rattle.std.proofs.lemmas.List.{append_assoc, drop-append-le, length-append, length-drop}
use Rattle.vx_bits.specs.Codes.{EndsInNoZero, bits_of, exp_golomb, fixed, leading_zeros, magnitude}
use Rattle.vx_bits.specs.declared.list.Item.{Item}
use Rattle.vx_bits.proofs.Bits.{bits_of-append, length-bits_of}
use Rattle.vx_annexb.specs.Emulation.{unescaped_to}
use Rattle.vx_annexb.specs.Laws.{UnescapedJoins}
use Rattle.vx_annexb.specs.Places.{IsFirstFrom}
use Rattle.vx_pps.specs.Items.{values_in}
use Rattle.vx_table.specs.Forms.{Form, after, coding_at, form_of, has_value, limits_at, one_field, part, present, turns}
use Rattle.vx_table.specs.Parts.{sections_form}
use Rattle.vx_table.specs.Scope.{fresh, natural, powers_below, value}
use Rattle.vx_table.specs.Spelling.{Spells, code_of, fault_of, item_of}
use Rattle.vx_table.specs.laws.Trailing.{is_trailing}
use Rattle.vx_table.specs.Values.{bits_along}
use Rattle.vx_table.proofs.Spelled.{reads_back}
use Rattle.vx_table.specs.Loaded.{number}
use Rattle.vx_fields.specs.declared.ph.TheConstants.{ph_pic_parameter_set_id}
use Rattle.vx_ph.specs.Id.{pps_id_form}
use Rattle.vx_sh.specs.Value.{BeginsSlice, SpellingBegins}
use Rattle.vx_sh.proofs.Scopes.{slice_scopes_are_whole}
use Rattle.vx_pic.specs.H266.{AnswersAt, AreOfH266, IsSlice, header_place}
use Rattle.vx_pic.specs.H266Laws.{HaveOneAnswer}
use Rattle.vx_pic.specs.PictureLayout.{IsLayoutAnswer}
use Rattle.vx_pic.specs.Rules.{Readers}
use Rattle.vx_pic.specs.Sets.{is_qp, pps_id, same_size, slice_qp}
use Rattle.vx_pic.specs.UnderSets.{picture_header_of, at_slice_of}
use Rattle.vx_pic.specs.Units.{class_of, has_header_inside, is_reserved, rbsp_of, slice_unit, temporal_id}
use Rattle.vx_annexb.specs.NalUnit.{nal_unit_type}
use Rattle.vx_pic.specs.Written.{HeadReads, HeaderReads, IsPlain, SliceReads}
use Rattle.vx_gen.specs.Draws.{payload}
use Rattle.vx_gen.specs.Units.{lsb, slice, slice_front}
use Rattle.vx_gen.specs.Pictures.{generated_begun, generated_header, idr_header, layout, nal_type, generated_pps, slice_header, generated_slice, generated_sps, trailing_header}
use Rattle.vx_gen.proofs.Below.{below_16}
use Rattle.vx_gen.proofs.Clear.{escaped_itself, last_nonzero}
use Rattle.vx_gen.proofs.Headers.{Begins, behind_first, header_at, idr_begins, idr_front, trailing_begins, trailing_front}
use Rattle.vx_gen.proofs.Slices.{header_value, idr_spelled, idr_tells, trailing_spelled, trailing_tells}
use Rattle.vx_gen.proofs.Standing.{slice_long, slice_rbsp}
use Rattle.vx_gen.proofs.Testing.{are_open, are_values, they_close, they_follow}

-- ---- what a front begins with is read of it, whatever follows

pub read_of_front : (form : Form (List ℕ)) (items : List Item) (front more : List ℕ) → 1 ≤ length front → Begins form items (behind_first front)
    → AnswersAt form (header_place true (front ++ more)) (Ok items)
read_of_front form items front more some begins =
    let values : List ℤ = values_in form items in
    let goes = and_parts (are_values form values) (are_open form values) begins.goes in
    let bits : List Bool = bits_along form 1 values in
    let rest : List Bool = drop (length bits) (behind_first front) ++ bits_of more in
    let all : List Bool = drop 1 (bits_of (front ++ more)) in
    let size : length (bits_of front) ≡ 8 * length front = length-bits_of front in
    let few : 1 ≤ length (bits_of front) = omega (arith, size, some) in
    let whole : all ≡ bits ++ rest
    = ap (drop 1) (bits_of-append front more) ∙ drop-append-le 1 (bits_of front) (bits_of more) few
    ∙ ap (λ xs. xs ++ bits_of more) begins.bits ∙ append_assoc bits (drop (length bits) (behind_first front)) (bits_of more) in
    let long : length all ≡ 8 * length (front ++ more) - 1 = length-drop 1 (bits_of (front ++ more)) ∙ ap (λ n. n - 1) (length-bits_of (front ++ more)) in
    let joined = length-append front more in
    let total : 1 + length (bits ++ rest) ≡ 8 * length (front ++ more) = omega (arith, long, ap length whole, joined, some) in
    let follows = they_follow form values goes.0 in
    let spelled : Spells (1 + length (bits ++ rest)) form values (bits ++ rest) rest = reads_back form 1 values follows.0 rest follows.1 (they_close form 1 values rest goes.1) in
    let here : Spells (8 * length (front ++ more)) form values all rest = subst (λ xs. Spells (8 * length (front ++ more)) form values xs rest) (sym whole) (subst (λ n. Spells n form values (bits ++ rest) rest) total spelled) in
    record { values = values; rest = rest; spelled = here; all = begins.all }

-- ---- the headers of picture p

pub low_bits : (p : ℕ) → lsb p < 16
low_bits p = omega arith

-- the front of a slice behind its unit's header
abbrev pub front_of : ℕ → List ℕ
front_of zero = idr_front
front_of (suc p) = trailing_front (lsb (suc p))

pub fronts : (seed n p : ℕ) → drop 2 (slice seed n p) ≡ front_of p ++ payload seed n
fronts seed n zero = refl
fronts seed n (suc p) = refl

front_some : (p : ℕ) → 1 ≤ length (front_of p)
front_some zero = omega arith
front_some (suc p) = omega arith

header_begins : (k p : ℕ) → Begins (header_at k) (generated_header p) (behind_first (front_of p))
header_begins k zero = idr_begins k
header_begins k (suc p) = trailing_begins (lsb (suc p)) (low_bits (suc p)) k

-- the header up to the id of its PPS
abbrev to_id : ℕ → List Item
to_id zero = take 5 idr_header
to_id (suc p) = take 4 (trailing_header 0)

IdBegins : ℕ → Type 0
IdBegins l = Begins pps_id_form (take 4 (trailing_header 0)) (behind_first (trailing_front l))

trailing_id : (l : ℕ) → l < 16 → IdBegins l
unfolding IdBegins fresh natural powers_below value after coding_at form_of has_value limits_at one_field part present turns sections_form fault_of item_of code_of is_trailing exp_golomb fixed leading_zeros magnitude pps_id_form
trailing_id =
    below_16 IdBegins
    (record { goes = refl; all = refl; bits = refl }) (record { goes = refl; all = refl; bits = refl })
    (record { goes = refl; all = refl; bits = refl }) (record { goes = refl; all = refl; bits = refl })
    (record { goes = refl; all = refl; bits = refl }) (record { goes = refl; all = refl; bits = refl })
    (record { goes = refl; all = refl; bits = refl }) (record { goes = refl; all = refl; bits = refl })
    (record { goes = refl; all = refl; bits = refl }) (record { goes = refl; all = refl; bits = refl })
    (record { goes = refl; all = refl; bits = refl }) (record { goes = refl; all = refl; bits = refl })
    (record { goes = refl; all = refl; bits = refl }) (record { goes = refl; all = refl; bits = refl })
    (record { goes = refl; all = refl; bits = refl }) (record { goes = refl; all = refl; bits = refl })

id_begins : (p : ℕ) → Begins pps_id_form (to_id p) (behind_first (front_of p))
unfolding IdBegins fresh natural powers_below value after coding_at form_of has_value limits_at one_field part present turns sections_form fault_of item_of code_of is_trailing exp_golomb fixed leading_zeros magnitude pps_id_form
id_begins zero = record { goes = refl; all = refl; bits = refl }
id_begins (suc p) = trailing_id (lsb (suc p)) (low_bits (suc p))

id_is : (k p : ℕ) → pps_id (generated_pps k) ≡ number (to_id p) ph_pic_parameter_set_id
unfolding pps_id fresh
id_is k zero = refl
id_is k (suc p) = refl

same_sizes : (k : ℕ) → same_size generated_sps (generated_pps k) ≡ true
unfolding same_size fresh natural
same_sizes k = refl

-- ---- the slice

slice_begins : SpellingBegins → (k p : ℕ) (more : List ℕ) → BeginsSlice (at_slice_of (nal_type p) (generated_begun k p)) (front_of p ++ more) (header_value k (generated_slice p)) 2
slice_begins begins k zero more =
    begins (at_slice_of 8 (generated_begun k 0)) (header_value k (generated_slice 0)) idr_header idr_front more (slice_scopes_are_whole 8 generated_sps (generated_pps k) (picture_header_of (generated_begun k 0))) (idr_tells k) (idr_spelled k)
slice_begins begins k (suc p) more =
    begins (at_slice_of 0 (generated_begun k (suc p))) (header_value k (generated_slice (suc p))) (trailing_header (lsb (suc p))) (trailing_front (lsb (suc p))) more
    (slice_scopes_are_whole 0 generated_sps (generated_pps k) (picture_header_of (generated_begun k (suc p)))) (trailing_tells k (lsb (suc p))) (trailing_spelled k (lsb (suc p)) (low_bits (suc p)))

trailing_ends : (a b : ℕ) → EndsInNoZero (0 ∷ 1 ∷ a ∷ (120 + b) ∷ [])
trailing_ends a b n size none = let three : n ≡ 3 = omega (arith, size) in let last = rw three at none in absurd (omega (arith, last))

data_place : UnescapedJoins → (seed n p : ℕ) → IsFirstFrom (λ place. length (unescaped_to (slice seed n p) place) ≡ 4) 0 4
data_place joins seed n zero =
    let ends : EndsInNoZero (slice_front 0) = last_nonzero (slice_front 0) refl in
    (joins (slice_front 0) (slice_front 0) (payload seed n) ends (escaped_itself (slice_front 0) refl ends)).1
data_place joins seed n (suc p) =
    let ends : EndsInNoZero (slice_front (suc p)) = trailing_ends (136 + lsb (suc p) / 2) (128 * (lsb (suc p) % 2)) in
    (joins (slice_front (suc p)) (slice_front (suc p)) (payload seed n) ends (escaped_itself (slice_front (suc p)) refl ends)).1

Fits : ℕ → Type 0
Fits k = is_qp generated_sps (slice_qp (generated_pps k) idr_header (slice_header 0)) ≡ true

Fits' : ℕ → Type 0
Fits' k = is_qp generated_sps (slice_qp (generated_pps k) idr_header (slice_header 1)) ≡ true

idr_fits : (k : ℕ) → k < 16 → Fits k
unfolding Fits is_qp slice_qp fresh natural
idr_fits = below_16 Fits refl refl refl refl refl refl refl refl refl refl refl refl refl refl refl refl

trailing_fits : (k : ℕ) → k < 16 → Fits' k
unfolding Fits' is_qp slice_qp fresh natural
trailing_fits = below_16 Fits' refl refl refl refl refl refl refl refl refl refl refl refl refl refl refl refl

qp_fits : (k p : ℕ) → k < 16 → is_qp generated_sps (slice_qp (generated_pps k) (generated_header p) (slice_header p)) ≡ true
unfolding Fits Fits' slice_qp fresh natural
qp_fits k zero low = idr_fits k low
qp_fits k (suc p) low = trailing_fits k low

inside : (p : ℕ) (more : List ℕ) → nat_le 128 (slice_index (front_of p ++ more) 0) ≡ true
inside zero more = refl
inside (suc p) more = le-leb 128 (136 + lsb (suc p) / 2) (omega arith)

-- ---- the unit's header

tid_of : (seed n p : ℕ) → temporal_id (slice seed n p) ≡ 0
tid_of seed n zero = refl
tid_of seed n (suc p) = refl

type_of : (seed n p : ℕ) → nal_unit_type (slice seed n p) ≡ nal_type p
type_of seed n zero = refl
type_of seed n (suc p) = refl

plain : (seed n p : ℕ) → IsPlain (slice seed n p) slice_unit
unfolding is_reserved class_of
plain seed n zero = record { reserved = refl; layer = refl; class = refl }
plain seed n (suc p) = record { reserved = refl; layer = refl; class = refl }

-- ---- answers

module _ (R : Readers) (of : AreOfH266 R) (unique : HaveOneAnswer) (begins : SpellingBegins) (joins : UnescapedJoins) (k : ℕ) (low : k < 16)
    (laid : IsLayoutAnswer generated_sps (generated_pps k) (Ok layout)) (seed n p : ℕ) where
  rbsp : rbsp_of (slice seed n p) ≡ front_of p ++ payload seed n
  rbsp = slice_rbsp seed n p ∙ fronts seed n p

  pub has_inside : has_header_inside (slice seed n p) ≡ true
  unfolding has_header_inside
  has_inside = ap (λ xs. nat_le 128 (slice_index xs 0)) rbsp ∙ inside p (payload seed n)

  tid : temporal_id (slice seed n p) ≡ 0
  tid = tid_of seed n p

  header_reads : HeaderReads R true (slice seed n p) (generated_begun k p)
  header_reads =
      let bytes : List ℕ = front_of p ++ payload seed n in
      let id = read_of_front pps_id_form (to_id p) (front_of p) (payload seed n) (front_some p) (id_begins p) in
      let header = read_of_front (header_at k) (generated_header p) (front_of p) (payload seed n) (front_some p) (header_begins k p) in
      record {
        referred = ap (λ xs. R.referred_pps true xs) rbsp ∙ unique.referred_pps true bytes (R.referred_pps true bytes) (Ok (pps_id (generated_pps k))) (of.referred_pps true bytes) (to_id p, id, id_is k p);
        size = same_sizes k;
        layout = unique.layout generated_sps (generated_pps k) (R.layout generated_sps (generated_pps k)) (Ok layout) (of.layout generated_sps (generated_pps k)) laid;
        header = ap (λ xs. R.header true generated_sps (generated_pps k) xs) rbsp ∙ unique.header true generated_sps (generated_pps k) bytes (R.header true generated_sps (generated_pps k) bytes) (Ok (generated_header p)) (of.header true generated_sps (generated_pps k) bytes) header;
        tid = tid;
      }

  pub head_reads : HeadReads R None (generated_begun k p) (record { unit = slice seed n p; header = slice_header p })
  head_reads = (header_reads, has_inside, omega arith)

  answer : IsSlice (nal_type p) (generated_begun k p) (slice seed n p) (slice_header p)
  answer = record {
    value = header_value k (generated_slice p);
    size = 2;
    begins = subst (λ xs. BeginsSlice (at_slice_of (nal_type p) (generated_begun k p)) xs (header_value k (generated_slice p)) 2) (sym rbsp) (slice_begins begins k p (payload seed n));
    fields = refl;
    subpic = refl;
    payload = data_place joins seed n p;
  }

  pub slice_reads : SliceReads R (generated_begun k p) (nal_type p) (record { unit = slice seed n p; header = slice_header p })
  slice_reads =
      let unit : List ℕ = slice seed n p in
      let long = slice_long seed n p in
      record {
        plain = plain seed n p;
        tid = tid;
        type = type_of seed n p;
        header = unique.slice (nal_type p) (generated_begun k p) unit (R.slice (nal_type p) (generated_begun k p) unit) (Ok (slice_header p)) (of.slice (nal_type p) (generated_begun k p) unit) answer;
        qp = qp_fits k p low;
        payload = omega (arith, long);
      }
