-- Each set that can be written has a unit.
use Rattle.std.proofs.Common.{◌≡◌, ℕ, zero, suc, ◌+◌, ◌-◌, ◌*◌, ◌/◌, ◌%◌, ◌<◌, Bool, false, replicate, List, [], ◌∷◌, ◌++◌, length, take, drop, sym, ap, ◌∙◌, arith}
use Rattle.std.proofs.lemmas.List.{length-append, length-replicate, length-take, length-drop, take-append-drop, nil_from_length}
use Rattle.vx_bits.specs.declared.list.Item.{Item}
use Rattle.vx_bits.specs.Codes.{number, bits_of, to_boundary, one_from, EndsInNoZero}
use Rattle.vx_bits.proofs.Bits.{fixed_of}
use Rattle.vx_table.specs.Values.{bits_along}
use Rattle.vx_table.specs.laws.Trailing.{EndsWithStop}
use Rattle.vx_annexb.proofs.EscapedBytes.{escaped_exists}
use Rattle.vx_sps.specs.declared.shape.SpsShape.{SpsShape}
use Rattle.vx_sps.specs.Structure.{sps_form}
use Rattle.vx_sps.specs.Set as sps_set
use Rattle.vx_sps.specs.Reshaped as sps_reshaped
use Rattle.vx_pps.specs.declared.shape.PpsShape.{PpsShape}
use Rattle.vx_pps.specs.Pps as pps_set
use Rattle.vx_pps.specs.Reshaped as pps_reshaped
use Rattle.vx_aps.specs.Aps.{spelled}
use Rattle.vx_pic.specs.declared.unit_types.TheConstants as types
use Rattle.vx_pic.specs.Written.{Set, an_sps, a_pps, an_aps}
use Rattle.vx_write.specs.Units.{IsUnitOf, IsSetUnit}
use Rattle.vx_write.specs.Sets.{CanBeWritten}
use Rattle.vx_sps.proofs.Written.{sps_stops}
use Rattle.vx_pps.proofs.Sets.{pps_stops}
use Rattle.vx_write.proofs.Ending.{sps_ends, pps_ends, header_ends, body_ends}

-- bits of whole bytes are those of bytes
packed : (m : ℕ) (bits : List Bool) → length bits ≡ 8 * m → (bytes : List ℕ) × (bits_of bytes ≡ bits)
packed zero bits size = ([], sym (nil_from_length bits (omega (arith, size))))
packed (suc m) bits size =
    let eight : length (take 8 bits) ≡ 8 = omega (arith, length-take 8 bits, size) in
    let rest = packed m (drop 8 bits) (omega (arith, length-drop 8 bits, size)) in (
      number (take 8 bits) ∷ rest.0,
      ap (λ xs. xs ++ bits_of rest.0) (fixed_of 8 (take 8 bits) eight) ∙ ap (λ xs. take 8 bits ++ xs) rest.1 ∙ take-append-drop 8 bits,
    )

whole : (n : ℕ) → n + (1 + (8 - (n + 1) % 8) % 8) ≡ 8 * ((n + 8) / 8)
whole n = omega arith

stop_length : (p : ℕ) → length (one_from p) ≡ 1 + (8 - (p + 1) % 8) % 8
stop_length p = let zeros : length (replicate (to_boundary (p + 1)) false) ≡ to_boundary (p + 1) = length-replicate (to_boundary (p + 1)) false in omega (arith, zeros)

-- bits that end in a one and zeros up to a byte boundary are those of bytes
in_bytes : (bits : List Bool) → EndsWithStop 0 bits → (bytes : List ℕ) × (bits_of bytes ≡ bits)
in_bytes bits stop =
    let n : ℕ = length stop.front in
    let all : length bits ≡ n + length (one_from (0 + n)) = ap length stop.all ∙ length-append stop.front (one_from (0 + n)) in
    let tail : length (one_from (0 + n)) ≡ 1 + (8 - (0 + n + 1) % 8) % 8 = stop_length (0 + n) in
    let same : 0 + n ≡ n = omega arith in
    packed ((n + 8) / 8) bits (all ∙ ap (λ k. n + k) (tail ∙ ap (λ m. 1 + (8 - (m + 1) % 8) % 8) same) ∙ whole n)

-- a unit of an RBSP that can end one
unit_of : (nal t : ℕ) (rbsp : List ℕ) → EndsInNoZero rbsp → (unit : List ℕ) × IsUnitOf nal t rbsp unit
unit_of nal t rbsp ends =
    let some : 0 < nal * 8 + (t + 1) = omega arith in
    escaped_exists (0 ∷ (nal * 8 + (t + 1)) ∷ rbsp) (header_ends 0 (nal * 8 + (t + 1)) rbsp some ends)

pub has_unit : (t : ℕ) (s : Set) → CanBeWritten s → (unit : List ℕ) × IsSetUnit t s unit
has_unit t (an_sps items) is =
    let rbsp = in_bytes (bits_along sps_form 0 is.values) (sps_stops.at 0 is.values is.end is.follows) in
    let spelling : sps_set.IsSpsSpelling items rbsp.0 = record { set = is; bits = rbsp.1 } in
    let unit = unit_of types.SPS_NUT 0 rbsp.0 (sps_ends items rbsp.0 spelling) in
    (unit.0, (rbsp.0, spelling, unit.1))
has_unit t (a_pps items) is =
    let rbsp = in_bytes (bits_along pps_set.pps_form 0 is.set.values) (pps_stops.at 0 is.set.values is.end is.set.follows) in
    let spelling : pps_set.IsPpsSpelling items rbsp.0 = record { is = is; bits = rbsp.1 } in
    let unit = unit_of types.PPS_NUT t rbsp.0 (pps_ends items rbsp.0 spelling) in
    (unit.0, (rbsp.0, spelling, unit.1))
has_unit t (an_aps a) is = unit_of types.PREFIX_APS_NUT t (spelled a.kind a.id a.body) (body_ends (32 * a.kind + a.id) a.body is.2 is.3)

-- rewritten items are those of a set
pub sps_items : (source : List Item) (shape : SpsShape) (items : List Item) → sps_reshaped.IsReshapedSps source shape items → sps_set.AreSpsItems items
sps_items source shape items is = record { values = is.values; end = is.end; follows = is.follows; all = is.all }

pub pps_items : (source : List Item) (shape : PpsShape) (items : List Item) → pps_reshaped.IsReshapedPps source shape items → pps_set.ArePpsItems items
pps_items source shape items is = record { end = is.rewritten.end; set = record { values = is.rewritten.values; follows = is.rewritten.follows; given = sym is.rewritten.all } }
