-- A unit is written in one way: as bytes, what it spells tells it.
use Rattle.std.proofs.Common.{◌≡◌, ℕ, List, [], ◌∷◌, ◌++◌, length, Option, Some, None, sym, ap, subst, ◌∙◌}
use Rattle.vx_bits.specs.Codes.{bits_of}
use Rattle.vx_annexb.proofs.Seam.{escaped_unique}
use Rattle.vx_table.specs.Values.{bits_along}
use Rattle.vx_aps.specs.Aps.{spelled}
use Rattle.vx_sei.specs.declared.message.Message.{Message}
use Rattle.vx_sps.specs.Structure.{sps_form}
use Rattle.vx_pps.specs.Pps.{pps_form}
use Rattle.vx_pic.specs.declared.unit_types.TheConstants as types
use Rattle.vx_pic.specs.Written.{SeiUnit, Set, an_sps, a_pps, an_aps}
use Rattle.vx_write.specs.Units.{IsSeiUnit, IsSetUnit, IsUnitOf, header_bytes}
use Rattle.vx_bits.specs.Codes.{AreBytes}
use Rattle.vx_bits.proofs.Bits.{bytes_one}
use Rattle.vx_annexb.proofs.EmulationBytes.{unescaped_bytes}
use Rattle.vx_table.proofs.Writings.{values_one}

pub unit_one : (nal_type temporal_id : ℕ) (r s u v : List ℕ) → AreBytes u → AreBytes v → bits_of r ≡ bits_of s → IsUnitOf nal_type temporal_id r u → IsUnitOf nal_type temporal_id s v → u ≡ v
unit_one nal_type temporal_id r s u v bytes others same is of =
    let first : AreBytes (header_bytes nal_type temporal_id ++ r) = subst AreBytes (sym is.is) (unescaped_bytes u (length u) bytes) in
    let second : AreBytes (header_bytes nal_type temporal_id ++ s) = subst AreBytes (sym of.is) (unescaped_bytes v (length v) others) in
    let rbsp = bytes_one r s first.1.1 second.1.1 same in
    escaped_unique (header_bytes nal_type temporal_id ++ r) u v is (subst (λ x. IsUnitOf nal_type temporal_id x v) (sym rbsp) of)

pub set_unit_one : (tid : ℕ) (set : Set) (u v : List ℕ) → AreBytes u → AreBytes v → IsSetUnit tid set u → IsSetUnit tid set v → u ≡ v
set_unit_one tid (an_sps items) u v bytes others is of =
    let values = values_one sps_form is.1.set.follows of.1.set.follows (sym is.1.set.all ∙ of.1.set.all) in
    unit_one types.SPS_NUT 0 is.0 of.0 u v bytes others (is.1.bits ∙ (ap (bits_along sps_form 0) values ∙ sym of.1.bits)) is.2 of.2
set_unit_one tid (a_pps items) u v bytes others is of =
    let values = values_one pps_form is.1.is.set.follows of.1.is.set.follows (is.1.is.set.given ∙ sym of.1.is.set.given) in
    unit_one types.PPS_NUT tid is.0 of.0 u v bytes others (is.1.bits ∙ (ap (bits_along pps_form 0) values ∙ sym of.1.bits)) is.2 of.2
set_unit_one tid (an_aps a) u v bytes others is of = escaped_unique (header_bytes types.PREFIX_APS_NUT tid ++ spelled a.kind a.id a.body) u v is of

pub sei_one : (tid : ℕ) (ms : List Message) (a b : Option SeiUnit) → IsSeiUnit tid ms a → IsSeiUnit tid ms b → a ≡ b
sei_one tid [] a b is of = is ∙ sym of
sei_one tid (m ∷ more) None b is of = absurd is
sei_one tid (m ∷ more) (Some s) None is of = absurd of
sei_one tid (m ∷ more) (Some s) (Some u) is of =
    let first = is.1 in
    let second = of.1 in
    let rbsp = first.1.bytes ∙ sym second.1.bytes in
    let unit = escaped_unique (header_bytes types.PREFIX_SEI_NUT tid ++ first.0) s.unit u.unit first.2 (subst (λ x. IsUnitOf types.PREFIX_SEI_NUT tid x u.unit) (sym rbsp) second.2) in
    let messages = is.0 ∙ sym of.0 in
    λ j. Some (record { unit = unit j; messages = messages j })
