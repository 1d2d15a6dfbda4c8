-- The spelling of a set ends in rbsp_trailing_bits( ), so that its last byte isn't 00, and units can be made of it.
use Rattle.std.proofs.Common.{ℕ, zero, suc, ◌<◌, List, [], ◌∷◌, length, Some, refl, sym, subst, arith}
use Rattle.vx_bits.specs.Codes.{EndsInNoZero}
use Rattle.vx_bits.specs.declared.list.Item.{Item}
use Rattle.vx_table.specs.laws.Trailing.{EndsWithStop}
use Rattle.vx_table.proofs.Stopped.{last_byte}
use Rattle.vx_sps.specs.Set as sps_set
use Rattle.vx_sps.proofs.Written.{sps_stops}
use Rattle.vx_pps.specs.Pps as pps
use Rattle.vx_pps.proofs.Sets.{pps_stops}
use Rattle.vx_sei.specs.declared.message.Message.{Message}
use Rattle.vx_sei.specs.Sei.{IsSei}
use Rattle.vx_pic.specs.declared.unit_types.TheConstants as types
use Rattle.vx_write.specs.Units.{IsUnitOf, IsSeiUnit}

-- ---- sets

pub sps_ends : (items : List Item) (bytes : List ℕ) → sps_set.IsSpsSpelling items bytes → EndsInNoZero bytes
sps_ends items bytes is = last_byte bytes (subst (EndsWithStop 0) (sym is.bits) (sps_stops.at 0 is.set.values is.set.end is.set.follows))

pub pps_ends : (items : List Item) (bytes : List ℕ) → pps.IsPpsSpelling items bytes → EndsInNoZero bytes
pps_ends items bytes is = last_byte bytes (subst (EndsWithStop 0) (sym is.bits) (pps_stops.at 0 is.is.set.values is.is.end is.is.set.follows))

-- ---- units

-- behind a unit's header, whose second byte isn't 00
pub header_ends : (first second : ℕ) (rbsp : List ℕ) → 0 < second → EndsInNoZero rbsp → EndsInNoZero (first ∷ second ∷ rbsp)
header_ends first second rbsp some ends zero size none = absurd (omega (arith, size))
header_ends first second rbsp some ends (suc zero) size none = absurd (omega (arith, none))
header_ends first second rbsp some ends (suc (suc k)) size none = ends k (omega (arith, size)) none

-- a body behind the byte of its type and id
pub body_ends : (first : ℕ) (body : List ℕ) → 0 < length body → EndsInNoZero body → EndsInNoZero (first ∷ body)
body_ends first body some ends zero size none = absurd (omega (arith, size))
body_ends first body some ends (suc k) size none = ends k (omega (arith, size)) none

pub is_sei_unit : (tid : ℕ) (messages : List Message) (rbsp unit : List ℕ) → 0 < length messages → IsSei rbsp messages
    → IsUnitOf types.PREFIX_SEI_NUT tid rbsp unit → IsSeiUnit tid messages (Some (record { unit = unit; messages = messages }))
is_sei_unit tid [] rbsp unit some is of = absurd (omega arith)
is_sei_unit tid (m ∷ more) rbsp unit some is of = (refl, (rbsp, is, of))
