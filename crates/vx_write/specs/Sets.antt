-- Sets that a picture needs, lent. Our own.
use Rattle.std.specs.Prelude.{ℕ, ◌<◌, length}
use Rattle.vx_bits.specs.Codes.{EndsInNoZero}
use Rattle.vx_sps.specs.Set as sps_set
use Rattle.vx_pps.specs.Pps as pps_set
use Rattle.vx_pic.specs.Sets.{sps_id, pps_id}
use Rattle.vx_pic.specs.Written.{Set, an_sps, a_pps, an_aps}
use Rattle.vx_write.specs.declared.written.NeededSet.{NeededSet}
use Rattle.vx_write.specs.declared.written.NeededSet.TheVariants as needed

-- The set.
abbrev pub set_lent : NeededSet → Set
set_lent (needed.Sps s) = an_sps s.now
set_lent (needed.Pps p) = a_pps p.now
set_lent (needed.Aps a) = an_aps (record { kind = a.kind; id = a.id; body = a.body.now })

-- The id of a set.
abbrev pub id_of : Set → ℕ
id_of (an_sps items) = sps_id items
id_of (a_pps items) = pps_id items
id_of (an_aps a) = a.id

-- The TemporalId of its unit, for a picture of this one: an SPS has TemporalId 0.
abbrev pub unit_tid : ℕ → Set → ℕ
unit_tid t (an_sps items) = 0
unit_tid t (a_pps items) = t
unit_tid t (an_aps a) = t

-- It can be written: the items are those of a set; an adaptation parameter set has a type and an id that fit, and a body that can end a
-- unit.
abbrev pub CanBeWritten : Set → Type 0
CanBeWritten (an_sps items) = sps_set.AreSpsItems items
CanBeWritten (a_pps items) = pps_set.ArePpsItems items
CanBeWritten (an_aps a) = (a.kind < 8) × (a.id < 32) × (0 < length a.body) × EndsInNoZero a.body
