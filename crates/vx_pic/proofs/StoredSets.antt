-- A set that is stored takes its place among those in force.
use Rattle.std.proofs.Common.{◌≡◌, ℕ, zero, suc, ◌<◌, ◌≤◌, List, ◌∷◌, slice_set, refl, arith}
use Rattle.std.specs.Prelude.{Some}
use Rattle.vx_aps.specs.declared.aps.Aps.{Aps}
use Rattle.vx_aps.specs.declared.aps.TheConstants.{SCALING}
use Rattle.vx_pic.specs.Readings.{Reading, aps_read}
use Rattle.vx_pic.specs.Parts.{id_count, slot_of, stored_sets}

-- by type and id
by_cases : (a : Aps) (before : List Reading) (kind id : ℕ) → a.kind ≡ kind → a.id ≡ id → kind ≤ 2 → id < 8
    → slice_set (stored_sets before) (slot_of kind id) (Some a) ≡ stored_sets (aps_read a ∷ before)
by_cases a before zero zero k i few low = rw (k, i) refl
by_cases a before zero (suc zero) k i few low = rw (k, i) refl
by_cases a before zero (suc (suc zero)) k i few low = rw (k, i) refl
by_cases a before zero (suc (suc (suc zero))) k i few low = rw (k, i) refl
by_cases a before zero (suc (suc (suc (suc zero)))) k i few low = rw (k, i) refl
by_cases a before zero (suc (suc (suc (suc (suc zero))))) k i few low = rw (k, i) refl
by_cases a before zero (suc (suc (suc (suc (suc (suc zero)))))) k i few low = rw (k, i) refl
by_cases a before zero (suc (suc (suc (suc (suc (suc (suc zero))))))) k i few low = rw (k, i) refl
by_cases a before (suc zero) zero k i few low = rw (k, i) refl
by_cases a before (suc zero) (suc zero) k i few low = rw (k, i) refl
by_cases a before (suc zero) (suc (suc zero)) k i few low = rw (k, i) refl
by_cases a before (suc zero) (suc (suc (suc zero))) k i few low = rw (k, i) refl
by_cases a before (suc zero) (suc (suc (suc (suc zero)))) k i few low = rw (k, i) refl
by_cases a before (suc zero) (suc (suc (suc (suc (suc zero))))) k i few low = rw (k, i) refl
by_cases a before (suc zero) (suc (suc (suc (suc (suc (suc zero)))))) k i few low = rw (k, i) refl
by_cases a before (suc zero) (suc (suc (suc (suc (suc (suc (suc zero))))))) k i few low = rw (k, i) refl
by_cases a before (suc (suc zero)) zero k i few low = rw (k, i) refl
by_cases a before (suc (suc zero)) (suc zero) k i few low = rw (k, i) refl
by_cases a before (suc (suc zero)) (suc (suc zero)) k i few low = rw (k, i) refl
by_cases a before (suc (suc zero)) (suc (suc (suc zero))) k i few low = rw (k, i) refl
by_cases a before (suc (suc zero)) (suc (suc (suc (suc zero)))) k i few low = rw (k, i) refl
by_cases a before (suc (suc zero)) (suc (suc (suc (suc (suc zero))))) k i few low = rw (k, i) refl
by_cases a before (suc (suc zero)) (suc (suc (suc (suc (suc (suc zero)))))) k i few low = rw (k, i) refl
by_cases a before (suc (suc zero)) (suc (suc (suc (suc (suc (suc (suc zero))))))) k i few low = rw (k, i) refl
by_cases a before zero (suc (suc (suc (suc (suc (suc (suc (suc id)))))))) k i few low = absurd (omega arith)
by_cases a before (suc zero) (suc (suc (suc (suc (suc (suc (suc (suc id)))))))) k i few low = absurd (omega arith)
by_cases a before (suc (suc zero)) (suc (suc (suc (suc (suc (suc (suc (suc id)))))))) k i few low = absurd (omega arith)
by_cases a before (suc (suc (suc kind))) id k i few low = absurd (omega arith)

pub set_stored : (a : Aps) (before : List Reading) → a.kind ≤ SCALING → a.id < id_count
    → slice_set (stored_sets before) (slot_of a.kind a.id) (Some a) ≡ stored_sets (aps_read a ∷ before)
set_stored a before few low = by_cases a before a.kind a.id refl refl few low
