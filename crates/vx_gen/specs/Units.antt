-- The NAL units of generated streams. Laws say what they mean. Our own.
use Rattle.std.specs.Prelude.{ℕ, zero, suc, ◌+◌, ◌*◌, ◌/◌, ◌%◌, List, [], ◌∷◌, ◌++◌, take}
use Rattle.std.specs.List.{slice_index_or}
use Rattle.vx_gen.specs.declared.units.TheConstants.{IDR_SLICE, PPS_ENDS, PPS_END_SIZES, PPS_FRONT, SPS}
use Rattle.vx_gen.specs.Draws.{payload}

-- The SPS, and source k's PPS.
abbrev pub sps : List ℕ
sps = SPS

abbrev pub pps : ℕ → List ℕ
pps k = PPS_FRONT ++ take (slice_index_or PPS_END_SIZES k 0) (slice_index_or PPS_ENDS k [])

-- The low bits of picture p's count.
abbrev pub lsb : ℕ → ℕ
lsb p = p % 16

-- The slice of picture p up to its data: an IDR picture comes first, and the others are trailing pictures.
abbrev pub slice_front : ℕ → List ℕ
slice_front zero = IDR_SLICE
slice_front (suc p) = 0 ∷ 1 ∷ (136 + lsb (suc p) / 2) ∷ (120 + 128 * (lsb (suc p) % 2)) ∷ []

-- The slice, whose data is drawn from draw n on.
abbrev pub slice : (seed n p : ℕ) → List ℕ
slice seed n p = slice_front p ++ payload seed n
