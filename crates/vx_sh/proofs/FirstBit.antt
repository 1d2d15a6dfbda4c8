-- The first bit of a slice header says whether the picture header stands inside.
use Rattle.std.proofs.Common.{◌≡◌, ℕ, ℤ, pos, negsuc, zero, suc, ◌*◌, ◌-◌, Bool, true, false, nat_le, if◌then◌else◌, List, [], ◌∷◌, ◌++◌, length, slice_index, slice_set, refl, ap, sym, ◌∙◌, arith}
use Rattle.std.proofs.lemmas.Grind.{get_or-set_at}
use Rattle.std.specs.Int.RustNames.{unsigned_abs}
use Rattle.vx_bits.specs.Codes.{bits_of, fixed}
use Rattle.vx_table.specs.declared.rows.Coding.TheVariants.{Fixed}
use Rattle.vx_table.specs.Forms.{after, coding_at, form_of, has_value, limits_at, one_field, part}
use Rattle.vx_table.specs.Scope.{fresh, is_set, natural, value}
use Rattle.vx_table.specs.Spelling.{HasCode, Spells, at_end, behind, code_of}
use Rattle.vx_table.specs.Values.{Follows, to_end, through}
use Rattle.vx_table.proofs.Joined.{joined, spells_parted}
use Rattle.vx_table.proofs.Rewrites.{left_end}
use Rattle.vx_fields.specs.declared.sh.TheConstants.{sh_picture_header_in_slice_header_flag}
use Rattle.vx_sh.specs.declared.tables.TheConstants.{HEADER_INSIDE}
use Rattle.vx_sh.specs.Value.{FirstBitIsInside}
use Rattle.vx_sh.specs.Whole.{behind_header, header_inside, slice_form}
use Rattle.vx_sh.proofs.Told.{behind_leaves_inside}

-- a value of one bit is that bit
one_bit : (v : ℤ) (left mid : List Bool) (natural_v : ℕ) → natural_v ≡ natural v → HasCode (Fixed 1) v → left ≡ fixed 1 (unsigned_abs v) ++ mid → left ≡ is_set natural_v ∷ mid
unfolding HasCode fixed natural
one_bit (pos zero) left mid k same small is = rw same is
one_bit (pos (suc zero)) left mid k same small is = rw same is
one_bit (pos (suc (suc v))) left mid k same small is = absurd (omega (arith, small))
one_bit (negsuc v) left mid k same small is = absurd small

-- the first of what spells the flag is what the scope behind it has
flag_bit : (s : List ℕ) {values : List ℤ} {at : List ℕ} (total : ℕ) {left rest : List Bool} → length s ≡ 1024 → Follows (form_of HEADER_INSIDE s) values at
    → Spells total (form_of HEADER_INSIDE s) values left rest → left ≡ is_set (slice_index at sh_picture_header_in_slice_header_flag) ∷ rest
unfolding form_of part one_field after coding_at limits_at has_value value code_of
flag_bit s total size (through {v} is to_end) (behind {mid} stands at_end) =
    one_bit v _ _ (slice_index (slice_set s sh_picture_header_in_slice_header_flag (natural v)) sh_picture_header_in_slice_header_flag)
    (get_or-set_at s sh_picture_header_in_slice_header_flag sh_picture_header_in_slice_header_flag (natural v) 0 refl (omega (arith, size))) is.code stands.code.bits

-- a byte's first bit
first_bit : (rbsp : List ℕ) (b : Bool) (more : List Bool) → bits_of rbsp ≡ b ∷ more → b ≡ nat_le 128 (slice_index rbsp 0)
unfolding fixed
first_bit [] b more is = cc
first_bit (byte ∷ bytes) b more is = elim (nat_le 128 byte) as (λ high. (if high then true ∷ fixed 7 (byte - 128) else (false ∷ fixed 7 byte)) ++ bits_of bytes ≡ b ∷ more → b ≡ high) [ true ↦ λ e. cc | false ↦ λ e. cc ] is

pub first_bit_is_inside : FirstBitIsInside
unfolding slice_form fresh
first_bit_is_inside n rbsp header size long b =
    let f = b.fields in
    let total = 8 * length rbsp in
    let front = spells_parted (behind_header n.table n.ids n.layout) (joined (header_inside n.table n.sets) f.begins f.goes_on) b.spelled in
    let first = spells_parted (header_inside n.table n.sets) f.begins front.1 in
    let left = (behind_leaves_inside n.table n.ids n.layout).at f.at in
    let there : slice_index f.end sh_picture_header_in_slice_header_flag ≡ slice_index f.at sh_picture_header_in_slice_header_flag
    = sym ((left_end left f.ends).same sh_picture_header_in_slice_header_flag refl) in
    b.numbers.inside ∙ ap is_set there ∙ first_bit rbsp (is_set (slice_index f.at sh_picture_header_in_slice_header_flag)) first.0 (flag_bit n.slice total long f.begins first.1)
