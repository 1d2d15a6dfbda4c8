-- The rules by which a picture's subpicture can't be extracted. The subpicture is named by its index, `target`; pictures whose TemporalId
-- is above `tid` are left out. Our own.
use Rattle.std.specs.Prelude.{ℕ, not, nat_le, nat_lt, Bool, cond, Option, Some, None, option_map}
use Rattle.vx_bits.specs.declared.refusal.Refusal.{Refusal}
use Rattle.vx_bits.specs.declared.refusal.Refusal.TheVariants.{Extract}
use Rattle.vx_bits.specs.declared.rules.TheConstants as rules
use Rattle.vx_sps.specs.Subpictures.{subpics_of, is_treated, is_filtered}
use Rattle.vx_pic.specs.Units.{is_irap_or_gdr}
use Rattle.vx_pic.specs.Parts.{Parts}

-- The picture belongs to a sublayer that is kept (H.266 C.6).
abbrev pub is_kept : ℕ → Parts → Bool
is_kept tid q = nat_le q.kind.temporal_id tid

-- A kept picture breaks this: it lacks the subpicture; that isn't treated as a picture; or in-loop filters cross its borders (7.4.3.4,
-- sps_subpic_treated_as_pic_flag, sps_loop_filter_across_subpic_enabled_flag).
abbrev pub rule_of_kept : ℕ → Parts → Option ℕ
rule_of_kept target q =
    cond (not (nat_lt target (subpics_of q.sps))) (Some rules.NO_SUCH_SUBPICTURE)
    (cond (not (is_treated q.sps target)) (Some rules.NOT_TREATED_AS_PICTURE)
    (cond (is_filtered q.sps target) (Some rules.FILTERED_ACROSS) None))

-- A picture that is left out breaks this: it is an IRAP or GDR picture, and later ones couldn't be decoded.
abbrev pub rule_of_dropped : Parts → Option ℕ
rule_of_dropped q = cond (is_irap_or_gdr q.kind.nal_type) (Some rules.IRAP_DROPPED) None

-- The first rule that the picture breaks, and the refusal that names it.
abbrev pub rule_of : (target tid : ℕ) → Parts → Option ℕ
rule_of target tid q = cond (is_kept tid q) (rule_of_kept target q) (rule_of_dropped q)

abbrev pub refusal_of : (target tid : ℕ) → Parts → Option Refusal
refusal_of target tid q = option_map Extract (rule_of target tid q)
