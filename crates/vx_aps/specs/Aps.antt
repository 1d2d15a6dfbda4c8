-- The RBSP of an adaptation parameter set (H.266 7.3.2.6, 7.4.3.6): its type and id in the first byte, and its body after it. The
-- contracts of `read_aps` and `write_aps` rely on it.
use Rattle.std.specs.Prelude.{◌≡◌, ℕ, ◌+◌, ◌*◌, ◌≤◌, ◌<◌, ◌==◌, cond, List, [], ◌∷◌, length, Option, Some, None, Result, Ok, Err}
use Rattle.vx_bits.specs.declared.refusal.Refusal.{Refusal}
use Rattle.vx_bits.specs.declared.refusal.Refusal.TheVariants.{Syntax, Profile}
use Rattle.vx_bits.specs.declared.refusal.BitCause.TheVariants.{Short, BadTrailing}
use Rattle.vx_bits.specs.declared.refusal.ReadError.{ReadError}
use Rattle.vx_bits.specs.declared.refusal.ReadError.TheVariants.{Memory, Refused}
use Rattle.vx_bits.specs.declared.rules.TheConstants.{APS_ID}
use Rattle.vx_bits.specs.Codes.{EndsInNoZero}
use Rattle.vx_fields.specs.declared.aps.TheConstants.{aps_params_type, aps_body}
use Rattle.vx_aps.specs.declared.aps.Aps.{Aps}
use Rattle.vx_aps.specs.declared.aps.TheConstants.{LMCS, SCALING}

-- aps_params_type u(3), aps_adaptation_parameter_set_id u(5), and the body (7.3.2.6).
abbrev pub spelled : ℕ → ℕ → List ℕ → List ℕ
spelled kind id body = (32 * kind + id) ∷ body

-- How many ids a type has: 0 to 3 for LMCS, and 0 to 7 for the others (7.4.3.6).
abbrev pub ids_of_type : ℕ → ℕ
ids_of_type kind = cond (kind == LMCS) 4 8

-- A set of one of the three types, whose body can end a unit (7.4.3.6).
pub record IsValid (aps : Aps) : Type 0 where
  pub kind : aps.kind ≤ SCALING
  pub id : aps.id < ids_of_type aps.kind
  pub some : 0 < length aps.body
  pub ends : EndsInNoZero aps.body

-- The bytes are those of a set (7.3.2.6),
pub record IsAps (rbsp : List ℕ) (aps : Aps) : Type 0 where
  pub valid : IsValid aps
  pub bytes : rbsp ≡ spelled aps.kind aps.id aps.body

-- or of a set of a reserved type (7.4.3.6),
pub record IsReserved (rbsp : List ℕ) : Type 0 where
  pub kind : ℕ
  pub id : ℕ
  pub body : List ℕ
  pub bytes : rbsp ≡ spelled kind id body
  pub five_bits : id < 32
  pub reserved : SCALING < kind

-- or are refused for the first that holds: no first byte, an id that its type lacks, no body, a body that can't end a unit
-- (our own order).
pub data IsRefusedAps (rbsp : List ℕ) : Refusal → Type 0 where
  no_type : rbsp ≡ [] → IsRefusedAps rbsp (Syntax aps_params_type 0 Short)
  no_such_id : (kind id : ℕ) (body : List ℕ) → rbsp ≡ spelled kind id body → kind ≤ SCALING → id < 32 → ids_of_type kind ≤ id
      → IsRefusedAps rbsp (Profile APS_ID)
  no_body : (kind id : ℕ) → rbsp ≡ spelled kind id [] → kind ≤ SCALING → id < ids_of_type kind → IsRefusedAps rbsp (Syntax aps_body 8 Short)
  bad_end : (kind id : ℕ) (body : List ℕ) → rbsp ≡ spelled kind id body → kind ≤ SCALING → id < ids_of_type kind → ¬ EndsInNoZero body
      → IsRefusedAps rbsp (Syntax aps_body 8 BadTrailing)

-- What bytes are (our own).
abbrev pub IsAnswer : List ℕ → Result (Option Aps) Refusal → Type 0
IsAnswer rbsp (Ok (Some aps)) = IsAps rbsp aps
IsAnswer rbsp (Ok None) = IsReserved rbsp
IsAnswer rbsp (Err refusal) = IsRefusedAps rbsp refusal

-- The answer of a reader, unless memory runs out.
abbrev pub AnswersAps : List ℕ → Result (Option Aps) ReadError → Type 0
AnswersAps rbsp (Ok aps) = IsAnswer rbsp (Ok aps)
AnswersAps rbsp (Err Memory) = Unit {0}
AnswersAps rbsp (Err (Refused refusal)) = IsAnswer rbsp (Err refusal)
