-- A round whose pictures are joined to those before it: each starts a coded layer video sequence after an end of sequence. Our own.
use Rattle.std.specs.Prelude.{◌≡◌, ◌⊎◌, ℕ, Bool, true, false, cond, List, [], ◌∷◌, length, Option, Some, None, Result, Ok, Err}
use Rattle.vx_bits.specs.declared.refusal.Refusal.{Refusal}
use Rattle.vx_bits.specs.declared.rules.TheConstants as rules
use Rattle.vx_pic.specs.Parts.{Parts}
use Rattle.vx_pic.specs.Sets.{is_non_ref}
use Rattle.vx_pic.specs.Written.{Plan}
use Rattle.vx_write.specs.declared.fault.WriteError.{WriteError}
use Rattle.vx_write.specs.declared.fault.WriteError.TheVariants as errors
use Rattle.vx_frame.specs.declared.corner.Corner.{Corner}
use Rattle.vx_frame.specs.Rounds.{picture_at}
use Rattle.vx_frame.specs.Rules.{of_source}
use Rattle.vx_frame.specs.Verdict.{Rule, IsVerdict}
use Rattle.vx_merge.specs.Merging.{IsBarred, Merging, WritesOneRound}

-- The same picture after an end of sequence.
abbrev pub after_end_of_sequence : Parts → Parts
after_end_of_sequence q = record q { kind = record q.kind { after_eos = true } }

-- A picture that may come first after a join: it starts a coded layer video sequence, at TemporalId 0, and later counts can go back to it
-- (7.4.2.4.2, 8.3.1).
pub record CanStart (q : Parts) : Type 0 where
  pub clvss : q.kind.clvss ≡ true
  pub tid : q.kind.temporal_id ≡ 0
  pub ref : is_non_ref q.header.fields ≡ false

-- M15: source k's can't.
abbrev pub join_start : List Parts → Rule
join_start round = of_source rules.JOIN_START (λ k. ¬ CanStart (picture_at round k))

-- The verdict on a round that may be joined.
abbrev pub JudgesJoin : Bool → List Corner → List Parts → Option Refusal → Type 0
JudgesJoin joins corners round verdict = IsVerdict (length corners) (cond joins (join_start round ∷ []) []) verdict

-- It can't be written after others: its pictures can't begin there, or, if they can, for a rule or a limit.
abbrev pub IsBarredWhere : Bool → List Corner → Option ℕ → List Parts → List Plan → Refusal → Type 0
IsBarredWhere joins corners level round done r =
    JudgesJoin joins corners round (Some r) ⊎ (JudgesJoin joins corners round None × IsBarred corners level round done r)

-- The result of a round that is joined to others, its pictures being marked so, with the bytes and the count of faults of a sink before
-- and after. It is that of any round, except that its pictures may begin there if something is written.
abbrev pub WritesJoined : List Parts → List Plan → Merging → Option (List ℕ) → Option (List ℕ) → ℕ → ℕ → Result (Unit {0}) WriteError → Type 0
WritesJoined round done new bytes bytes' faults faults' (Ok _) =
    JudgesJoin true new.corners round None × WritesOneRound round done new bytes bytes' faults faults' (Ok tt)
WritesJoined round done new bytes bytes' faults faults' (Err (errors.Refused r)) =
    (bytes' ≡ bytes) × (faults' ≡ faults) × IsBarredWhere true new.corners new.level round done r
WritesJoined round done new bytes bytes' faults faults' (Err errors.Memory) = (bytes' ≡ bytes) × (faults' ≡ faults)
WritesJoined round done new bytes bytes' faults faults' (Err errors.SinkFailed) =
    JudgesJoin true new.corners round None × WritesOneRound round done new bytes bytes' faults faults' (Err errors.SinkFailed)
WritesJoined round done new bytes bytes' faults faults' (Err (errors.Stopped first)) = ⊥
