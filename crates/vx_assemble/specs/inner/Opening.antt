-- What an assembler makes of a picture that begins, from what it keeps.
use Rattle.std.specs.Prelude.{◌≡◌, ℕ, ◌^◌, ◌==◌, ◌&&◌, ◌||◌, not, Bool, false, List, Option, Some, None, is_none, Result}
use Rattle.vx_bits.specs.declared.list.Item.{Item}
use Rattle.vx_bits.specs.declared.refusal.Refusal.{Refusal}
use Rattle.vx_pic.specs.declared.kind.Kind.{Kind}
use Rattle.vx_pic.specs.declared.count.CountFields.{CountFields}
use Rattle.vx_pic.specs.Units.{is_idr, is_cra_or_gdr, is_irap_or_gdr}
use Rattle.vx_pic.specs.declared.unit_types.TheConstants.{RADL_NUT, RASL_NUT}
use Rattle.vx_pic.specs.Sets.{max_lsb, lsb_of, msb_cycle, is_non_ref, same_items}
use Rattle.vx_pic.specs.Readings.{Begun}
use Rattle.vx_pic.specs.Counts.{count_by}
use Rattle.vx_pic.specs.Counted.{previous_of}
use Rattle.vx_pic.specs.Rules.{opened_as}
use Rattle.vx_assemble.specs.declared.state.State.{State}
use Rattle.vx_assemble.specs.inner.Held.{last_held}

abbrev pub held_anew : State → Bool
held_anew s = s.ended || is_none s.last

abbrev pub held_changed : Option (List Item) → List Item → Bool
held_changed None sps = false
held_changed (Some last) sps = not (same_items last sps)

abbrev pub held_clvss : State → ℕ → Bool
held_clvss s t = is_idr t || (is_cra_or_gdr t && held_anew s)

abbrev pub held_kind : State → Begun → ℕ → ℕ → Kind
held_kind s b t tid = record {
  nal_type = t;
  temporal_id = tid;
  clvss = held_clvss s t;
  after_eos = s.ended && not (is_none s.last);
  poc = count_by b.sps b.header (held_clvss s t) (previous_of s.previous);
}

abbrev pub opened_in : State → Begun → ℕ → ℕ → Result Kind Refusal
opened_in s b t tid =
    opened_as (held_anew s && not (is_irap_or_gdr t)) (held_changed (last_held s) b.sps) (held_kind s b t tid)

-- The input of the code of counts.
pub record IsCountedBy (c : CountFields) (sps header : List Item) : Type 0 where
  pub max : 2 ^ c.lsb_bits ≡ max_lsb sps
  pub lsb : c.lsb ≡ lsb_of header
  pub cycle : c.msb_cycle ≡ msb_cycle header

-- A picture that later counts can come from.
abbrev pub tid0_by : List Item → Kind → Bool
tid0_by header k =
    (k.temporal_id == 0) && (not (is_non_ref header) && (not (k.nal_type == RADL_NUT) && not (k.nal_type == RASL_NUT)))
