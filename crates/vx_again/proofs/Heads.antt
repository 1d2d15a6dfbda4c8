-- The picture header of a round that is written is read again as it says.
use Rattle.std.proofs.Common.{◌≡◌, ℕ, ◌<◌, ◌==◌, Bool, false, not, List, [], ◌∷◌, Option, Some, None, Ok, refl, ap, sym, ◌∙◌, arith}
use Rattle.vx_bits.specs.declared.list.Item.{Item}
use Rattle.vx_fields.specs.declared.ph.TheConstants as ph
use Rattle.vx_fields.specs.declared.sps.TheConstants as sps_fields
use Rattle.vx_table.specs.Loaded.{number}
use Rattle.vx_table.specs.Scope.{fresh, is_set, one_if}
use Rattle.vx_table.proofs.With.{Passing, lacks, one_number, others_with, passing_append, passing_where, with_field}
use Rattle.vx_sps.specs.Reshaped.{item}
use Rattle.vx_table.specs.Rewritten.{where_so}
use Rattle.vx_ph.specs.declared.shape.LmcsShape.{LmcsShape}
use Rattle.vx_ph.specs.declared.shape.PhShape.{PhShape}
use Rattle.vx_ph.specs.Depends.{kept_ph_fields}
use Rattle.vx_ph.specs.Id.{UnitHasId}
use Rattle.vx_ph.specs.InForce.{in_force, structures}
use Rattle.vx_ph.specs.Picture.{IsHeader, UnitIsRead}
use Rattle.vx_ph.specs.Reshaped.{lmcs_said, map_items, scaling_said, stated_ph_items}
use Rattle.vx_ph.proofs.Sets.{in_force_length}
use Rattle.vx_pic.specs.declared.unit_types.TheConstants.{PH_NUT}
use Rattle.vx_pic.specs.H266.{AreOfH266}
use Rattle.vx_pic.specs.H266Laws.{HaveOneAnswer}
use Rattle.vx_pic.specs.Parts.{Parts}
use Rattle.vx_pic.specs.Readings.{Begun}
use Rattle.vx_pic.specs.Rules.{Readers}
use Rattle.vx_pic.specs.Sets.{pps_id}
use Rattle.vx_pic.specs.UnderSets.{picture_header_of}
use Rattle.vx_pic.specs.Units.{class_of, header_unit}
use Rattle.vx_pic.specs.Written.{HeaderReads, IsPlain}
use Rattle.vx_pic.proofs.AsRead.{begins_of}
use Rattle.vx_merge.specs.Headers.{HasMergedHeader, ph_shape}
use Rattle.vx_merge.specs.Needed.{Ids}
use Rattle.vx_again.specs.Frames.{MakeTheFrame}
use Rattle.vx_again.proofs.Units.{IsOf, is_of}

-- ---- the id of the PPS that it states

beside_id : ℕ → Bool
beside_id n = not (n == ph.ph_pic_parameter_set_id)

lmcs_beside : (chroma : ℕ) (lmcs : Option LmcsShape) → Passing beside_id (lmcs_said chroma lmcs)
unfolding beside_id
lmcs_beside chroma None = (refl, tt)
lmcs_beside chroma (Some lmcs) = (refl, (refl, passing_where beside_id (is_set chroma) (item ph.ph_chroma_residual_scale_flag (one_if lmcs.scales_chroma) ∷ []) (refl, tt)))

scaling_beside : (scaling : Option ℕ) → Passing beside_id (scaling_said scaling)
unfolding beside_id
scaling_beside None = (refl, tt)
scaling_beside (Some id) = (refl, (refl, tt))

maps_beside : (sps : List Item) (shape : PhShape) → with_field ph.ph_pic_parameter_set_id (map_items sps shape) ≡ []
unfolding beside_id
maps_beside sps shape =
    let lmcs = lmcs_said (number sps sps_fields.sps_chroma_format_idc) shape.lmcs in
    lacks beside_id ph.ph_pic_parameter_set_id (map_items sps shape) refl
    (passing_append beside_id (where_so (is_set (number sps sps_fields.sps_lmcs_enabled_flag)) lmcs) (where_so (is_set (number sps sps_fields.sps_explicit_scaling_list_enabled_flag)) (scaling_said shape.scaling))
    (passing_where beside_id (is_set (number sps sps_fields.sps_lmcs_enabled_flag)) lmcs (lmcs_beside (number sps sps_fields.sps_chroma_format_idc) shape.lmcs))
    (passing_where beside_id (is_set (number sps sps_fields.sps_explicit_scaling_list_enabled_flag)) (scaling_said shape.scaling) (scaling_beside shape.scaling)))

module _ (reads : UnitIsRead) (has_id : UnitHasId) (round : List Parts) (ids : Ids) (b : Begun) (n : ℕ)
    (make : MakeTheFrame n b.layout ids.pps b.sps b.pps) (small : ids.pps < 64) (low : b.temporal_id < 7)
    (h : HasMergedHeader round ids b) where
  id_is : number b.header ph.ph_pic_parameter_set_id ≡ ids.pps
  unfolding fresh
  id_is =
      let of = ph.ph_pic_parameter_set_id in
      let others : with_field of b.header ≡ with_field of (stated_ph_items b.sps (ph_shape round ids))
      = sym (others_with kept_ph_fields of b.header refl) ∙ ap (λ xs. with_field of xs) h.says.fields.other_ones in
      one_number of ids.pps b.header (omega arith) (omega (arith, small)) (others ∙ ap (λ xs. item of ids.pps ∷ xs) (maps_beside b.sps (ph_shape round ids)))

  is_header : IsHeader (structures b.sps) (in_force b.sps b.pps) (picture_header_of b)
  is_header = record {
    fields = record { values = h.says.fields.values; end = h.says.fields.end; follows = h.says.fields.follows; all = h.says.fields.all };
    lists = refl;
  }

  unit : IsOf PH_NUT b.temporal_id h.rbsp h.unit
  unit = is_of PH_NUT b.temporal_id h.rbsp h.unit low h.made.is

  pub plain : IsPlain h.unit header_unit
  unfolding class_of
  plain = unit.plain header_unit refl

  pub header_reads : (R : Readers) → AreOfH266 R → HaveOneAnswer → HeaderReads R false h.unit b
  header_reads R of unique =
      let table = structures b.sps in
      let s = in_force b.sps b.pps in
      let told = has_id table s (picture_header_of b) h.rbsp (in_force_length b.sps b.pps) h.spelled in
      record {
        referred = ap (λ bytes. R.referred_pps false bytes) unit.behind
            ∙ unique.referred_pps false h.rbsp (R.referred_pps false h.rbsp) (Ok (pps_id b.pps)) (of.referred_pps false h.rbsp) (told.0, begins_of told.1.1, make.pps_id_is ∙ sym id_is ∙ told.2);
        size = make.size;
        layout = unique.layout b.sps b.pps (R.layout b.sps b.pps) (Ok b.layout) (of.layout b.sps b.pps) (make.made, sym make.numbers);
        header = ap (λ bytes. R.header false b.sps b.pps bytes) unit.behind
            ∙ unique.header false b.sps b.pps h.rbsp (R.header false b.sps b.pps h.rbsp) (Ok b.header) (of.header false b.sps b.pps h.rbsp) (begins_of (reads table s (picture_header_of b) h.rbsp is_header h.spelled).0.1);
        tid = unit.temporal;
      }
