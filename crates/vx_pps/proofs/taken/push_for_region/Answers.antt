use Rattle.std.proofs.Common.{[], ◌∷◌, drop}
use Rattle.vx_table.specs.Unstarred.{unstarred, unstarred_rows}
use Rattle.vx_table.proofs.Marking.{marked}
use Rattle.vx_fields.specs.declared.pps.TheConstants.{pps_init_qp_minus26, pps_alf_info_in_ph_flag, pps_qp_delta_info_in_ph_flag, pps_rbsp_trailing_bits}
use Rattle.vx_pps.specs.declared.tables.TheConstants.{PREDICTION, QP_OFFSETS, DBF_CONTROL, DBF_INFO, DBF_OFFSETS, HEADER_INFO}
use Rattle.vx_pps.specs.Pps.{before_tiles, after_slices, kept_pps_fields}
use Rattle.vx_pps.proofs.taken.push_for_region.Goals as goal

pub returns : goal.returns
returns c =
    marked _ (pps_init_qp_minus26 ∷ pps_alf_info_in_ph_flag ∷ pps_qp_delta_info_in_ph_flag ∷ pps_rbsp_trailing_bits ∷ []) kept_pps_fields c.in_ok-extend_from_slice.ensures.ok
    (marked _ (unstarred before_tiles) (unstarred after_slices) c.in_ok-push_front.ensures
    (marked _ (unstarred_rows PREDICTION) (unstarred (drop 1 after_slices)) c.in_ok-push_unstarred.ensures
    (marked _ (unstarred_rows QP_OFFSETS) (unstarred (drop 3 after_slices)) c.in_ok-push_unstarred-2.ensures
    (marked _ (unstarred_rows DBF_CONTROL) (unstarred (drop 4 after_slices)) c.in_ok-push_unstarred-3.ensures
    (marked _ (unstarred_rows DBF_INFO) (unstarred (drop 5 after_slices)) c.in_ok-push_unstarred-4.ensures
    (marked _ (unstarred_rows DBF_OFFSETS) (unstarred (drop 6 after_slices)) c.in_ok-push_unstarred-5.ensures
    (marked _ (unstarred_rows HEADER_INFO) (unstarred (drop 7 after_slices)) c.in_ok-push_unstarred-6.ensures c.in_ok-push_unstarred-7.ensures)))))))
