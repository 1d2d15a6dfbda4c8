use Rattle.std.proofs.Common.{[], ◌∷◌, ◌++◌, drop}
use Rattle.vx_table.specs.Unstarred.{unstarred, unstarred_rows}
use Rattle.vx_table.proofs.Marking.{marked}
use Rattle.vx_fields.specs.declared.pps.TheConstants.{pps_rbsp_trailing_bits}
use Rattle.vx_pps.specs.declared.tables.TheConstants.{PREDICTION, QP_OFFSETS, DBF_CONTROL, DBF_OFFSETS}
use Rattle.vx_pps.specs.Pps.{before_tiles}
use Rattle.vx_pps.specs.Reshaped.{tools_for_frame}
use Rattle.vx_pps.proofs.taken.push_for_frame.Goals as goal

pub returns : goal.returns
returns c =
    marked _ (pps_rbsp_trailing_bits ∷ []) (unstarred (before_tiles ++ tools_for_frame)) c.in_ok-push.ensures.ok
    (marked _ (unstarred before_tiles) (unstarred tools_for_frame) c.in_ok-push_front.ensures
    (marked _ (unstarred_rows PREDICTION) (unstarred (drop 1 tools_for_frame)) c.in_ok-push_unstarred.ensures
    (marked _ (unstarred_rows QP_OFFSETS) (unstarred (drop 2 tools_for_frame)) c.in_ok-push_unstarred-2.ensures
    (marked _ (unstarred_rows DBF_CONTROL) (unstarred (drop 3 tools_for_frame)) c.in_ok-push_unstarred-3.ensures
    (marked _ (unstarred_rows DBF_OFFSETS) (unstarred (drop 4 tools_for_frame)) c.in_ok-push_unstarred-4.ensures c.in_ok-push_unstarred-5.ensures)))))
