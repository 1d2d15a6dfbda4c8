use Rattle.std.proofs.Common.{drop}
use Rattle.vx_table.specs.Unstarred.{unstarred, unstarred_rows}
use Rattle.vx_table.proofs.Marking.{marked}
use Rattle.vx_ph.specs.declared.tables.TheConstants.{PICTURE, PPS_ID, ORDER_COUNT, ALF, LMCS_AND_SCALING}
use Rattle.vx_ph.specs.Header.{ph_before_lists}
use Rattle.vx_pic.proofs.kept_fields.push_header_front.Goals as goal

pub returns : goal.returns
returns c =
    marked _ (unstarred_rows PICTURE) (unstarred (drop 1 ph_before_lists)) c.in_ok-push_unstarred.ensures
    (marked _ (unstarred_rows PPS_ID) (unstarred (drop 2 ph_before_lists)) c.in_ok-push_unstarred-2.ensures
    (marked _ (unstarred_rows ORDER_COUNT) (unstarred (drop 3 ph_before_lists)) c.in_ok-push_unstarred-3.ensures
    (marked _ (unstarred_rows ALF) (unstarred (drop 4 ph_before_lists)) c.in_ok-push_unstarred-4.ensures
    (marked _ (unstarred_rows LMCS_AND_SCALING) (unstarred (drop 5 ph_before_lists)) c.in_ok-push_unstarred-5.ensures c.in_ok-push_unstarred-6.ensures))))
