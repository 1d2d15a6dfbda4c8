use Rattle.std.proofs.Common.{drop}
use Rattle.vx_table.specs.Unstarred.{unstarred, unstarred_rows}
use Rattle.vx_table.proofs.Marking.{marked}
use Rattle.vx_sh.specs.declared.tables.TheConstants.{TYPE, FILTER_HERE, LMCS_AND_SCALING}
use Rattle.vx_ph.specs.declared.tables.TheConstants.{ALF}
use Rattle.vx_sh.specs.Slice.{before_lists}
use Rattle.vx_pic.proofs.kept_fields.push_slice_front.Goals as goal

pub returns : goal.returns
returns c =
    marked _ (unstarred_rows TYPE) (unstarred (drop 1 before_lists)) c.in_ok-push_unstarred.ensures
    (marked _ (unstarred_rows FILTER_HERE) (unstarred (drop 2 before_lists)) c.in_ok-push_unstarred-2.ensures
    (marked _ (unstarred_rows ALF) (unstarred (drop 3 before_lists)) c.in_ok-push_unstarred-3.ensures
    (marked _ (unstarred_rows LMCS_AND_SCALING) (unstarred (drop 4 before_lists)) c.in_ok-push_unstarred-4.ensures c.in_ok-push_unstarred-5.ensures)))
