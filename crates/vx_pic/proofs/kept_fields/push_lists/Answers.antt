use Rattle.std.proofs.Common.{drop}
use Rattle.vx_table.specs.Unstarred.{unstarred, unstarred_rows}
use Rattle.vx_table.proofs.Marking.{marked}
use Rattle.vx_rpl.specs.declared.tables.TheConstants.{BEFORE_LIST_0, CHOICE, REF_PIC_LIST_STRUCT, LONG_TERM, BEHIND_LIST_0}
use Rattle.vx_ph.specs.Depends.{lists_tables}
use Rattle.vx_pic.proofs.kept_fields.push_lists.Goals as goal

pub returns : goal.returns
returns c =
    marked _ (unstarred_rows BEFORE_LIST_0) (unstarred (drop 1 lists_tables)) c.in_ok-push_unstarred.ensures
    (marked _ (unstarred_rows CHOICE) (unstarred (drop 2 lists_tables)) c.in_ok-push_unstarred-2.ensures
    (marked _ (unstarred_rows REF_PIC_LIST_STRUCT) (unstarred (drop 3 lists_tables)) c.in_ok-push_unstarred-3.ensures
    (marked _ (unstarred_rows LONG_TERM) (unstarred (drop 4 lists_tables)) c.in_ok-push_unstarred-4.ensures
    (marked _ (unstarred_rows BEHIND_LIST_0) (unstarred (drop 5 lists_tables)) c.in_ok-push_unstarred-5.ensures c.in_ok-push_unstarred-6.ensures))))
