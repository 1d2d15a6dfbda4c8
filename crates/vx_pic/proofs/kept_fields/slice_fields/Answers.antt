use Rattle.std.proofs.Common.{◌++◌, drop}
use Rattle.vx_table.specs.Unstarred.{unstarred, unstarred_rows}
use Rattle.vx_table.proofs.Marking.{marked, marked_all}
use Rattle.vx_rpl.specs.Lists.{weights}
use Rattle.vx_ph.specs.Depends.{lists_tables}
use Rattle.vx_sh.specs.declared.tables.TheConstants.{HEADER_INSIDE, SUBPIC_ID, KNOWN_SUBPIC, ADDRESS, ACTIVE, INTER}
use Rattle.vx_sh.specs.Slice.{before_lists, between, behind_weights}
use Rattle.vx_sh.specs.Depends.{kept_fields, sh_tables}
use Rattle.vx_pic.proofs.kept_fields.slice_fields.Goals as goal

pub returns : goal.returns
returns c =
    marked_all kept_fields c.new-kept.ensures
    (marked _ (unstarred_rows HEADER_INSIDE) (unstarred (drop 1 sh_tables)) c.in_ok-push_unstarred.ensures
    (marked _ (unstarred_rows SUBPIC_ID) (unstarred (drop 2 sh_tables)) c.in_ok-push_unstarred-2.ensures
    (marked _ (unstarred_rows KNOWN_SUBPIC) (unstarred (drop 3 sh_tables)) c.in_ok-push_unstarred-3.ensures
    (marked _ (unstarred_rows ADDRESS) (unstarred (drop 4 sh_tables)) c.in_ok-push_unstarred-4.ensures
    (marked _ (unstarred before_lists) (unstarred (lists_tables ++ (between ++ (weights ++ behind_weights)))) c.in_ok-push_slice_front.ensures
    (marked _ (unstarred lists_tables) (unstarred (between ++ (weights ++ behind_weights))) c.in_ok-push_lists.ensures
    (marked _ (unstarred_rows ACTIVE) (unstarred (drop 1 between ++ (weights ++ behind_weights))) c.in_ok-push_unstarred-5.ensures
    (marked _ (unstarred_rows INTER) (unstarred (weights ++ behind_weights)) c.in_ok-push_unstarred-6.ensures
    (marked _ (unstarred weights) (unstarred behind_weights) c.in_ok-push_weights.ensures c.in_ok-push_slice_back.ensures)))))))))
