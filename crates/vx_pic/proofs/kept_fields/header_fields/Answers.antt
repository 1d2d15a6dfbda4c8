use Rattle.std.proofs.Common.{◌++◌, drop}
use Rattle.vx_table.specs.Unstarred.{unstarred, unstarred_rows}
use Rattle.vx_table.proofs.Marking.{marked, marked_all}
use Rattle.vx_rpl.specs.Lists.{weights}
use Rattle.vx_ph.specs.declared.tables.TheConstants.{INTRA, INTER, QP, FILTERS}
use Rattle.vx_ph.specs.Header.{ph_before_lists, middle, back}
use Rattle.vx_ph.specs.Depends.{kept_ph_fields, lists_tables}
use Rattle.vx_pic.proofs.kept_fields.header_fields.Goals as goal

pub returns : goal.returns
returns c =
    marked_all kept_ph_fields c.new-kept.ensures
    (marked _ (unstarred ph_before_lists) (unstarred (lists_tables ++ (middle ++ (weights ++ back)))) c.in_ok-push_header_front.ensures
    (marked _ (unstarred lists_tables) (unstarred (middle ++ (weights ++ back))) c.in_ok-push_lists.ensures
    (marked _ (unstarred_rows INTRA) (unstarred (drop 1 middle ++ (weights ++ back))) c.in_ok-push_unstarred.ensures
    (marked _ (unstarred_rows INTER) (unstarred (weights ++ back)) c.in_ok-push_unstarred-2.ensures
    (marked _ (unstarred weights) (unstarred back) c.in_ok-push_weights.ensures
    (marked _ (unstarred_rows QP) (unstarred_rows FILTERS) c.in_ok-push_unstarred-3.ensures c.in_ok-push_unstarred-4.ensures))))))
