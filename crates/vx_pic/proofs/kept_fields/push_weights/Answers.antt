use Rattle.std.proofs.Common.{drop}
use Rattle.vx_table.specs.Unstarred.{unstarred, unstarred_rows}
use Rattle.vx_table.proofs.Marking.{marked}
use Rattle.vx_rpl.specs.declared.tables.TheConstants.{WEIGHTS_0, WEIGHTS, WEIGHTS_1}
use Rattle.vx_rpl.specs.Lists.{weights}
use Rattle.vx_pic.proofs.kept_fields.push_weights.Goals as goal

pub returns : goal.returns
returns c =
    marked _ (unstarred_rows WEIGHTS_0) (unstarred (drop 1 weights)) c.in_ok-push_unstarred.ensures
    (marked _ (unstarred_rows WEIGHTS) (unstarred (drop 2 weights)) c.in_ok-push_unstarred-2.ensures
    (marked _ (unstarred_rows WEIGHTS_1) (unstarred (drop 3 weights)) c.in_ok-push_unstarred-3.ensures c.in_ok-push_unstarred-4.ensures))
