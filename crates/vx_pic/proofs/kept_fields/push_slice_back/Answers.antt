use Rattle.std.proofs.Common.{drop}
use Rattle.vx_table.specs.Unstarred.{unstarred, unstarred_rows}
use Rattle.vx_table.proofs.Marking.{marked}
use Rattle.vx_sh.specs.declared.tables.TheConstants.{QP, CHROMA_QP_AND_FILTERS, END, ALIGNMENT}
use Rattle.vx_sh.specs.Slice.{behind_weights}
use Rattle.vx_pic.proofs.kept_fields.push_slice_back.Goals as goal

pub returns : goal.returns
returns c =
    marked _ (unstarred_rows QP) (unstarred (drop 1 behind_weights)) c.in_ok-push_unstarred.ensures
    (marked _ (unstarred_rows CHROMA_QP_AND_FILTERS) (unstarred (drop 2 behind_weights)) c.in_ok-push_unstarred-2.ensures
    (marked _ (unstarred_rows END) (unstarred_rows ALIGNMENT) c.in_ok-push_unstarred-3.ensures c.in_ok-push_unstarred-4.ensures))
