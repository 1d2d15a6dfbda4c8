use Rattle.std.proofs.Common.{drop}
use Rattle.vx_table.specs.Unstarred.{unstarred, unstarred_rows}
use Rattle.vx_table.proofs.Marking.{marked}
use Rattle.vx_rpl.specs.declared.tables.TheConstants.{REF_PIC_LIST_STRUCT}
use Rattle.vx_sps.specs.declared.tables.TheConstants.{PARTITIONS, TRANSFORMS, CHROMA_QP, FILTERS, REFERENCES, LIST_1, INTER, INTRA}
use Rattle.vx_sps.specs.Structure.{tools}
use Rattle.vx_sps.proofs.taken.push_tools.Goals as goal

pub returns : goal.returns
returns c =
    marked _ (unstarred_rows PARTITIONS) (unstarred (drop 1 tools)) c.in_ok-push_unstarred.ensures
    (marked _ (unstarred_rows TRANSFORMS) (unstarred (drop 2 tools)) c.in_ok-push_unstarred-2.ensures
    (marked _ (unstarred_rows CHROMA_QP) (unstarred (drop 3 tools)) c.in_ok-push_unstarred-3.ensures
    (marked _ (unstarred_rows FILTERS) (unstarred (drop 4 tools)) c.in_ok-push_unstarred-4.ensures
    (marked _ (unstarred_rows REFERENCES) (unstarred (drop 5 tools)) c.in_ok-push_unstarred-5.ensures
    (marked _ (unstarred_rows REF_PIC_LIST_STRUCT) (unstarred (drop 6 tools)) c.in_ok-push_unstarred-6.ensures
    (marked _ (unstarred_rows LIST_1) (unstarred (drop 7 tools)) c.in_ok-push_unstarred-7.ensures
    (marked _ (unstarred_rows REF_PIC_LIST_STRUCT) (unstarred (drop 8 tools)) c.in_ok-push_unstarred-8.ensures
    (marked _ (unstarred_rows INTER) (unstarred (drop 9 tools)) c.in_ok-push_unstarred-9.ensures
    (marked _ (unstarred_rows INTRA) (unstarred (drop 10 tools)) c.in_ok-push_unstarred-10.ensures c.in_ok-push_unstarred-11.ensures)))))))))
