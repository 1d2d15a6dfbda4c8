use Rattle.std.proofs.Common.{drop}
use Rattle.vx_table.specs.Unstarred.{unstarred, unstarred_rows}
use Rattle.vx_table.proofs.Marking.{marked, marked_all}
use Rattle.vx_sps.specs.declared.tables.TheConstants.{TAKEN_BESIDES, START, RESAMPLING, COUNTS}
use Rattle.vx_sps.specs.Structure.{sps_sections, tools}
use Rattle.vx_sps.specs.Depends.{kept_sps_fields, taken_sps_fields}
use Rattle.vx_sps.proofs.taken.taken_fields.Goals as goal

pub returns : goal.returns
returns c =
    marked_all taken_sps_fields c.new-names.ensures
    (marked _ TAKEN_BESIDES kept_sps_fields c.in_ok-extend_from_slice.ensures.ok
    (marked _ (unstarred_rows START) (unstarred (drop 2 sps_sections)) c.in_ok-push_unstarred.ensures
    (marked _ (unstarred_rows RESAMPLING) (unstarred (drop 4 sps_sections)) c.in_ok-push_unstarred-2.ensures
    (marked _ (unstarred_rows COUNTS) (unstarred (drop 10 sps_sections)) c.in_ok-push_unstarred-3.ensures
    (marked _ (unstarred tools) (unstarred (drop 24 sps_sections)) c.in_ok-push_tools.ensures c.in_ok-push_unstarred-4.ensures)))))
