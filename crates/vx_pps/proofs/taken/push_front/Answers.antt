use Rattle.vx_table.specs.Unstarred.{unstarred_rows}
use Rattle.vx_table.proofs.Marking.{marked}
use Rattle.vx_pps.specs.declared.tables.TheConstants.{NAL_TYPES, OUTPUT}
use Rattle.vx_pps.proofs.taken.push_front.Goals as goal

pub returns : goal.returns
returns c = marked _ (unstarred_rows NAL_TYPES) (unstarred_rows OUTPUT) c.in_ok-push_unstarred.ensures c.in_ok-push_unstarred-2.ensures
