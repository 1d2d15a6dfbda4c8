use Rattle.vx_extract.proofs.KeptMessages.{all_inputs_kept, all_messages_kept}
use Rattle.vx_extract.proofs.laws_kept.all_keep_inputs.Goals as goal

pub returns-clause-inputs : goal.returns-clause-inputs
returns-clause-inputs c = all_inputs_kept c.extracted_keeps_inputs.ensures

pub returns-clause-messages : goal.returns-clause-messages
returns-clause-messages c = all_messages_kept c.extracted_reads_again.ensures c.extracted_keeps_messages.ensures
