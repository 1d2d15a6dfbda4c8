use Rattle.vx_extract.proofs.KeptMessages.{messages_kept}
use Rattle.vx_extract.proofs.laws_kept.extracted_keeps_messages.Goals as goal

pub returns : goal.returns
returns c = messages_kept
