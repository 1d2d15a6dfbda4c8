-- What is read again has the messages of the source, and so it is with all pictures of a stream.
use Rattle.std.proofs.Common.{List, [], ◌∷◌, map, refl, ap, ◌∙◌}
use Rattle.vx_sei.specs.declared.message.Message.{Message}
use Rattle.vx_pic.specs.Readings.{Picture, messages_of}
use Rattle.vx_pic.specs.Inputs.{Input, inputs_of}
use Rattle.vx_pic.specs.Resident.{planned_of}
use Rattle.vx_write.proofs.Messages.{planned_messages, unit_has}
use Rattle.vx_extract.specs.Again.{ExtractedReadsAgain}
use Rattle.vx_extract.specs.Kept.{AllKeepInputs, AllKeepMessages, ExtractedKeepsInputs, ExtractedKeepsMessages}

pub messages_kept : ExtractedKeepsMessages
messages_kept target level pic done p rests ex = planned_messages done p ∙ unit_has pic.kind.temporal_id (messages_of pic) p.sei ex.sei

-- ---- all pictures

pub all_inputs_kept : ExtractedKeepsInputs → AllKeepInputs
all_inputs_kept keeps target level [] [] all were = refl
all_inputs_kept keeps target level [] (p ∷ done) all were = absurd were
all_inputs_kept keeps target level (pic ∷ pics) [] all were = absurd were
all_inputs_kept keeps target level (pic ∷ pics) (p ∷ done) (ready, all) (ex, were) =
    ap (λ (i : List Input). i ∷ map (λ (q : Picture). inputs_of q 0) (planned_of done)) (keeps target level pic done p ready ex)
    ∙ ap (λ is. inputs_of pic target ∷ is) (all_inputs_kept keeps target level pics done all were)

pub all_messages_kept : ExtractedReadsAgain → ExtractedKeepsMessages → AllKeepMessages
all_messages_kept reads keeps R target level [] [] of finished all were = refl
all_messages_kept reads keeps R target level [] (p ∷ done) of finished all were = absurd were
all_messages_kept reads keeps R target level (pic ∷ pics) [] of finished all were = absurd were
all_messages_kept reads keeps R target level (pic ∷ pics) (p ∷ done) of (sound, whole, finished) (ready, all) (ex, were) =
    let rests = (reads R target level pics done of finished all were).rests in
    ap (λ (ms : List Message). ms ∷ map messages_of (planned_of done)) (keeps target level pic done p rests ex)
    ∙ ap (λ is. messages_of pic ∷ is) (all_messages_kept reads keeps R target level pics done of finished all were)
