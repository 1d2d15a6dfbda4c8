use Rattle.vx_pic.proofs.AsRead.{readers_are_as_programs_read}
use Rattle.vx_pic.proofs.laws_readers.readers_answer_as_programs.Goals as goal

pub returns : goal.returns
returns c = readers_are_as_programs_read
