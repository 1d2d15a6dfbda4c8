use Rattle.vx_pic.proofs.Existing.{there_are_readers}
use Rattle.vx_pic.proofs.laws_readers.readers_exist.Goals as goal

pub returns : goal.returns
returns c = there_are_readers
