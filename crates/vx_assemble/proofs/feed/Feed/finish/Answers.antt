use Rattle.vx_assemble.proofs.Feeding.{few_bytes}
use Rattle.vx_assemble.proofs.feed.Feed.finish.Goals as goal

pub returns-clause-bytes : goal.returns-clause-bytes
returns-clause-bytes c = few_bytes c.finish.new.self c.self.inside.assembler c.finish.ensures.held c.self.invariant.bounded
