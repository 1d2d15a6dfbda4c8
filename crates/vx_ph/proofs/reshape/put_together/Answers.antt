use Rattle.std.proofs.Common.{refl}
use Rattle.vx_ph.specs.declared.tables.TheConstants.{STARRED}
use Rattle.vx_ph.proofs.Making.{makes}
use Rattle.vx_ph.proofs.reshape.put_together.Goals as goal

pub returns : goal.returns
returns c = makes STARRED c.code_header.new.scope c.code_header.result refl c.len.ensures c.new.ensures c.len-2.ensures c.new-2.ensures c.new-rewriter.ensures c.requires c.code_header.ensures
