use Rattle.vx_sps.proofs.Exists.{made}
use Rattle.vx_sps.proofs.reshape.rewrite.Goals as goal

pub returns : goal.returns
returns c =
    made c.code_sps.new.scope c.code_sps.result c.new-3.ensures c.requires.names c.len.ensures c.new.ensures c.len-2.ensures c.new-2.ensures c.new-rewriter.ensures c.requires.into
    c.code_sps.ensures
