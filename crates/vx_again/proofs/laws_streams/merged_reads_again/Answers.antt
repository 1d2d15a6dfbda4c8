use Rattle.vx_again.proofs.laws_streams.merged_reads_again.Goals as goal

pub returns : goal.returns
returns c = λ R corners level sources done of so. c.written_reads_again.ensures R done (c.merged_are_planned.ensures R corners level sources done of so).0
