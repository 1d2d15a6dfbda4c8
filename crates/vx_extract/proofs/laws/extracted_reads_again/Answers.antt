use Rattle.vx_extract.proofs.laws.extracted_reads_again.Goals as goal

pub returns : goal.returns
returns c = λ R target level pictures done of finished all were. c.written_reads_again.ensures R done (c.extracted_are_planned.ensures R target level pictures done of finished all were).0
