use Rattle.vx_pic.specs.Parts.{parts_of}
use Rattle.vx_extract.specs.Again.{AreRewritten}
use Rattle.vx_extract.proofs.AgainUnits.{units_again}
use Rattle.vx_extract.proofs.laws.extracted_units_are_read.Goals as goal

pub returns : goal.returns
returns c = λ R target level earlier picture done p of sound whole are within ex.
    let re : AreRewritten target level (parts_of picture) p.begun.sps p.begun.pps = record { of_sps = ex.sps; of_pps = ex.pps } in
    let make = c.rewritten_make_region.ensures.made target level (parts_of picture) p.begun.sps p.begun.pps are within re in
    let keep = c.rewritten_make_region.ensures.ids target level (parts_of picture) p.begun.sps p.begun.pps are within re in
    let under = c.rewritten_read_alike.ensures R target level (parts_of picture) p.begun.sps p.begun.pps of are within re in
    units_again R target level earlier picture done p sound whole are ex make keep under
