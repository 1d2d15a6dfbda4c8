use Rattle.vx_pps.proofs.Walking.{from_end, from_refusal}
use Rattle.vx_pps.proofs.numbers.code_sections.Goals as goal

pub returns-in-Ok : goal.returns-in-Ok
returns-in-Ok g c = from_end c.in-Ok.ensures

pub returns-in-Err : goal.returns-in-Err
returns-in-Err g c = from_refusal c.in-Err.ensures
