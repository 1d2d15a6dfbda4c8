use Rattle.vx_pic.specs.Rules.{Readers}
use Rattle.vx_pic.specs.H266.{AreOfH266}
use Rattle.vx_assemble.proofs.Answers.{gives_id, gives_no_id}
use Rattle.vx_assemble.proofs.readers.referred_pps.Goals as goal

pub returns-in-Ok : goal.returns-in-Ok
returns-in-Ok c = λ (R : Readers) (are : AreOfH266 R).
    gives_id c.args.inside c.args.rbsp.now c.header_bits-bits.result c.read_pps_id.new.bits (R.referred_pps c.args.inside c.args.rbsp.now) c.in-Ok.id c.header_bits-bits.ensures
    (are.referred_pps c.args.inside c.args.rbsp.now) c.in-Ok.ensures.answer c.in-Ok.ensures.id

pub returns-in-Err : goal.returns-in-Err
returns-in-Err c = λ (R : Readers) (are : AreOfH266 R).
    gives_no_id c.args.inside c.args.rbsp.now c.header_bits-bits.result c.read_pps_id.new.bits (R.referred_pps c.args.inside c.args.rbsp.now) c.in-Err.refusal c.header_bits-bits.ensures
    (are.referred_pps c.args.inside c.args.rbsp.now) c.in-Err.ensures.answer
