use Rattle.vx_pps.specs.Pps.{pps_form}
use Rattle.vx_pic.specs.Rules.{Readers}
use Rattle.vx_pic.specs.H266.{AreOfH266}
use Rattle.vx_assemble.proofs.Answers.{gives_value}
use Rattle.vx_assemble.proofs.readers.pps_of.Goals as goal

pub returns : goal.returns
returns c = λ (R : Readers) (are : AreOfH266 R). gives_value pps_form c.args.rbsp.now (R.pps c.args.rbsp.now) c.read_pps.result (are.pps c.args.rbsp.now) c.read_pps.ensures
