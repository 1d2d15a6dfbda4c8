use Rattle.vx_sps.specs.Structure.{sps_form}
use Rattle.vx_pic.specs.Rules.{Readers}
use Rattle.vx_pic.specs.H266.{AreOfH266}
use Rattle.vx_assemble.proofs.Answers.{gives_value}
use Rattle.vx_assemble.proofs.readers.sps_of.Goals as goal

pub returns : goal.returns
returns c = λ (R : Readers) (are : AreOfH266 R). gives_value sps_form c.args.rbsp.now (R.sps c.args.rbsp.now) c.read_sps.result (are.sps c.args.rbsp.now) c.read_sps.ensures
