use Rattle.vx_ptl.specs.Structures.{vps}
use Rattle.vx_pic.specs.Rules.{Readers}
use Rattle.vx_pic.specs.H266.{AreOfH266}
use Rattle.vx_assemble.proofs.Answers.{gives_value}
use Rattle.vx_assemble.proofs.readers.vps_of.Goals as goal

pub returns : goal.returns
returns c = λ (R : Readers) (are : AreOfH266 R). gives_value vps c.args.rbsp.now (R.vps c.args.rbsp.now) c.read_vps.result (are.vps c.args.rbsp.now) c.read_vps.ensures
