use Rattle.vx_pic.specs.Rules.{Readers}
use Rattle.vx_pic.specs.H266.{AreOfH266}
use Rattle.vx_assemble.proofs.Answers.{gives_aps, valid_aps}
use Rattle.vx_assemble.proofs.readers.aps_of.Goals as goal

pub returns-clause-answer : goal.returns-clause-answer
returns-clause-answer c = λ (R : Readers) (are : AreOfH266 R). gives_aps c.one_answer.ensures c.args.rbsp.now (R.aps c.args.rbsp.now) c.read_aps.result (are.aps c.args.rbsp.now) c.read_aps.ensures

pub returns-clause-valid : goal.returns-clause-valid
returns-clause-valid c = valid_aps c.args.rbsp.now c.read_aps.result c.read_aps.ensures
