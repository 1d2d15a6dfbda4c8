use Rattle.std.proofs.Common.{rules}
use Rattle.vx_pic.specs.Rules.{Readers}
use Rattle.vx_pic.specs.H266.{AreOfH266}
use Rattle.vx_assemble.proofs.Answers.{messages_read}
use Rattle.vx_assemble.proofs.readers.messages_of.Goals as goal

pub returns : goal.returns
returns c = λ (R : Readers) (are : AreOfH266 R).
    messages_read c.args.rbsp.now c.in_ok-carried.carried (R.sei c.args.rbsp.now) c.unwrap_or.result c.new.result (are.sei c.args.rbsp.now) c.in_ok-carried.ensures c.new.ensures (search rules)
