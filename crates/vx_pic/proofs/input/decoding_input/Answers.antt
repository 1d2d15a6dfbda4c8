use Rattle.vx_pic.specs.Seen.{input_seen}
use Rattle.vx_pic.proofs.Shown.{of_stream}
use Rattle.vx_pic.proofs.input.decoding_input.Goals as goal

pub returns-clause-stream : goal.returns-clause-stream
returns-clause-stream c = λ p s shows at. of_stream c.args.picture.now c.args.i (input_seen c.in_ok-input.input) c.in_ok-input.ensures p s shows at
