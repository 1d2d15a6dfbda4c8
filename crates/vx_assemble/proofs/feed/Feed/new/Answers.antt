use Rattle.std.proofs.Common.{◌≡◌, ℕ, [], length, take, ap, arith}
use Rattle.std.proofs.Math.Seq.{take_all}
use Rattle.vx_annexb.specs.ByteStream.{source_limit}
use Rattle.vx_assemble.proofs.feed.Feed.new.Goals as goal

pub returns-clause-bytes : goal.returns-clause-bytes
returns-clause-bytes c =
    let none : length (take {A = ℕ} source_limit []) ≡ 0 = ap length (take_all {A = ℕ} source_limit [] (omega arith)) in
    omega (arith, none, c.in_ok-reader.ensures.read.stands.taken, c.new-2.ensures.bytes)
