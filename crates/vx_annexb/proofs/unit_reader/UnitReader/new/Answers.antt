use Rattle.std.proofs.Common.{ℕ, [], arith, refl, ◌∙◌}
use Rattle.std.proofs.Math.Seq.{take_all}
use Rattle.vx_annexb.specs.ByteStream.{source_limit}
use Rattle.vx_annexb.proofs.Needed.{needed_first}
use Rattle.vx_annexb.proofs.unit_reader.UnitReader.new.Goals as goal

pub returns-clause-read : goal.returns-clause-read
returns-clause-read c = record {
  taken = refl;
  closes = (c.make_room.ensures.all ∙ c.new-splitter.ensures.all, omega arith);
  stands = rw (take_all {A = ℕ} source_limit [] (omega arith)) (c.in_ok-make_room.ensures.stands [] [] c.new-splitter.ensures.stands);
}

pub returns-clause-needed : goal.returns-clause-needed
returns-clause-needed c = needed_first
