-- The law, from its parts.
use Rattle.vx_gen.proofs.Merges.{read_again}
use Rattle.vx_gen.proofs.laws.generated_are_merged.Goals as goal

pub returns : goal.returns
returns c = read_again c.generated_are_read.ensures c.units_can_stand.ensures c.pictures_can_be_merged.ensures c.merge_is_read_again.ensures
