-- The law, from its parts.
use Rattle.vx_gen.proofs.Whole.{are_read}
use Rattle.vx_gen.proofs.laws.generated_are_read.Goals as goal

pub returns : goal.returns
returns c = are_read (record {
  unique = c.readers_are_unique.ensures;
  begins = c.spelling_is_read.ensures.begins;
  joins = c.unescaped_joins.ensures;
  sets = c.set_units_are_read.ensures.sets;
  stand = c.units_stand.ensures.units;
  again = c.written_reads_again.ensures;
  has_pictures = c.written_has_pictures.ensures;
})
