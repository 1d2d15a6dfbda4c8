use Rattle.vx_extract.proofs.WholeBytes.{reads_again}
use Rattle.vx_extract.proofs.laws_whole.extraction_reads_again.Goals as goal

pub returns : goal.returns
returns c = reads_again c.escaped_splits.ensures c.escaped_is_unique.ensures c.pictures_are_finished.ensures c.kept_are_finished.ensures c.written_has_pictures.ensures c.extracted_units_read_again.ensures c.spelling_is_short.ensures c.spelling_is_short-2.ensures
