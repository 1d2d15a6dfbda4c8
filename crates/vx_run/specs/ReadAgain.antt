-- What `extract` has written, read as a source. Our own.
use Rattle.std.specs.Prelude.{ℕ, ◌≤◌, true, List, length, None}
use Rattle.vx_annexb.specs.ByteStream.{source_limit}
use Rattle.vx_pic.specs.Readings.{Picture}
use Rattle.vx_pic.specs.Rules.{Readers}
use Rattle.vx_pic.specs.Bytes.{ArePictures, AreSourcePictures}
use Rattle.vx_pic.specs.Sublayers.{at_most}
use Rattle.vx_extract.specs.Whole.{AreOfSubpicture}
use Rattle.vx_run.specs.declared.extract.Task.{Task}

-- The bytes have exactly the pictures of the subpicture in the kept pictures of a source. There is one for each, in order, of its kind
-- and count, with its messages, and with one subpicture, whose slices have the decoding inputs of the target's. No rule refuses these
-- bytes; nor as a source, if they are no more than a source may have.
pub record IsReadAgain (R : Readers) (t : Task) (ps : List Picture) (bytes : List ℕ) : Type 0 where
  pub pictures : List Picture
  pub target : AreOfSubpicture t.target (at_most t.tid ps) pictures
  pub read : ArePictures R bytes true pictures None
  pub source : length bytes ≤ source_limit → AreSourcePictures R bytes pictures None
