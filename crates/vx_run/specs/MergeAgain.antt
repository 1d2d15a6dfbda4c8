-- What `merge` has written, read as a source. Our own.
use Rattle.std.specs.Prelude.{ℕ, List, reverse, take, None}
use Rattle.vx_pic.specs.Readings.{Picture}
use Rattle.vx_pic.specs.Rules.{Readers}
use Rattle.vx_pic.specs.Bytes.{AreSourcePictures}
use Rattle.vx_frame.specs.declared.corner.Corner.{Corner}
use Rattle.vx_again.specs.Whole.{IsReadAsMerge}
use Rattle.vx_run.specs.Rounds.{Stream}

-- The stream is that of some bytes of a source.
abbrev pub IsToldBy : Readers → Stream → Type 0
IsToldBy R s = (b : List ℕ) × AreSourcePictures R b s.pictures s.ending

-- The first n pictures of a stream, the latest first.
abbrev pub first_pictures : ℕ → Stream → List Picture
first_pictures n s = reverse (take n (reverse s.pictures))

-- The bytes have exactly the pictures of the merge of those of several sources, in regions with these corners. There is one for each
-- round, in order, of the kind and count that all pictures of the round have, and with the messages of source 0's. Subpicture k is at
-- corner k, its slices have the decoding inputs of source k's, and it can be extracted. No rule refuses these bytes; nor as a source.
pub record IsMergedAgain (R : Readers) (corners : List Corner) (sources : List (List Picture)) (bytes : List ℕ) : Type 0 where
  pub pictures : List Picture
  pub merge : IsReadAsMerge R corners sources bytes pictures
  pub source : AreSourcePictures R bytes pictures None
