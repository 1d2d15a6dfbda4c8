-- A round: a picture of each source, in order. Each becomes a subpicture of one picture. Our own.
use Rattle.std.specs.Prelude.{◌≡◌, ◌≢◌, ℕ, pos, Bool, false, IsTrue, List, [], length, flat_map, slice_get, Option, Some, None}
use Rattle.std.specs.List.{AllByRecursion, slice_index_or}
use Rattle.vx_fit.specs.FrameLines.{no_numbers}
use Rattle.vx_fit.specs.Lowest.{IsLowest}
use Rattle.vx_pic.specs.Parts.{Parts}

-- No picture: what is past the end of a round.
abbrev pub no_picture : Parts
no_picture = record {
  kind = record { nal_type = 0; temporal_id = 0; clvss = false; after_eos = false; poc = pos 0 };
  sps = [];
  pps = [];
  layout = no_numbers;
  header = record { fields = []; lists = record { first = []; second = [] } };
  ids = [];
  unit = None;
  slices = [];
  bodies = [];
  messages = [];
}

-- The picture of source k.
abbrev pub picture_at : List Parts → ℕ → Parts
picture_at round k = slice_index_or round k no_picture

-- ---- how sources differ in something that each picture has

-- Source k's is another than source 0's.
abbrev pub UnlikeFirst : {A : Type 0} → (Parts → A) → List Parts → ℕ → Type 0
UnlikeFirst f round k = f (picture_at round k) ≢ f (picture_at round 0)

-- This holds of source k, and something of it differs from that of the lowest source of which it holds.
abbrev pub UnlikeLowest : {A : Type 0} → (Parts → Bool) → (Parts → A) → List Parts → ℕ → Type 0
UnlikeLowest has f round k =
    IsTrue (has (picture_at round k))
    × ((j : ℕ) × IsLowest (length round) (λ i. IsTrue (has (picture_at round i))) j × (f (picture_at round k) ≢ f (picture_at round j)))

-- Not all of these equal the first one of all.
abbrev pub SomeUnlike : {A : Type 0} → List A → Option A → Type 0
SomeUnlike xs first = ¬ AllByRecursion (λ x. first ≡ Some x) xs

-- Not all of source k equal the first one of the round, by source and then in order.
abbrev pub SomeUnlikeFirst : {A : Type 0} → (Parts → List A) → List Parts → ℕ → Type 0
SomeUnlikeFirst f round k = SomeUnlike (f (picture_at round k)) (slice_get (flat_map f round) 0)
