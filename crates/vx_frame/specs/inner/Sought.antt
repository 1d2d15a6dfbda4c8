-- What is looked for in the sources of a round. Our own.
use Rattle.std.specs.Prelude.{◌≡◌, ℕ, ◌<◌, ⊤, IsTrue, List, flat_map, slice_get}
use Rattle.vx_sps.specs.Subpictures.{subpics_of}
use Rattle.vx_pic.specs.Parts.{Parts}
use Rattle.vx_frame.specs.declared.sought.Sought.{Sought}
use Rattle.vx_frame.specs.declared.sought.Sought.TheVariants as sought
use Rattle.vx_frame.specs.declared.borders.Pieces.TheVariants as pieces
use Rattle.vx_frame.specs.Bodies.{has_lmcs, has_scaling}
use Rattle.vx_frame.specs.Collocated.{collocated}
use Rattle.vx_frame.specs.Regions.{layouts_in}
use Rattle.vx_frame.specs.Rounds.{SomeUnlikeFirst, UnlikeFirst, picture_at}
use Rattle.vx_frame.specs.Rules.{filter_flags, first_lists, shared_kind, shared_sets}
use Rattle.vx_frame.specs.inner.Borders.{has_several}
use Rattle.vx_frame.specs.inner.Gathered.{IsLowestWith}

-- What was found before is so.
abbrev pub IsKnown : Sought → List Parts → Type 0
IsKnown sought.Subpictures round = ⊤
IsKnown sought.OtherKind round = ⊤
IsKnown sought.OtherLists round = ⊤
IsKnown sought.Lmcs round = ⊤
IsKnown sought.Scaling round = ⊤
IsKnown (sought.OtherSets lmcs scaling) round = IsLowestWith has_lmcs round lmcs × IsLowestWith has_scaling round scaling
IsKnown (sought.Several of layouts) round = layouts.now ≡ layouts_in round
IsKnown (sought.OtherFlags tiles slices layouts) round =
    IsLowestWith (has_several pieces.Tiles) round tiles × (IsLowestWith (has_several pieces.Slices) round slices × (layouts.now ≡ layouts_in round))
IsKnown (sought.OtherCollocated first) round = first ≡ slice_get (flat_map collocated round) 0

-- Source k has it.
abbrev pub Has : Sought → List Parts → ℕ → Type 0
Has sought.Subpictures round k = 1 < subpics_of (picture_at round k).sps
Has sought.OtherKind round k = UnlikeFirst shared_kind round k
Has sought.OtherLists round k = UnlikeFirst first_lists round k
Has sought.Lmcs round k = IsTrue (has_lmcs (picture_at round k))
Has sought.Scaling round k = IsTrue (has_scaling (picture_at round k))
Has (sought.OtherSets lmcs scaling) round k = (shared_sets round).breaks k
Has (sought.Several of layouts) round k = IsTrue (has_several of (picture_at round k))
Has (sought.OtherFlags tiles slices layouts) round k = (filter_flags round).breaks k
Has (sought.OtherCollocated first) round k = SomeUnlikeFirst collocated round k
