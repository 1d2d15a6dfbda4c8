-- The pictures of files that are played one after another can be merged. Our own.
use Rattle.std.specs.List.{AllByRecursion}
use Rattle.std.specs.Prelude.{◌≡◌, ℕ, ◌++◌, Bool, List, []}
use Rattle.vx_pic.specs.Joined.{AreJoined, StartWhere, one_behind_another, played}
use Rattle.vx_pic.specs.Readings.{Picture}
use Rattle.vx_pic.specs.Rules.{Readers}
use Rattle.vx_again.specs.Sources.{CanBeMerged}

-- If those of each file can be merged, then so can the first ones of all as they are played, one file after another. Each of these that
-- is joined may come first after a join.
abbrev pub PlayedCanBeMerged : Type 0
PlayedCanBeMerged =
    (R : Readers) (joins : ℕ → Bool) (files : List (List Picture)) (later ps : List Picture) → AreJoined joins files
    → AllByRecursion (CanBeMerged R) files → one_behind_another [] files ≡ later ++ ps → StartWhere joins ps
    → CanBeMerged R (played joins ps)
