use Rattle.std.proofs.Common.{◌≡◌, ◌-◌, ◌==◌, length, filter, slice_get}
use Rattle.std.specs.Prelude.{slice_index}
use Rattle.std.specs.List.{range_with_len}
use Rattle.vx_play.specs.Scheduled.{files_of_region}
use Rattle.vx_play.proofs.schedule.file_behind.Given as goal

abbrev pub invariant-loop-file : goal.invariant-loop-file
invariant-loop-file l =
    slice_get (filter (λ file. slice_index l.regions file == l.region) (range_with_len l.file (length l.regions - l.file))) l.left
    ≡ slice_get (files_of_region l.regions l.region) l.gone
