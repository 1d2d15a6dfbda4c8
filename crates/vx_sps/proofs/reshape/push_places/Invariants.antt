use Rattle.std.proofs.Common.{◌≡◌, ◌++◌}
use Rattle.vx_table.specs.Rewrites.{in_all_turns}
use Rattle.vx_sps.specs.Reshaped.{place_items}
use Rattle.vx_sps.proofs.reshape.push_places.Given as goal

-- the places of the first subpictures
abbrev pub invariant-loop-i : goal.invariant-loop-i
invariant-loop-i l = l.into ≡ l.initial.into ++ in_all_turns (place_items l.columns l.rows l.rects) 0 l.i
