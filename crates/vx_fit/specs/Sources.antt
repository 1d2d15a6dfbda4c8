-- The pictures that are composed to a frame, and their regions, in CTUs. Our own. The contract of `fit_lines` relies on it.
use Rattle.std.specs.Prelude.{◌≡◌, ℕ, ◌<◌, List, length, map}
use Rattle.vx_layout.specs.declared.numbers.Numbers.{Numbers}
use Rattle.vx_layout.specs.declared.rect.Rect.{Rect}
use Rattle.vx_layout.specs.Bounds.{Rises, last}
use Rattle.vx_layout.specs.Faults.{height, width}
use Rattle.vx_layout.specs.Layouts.{HasLayout}
use Rattle.vx_layout.specs.Shapes.{AreListable}
use Rattle.vx_fit.specs.declared.placed.Placed.{Placed}
use Rattle.vx_fit.specs.Placing.{FitTogether, in_ctus}

-- Tile bounds of the region's size, which holds a CTU.
pub record IsSized (s : Rect) (p : Numbers) : Type 0 where
  pub columns : Rises p.columns
  pub rows : Rises p.rows
  pub wide : (0 < s.w) × (last p.columns ≡ s.w)
  pub high : (0 < s.h) × (last p.rows ≡ s.h)

-- A layout of one subpicture and of the region's size, whose slices can be listed tile by tile.
pub record IsSource (s : Rect) (p : Numbers) : Type 0 where
  pub layout : HasLayout p
  pub lone : length p.subpics ≡ 1
  pub listable : AreListable p.columns p.rows p.slices
  pub wide : width p ≡ s.w
  pub high : height p ≡ s.h

-- The CTUs of regions that fit together.
pub record IsFitted (corners : List Rect) : Type 0 where
  pub placed : List Placed
  pub ctb : ℕ
  pub some : 0 < ctb
  pub fit : FitTogether placed ctb
  pub ctus : corners ≡ map (in_ctus ctb) placed
