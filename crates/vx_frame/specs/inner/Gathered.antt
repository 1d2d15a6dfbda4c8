-- What is found of the adaptation parameter sets of a round. Our own.
use Rattle.std.specs.Prelude.{◌≡◌, ℕ, Bool, IsTrue, List, length, map, Option, None}
use Rattle.vx_fit.specs.Lowest.{IsLowestAnswer}
use Rattle.vx_pic.specs.Parts.{Parts}
use Rattle.vx_frame.specs.declared.bodies.RoundBodies.{RoundBodies}
use Rattle.vx_frame.specs.declared.filters.RoundFilters.{RoundFilters}
use Rattle.vx_frame.specs.Bodies.{has_lmcs, has_scaling, alf_bodies}
use Rattle.vx_frame.specs.Rounds.{picture_at}
use Rattle.vx_frame.specs.Rules.{too_many_filters}

-- The lowest source whose picture has something.
abbrev pub IsLowestWith : (Parts → Bool) → List Parts → Option ℕ → Type 0
IsLowestWith has round answer = IsLowestAnswer (length round) (λ i. IsTrue (has (picture_at round i))) answer

-- The filters of all slices, unless there is a lowest source with which there are too many.
pub record AreFilters (round : List Parts) (f : RoundFilters) : Type 0 where
  pub too_many : IsLowestAnswer (length round) (too_many_filters round).breaks f.too_many
  pub all : f.too_many ≡ None → map (λ b. b.now) f.bodies ≡ alf_bodies round

-- These bodies, and the lowest sources whose headers have LMCS and scaling lists.
pub record AreGathered (round : List Parts) (b : RoundBodies) : Type 0 where
  pub filters : AreFilters round b.filters
  pub lmcs : IsLowestWith has_lmcs round b.lmcs
  pub scaling : IsLowestWith has_scaling round b.scaling

-- There is nothing of them.
pub record HasNone (b : RoundBodies) : Type 0 where
  pub filters : length b.filters.bodies ≡ 0
  pub lmcs : b.lmcs ≡ None
  pub scaling : b.scaling ≡ None
