-- The windows at the edges of a frame, region by region. Our own.
use Rattle.std.specs.Prelude.{ℕ, ◌+◌, ◌==◌, min, Bool, cond, List, [], ◌∷◌, Option, Some, None}
use Rattle.vx_fit.specs.declared.placed.Placed.{Placed}
use Rattle.vx_frame.specs.declared.shapes.Edge.{Edge}
use Rattle.vx_frame.specs.declared.shapes.Edge.TheVariants.{Left, Right, Top, Bottom}
use Rattle.vx_frame.specs.Shapes.{least}

-- A region touches an edge.
abbrev pub touches : Edge → Placed → Bool
touches Left = λ p. p.x == 0
touches (Right width) = λ p. p.x + p.w == width
touches Top = λ p. p.y == 0
touches (Bottom height) = λ p. p.y + p.h == height

-- The smaller of a number and another, if there is one.
abbrev pub lesser : Option ℕ → ℕ → ℕ
lesser (Some m) n = min m n
lesser None n = n

-- The smallest so far, with one more if that counts.
abbrev pub with_offset : Option ℕ → Bool → ℕ → Option ℕ
with_offset least counts n = cond counts (Some (lesser least n)) least

-- The smallest of numbers, if there are any.
abbrev pub least_of : List ℕ → Option ℕ
least_of [] = None
least_of (n ∷ more) = Some (least (n ∷ more))
