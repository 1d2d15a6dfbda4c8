-- The results of the searches through a list of regions.
use Rattle.std.specs.Prelude.{ℕ, ◌+◌, ◌*◌, Bool, ◌&&◌, nat_lt, max, min, List}
use Rattle.std.specs.List.{sum_by}
use Rattle.vx_fit.specs.declared.placed.Placed.{Placed}

-- Whether two regions overlap, by their borders.
unfoldable pub overlaps : Placed → Placed → Bool
overlaps p q = nat_lt (max p.x q.x) (min (p.x + p.w) (q.x + q.w)) && nat_lt (max p.y q.y) (min (p.y + p.h) (q.y + q.h))

-- The positions of all regions, those that several cover counted for each.
abbrev pub areas : List Placed → ℕ
areas placed = sum_by (λ p. p.w * p.h) placed
