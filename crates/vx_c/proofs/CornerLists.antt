-- Corners, one after another.
use Rattle.std.proofs.Common.{◌≡◌, ℕ, ◌+◌, ◌<◌, ◌≤◌, List, [], ◌∷◌, ◌++◌, length, map, take, get_or, refl, subst}
use Rattle.std.proofs.lemmas.List.{take_more, take_all, map-append}
use Rattle.vx_frame.specs.declared.corner.Corner.{Corner}
use Rattle.vx_c.specs.declared.corners.GqCorner.{GqCorner}
use Rattle.vx_c.specs.Merger.{corner_of}

-- one more
pub more : (cs : List GqCorner) (xs all : List Corner) (y : Corner) (i : ℕ) (d : GqCorner) → i < length cs → all ≡ xs ++ y ∷ []
    → xs ≡ map corner_of (take i cs) → y ≡ corner_of (get_or cs i d) → all ≡ map corner_of (take (i + 1) cs)
more cs xs all y i d within pushed so is =
    rw (pushed, take_more cs i d within, map-append corner_of (take i cs) (get_or cs i d ∷ []), so, is) refl

-- all of them
pub all : (cs : List GqCorner) (xs : List Corner) (i : ℕ) → length cs ≤ i → xs ≡ map corner_of (take i cs) → xs ≡ map corner_of cs
all cs xs i past so = subst (λ ys. xs ≡ map corner_of ys) (take_all i cs past) so
