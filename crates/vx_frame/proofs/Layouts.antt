-- The layouts of a round's pictures, as they were made.
use Rattle.std.proofs.Common.{◌≡◌, ℕ, ◌+◌, ◌<◌, List, [], ◌∷◌, ◌++◌, take, length, get_or, ap, sym, ◌∙◌, subst, arith}
use Rattle.std.proofs.lemmas.List.{get_or-map, length-map, take_more}
use Rattle.std.proofs.lemmas.List.Elements.{All-push}
use Rattle.std.specs.Prelude.{All}
use Rattle.vx_layout.specs.declared.numbers.Numbers.{Numbers}
use Rattle.vx_pic.specs.Parts.{Parts}
use Rattle.vx_frame.specs.Regions.{layout_of, layouts_in}
use Rattle.vx_frame.specs.Rounds.{no_picture, picture_at}

pub layout_read : (round : List Parts) (layouts : List Numbers) (k : ℕ) (n : Numbers) → layouts ≡ layouts_in round → k < length round → n ≡ get_or layouts k n
    → n ≡ layout_of (picture_at round k)
layout_read round layouts k n are short is = is ∙ (ap (λ ns. get_or ns k n) are ∙ get_or-map layout_of round k no_picture n short)

-- one more
pub layouts_more : (round : List Parts) (k : ℕ) (q : Parts) → k < length round → q ≡ get_or round k q
    → take (k + 1) (layouts_in round) ≡ take k (layouts_in round) ++ layout_of q ∷ []
layouts_more round k q short is =
    let size : length (layouts_in round) ≡ length round = length-map round layout_of in
    take_more (layouts_in round) k (layout_of q) (omega (arith, size, short))
    ∙ ap (λ l. take k (layouts_in round) ++ l ∷ []) (get_or-map layout_of round k q (layout_of q) short ∙ ap layout_of (sym is))

-- what holds of each so far, and of one more
pub each_more : (P : Parts → Type 0) (round : List Parts) (k : ℕ) (q : Parts) → k < length round → q ≡ get_or round k q → All P (take k round) → P q → All P (take (k + 1) round)
each_more P round k q short is all one =
    subst (All P) (sym (take_more round k q short)) (All-push P (take k round) (get_or round k q) all (subst P is one))
