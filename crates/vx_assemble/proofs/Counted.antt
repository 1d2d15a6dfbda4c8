-- Slices before a subpicture.
use Rattle.std.proofs.Common.{◌≡◌, ℕ, ◌+◌, ◌<◌, [], ◌∷◌, ◌++◌, length, take, sym, ◌∙◌, ap, length-append}
use Rattle.std.proofs.lemmas.Grind.{flat_map-append}
use Rattle.std.proofs.lemmas.List.{take_more, append-nil}
use Rattle.vx_layout.specs.declared.numbers.Numbers.{Numbers}
use Rattle.vx_layout.specs.Rects.{in_order, slices_of_subpicture}
use Rattle.vx_layout.specs.Layouts.{no_rect, subpic_at, slices_in}

pub count_more : (n : Numbers) (i count more : ℕ) → i < length n.subpics → more ≡ length (slices_in n i)
    → count ≡ length (in_order n.slices (take i n.subpics)) → count + more ≡ length (in_order n.slices (take (i + 1) n.subpics))
count_more n i count more within here before =
    let f = slices_of_subpicture n.slices in
    let front = take i n.subpics in
    let all : in_order n.slices (take (i + 1) n.subpics) ≡ in_order n.slices front ++ slices_in n i =
    ap (λ l. in_order n.slices l) (take_more n.subpics i no_rect within)
    ∙ flat_map-append f front (subpic_at n i ∷ [])
    ∙ ap (λ l. in_order n.slices front ++ l) (append-nil (slices_in n i)) in
    rw (before, here) (sym (ap length all ∙ length-append (in_order n.slices front) (slices_in n i)))
