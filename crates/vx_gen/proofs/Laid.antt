-- The sets of generated streams make up one tile, one slice and one subpicture.
use Rattle.std.proofs.Common.{◌≡◌, ℕ, ◌+◌, true, cond, [], ◌∷◌, Ok, refl, ap, ◌∙◌, arith}
use Rattle.std.specs.List.{AllPairs}
use Rattle.std.proofs.lemmas.List.Elements.{All-cons, All-nil}
use Rattle.vx_layout.specs.declared.rect.Rect.{Rect}
use Rattle.vx_layout.specs.Faults.{IsLayout}
use Rattle.vx_layout.specs.Rects.{CoversOnce, Precedes, fits, holds, whole_picture}
use Rattle.vx_layout.proofs.Alone.{layout-alone}
use Rattle.vx_layout.proofs.Counting.{count_by-cons}
use Rattle.vx_layout.proofs.Holding.{holds_from}
use Rattle.vx_table.specs.Scope.{fresh, natural}
use Rattle.vx_pic.specs.PictureLayout.{AreDistinct, IsLayoutAnswer, MakeLayout, ctu_sizes_differ, ids_misplaced, ids_of}
use Rattle.vx_gen.specs.Pictures.{layout, generated_pps, generated_sps}

abbrev whole : Rect
whole = whole_picture 2 2

covers : CoversOnce (whole ∷ []) 2 2
covers x y v u =
    let here : holds whole x y ≡ true = holds_from whole x y (omega arith) (omega arith) (omega arith) (omega arith) in
    count_by-cons (λ r. holds r x y) whole [] ∙ ap (λ b. cond b 1 0 + 0) here

alone : (P : Rect → Rect → Type 0) → AllPairs P (whole ∷ [])
alone P i j d before within = absurd (omega (arith, before, within))

is_layout : IsLayout layout
unfolding fits
is_layout =
    layout-alone layout (refl, (omega arith, tt)) (refl, (omega arith, tt)) (omega arith) (omega arith) covers
    (All-cons (λ r. fits r whole ≡ true) whole [] refl (All-nil (λ r. fits r whole ≡ true))) (alone Precedes)

distinct : (k : ℕ) → AreDistinct (ids_of generated_sps (generated_pps k))
unfolding ids_of fresh natural
distinct k i j d before within = absurd (omega (arith, before, within))

make : (k : ℕ) → MakeLayout generated_sps (generated_pps k)
unfolding ctu_sizes_differ ids_misplaced fresh natural
make k = record { ctus = refl; ids = record { placed = refl; distinct = distinct k }; layout = is_layout }

pub laid : (k : ℕ) → IsLayoutAnswer generated_sps (generated_pps k) (Ok layout)
unfolding fresh natural
laid k = (make k, refl)
