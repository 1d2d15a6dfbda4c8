-- The frame of a round, as it is put together.
use Rattle.std.proofs.Common.{◌≡◌, ℕ, zero, suc, ◌+◌, ◌<◌, List, [], ◌∷◌, ◌++◌, length, map, take, get_or, refl, sym, ap, subst, ◌∙◌, arith}
use Rattle.std.specs.Prelude.{All}
use Rattle.std.specs.List.{AllZip}
use Rattle.std.proofs.lemmas.List.{append-nil, append_assoc, length-map}
use Rattle.std.proofs.lemmas.List.Elements.{recursion_from_All}
use Rattle.vx_layout.specs.declared.numbers.Numbers.{Numbers}
use Rattle.vx_layout.specs.declared.rect.Rect.{Rect}
use Rattle.vx_layout.specs.Frames.{Fills, IsPlaced, frame_of, frame_slices}
use Rattle.vx_layout.specs.Rects.{IsPart}
use Rattle.vx_layout.specs.Regions.{moved_to}
use Rattle.vx_layout.proofs.FrameSlices.{AllZip-at, AllZip-long}
use Rattle.vx_layout.proofs.FrameWhole.{slices_fill}
use Rattle.vx_fit.specs.FrameLines.{HaveLines}
use Rattle.vx_fit.specs.Placing.{FitTogether, in_ctus}
use Rattle.vx_fit.specs.Sources.{IsSource}
use Rattle.vx_fit.proofs.Keeping.{pictures_are_placed}
use Rattle.vx_pic.specs.Parts.{Parts}
use Rattle.vx_write.specs.InForce.{AreInForce}
use Rattle.vx_frame.specs.declared.corner.Corner.{Corner}
use Rattle.vx_frame.specs.Regions.{corners_in, ctb_of, layouts_in, placed_in}
use Rattle.vx_frame.specs.inner.Geometry.{CanBeJoined, HasShapes, MakeFrame}
use Rattle.vx_frame.proofs.FrameShaping.{placed_count}

-- the slices of one more picture
slices_suc : (corners : List Rect) (pictures : List Numbers) (k : ℕ) (d : Rect) (p : Numbers) → length corners ≡ length pictures → k < length pictures → p ≡ get_or pictures k p
    → frame_slices (take (suc k) corners) (map (λ n. n.slices) (take (suc k) pictures))
    ≡ frame_slices (take k corners) (map (λ n. n.slices) (take k pictures)) ++ map (moved_to (get_or corners k d)) p.slices
slices_suc [] [] k d p same short is = absurd (omega (arith, short))
slices_suc [] (q ∷ pictures) k d p same short is = absurd (omega (arith, same))
slices_suc (c ∷ corners) [] k d p same short is = absurd (omega (arith, short))
slices_suc (c ∷ corners) (q ∷ pictures) zero d p same short is =
    append-nil (map (moved_to c) q.slices) ∙ ap (λ (n : Numbers). map (moved_to c) n.slices) (sym is)
slices_suc (c ∷ corners) (q ∷ pictures) (suc k) d p same short is =
    ap (λ rs. map (moved_to c) q.slices ++ rs) (slices_suc corners pictures k d p (omega (arith, same)) (omega (arith, short)) is)
    ∙ sym (append_assoc (map (moved_to c) q.slices) (frame_slices (take k corners) (map (λ n. n.slices) (take k pictures))) (map (moved_to (get_or corners k d)) p.slices))

pub slices_more : (corners : List Rect) (pictures : List Numbers) (k : ℕ) (d : Rect) (p : Numbers) (slices more : List Rect) → length corners ≡ length pictures → k < length pictures → p ≡ get_or pictures k p
    → more ≡ slices ++ map (moved_to (get_or corners k d)) p.slices → slices ≡ frame_slices (take k corners) (map (λ n. n.slices) (take k pictures))
    → more ≡ frame_slices (take (k + 1) corners) (map (λ n. n.slices) (take (k + 1) pictures))
slices_more corners pictures k d p slices more same short is next so_far =
    let one : suc k ≡ k + 1 = omega arith in
    next ∙ (ap (λ rs. rs ++ map (moved_to (get_or corners k d)) p.slices) so_far
    ∙ (sym (slices_suc corners pictures k d p same short is) ∙ ap (λ n. frame_slices (take n corners) (map (λ n. n.slices) (take n pictures))) one))

abbrev pub FillsOwn : Rect → Numbers → Type 0
FillsOwn region picture = Fills region picture.slices

pub fills_at : (corners : List Rect) (pictures : List Numbers) (k : ℕ) (d : Rect) (p : Numbers) → AllZip FillsOwn corners pictures → length corners ≡ length pictures → k < length pictures
    → p ≡ get_or pictures k p → Fills (get_or corners k d) p.slices
fills_at corners pictures k d p fill same short is =
    subst (λ (n : Numbers). Fills (get_or corners k d) n.slices) (sym is) (AllZip-at FillsOwn corners pictures k d p fill (omega (arith, same, short)))

fill_each : (columns rows : List ℕ) (corners : List Rect) (pictures : List Numbers) → AllZip (IsPlaced columns rows) corners pictures → AllZip FillsOwn corners pictures
fill_each columns rows [] [] placed = tt
fill_each columns rows [] (p ∷ pictures) placed = absurd placed
fill_each columns rows (c ∷ corners) [] placed = absurd placed
fill_each columns rows (c ∷ corners) (p ∷ pictures) placed = (slices_fill columns rows c p placed.0, fill_each columns rows corners pictures placed.1)

module _ (corners : List Corner) (round : List Parts) (can : CanBeJoined corners round) where
  pub corners_count : length (corners_in corners round) ≡ length corners
  corners_count = length-map (placed_in corners round) (in_ctus (ctb_of round)) ∙ placed_count corners round can.same ∙ sym can.same

  pub layouts_count : length (corners_in corners round) ≡ length (layouts_in round)
  layouts_count = AllZip-long IsSource (corners_in corners round) (layouts_in round) can.sources

  pub made_of : (columns rows : List ℕ) → FitTogether (placed_in corners round) (ctb_of round) → HaveLines columns rows (corners_in corners round) (layouts_in round) → All AreInForce round
      → MakeFrame corners round (frame_of columns rows (corners_in corners round) (layouts_in round))
  made_of columns rows fit lines are = record {
    can = can;
    fit = fit;
    is = record { lines = lines; pictures = refl };
    are = recursion_from_All AreInForce round are;
  }

  pub fills_of : (columns rows : List ℕ) → HaveLines columns rows (corners_in corners round) (layouts_in round) → AllZip FillsOwn (corners_in corners round) (layouts_in round)
  fills_of columns rows lines =
      fill_each columns rows (corners_in corners round) (layouts_in round) (pictures_are_placed columns rows (corners_in corners round) (layouts_in round) can.sources lines)

  pub parts_of : (columns rows : List ℕ) → HasShapes corners round (frame_of columns rows (corners_in corners round) (layouts_in round)) → All (IsPart 512 512) (corners_in corners round)
  parts_of columns rows shapes = λ k d low.
      let part = shapes.layout.subpics.parts k d low in
      record {
        wide = part.wide;
        high = part.high;
        across = let most = shapes.limits.columns.1 in omega (arith, part.across, most);
        down = let most = shapes.limits.rows.1 in omega (arith, part.down, most);
      }
