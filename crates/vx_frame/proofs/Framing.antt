-- The frame of a round, from its regions and layouts as they were made.
use Rattle.std.proofs.Common.{◌≡◌, ℕ, ◌<◌, List, [], ◌∷◌, length, get_or, map, None, Result, Ok, ap, sym, ◌∙◌, subst, inl, arith}
use Rattle.std.specs.Prelude.{All}
use Rattle.std.proofs.lemmas.List.{get_or_default, length-map}
use Rattle.vx_layout.specs.declared.numbers.Numbers.{Numbers}
use Rattle.vx_layout.specs.declared.rect.Rect.{Rect}
use Rattle.vx_fit.specs.declared.placed.Placed.{Placed}
use Rattle.vx_fit.specs.FrameLines.{HaveLines}
use Rattle.vx_fit.specs.Placing.{in_ctus}
use Rattle.vx_sps.specs.Set.{ctb_size_of}
use Rattle.vx_sps.specs.Subpictures.{subpics_of}
use Rattle.vx_pic.specs.Parts.{Parts}
use Rattle.vx_write.specs.declared.fault.WriteError.{WriteError}
use Rattle.vx_write.specs.InForce.{AreInForce}
use Rattle.vx_frame.specs.declared.corner.Corner.{Corner}
use Rattle.vx_frame.specs.Regions.{corners_in, ctb_of, layouts_in, placed_in}
use Rattle.vx_frame.specs.Rounds.{no_picture, picture_at}
use Rattle.vx_frame.specs.Rules.{kept_sps, rules_of_fit, several_subpictures, sps_tools, tile_lines}
use Rattle.vx_frame.specs.inner.Found.{Finds, Tries}
use Rattle.vx_frame.specs.inner.Geometry.{IsFitSize}
use Rattle.vx_frame.proofs.Differing.{kept_alike}
use Rattle.vx_frame.proofs.Sized.{placed_length, same_ctb}
use Rattle.vx_frame.proofs.Verdicts.{none_breaks}

pub fit_of_frame : (corners : List Corner) (round : List Parts) (placed : List Placed) (ctb : ℕ) (answer : Result (ℕ × ℕ) WriteError) → length corners ≡ length round
    → placed ≡ placed_in corners round → ctb ≡ ctb_of round → Tries (length placed) (rules_of_fit placed ctb) (IsFitSize placed ctb) answer
    → Tries (length round) (rules_of_fit (placed_in corners round) (ctb_of round)) (IsFitSize (placed_in corners round) (ctb_of round)) answer
fit_of_frame corners round placed ctb answer same is size tried =
    subst (λ n. Tries n (rules_of_fit (placed_in corners round) (ctb_of round)) (IsFitSize (placed_in corners round) (ctb_of round)) answer) (placed_length corners round same)
    (subst (λ c. Tries (length (placed_in corners round)) (rules_of_fit (placed_in corners round) c) (IsFitSize (placed_in corners round) c) answer) size
    (subst (λ p. Tries (length p) (rules_of_fit p ctb) (IsFitSize p ctb) answer) is tried))

pub fit_made : (corners : List Corner) (round : List Parts) (placed : List Placed) (ctb : ℕ) (size : ℕ × ℕ) → length corners ≡ length round → placed ≡ placed_in corners round
    → ctb ≡ ctb_of round → Finds (length placed) (rules_of_fit placed ctb) None × IsFitSize placed ctb size
    → Finds (length round) (rules_of_fit (placed_in corners round) (ctb_of round)) None × IsFitSize (placed_in corners round) (ctb_of round) size
fit_made corners round placed ctb size same is ctbs made = fit_of_frame corners round placed ctb (Ok size) same is ctbs made

pub regions_of_frame : (corners : List Corner) (round : List Parts) (placed : List Placed) (ctb : ℕ) (regions : List Rect) → placed ≡ placed_in corners round → ctb ≡ ctb_of round
    → regions ≡ map (in_ctus ctb) placed → regions ≡ corners_in corners round
regions_of_frame corners round placed ctb regions is size made =
    made ∙ (ap (λ c. map (in_ctus c) placed) size ∙ ap (map (in_ctus (ctb_of round))) is)

pub regions_count : (corners : List Corner) (round : List Parts) (regions : List Rect) → length corners ≡ length round → regions ≡ corners_in corners round
    → length regions ≡ length round
regions_count corners round regions same is = ap length is ∙ (length-map (placed_in corners round) (in_ctus (ctb_of round)) ∙ placed_length corners round same)

abbrev pub LinesTried : List Rect → List Numbers → ℕ → Result (List ℕ × List ℕ) WriteError → Type 0
LinesTried regions layouts n = Tries n (tile_lines regions layouts ∷ []) (λ lines. HaveLines lines.0 lines.1 regions layouts)

pub lines_of_frame : (corners : List Corner) (round : List Parts) (regions : List Rect) (layouts : List Numbers) (answer : Result (List ℕ × List ℕ) WriteError)
    → length corners ≡ length round → regions ≡ corners_in corners round → layouts ≡ layouts_in round → LinesTried regions layouts (length regions) answer
    → LinesTried (corners_in corners round) (layouts_in round) (length round) answer
lines_of_frame corners round regions layouts answer same is are tried =
    subst (λ l. LinesTried (corners_in corners round) l (length round) answer) are
    (subst (λ r. LinesTried r layouts (length round) answer) is
    (subst (λ n. LinesTried regions layouts n answer) (regions_count corners round regions same is) tried))

pub lines_made : (corners : List Corner) (round : List Parts) (regions : List Rect) (layouts : List Numbers) (columns rows : List ℕ) → length corners ≡ length round
    → regions ≡ corners_in corners round → layouts ≡ layouts_in round → Finds (length regions) (tile_lines regions layouts ∷ []) None × HaveLines columns rows regions layouts
    → Finds (length round) (tile_lines (corners_in corners round) (layouts_in round) ∷ []) None × HaveLines columns rows (corners_in corners round) (layouts_in round)
lines_made corners round regions layouts columns rows same are is made = lines_of_frame corners round regions layouts (Ok (columns, rows)) same are is made

-- each picture has one subpicture, and CTUs of one size
pub all_fit : (round : List Parts) (ctb : ℕ) → All AreInForce round → Finds (length round) (several_subpictures round ∷ []) None
    → Finds (length round) (sps_tools round ∷ []) None → ctb ≡ ctb_of round → (k : ℕ) (d : Parts) → k < length round
    → AreInForce (get_or round k d) × ((subpics_of (get_or round k d).sps ≡ 1) × (ctb ≡ ctb_size_of (get_or round k d).sps))
all_fit round ctb sets alone alike size k d short =
    let q : Parts = get_or round k d in
    let is : picture_at round k ≡ q = get_or_default round k no_picture d short in
    let few : ¬ (1 < subpics_of (picture_at round k).sps) = none_breaks (length round) (several_subpictures round) alone k short in
    let one : subpics_of (picture_at round k).sps ≡ 1 = omega (arith, few) in
    let kept : kept_sps (picture_at round k) ≡ kept_sps (picture_at round 0) =
    kept_alike (kept_sps (picture_at round k)) (kept_sps (picture_at round 0)) (λ other. none_breaks (length round) (sps_tools round) alike k short (inl other)) in
    let ctbs : ctb_size_of (picture_at round k).sps ≡ ctb_of round = same_ctb (picture_at round k).sps (picture_at round 0).sps kept in
    (sets k d short, (ap (λ x. subpics_of x.sps) (sym is) ∙ one, size ∙ (sym ctbs ∙ ap (λ x. ctb_size_of x.sps) is)))
