-- What follows of it that a round breaks no rule, rule by rule.
use Rattle.std.proofs.Common.{◌≡◌, ℕ, zero, suc, ◌+◌, ◌-◌, ◌<◌, ◌≤◌, Bool, true, false, cond, List, [], ◌∷◌, ◌++◌, length, map, take, Option, Some, None, refl, ap, sym, ◌∙◌, subst, inl, inr, arith}
use Rattle.std.specs.Prelude.{IsTrue, flat_map}
use Rattle.std.proofs.lemmas.Bool.{cases_Bool}
use Rattle.std.proofs.lemmas.List.{take_all}
use Rattle.std.proofs.lemmas.Option.{none-some}
use Rattle.vx_sps.specs.Subpictures.{subpics_of}
use Rattle.vx_fit.specs.FrameLines.{IsLinesFault}
use Rattle.vx_fit.specs.Lowest.{IsLowest, IsLowestAnswer}
use Rattle.vx_pic.specs.Parts.{Parts}
use Rattle.vx_frame.specs.declared.corner.Corner.{Corner}
use Rattle.vx_frame.specs.declared.filters.RoundFilters.{RoundFilters}
use Rattle.vx_frame.specs.Bodies.{filters_in, has_lmcs, has_scaling, is_chroma_scaled, lmcs_body, once, scaling_body, alf_bodies}
use Rattle.vx_frame.specs.Regions.{corners_in, ctb_of, layouts_in, placed_in}
use Rattle.vx_frame.specs.Rounds.{UnlikeLowest, picture_at}
use Rattle.vx_frame.specs.Rules.{crosses_slices, crosses_tiles, filter_flags, first_lists, has_slices, has_tiles, kept_header, kept_pps, kept_sps, pps_tools, profile_of, rules_of, rules_of_fit, rules_of_frame, rules_of_pictures, rules_of_sets, rules_of_slices, several_subpictures, shared_kind, sps_tools, tile_lines, too_many_filters, too_many_slices}
use Rattle.vx_frame.specs.Shapes.{of_lowest}
use Rattle.vx_frame.specs.Counts.{alf_slots}
use Rattle.vx_frame.specs.Verdict.{Rule, IsVerdict}
use Rattle.vx_frame.specs.inner.Found.{Finds}
use Rattle.vx_frame.specs.inner.Gathered.{AreFilters}
use Rattle.vx_frame.proofs.Deciding.{IsDecided, alike, flags, lists, numbers, options, pairs, ref_lists}
use Rattle.vx_frame.proofs.Differing.{kept_alike}

-- ---- rules of which none is broken

-- no source breaks any of them
abbrev pub NoneBroken : ℕ → List Rule → Type 0
NoneBroken n [] = Unit {0}
NoneBroken n (rule ∷ rules) = ((k : ℕ) → k < n → ¬ rule.breaks k) × NoneBroken n rules

pub none_broken : (n : ℕ) (rules : List Rule) → IsVerdict n rules None → NoneBroken n rules
none_broken n [] passes = tt
none_broken n (rule ∷ rules) passes =
    elim passes [
      | inl f ↦ (f.0, none_broken n rules f.1)
      | inr f ↦ absurd (none-some (rule.tells f.0) f.2)
    ]

pub none_found : (n : ℕ) (rules : List Rule) → NoneBroken n rules → IsVerdict n rules None
none_found n [] none = refl
none_found n (rule ∷ rules) none = inl (none.0, none_found n rules none.1)

pub none_front : (n : ℕ) (rules more : List Rule) → NoneBroken n (rules ++ more) → NoneBroken n rules
none_front n [] more none = tt
none_front n (rule ∷ rules) more none = (none.0, none_front n rules more none.1)

pub none_back : (n : ℕ) (rules more : List Rule) → NoneBroken n (rules ++ more) → NoneBroken n more
none_back n [] more none = none
none_back n (rule ∷ rules) more none = none_back n rules more none.1

-- ---- the lowest picture that has something

lower_of : (has : Parts → Bool) (q : Parts) (round : List Parts) (m : ℕ) → has q ≡ false
    → ((j : ℕ) → j < m → ¬ IsTrue (has (picture_at round j)))
    → (j : ℕ) → j < suc m → ¬ IsTrue (has (picture_at (q ∷ round) j))
lower_of has q round m none lower zero less = λ on. let e : true ≡ false = sym on ∙ none in cc
lower_of has q round m none lower (suc j) less = lower j (omega (arith, less))

-- there is one where some picture has it
record Lowest {A : Type 0} (has : Parts → Bool) (f : Parts → A) (absent : A) (round : List Parts) : Type 0 where
  at : ℕ
  is : IsLowest (length round) (λ i. IsTrue (has (picture_at round i))) at
  gives : f (picture_at round at) ≡ of_lowest has f absent round

lowest_of : {A : Type 0} (has : Parts → Bool) (f : Parts → A) (absent : A) (round : List Parts) (k : ℕ) → k < length round
    → IsTrue (has (picture_at round k)) → Lowest has f absent round
lowest_of has f absent [] k short on = absurd (omega (arith, short))
lowest_of has f absent (q ∷ round) zero short on = record {
  at = 0;
  is = record { in_range = omega arith; breaks = on; lower = λ j less. absurd (omega (arith, less)) };
  gives = sym (ap (λ b. cond b (f q) (of_lowest has f absent round)) on);
}
lowest_of has f absent (q ∷ round) (suc k) short on =
    elim (cases_Bool (has q)) [
      | inl here ↦
          record {
            at = 0;
            is = record { in_range = omega arith; breaks = here; lower = λ j less. absurd (omega (arith, less)) };
            gives = sym (ap (λ b. cond b (f q) (of_lowest has f absent round)) here);
          }
      | inr none ↦
          let more = lowest_of has f absent round k (omega (arith, short)) on in
          record {
            at = suc more.at;
            is = record {
              in_range = let low = more.is.in_range in omega (arith, low);
              breaks = more.is.breaks;
              lower = lower_of has q round more.at none more.is.lower;
            };
            gives = more.gives ∙ sym (ap (λ b. cond b (f q) (of_lowest has f absent round)) none);
          }
    ]

as_lowest : {A : Type 0} → IsDecided A → (has : Parts → Bool) (f : Parts → A) (absent : A) (round : List Parts) (k : ℕ) → k < length round
    → IsTrue (has (picture_at round k)) → ¬ UnlikeLowest has f round k → f (picture_at round k) ≡ of_lowest has f absent round
as_lowest decide has f absent round k short on alike_lowest =
    let low = lowest_of has f absent round k short on in
    alike decide (f (picture_at round k)) (f (picture_at round low.at)) (λ other. alike_lowest (on, (low.at, low.is, other))) ∙ low.gives

-- ---- nothing is found where nothing is broken

none_lowest : (n : ℕ) (Breaks : ℕ → Type 0) (lowest : Option ℕ) → IsLowestAnswer n Breaks lowest → ((k : ℕ) → k < n → ¬ Breaks k) → lowest ≡ None
none_lowest n Breaks None is none = refl
none_lowest n Breaks (Some k) is none = absurd (none k is.in_range is.breaks)

-- ---- a round that breaks none

module _ (corners : List Corner) (round : List Parts) (same : length corners ≡ length round) (passes : IsVerdict (length corners) (rules_of corners round) None) where
  all : NoneBroken (length corners) (rules_of corners round)
  all = none_broken (length corners) (rules_of corners round) passes

  of_sets : NoneBroken (length corners) (rules_of_sets corners round)
  of_sets = none_front (length corners) (rules_of_sets corners round) (rules_of_pictures round ++ rules_of_slices round) all

  behind_sets : NoneBroken (length corners) (rules_of_pictures round ++ rules_of_slices round)
  behind_sets = none_back (length corners) (rules_of_sets corners round) (rules_of_pictures round ++ rules_of_slices round) all

  of_pictures : NoneBroken (length corners) (rules_of_pictures round)
  of_pictures = none_front (length corners) (rules_of_pictures round) (rules_of_slices round) behind_sets

  of_slices : NoneBroken (length corners) (rules_of_slices round)
  of_slices = none_back (length corners) (rules_of_pictures round) (rules_of_slices round) behind_sets

  of_frame : NoneBroken (length corners) (rules_of_frame corners round)
  of_frame = none_front (length corners) (rules_of_frame corners round) (too_many_slices round ∷ []) of_sets.1.1

  -- L6, M3, M4 and M5, as they are found
  pub frame_found : Finds (length corners) (rules_of_frame corners round) None
  frame_found = record { verdict = none_found (length corners) (rules_of_frame corners round) of_frame }

  -- L6, M3, M4
  pub fit_found : Finds (length corners) (rules_of_fit (placed_in corners round) (ctb_of round)) None
  fit_found =
      let fit = rules_of_fit (placed_in corners round) (ctb_of round) in
      let lines = tile_lines (corners_in corners round) (layouts_in round) in
      record { verdict = none_found (length corners) fit (none_front (length corners) fit (lines ∷ []) of_frame) }

  -- M5
  pub lines_kept : (k : ℕ) → k < length corners → ¬ IsLinesFault (corners_in corners round) (layouts_in round) k
  lines_kept =
      let fit = rules_of_fit (placed_in corners round) (ctb_of round) in
      (none_back (length corners) fit (tile_lines (corners_in corners round) (layouts_in round) ∷ []) of_frame).0

  -- L5, as it is found
  pub slices_found : Finds (length corners) (too_many_slices round ∷ []) None
  slices_found = record { verdict = inl ((none_back (length corners) (rules_of_frame corners round) (too_many_slices round ∷ []) of_sets.1.1).0, refl) }

  -- M1 and M2, as they are found
  pub alone_found : Finds (length corners) (several_subpictures round ∷ []) None
  alone_found = record { verdict = inl (of_sets.0, refl) }

  pub sps_found : Finds (length corners) (sps_tools round ∷ []) None
  sps_found = record { verdict = inl (of_sets.1.0, refl) }

  -- M7 and M13, as they are found
  pub pps_found : Finds (length corners) (pps_tools round ∷ []) None
  pps_found = record { verdict = inl (of_pictures.1.0, refl) }

  pub flags_found : Finds (length corners) (filter_flags round ∷ []) None
  flags_found = record { verdict = inl (of_slices.1.1.0, refl) }

  -- M12: all filters have ids
  pub filters_few : 0 < length round → length (alf_bodies round) ≤ alf_slots
  filters_few some =
      let few = of_slices.1.0 (length round - 1) (omega (arith, same, some)) in
      let whole : take (length round - 1 + 1) round ≡ round = take_all (length round - 1 + 1) round (omega (arith, some)) in
      let all_few : ¬ (alf_slots < length (alf_bodies round)) =
      subst (λ qs. ¬ (alf_slots < length (once (flat_map filters_in qs)))) whole few in
      omega (arith, all_few)

  -- so all that were gathered are there
  pub not_too_many : (f : RoundFilters) → AreFilters round f → f.too_many ≡ None
  not_too_many f are = none_lowest (length round) (too_many_filters round).breaks f.too_many are.too_many (λ k short. of_slices.1.0 k (omega (arith, same, short)))

  pub filters_are : (f : RoundFilters) → AreFilters round f → map (λ b. b.now) f.bodies ≡ alf_bodies round
  filters_are f are = are.all (not_too_many f are)

  module _ (k : ℕ) (short : k < length round) where
    within : k < length corners
    within = omega (arith, same, short)

    -- M1
    pub one_subpic : subpics_of (picture_at round k).sps ≡ 1
    one_subpic = let few : ¬ (1 < subpics_of (picture_at round k).sps) = of_sets.0 k within in omega (arith, few)

    -- M2
    pub sps_alike : kept_sps (picture_at round k) ≡ kept_sps (picture_at round 0)
    sps_alike = kept_alike (kept_sps (picture_at round k)) (kept_sps (picture_at round 0)) (λ other. of_sets.1.0 k within (inl other))

    pub profile_alike : profile_of (picture_at round k) ≡ profile_of (picture_at round 0)
    profile_alike =
        alike (lists numbers) (profile_of (picture_at round k)) (profile_of (picture_at round 0)) (λ other. of_sets.1.0 k within (inr other))

    -- M6
    pub kind_alike : shared_kind (picture_at round k) ≡ shared_kind (picture_at round 0)
    kind_alike =
        alike (pairs numbers (pairs numbers flags)) (shared_kind (picture_at round k)) (shared_kind (picture_at round 0)) (of_pictures.0 k within)

    -- M7
    pub pps_alike : kept_pps (picture_at round k) ≡ kept_pps (picture_at round 0)
    pps_alike = kept_alike (kept_pps (picture_at round k)) (kept_pps (picture_at round 0)) (of_pictures.1.0 k within)

    -- M8
    pub header_alike : kept_header (picture_at round k) ≡ kept_header (picture_at round 0)
    header_alike =
        kept_alike (kept_header (picture_at round k)) (kept_header (picture_at round 0)) (λ other. of_pictures.1.1.0 k within (inl other))

    pub chroma_as_lowest : IsTrue (has_lmcs (picture_at round k))
        → is_chroma_scaled (picture_at round k) ≡ of_lowest has_lmcs is_chroma_scaled false round
    chroma_as_lowest on = as_lowest flags has_lmcs is_chroma_scaled false round k short on (λ other. of_pictures.1.1.0 k within (inr other))

    -- M9
    pub lmcs_as_lowest : IsTrue (has_lmcs (picture_at round k)) → lmcs_body (picture_at round k) ≡ of_lowest has_lmcs lmcs_body None round
    lmcs_as_lowest on =
        as_lowest (options (lists numbers)) has_lmcs lmcs_body None round k short on (λ other. of_pictures.1.1.1.0 k within (inl other))

    pub scaling_lists_as_lowest : IsTrue (has_scaling (picture_at round k))
        → scaling_body (picture_at round k) ≡ of_lowest has_scaling scaling_body None round
    scaling_lists_as_lowest on =
        as_lowest (options (lists numbers)) has_scaling scaling_body None round k short on (λ other. of_pictures.1.1.1.0 k within (inr other))

    -- M10
    pub first_lists_alike : first_lists (picture_at round k) ≡ first_lists (picture_at round 0)
    first_lists_alike =
        alike (lists ref_lists) (first_lists (picture_at round k)) (first_lists (picture_at round 0)) (of_pictures.1.1.1.1.0 k within)

    -- M13
    pub tiles_as_lowest : IsTrue (has_tiles (picture_at round k))
        → crosses_tiles (picture_at round k) ≡ of_lowest has_tiles crosses_tiles false round
    tiles_as_lowest on = as_lowest flags has_tiles crosses_tiles false round k short on (λ other. of_slices.1.1.0 k within (inl other))

    pub slices_as_lowest : IsTrue (has_slices (picture_at round k))
        → crosses_slices (picture_at round k) ≡ of_lowest has_slices crosses_slices false round
    slices_as_lowest on = as_lowest flags has_slices crosses_slices false round k short on (λ other. of_slices.1.1.0 k within (inr other))
