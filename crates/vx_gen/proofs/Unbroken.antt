-- Generated pictures side by side break no rule on merges.
use Rattle.std.proofs.Common.{◌≡◌, ℕ, zero, suc, ◌+◌, ◌*◌, ◌<◌, ◌≤◌, Bool, false, ℤ, List, [], ◌∷◌, ◌++◌, length, map, take, Option, Some, None, refl, ap, sym, subst, ◌∙◌, inl, inr, arith}
use Rattle.std.specs.Prelude.{flat_map, slice_get, sum_by}
use Rattle.std.specs.List.{AllByRecursion, range_with_len, slice_index_or}
use Rattle.std.proofs.lemmas.Bool.{true≢false}
use Rattle.std.proofs.lemmas.List.FromFn.{get_or-map-range_with_len, sum_by-map-range_with_len_more, take-map-range_with_len}
use Rattle.vx_layout.specs.declared.numbers.Numbers.{Numbers}
use Rattle.vx_layout.specs.Rects.{fits}
use Rattle.vx_layout.specs.Regions.{region_of}
use Rattle.vx_table.specs.Forms.{after, coding_at, form_of, has_value, limits_at, one_field, part, present, turns}
use Rattle.vx_table.specs.Kept.{stands_for_field}
use Rattle.vx_table.specs.Parts.{sections_form}
use Rattle.vx_table.specs.Scope.{fresh, natural, powers_below, value}
use Rattle.vx_table.specs.Spelling.{item_of}
use Rattle.vx_pps.specs.Partition.{partition}
use Rattle.vx_pps.specs.Pps.{pps_form}
use Rattle.vx_bits.specs.Fields.{first_value}
use Rattle.vx_fields.specs.declared.sh.TheConstants.{sh_no_output_of_prior_pics_flag}
use Rattle.vx_sps.specs.Set.{ctb_size_of}
use Rattle.vx_sps.specs.Subpictures.{subpics_of}
use Rattle.vx_fit.specs.declared.placed.FitFault.{FitFault}
use Rattle.vx_fit.specs.declared.placed.FitFault.TheVariants.{TooLarge, Geometry, Order}
use Rattle.vx_fit.specs.FitFaults.{IsFitFault}
use Rattle.vx_fit.specs.FrameLines.{IsLinesFault, no_numbers}
use Rattle.vx_fit.specs.Placing.{in_ctus}
use Rattle.vx_fit.proofs.Single.{fitting_faultless}
use Rattle.vx_pic.specs.Parts.{Parts}
use Rattle.vx_frame.specs.declared.corner.Corner.{Corner}
use Rattle.vx_frame.specs.Bodies.{filters_in, has_lmcs, has_scaling, is_chroma_scaled, lmcs_body, once, scaling_body}
use Rattle.vx_frame.specs.Collocated.{collocated}
use Rattle.vx_frame.specs.Regions.{corners_in, ctb_of, layout_of, layouts_in, placed_in}
use Rattle.vx_frame.specs.Rounds.{UnlikeFirst, UnlikeLowest, no_picture, picture_at}
use Rattle.vx_frame.specs.Rules.{crosses_slices, crosses_tiles, first_lists, has_slices, has_tiles, kept_header, kept_pps, kept_sps, outputs_of, profile_of, rules_of, shared_kind}
use Rattle.vx_frame.specs.Verdict.{IsVerdict}
use Rattle.vx_gen.specs.Pictures.{layout, generated_slice}
use Rattle.vx_gen.specs.Rounds.{GeneratedBreakNoRule, corners, round}
use Rattle.vx_gen.specs.Shown.{generated_parts}
use Rattle.vx_gen.proofs.SideBySide.{AreTiles, no_lines_fault, place, row, they_fit}

-- ---- what all have in common

same_pps : (seed n k p : ℕ) → kept_pps (generated_parts seed n k p) ≡ kept_pps (generated_parts seed 0 0 p)
unfolding fresh natural powers_below value after coding_at form_of has_value limits_at one_field part present turns sections_form item_of pps_form partition stands_for_field
same_pps seed n k p = refl

same_lists : (seed n k p : ℕ) → first_lists (generated_parts seed n k p) ≡ record { first = []; second = [] } ∷ []
unfolding fresh natural
same_lists seed n k p = refl

pub no_lmcs : (seed n k p : ℕ) → has_lmcs (generated_parts seed n k p) ≡ false
unfolding fresh natural
no_lmcs seed n k zero = refl
no_lmcs seed n k (suc p) = refl

pub no_scaling : (seed n k p : ℕ) → has_scaling (generated_parts seed n k p) ≡ false
unfolding fresh natural
no_scaling seed n k zero = refl
no_scaling seed n k (suc p) = refl

no_tiles : (seed n k p : ℕ) → has_tiles (generated_parts seed n k p) ≡ false
no_tiles seed n k p = refl

no_slices : (seed n k p : ℕ) → has_slices (generated_parts seed n k p) ≡ false
unfolding fits
no_slices seed n k p = refl

no_filters : (seed n k p : ℕ) → filters_in (generated_parts seed n k p) ≡ []
unfolding fresh natural
no_filters seed n k zero = refl
no_filters seed n k (suc p) = refl

none_collocated : (seed n k p : ℕ) → collocated (generated_parts seed n k p) ≡ []
unfolding fresh natural
none_collocated seed n k zero = refl
none_collocated seed n k (suc p) = refl

-- ---- a round

module _ (seed pictures n p : ℕ) (some : 1 ≤ n) (few : n ≤ 16) where
  -- the picture of source k
  abbrev pub part_of : ℕ → Parts
  part_of k = generated_parts seed (5 * (k * pictures) + 5 * p) k p

  abbrev all : List Parts
  all = round seed pictures n p

  pub source : (k : ℕ) → k < n → picture_at all k ≡ part_of k
  source k low = get_or-map-range_with_len part_of 0 n k k no_picture low (omega arith)

  -- what has one value in all sources is no other than source 0's
  alike : {A : Type 0} (f : Parts → A) (v : A) → ((k : ℕ) → f (part_of k) ≡ v) → (k : ℕ) → k < n → UnlikeFirst f all k → ⊥
  alike f v is k low unlike = unlike (ap f (source k low) ∙ is k ∙ sym (ap f (source 0 (omega (arith, some))) ∙ is 0))

  -- what no source has is alike in those that have it
  none_has : {A : Type 0} (has : Parts → Bool) (f : Parts → A) → ((k : ℕ) → has (part_of k) ≡ false) → (k : ℕ) → k < n → UnlikeLowest has f all k → ⊥
  none_has has f is k low unlike = absurd (true≢false (sym unlike.0 ∙ ap has (source k low) ∙ is k))

  -- ---- the frame

  placed_from : (a m : ℕ) → placed_in (map (λ k. let c : Corner = record { x = 128 * k; y = 0 } in c) (range_with_len a m)) (map part_of (range_with_len a m)) ≡ map place (range_with_len a m)
  unfolding fresh natural
  placed_from a zero = refl
  placed_from a (suc m) = ap (λ ps. place a ∷ ps) (placed_from (a + 1) m)

  pub placed_is : placed_in (corners n) all ≡ row n
  placed_is = placed_from 0 n

  pub ctb_is : ctb_of all ≡ 64
  unfolding fresh natural
  ctb_is = ap (λ (q : Parts). ctb_size_of q.sps) (source 0 (omega (arith, some)))

  no_fault : (e : FitFault) → IsFitFault (placed_in (corners n) all) (ctb_of all) e → ⊥
  no_fault e fault =
      fitting_faultless (row n) 64 e (they_fit n few)
      (subst (λ ctb. IsFitFault (row n) ctb e) ctb_is (subst (λ ps. IsFitFault ps (ctb_of all) e) placed_is fault))

  layouts_from : (a m : ℕ) → map layout_of (map part_of (range_with_len a m)) ≡ map (λ k. region_of layout 0) (range_with_len a m)
  layouts_from a zero = refl
  layouts_from a (suc m) = ap (λ ls. region_of layout 0 ∷ ls) (layouts_from (a + 1) m)

  layout_at : (k : ℕ) → k < n → slice_index_or (layouts_in all) k no_numbers ≡ region_of layout 0
  layout_at k low = ap (λ ls. slice_index_or ls k no_numbers) (layouts_from 0 n) ∙ get_or-map-range_with_len (λ k. region_of layout 0) 0 n k k no_numbers low (omega arith)

  tiles : AreTiles n (layouts_in all)
  tiles = record { columns = λ k low. ap (λ (l : Numbers). l.columns) (layout_at k low); rows = λ k low. ap (λ (l : Numbers). l.rows) (layout_at k low) }

  no_lines : (k : ℕ) → IsLinesFault (corners_in (corners n) all) (layouts_in all) k → ⊥
  no_lines k fault =
      no_lines_fault n (layouts_in all) tiles k
      (subst (λ ctb. IsLinesFault (map (in_ctus ctb) (row n)) (layouts_in all) k) ctb_is (subst (λ ps. IsLinesFault (map (in_ctus (ctb_of all)) ps) (layouts_in all) k) placed_is fault))

  -- ---- slices

  as_many : (m : ℕ) → sum_by (λ q. length q.slices) (map part_of (range_with_len 0 m)) ≡ m
  as_many zero = refl
  as_many (suc m) =
      let more = as_many m in
      let last = sum_by-map-range_with_len_more (λ (q : Parts). length q.slices) part_of 0 m m (omega arith) in
      let one : suc m ≡ m + 1 = omega arith in
      ap (λ (c : ℕ). sum_by (λ (q : Parts). length q.slices) (map part_of (range_with_len 0 c))) one ∙ last ∙ ap (λ (c : ℕ). c + 1) more ∙ sym one

  pub no_filter_from : (a m : ℕ) → flat_map filters_in (map part_of (range_with_len a m)) ≡ []
  no_filter_from a zero = refl
  no_filter_from a (suc m) = ap (λ xs. xs ++ flat_map filters_in (map part_of (range_with_len (a + 1) m))) (no_filters seed (5 * (a * pictures) + 5 * p) a p) ∙ no_filter_from (a + 1) m

  no_filter_to : (k : ℕ) → k < n → flat_map filters_in (take (k + 1) all) ≡ []
  no_filter_to k low = ap (λ qs. flat_map filters_in qs) (take-map-range_with_len part_of 0 n (k + 1) (omega (arith, low))) ∙ no_filter_from 0 (k + 1)

  output : Option ℤ
  output = first_value (generated_slice p) sh_no_output_of_prior_pics_flag

  first_from : (m : ℕ) → 1 ≤ m → slice_get (flat_map outputs_of (map part_of (range_with_len 0 m))) 0 ≡ Some output
  unfolding output
  first_from zero none = absurd (omega (arith, none))
  first_from (suc m) more = refl

  outputs_alike : (k : ℕ) → k < n → AllByRecursion (λ x. slice_get (flat_map outputs_of all) 0 ≡ Some x) (outputs_of (picture_at all k))
  unfolding output
  outputs_alike k low = subst (AllByRecursion (λ x. slice_get (flat_map outputs_of all) 0 ≡ Some x)) (sym (ap outputs_of (source k low))) (first_from n some, tt)

  verdict : IsVerdict n (rules_of (corners n) all) None
  unfolding fresh natural
  verdict =
      inl (
        λ k low several. let one = ap (λ (q : Parts). subpics_of q.sps) (source k low) in omega (arith, several, one),
        inl (
          λ k low differs. elim differs [ inl tools ↦ alike kept_sps (kept_sps (part_of 0)) (λ j. refl) k low tools | inr profile ↦ alike profile_of (profile_of (part_of 0)) (λ j. refl) k low profile ],
          inl (
            λ k low large. no_fault TooLarge large,
            inl (
              λ k low geometry. no_fault (Geometry k) geometry,
              inl (
                λ k low order. no_fault (Order k) order,
                inl (
                  λ k low lines. no_lines k lines,
                  inl (
                    λ k low many. let count = as_many n in omega (arith, many, count, few),
                    inl (
                      λ k low kind. alike shared_kind (shared_kind (part_of 0)) (λ j. refl) k low kind,
                      inl (
                        λ k low tools. alike kept_pps (kept_pps (generated_parts seed 0 0 p)) (λ j. same_pps seed (5 * (j * pictures) + 5 * p) j p) k low tools,
                        inl (
                          λ k low header. elim header [
                            | inl kept ↦ alike kept_header (kept_header (part_of 0)) (λ j. refl) k low kept
                            | inr scaled ↦ none_has has_lmcs is_chroma_scaled (λ j. no_lmcs seed (5 * (j * pictures) + 5 * p) j p) k low scaled
                          ],
                          inl (
                            λ k low shared. elim shared [
                              | inl lmcs ↦ none_has has_lmcs lmcs_body (λ j. no_lmcs seed (5 * (j * pictures) + 5 * p) j p) k low lmcs
                              | inr scaling ↦ none_has has_scaling scaling_body (λ j. no_scaling seed (5 * (j * pictures) + 5 * p) j p) k low scaling
                            ],
                            inl (
                              λ k low lists. alike first_lists (record { first = []; second = [] } ∷ []) (λ j. same_lists seed (5 * (j * pictures) + 5 * p) j p) k low lists,
                              inl (
                                λ k low output. output (outputs_alike k low),
                                inl (
                                  λ k low filters. let none = ap (λ bodies. length (once bodies)) (no_filter_to k low) in omega (arith, filters, none),
                                  inl (
                                    λ k low flags. elim flags [
                                      | inl across ↦ none_has has_tiles crosses_tiles (λ j. no_tiles seed (5 * (j * pictures) + 5 * p) j p) k low across
                                      | inr slices ↦ none_has has_slices crosses_slices (λ j. no_slices seed (5 * (j * pictures) + 5 * p) j p) k low slices
                                    ],
                                    inl (
                                      λ k low picture. picture (subst (AllByRecursion (λ x. slice_get (flat_map collocated all) 0 ≡ Some x)) (sym (ap collocated (source k low) ∙ none_collocated seed (5 * (k * pictures) + 5 * p) k p)) tt),
                                      refl,
                                    ),
                                  ),
                                ),
                              ),
                            ),
                          ),
                        ),
                      ),
                    ),
                  ),
                ),
              ),
            ),
          ),
        ),
      )

pub break_none : GeneratedBreakNoRule
break_none seed pictures sources p some few = verdict seed pictures sources p some few
