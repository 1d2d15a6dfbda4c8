-- Rounds that are read alike break the same rules.
use Rattle.std.proofs.Common.{◌≡◌, ◌⊎◌, ℕ, ℤ, ◌+◌, ◌<◌, Bool, List, [], ◌∷◌, length, map, take, Option, Some, unwrap_or, refl, ap, sym, subst, ◌∙◌, inl, inr}
use Rattle.std.specs.Prelude.{sum_by}
use Rattle.std.specs.Option.{option_or}
use Rattle.std.proofs.lemmas.List.Sums.{sum_by-cons}
use Rattle.vx_bits.specs.declared.refusal.Refusal.{Refusal}
use Rattle.vx_bits.specs.declared.refusal.Refusal.TheVariants.{Merge}
use Rattle.vx_bits.specs.declared.rules.TheConstants as codes
use Rattle.vx_fields.specs.declared.ph.TheConstants as ph
use Rattle.vx_aps.specs.declared.aps.Aps.{Aps}
use Rattle.vx_fit.specs.Placing.{in_ctus}
use Rattle.vx_fit.specs.declared.placed.Placed.{Placed}
use Rattle.vx_sps.specs.Set.{ctb_size_of}
use Rattle.vx_sps.specs.Subpictures.{subpics_of}
use Rattle.vx_pic.specs.Differences.{differing_field}
use Rattle.vx_pic.specs.Parts.{Parts}
use Rattle.vx_frame.specs.declared.corner.Corner.{Corner}
use Rattle.vx_frame.specs.Bodies.{filters_in, has_lmcs, has_scaling, is_chroma_scaled, lmcs_body, once, scaling_body}
use Rattle.vx_frame.specs.Collocated.{collocated}
use Rattle.vx_frame.specs.Regions.{corners_in, ctb_of, layout_of, layouts_in, placed_at, placed_in}
use Rattle.vx_frame.specs.Rounds.{UnlikeFirst, UnlikeLowest, picture_at}
use Rattle.vx_frame.specs.Rules as merge
use Rattle.vx_frame.specs.Counts.{alf_slots}
use Rattle.vx_frame.specs.Verdict.{IsVerdict, Rule}
use Rattle.vx_segments.proofs.Rounds.{AreAlike, Both, Plain, at, at_same, elsewhere, filters_respect, firsts, flats, lmcs_respects, lowest_of, maps, plainly, scaling_respects, some_unlike, unlike_first, unlike_lowest}

-- ---- rules

-- the same sources break both, and the same is told
record IsSame (a b : Rule) : Type 0 where
  breaks : (k : ℕ) → Both (a.breaks k) (b.breaks k)
  tells : (k : ℕ) → a.tells k ≡ b.tells k

abbrev AreSame : List Rule → List Rule → Type 0
AreSame [] [] = Unit {0}
AreSame [] (s ∷ others) = ⊥
AreSame (r ∷ rules) [] = ⊥
AreSame (r ∷ rules) (s ∷ others) = IsSame r s × AreSame rules others

verdict_same : (n : ℕ) (rules others : List Rule) (answer : Option Refusal) → AreSame rules others → IsVerdict n rules answer → IsVerdict n others answer
verdict_same n [] [] answer same verdict = verdict
verdict_same n [] (s ∷ others) answer same verdict = absurd same
verdict_same n (r ∷ rules) [] answer same verdict = absurd same
verdict_same n (r ∷ rules) (s ∷ others) answer same verdict = elim verdict [
  | inl f ↦ inl ((λ k less breaks. f.0 k less ((same.0.breaks k).1 breaks)), verdict_same n rules others answer same.1 f.1)
  | inr f ↦ inr (f.0, lowest_of n n r.breaks s.breaks refl same.0.breaks f.0 f.1, f.2 ∙ ap (λ t. Some t) (same.0.tells f.0))
]

itself : (r : Rule) → IsSame r r
itself r = record { breaks = λ k. ((λ b. b), (λ b. b)); tells = λ k. refl }

-- one of two
either : {A B C D : Type 0} → Both A B → Both C D → Both (A ⊎ C) (B ⊎ D)
either first second = (
  λ x. elim x [ inl a ↦ inl (first.0 a) | inr c ↦ inr (second.0 c) ],
  λ x. elim x [ inl b ↦ inl (first.1 b) | inr d ↦ inr (second.1 d) ],
)

-- ---- frames

placed_same : (corners : List Corner) (round other : List Parts) → AreAlike round other → placed_in corners round ≡ placed_in corners other
placed_same [] round other alike = refl
placed_same (c ∷ corners) [] [] alike = refl
placed_same (c ∷ corners) [] (q ∷ other) alike = absurd alike
placed_same (c ∷ corners) (p ∷ round) [] alike = absurd alike
placed_same (c ∷ corners) (p ∷ round) (q ∷ other) alike =
    ap (λ x. x ∷ placed_in corners round) (plainly (placed_at c) (λ p clvss poc bodies. refl) p q alike.0)
    ∙ ap (λ l. placed_at c q ∷ l) (placed_same corners round other alike.1)

module _ (corners : List Corner) (round other : List Parts) (alike : AreAlike round other) where
  pub placed : placed_in corners round ≡ placed_in corners other
  placed = placed_same corners round other alike

  pub ctb : ctb_of round ≡ ctb_of other
  ctb = at_same (λ q. ctb_size_of q.sps) (plainly _ (λ p clvss poc bodies. refl)) round other alike 0

  pub corners_same : corners_in corners round ≡ corners_in corners other
  corners_same = ap (λ n. map (in_ctus n) (placed_in corners round)) ctb ∙ ap (map (in_ctus (ctb_of other))) placed

  pub layouts_same : layouts_in round ≡ layouts_in other
  layouts_same = maps layout_of (plainly layout_of (λ p clvss poc bodies. refl)) round other alike

  -- ---- what is told of two pictures, without what may differ

  two : {A : Type 0} (f : Parts → Parts → A)
      → ((p q : Parts) (b c : Bool) (n m : ℤ) (xs ys : List (Option Aps)) → f (elsewhere p b n xs) (elsewhere q c m ys) ≡ f p q) → (k : ℕ)
      → f (picture_at round k) (picture_at round 0) ≡ f (picture_at other k) (picture_at other 0)
  two f plain k =
      let here = at round other alike k in
      let first = at round other alike 0 in
      let p = picture_at round k in
      let q = picture_at round 0 in
      let x = picture_at other k in
      let y = picture_at other 0 in
      sym (plain p q x.kind.clvss y.kind.clvss x.kind.poc y.kind.poc x.bodies y.bodies)
      ∙ (ap (λ z. f z (elsewhere q y.kind.clvss y.kind.poc y.bodies)) (sym here.same) ∙ ap (λ z. f x z) (sym first.same))

  plain_first : {A : Type 0} (f : Parts → A) → Plain f → (k : ℕ) → Both (UnlikeFirst f round k) (UnlikeFirst f other k)
  plain_first f plain k = unlike_first round other alike f (plainly f plain) k

  plain_lowest : {A : Type 0} (has : Parts → Bool) (f : Parts → A) → Plain has → Plain f → (k : ℕ) → Both (UnlikeLowest has f round k) (UnlikeLowest has f other k)
  plain_lowest has f there plain k = unlike_lowest round other alike has f (plainly has there) (plainly f plain) k

  -- ---- the rules, one by one

  subpictures : IsSame (merge.several_subpictures round) (merge.several_subpictures other)
  subpictures = record {
    breaks = λ k.
        let same = at_same (λ q. subpics_of q.sps) (plainly _ (λ p clvss poc bodies. refl)) round other alike k in
        (subst (λ n. 1 < n) same, subst (λ n. 1 < n) (sym same));
    tells = λ k. refl;
  }

  sps_tools : IsSame (merge.sps_tools round) (merge.sps_tools other)
  sps_tools = record {
    breaks = λ k. either (plain_first merge.kept_sps (λ p clvss poc bodies. refl) k) (plain_first merge.profile_of (λ p clvss poc bodies. refl) k);
    tells = λ k. ap (λ n. Merge codes.SPS_TOOLS k n) (two field (λ p q b c n m xs ys. refl) k);
  }
    where
      field : Parts → Parts → ℕ
      field p q = unwrap_or (option_or (differing_field (merge.kept_sps p) (merge.kept_sps q)) (merge.differing_number merge.profile_fields p.sps q.sps)) 0

  of_fit : (rule : List Placed → ℕ → Rule) → IsSame (rule (placed_in corners round) (ctb_of round)) (rule (placed_in corners other) (ctb_of other))
  of_fit rule =
      subst (λ n. IsSame (rule (placed_in corners round) (ctb_of round)) (rule (placed_in corners other) n)) ctb
      (subst (λ l. IsSame (rule (placed_in corners round) (ctb_of round)) (rule l (ctb_of round))) placed (itself (rule (placed_in corners round) (ctb_of round))))

  tile_lines : IsSame (merge.tile_lines (corners_in corners round) (layouts_in round)) (merge.tile_lines (corners_in corners other) (layouts_in other))
  tile_lines =
      subst (λ l. IsSame (merge.tile_lines (corners_in corners round) (layouts_in round)) (merge.tile_lines (corners_in corners other) l)) layouts_same
      (subst (λ l. IsSame (merge.tile_lines (corners_in corners round) (layouts_in round)) (merge.tile_lines l (layouts_in round))) corners_same
      (itself (merge.tile_lines (corners_in corners round) (layouts_in round))))

  too_many_slices : IsSame (merge.too_many_slices round) (merge.too_many_slices other)
  too_many_slices = record {
    breaks = λ k. let same = sums round other alike in (subst (λ n. merge.most_slices < n) same, subst (λ n. merge.most_slices < n) (sym same));
    tells = λ k. refl;
  }
    where
      count : Parts → ℕ
      count q = length q.slices

      sums : (xs ys : List Parts) → AreAlike xs ys → sum_by (λ (q : Parts). length q.slices) xs ≡ sum_by (λ (q : Parts). length q.slices) ys
      sums [] [] all = refl
      sums [] (y ∷ ys) all = absurd all
      sums (x ∷ xs) [] all = absurd all
      sums (x ∷ xs) (y ∷ ys) all =
          sum_by-cons count x xs
          ∙ (ap (λ n. n + sum_by count xs) (plainly count (λ p clvss poc bodies. refl) x y all.0)
          ∙ (ap (λ n. count y + n) (sums xs ys all.1) ∙ sym (sum_by-cons count y ys)))

  picture_kind : IsSame (merge.picture_kind round) (merge.picture_kind other)
  picture_kind = record { breaks = λ k. plain_first merge.shared_kind (λ p clvss poc bodies. refl) k; tells = λ k. refl }

  pps_tools : IsSame (merge.pps_tools round) (merge.pps_tools other)
  pps_tools = record {
    breaks = λ k. plain_first merge.kept_pps (λ p clvss poc bodies. refl) k;
    tells = λ k. ap (λ n. Merge codes.PPS_TOOLS k n) (two (λ p q. unwrap_or (differing_field (merge.kept_pps p) (merge.kept_pps q)) 0) (λ p q b c n m xs ys. refl) k);
  }

  picture_header : IsSame (merge.picture_header round) (merge.picture_header other)
  picture_header = record {
    breaks = λ k. either (plain_first merge.kept_header (λ p clvss poc bodies. refl) k)
        (plain_lowest has_lmcs is_chroma_scaled (λ p clvss poc bodies. refl) (λ p clvss poc bodies. refl) k);
    tells = λ k. ap (λ n. Merge codes.PICTURE_HEADER k n)
        (two (λ p q. unwrap_or (differing_field (merge.kept_header p) (merge.kept_header q)) ph.ph_chroma_residual_scale_flag) (λ p q b c n m xs ys. refl) k);
  }

  shared_sets : IsSame (merge.shared_sets round) (merge.shared_sets other)
  shared_sets = record {
    breaks = λ k. either
        (unlike_lowest round other alike has_lmcs lmcs_body (plainly has_lmcs (λ p clvss poc bodies. refl)) lmcs_respects k)
        (unlike_lowest round other alike has_scaling scaling_body (plainly has_scaling (λ p clvss poc bodies. refl)) scaling_respects k);
    tells = λ k. refl;
  }

  reference_lists : IsSame (merge.reference_lists round) (merge.reference_lists other)
  reference_lists = record { breaks = λ k. plain_first merge.first_lists (λ p clvss poc bodies. refl) k; tells = λ k. refl }

  output_of_prior : IsSame (merge.output_of_prior round) (merge.output_of_prior other)
  output_of_prior = record {
    breaks = λ k. some_unlike round other alike merge.outputs_of (plainly merge.outputs_of (λ p clvss poc bodies. refl)) k;
    tells = λ k. refl;
  }

  too_many_filters : IsSame (merge.too_many_filters round) (merge.too_many_filters other)
  too_many_filters = record {
    breaks = λ k.
        let same = flats filters_in filters_respect (take (k + 1) round) (take (k + 1) other) (firsts (k + 1) round other alike) in
        (subst (λ l. alf_slots < length (once l)) same, subst (λ l. alf_slots < length (once l)) (sym same));
    tells = λ k. refl;
  }

  filter_flags : IsSame (merge.filter_flags round) (merge.filter_flags other)
  filter_flags = record {
    breaks = λ k. either (plain_lowest merge.has_tiles merge.crosses_tiles (λ p clvss poc bodies. refl) (λ p clvss poc bodies. refl) k)
        (plain_lowest merge.has_slices merge.crosses_slices (λ p clvss poc bodies. refl) (λ p clvss poc bodies. refl) k);
    tells = λ k. refl;
  }

  collocated_pictures : IsSame (merge.collocated_pictures round) (merge.collocated_pictures other)
  collocated_pictures = record {
    breaks = λ k. some_unlike round other alike collocated (plainly collocated (λ p clvss poc bodies. refl)) k;
    tells = λ k. refl;
  }

  rules_same : AreSame (merge.rules_of corners round) (merge.rules_of corners other)
  rules_same = (
    subpictures,
    (
      sps_tools,
      (
        of_fit merge.too_large,
        (
          of_fit merge.geometry,
          (
            of_fit merge.region_order,
            (
              tile_lines,
              (
                too_many_slices,
                (
                  picture_kind,
                  (
                    pps_tools,
                    (
                      picture_header,
                      (
                        shared_sets,
                        (
                          reference_lists,
                          (output_of_prior, (too_many_filters, (filter_flags, (collocated_pictures, tt)))),
                        ),
                      ),
                    ),
                  ),
                ),
              ),
            ),
          ),
        ),
      ),
    ),
  )

  -- ---- so there is one verdict on both
  pub same_verdict : (n : ℕ) (answer : Option Refusal) → IsVerdict n (merge.rules_of corners round) answer → IsVerdict n (merge.rules_of corners other) answer
  same_verdict n answer verdict = verdict_same n (merge.rules_of corners round) (merge.rules_of corners other) answer rules_same verdict
