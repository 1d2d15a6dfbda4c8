-- Generated pictures in the order of their streams, round by round.
use Rattle.std.proofs.Common.{◌≡◌, ℕ, zero, suc, ◌+◌, ◌*◌, ◌<◌, List, [], ◌∷◌, ◌++◌, length, map, reverse, slice_get, Some, refl, ap, sym, subst, ◌∙◌, add-one, arith}
use Rattle.std.specs.Prelude.{option_map}
use Rattle.std.specs.List.{range_with_len}
use Rattle.std.proofs.lemmas.List.{map-append, reverse-append}
use Rattle.std.proofs.lemmas.List.FromFn.{get_or-map-range_with_len, length-map-range_with_len, map-range_with_len_more}
use Rattle.std.proofs.lemmas.Option.{slice_get-get_or, slice_get-map}
use Rattle.vx_pic.specs.Parts.{Parts, parts_of}
use Rattle.vx_pic.specs.Resident.{planned_of}
use Rattle.vx_frame.specs.declared.corner.Corner.{Corner}
use Rattle.vx_frame.specs.Corners.{IsCorner}
use Rattle.vx_gen.specs.Pictures.{plans}
use Rattle.vx_gen.specs.Rounds.{CornersAreThere, PlannedAreSoMany, PlannedMakeRounds, corners, planned}
use Rattle.vx_gen.specs.Shown.{generated_parts, shown}
use Rattle.vx_gen.proofs.Seen.{are_shown}

map_reverse : {A B : Type 0} (f : A → B) (xs : List A) → map f (reverse xs) ≡ reverse (map f xs)
map_reverse f [] = refl
map_reverse f (x ∷ xs) =
    ap (map f) (reverse-append (x ∷ []) xs) ∙ map-append f (reverse xs) (x ∷ [])
    ∙ ap (λ ys. ys ++ f x ∷ []) (map_reverse f xs) ∙ sym (reverse-append (f x ∷ []) (map f xs))

pub at_place : {A : Type 0} (f : ℕ → A) (n k : ℕ) → k < n → slice_get (map f (range_with_len 0 n)) k ≡ Some (f k)
at_place f n k low =
    let long = length-map-range_with_len f 0 n in
    slice_get-get_or (map f (range_with_len 0 n)) k (f k) (omega (arith, long, low)) ∙ ap Some (get_or-map-range_with_len f 0 n k k (f k) low (omega arith))

-- ---- pictures

shown_in_order : (seed n k m : ℕ) → reverse (shown seed n k m) ≡ map (λ p. generated_parts seed (n + 5 * p) k p) (range_with_len 0 m)
shown_in_order seed n k zero = refl
shown_in_order seed n k (suc m) =
    let part : ℕ → Parts = λ p. generated_parts seed (n + 5 * p) k p in
    reverse-append (part m ∷ []) (shown seed n k m) ∙ ap (λ qs. qs ++ part m ∷ []) (shown_in_order seed n k m)
    ∙ sym (map-range_with_len_more part 0 m m (omega arith)) ∙ ap (λ (c : ℕ). map part (range_with_len 0 c)) (add-one m)

-- picture p of source k
pub picture_in : (seed pictures k p : ℕ) → p < pictures
    → option_map parts_of (slice_get (reverse (planned seed pictures k)) p) ≡ Some (generated_parts seed (5 * (k * pictures) + 5 * p) k p)
picture_in seed pictures k p low =
    let n : ℕ = 5 * (k * pictures) in
    sym (slice_get-map parts_of (reverse (planned seed pictures k)) p)
    ∙ ap (λ qs. slice_get qs p) (map_reverse parts_of (planned seed pictures k) ∙ ap reverse (are_shown seed n k pictures) ∙ shown_in_order seed n k pictures)
    ∙ at_place (λ i. generated_parts seed (n + 5 * i) k i) pictures p low

pub make_rounds : PlannedMakeRounds
make_rounds seed pictures sources p low = from 0 sources
  where
    from : (a m : ℕ) → map (λ k. option_map parts_of (slice_get (reverse (planned seed pictures k)) p)) (range_with_len a m)
        ≡ map (λ q. Some q) (map (λ k. generated_parts seed (5 * (k * pictures) + 5 * p) k p) (range_with_len a m))
    from a zero = refl
    from a (suc m) = λ j. picture_in seed pictures a p low j ∷ from (a + 1) m j

many_from : (seed n k m : ℕ) → length (planned_of (plans seed n k m)) ≡ m
many_from seed n k zero = refl
many_from seed n k (suc m) = ap suc (many_from seed n k m)

pub so_many : PlannedAreSoMany
so_many seed pictures k = many_from seed (5 * (k * pictures)) k pictures

-- ---- corners

pub corners_there : CornersAreThere
corners_there sources some few =
    let at : ℕ → Corner = λ k. record { x = 128 * k; y = 0 } in
    let count : length (corners sources) ≡ sources = length-map-range_with_len at 0 sources in
    record {
      are = record {
        some = omega (arith, count, some);
        few = omega (arith, count, few);
        each = λ k d low.
            let within : k < sources = omega (arith, low, count) in
            subst IsCorner (sym (get_or-map-range_with_len at 0 sources k k d within (omega arith))) (omega (arith, within, few), omega arith);
      };
      count = count;
    }
