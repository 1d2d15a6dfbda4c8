-- Generated streams can be merged side by side.
use Rattle.std.proofs.Common.{◌≡◌, ℕ, zero, suc, ◌+◌, ◌-◌, ◌*◌, ◌<◌, ◌≤◌, List, [], ◌∷◌, ◌∙◌, Option, Some, None, length, map, refl, ap, sym, subst, arith}
use Rattle.std.specs.Prelude.{drop}
use Rattle.std.specs.List.{AllByRecursion, AllZip, range_with_len}
use Rattle.std.proofs.lemmas.List.FromFn.{length-map-range_with_len}
use Rattle.std.proofs.lemmas.Option.{none-some, same_Some}
use Rattle.vx_pic.specs.Bytes.{AreSourcePictures}
use Rattle.vx_pic.specs.Parts.{Parts, parts_of}
use Rattle.vx_pic.specs.Readings.{Picture}
use Rattle.vx_pic.specs.Resident.{planned_of, readings_of_plans}
use Rattle.vx_pic.specs.Written.{Plan, planned as planned_picture}
use Rattle.vx_merge.specs.Merging.{IsBarred, Passes}
use Rattle.vx_again.specs.Streams.{AreMerged, earlier, lasts}
use Rattle.vx_again.proofs.Columns.{cons_parts}
use Rattle.vx_gen.specs.Laws.{GeneratedAreRead}
use Rattle.vx_gen.specs.Pictures.{plan, plans}
use Rattle.vx_gen.specs.Rounds.{AreGeneratedRounds, GeneratedAreNotBarred, corners, planned}
use Rattle.vx_gen.specs.Rounds as generated
use Rattle.vx_gen.specs.Shown.{generated_parts}
use Rattle.vx_gen.specs.Streams.{stream}
use Rattle.vx_gen.proofs.InOrder.{corners_there, so_many}
use Rattle.vx_gen.proofs.Seen.{one_shown}
use Rattle.vx_trial.specs.inner.Laws.{GeneratedCanBeTried}
use Rattle.vx_trial.specs.inner.Merges.{GoesOn, HasSlices, before_last}

-- ---- what holds of each number below n

each_below : {A : Type 0} (P : A → Type 0) (f : ℕ → A) (a n : ℕ) → ((k : ℕ) → k < a + n → P (f k)) → AllByRecursion P (map f (range_with_len a n))
each_below P f a zero each = tt
each_below P f a (suc n) each = (each a (omega arith), each_below P f (a + 1) n (λ k low. each k (omega (arith, low))))

pairs_below : {A B : Type 0} (P : A → B → Type 0) (f : ℕ → A) (g : ℕ → B) (a n : ℕ) → ((k : ℕ) → k < a + n → P (f k) (g k))
    → AllZip P (map f (range_with_len a n)) (map g (range_with_len a n))
pairs_below P f g a zero each = tt
pairs_below P f g a (suc n) each = (each a (omega arith), pairs_below P f g (a + 1) n (λ k low. each k (omega (arith, low))))

-- ---- the pictures of one stream

module _ (seed n k : ℕ) where
  abbrev first : ℕ → List Picture
  first p = planned_of (plans seed n k p)

  one_slice : (p : ℕ) → HasSlices (planned_picture (readings_of_plans (plans seed n k p)) (plan seed (n + 5 * p) k p))
  one_slice p = record { tid = omega arith; some = omega arith }

  pub have_slices : (p : ℕ) → AllByRecursion HasSlices (first p)
  have_slices zero = tt
  have_slices (suc p) = (one_slice p, have_slices p)

  before : (m p q : ℕ) → p ≡ m + q → drop m (first p) ≡ first q
  before zero p q is = ap first (omega (arith, is))
  before (suc m) zero q is = absurd (omega (arith, is))
  before (suc m) (suc p) q is = before m p q (omega (arith, is))

-- ---- of all

module _ (seed pictures : ℕ) where
  abbrev start : ℕ → ℕ
  start k = 5 * (k * pictures)

  -- the first p pictures
  abbrev firsts : ℕ → List ℕ → List (List Picture)
  firsts p ks = map (λ k. first seed (start k) k p) ks

  all_before : (m p : ℕ) (ks : List ℕ) → pictures ≡ m + p → before_last m (firsts pictures ks) ≡ firsts p ks
  all_before m p [] is = refl
  all_before m p (k ∷ ks) is =
      ap (λ (l : List Picture). l ∷ before_last m (firsts pictures ks)) (before seed (start k) k m pictures p is)
      ∙ ap (λ (l : List (List Picture)). first seed (start k) k p ∷ l) (all_before m p ks is)

  one_fewer : (p : ℕ) (ks : List ℕ) → earlier (firsts (suc p) ks) ≡ firsts p ks
  one_fewer p [] = refl
  one_fewer p (k ∷ ks) = ap (λ (l : List (List Picture)). first seed (start k) k p ∷ l) (one_fewer p ks)

  -- and none is before the first one
  none_first : (k : ℕ) (ks : List ℕ) (round : List Picture) → lasts (firsts 0 (k ∷ ks)) ≡ map (λ q. Some q) round → ⊥
  none_first k ks [] is = absurd (omega (arith, ap (λ (l : List (Option Picture)). length l) is))
  none_first k ks (q ∷ round) is = none-some q (cons_parts None (Some q) (lasts (firsts 0 ks)) (map (λ x. Some x) round) is).0

  -- round p
  is_round : (p : ℕ) (ks : List ℕ) (round : List Picture) → lasts (firsts (suc p) ks) ≡ map (λ q. Some q) round
      → map parts_of round ≡ map (λ k. generated_parts seed (start k + 5 * p) k p) ks
  is_round p [] [] is = refl
  is_round p [] (q ∷ round) is = absurd (omega (arith, ap (λ (l : List (Option Picture)). length l) is))
  is_round p (k ∷ ks) [] is = absurd (omega (arith, ap (λ (l : List (Option Picture)). length l) is))
  is_round p (k ∷ ks) (q ∷ round) is =
      let here : Picture = planned_picture (readings_of_plans (plans seed (start k) k p)) (plan seed (start k + 5 * p) k p) in
      let both = cons_parts (Some here) (Some q) (lasts (firsts (suc p) ks)) (map (λ x. Some x) round) is in
      let one : parts_of q ≡ generated_parts seed (start k + 5 * p) k p = sym (ap parts_of (same_Some here q both.0)) ∙ one_shown seed (start k) k p in
      ap (λ (x : Parts). x ∷ map parts_of round) one ∙ ap (λ (l : List Parts). generated_parts seed (start k + 5 * p) k p ∷ l) (is_round p ks round both.1)

  module _ (n : ℕ) where
    abbrev ks : List ℕ
    ks = range_with_len 0 (suc n)

    -- rounds that are written are those of the first pictures
    pub are_rounds : (p : ℕ) (done : List Plan) → AreMerged (corners (suc n)) None (firsts p ks) done
        → (length done ≡ p) × AreGeneratedRounds seed pictures (suc n) done
    are_rounds zero [] merged = (refl, tt)
    are_rounds (suc p) [] merged = absurd (omega (arith, ap (λ (l : List Picture). length l) merged.0))
    are_rounds zero (q ∷ done) merged = absurd (none_first 0 (range_with_len 1 n) merged.0.0 merged.0.1)
    are_rounds (suc p) (q ∷ done) merged =
        let rest = are_rounds p done (subst (λ (l : List (List Picture)). AreMerged (corners (suc n)) None l done) (one_fewer p ks) merged.1) in
        let round = merged.0.0 in
        let is : map parts_of round ≡ generated.round seed pictures (suc n) (length done) =
        is_round p ks round merged.0.1 ∙ ap (generated.round seed pictures (suc n)) (sym rest.0) in
        (ap suc rest.0, (subst (λ (r : List Parts). Passes (corners (suc n)) None r done q) is merged.0.2, rest.1))

    none_barred : GeneratedAreNotBarred → suc n ≤ 16 → pictures ≤ 1000 → (m : ℕ) → m < pictures → GoesOn (corners (suc n)) (firsts pictures ks) m
    none_barred not few short m low round done r last merged =
        let p : ℕ = pictures - suc m in
        let so_far = are_rounds p done (subst (λ (l : List (List Picture)). AreMerged (corners (suc n)) None l done) (all_before (suc m) p ks (omega (arith, low))) merged) in
        let last_ : lasts (firsts (suc p) ks) ≡ map (λ q. Some q) round =
        subst (λ (l : List (List Picture)). lasts l ≡ map (λ q. Some q) round) (all_before m (suc p) ks (omega (arith, low))) last in
        let is : map parts_of round ≡ generated.round seed pictures (suc n) (length done) =
        is_round p ks round last_ ∙ ap (generated.round seed pictures (suc n)) (sym so_far.0) in
        subst (λ (x : List Parts). ¬ IsBarred (corners (suc n)) None x done r) (sym is)
        (not seed pictures (suc n) done r (omega arith) few (omega (arith, so_far.0, short, low)) so_far.1)

-- ---- the law

pub can_be_tried : GeneratedAreRead → GeneratedAreNotBarred → GeneratedCanBeTried
can_be_tried read not R seed zero pictures of some few one short = absurd (omega (arith, some))
can_be_tried read not R seed (suc n) pictures of some few one short = record {
  read = pairs_below (λ stream ps. AreSourcePictures R stream ps None) (stream seed pictures) (planned seed pictures) 0 (suc n)
      (λ k low. read R seed pictures k of (omega (arith, low, few)) one short);
  same = (corners_there (suc n) some few).count ∙ sym (length-map-range_with_len (planned seed pictures) 0 (suc n));
  many = each_below (λ (ps : List Picture). length ps ≡ pictures) (planned seed pictures) 0 (suc n) (λ k low. so_many seed pictures k);
  slices = each_below (AllByRecursion HasSlices) (planned seed pictures) 0 (suc n) (λ k low. have_slices seed (start seed pictures k) k pictures);
  goes = none_barred seed pictures n not few short;
}
