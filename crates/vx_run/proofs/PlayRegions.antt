-- The regions in which words place files.
use Rattle.std.proofs.Common.{◌≡◌, ◌≢◌, ℕ, zero, suc, ◌+◌, ◌<◌, ◌≤◌, ◌==◌, ◌&&◌, List, [], ◌∷◌, ◌++◌, ◌∙◌, Bool, true, false, not, cond, length, map, get_or, take, inl, inr, sym, ap, refl, subst, arith}
use Rattle.std.specs.Prelude.{String}
use Rattle.std.specs.List.{AllByRecursion}
use Rattle.std.proofs.Math.ListN.{get_or-append}
use Rattle.std.proofs.Math.Seq.{take_all}
use Rattle.std.proofs.Math.Nat.{le-max_left, le-max_right, max-le}
use Rattle.std.proofs.lemmas.Bool.{cases_lt, eq-eqb, eqb-false, eqb-true, ne_eqb}
use Rattle.std.proofs.lemmas.List.{append-nil, append_assoc, length-append, take_more}
use Rattle.std.proofs.lemmas.List.Elements.{All-from_recursion}
use Rattle.std.proofs.lemmas.List.Folds.{position_or_len_push}
use Rattle.std.proofs.lemmas.List.Sums.{fails_before_first, passes_at_first, position_or_len_is, prefix_len-le-length}
use Rattle.vx_frame.specs.declared.corner.Corner.{Corner}
use Rattle.vx_frame.specs.Corners.{AreCorners, IsCorner}
use Rattle.vx_play.specs.Scheduled.{regions_counted}
use Rattle.vx_run.proofs.FileRegions.{itself}
use Rattle.vx_run.specs.Grammar.{Placing, IsPlacing, texts}
use Rattle.vx_run.specs.Merge.{corners_of}
use Rattle.vx_run.specs.Play.{is_corner, region_corners, region_at_corner, with_corner, with_corners}
use Rattle.vx_run.specs.Rounds.{most_sources}
use Rattle.vx_run.specs.inner.Placings.{IsPlacingWord, placing_in}
use Rattle.vx_run.specs.inner.Playing.{HasFound}
use Rattle.vx_run.proofs.Corners.{many_corners}
use Rattle.vx_run.proofs.PlacingWords.{words_read}

-- ---- the place of a corner

abbrev pub no_corner : Corner
no_corner = record { x = 0; y = 0 }

-- corners are compared in either order
same_way : (a b : ℕ) → (a == b) ≡ (b == a)
same_way a b = by_test (a == b) refl
  where
    by_test : (x : Bool) → (a == b) ≡ x → x ≡ (b == a)
    by_test true is = sym (eq-eqb b a (sym (eqb-true a b is)))
    by_test false is = sym (ne_eqb b a (λ same. eqb-false a b is (sym same)))

pub either_way : (c d : Corner) → is_corner c d ≡ is_corner d c
either_way c d = ap (λ (x : Bool). x && (c.y == d.y)) (same_way c.x d.x) ∙ ap (λ (y : Bool). (d.x == c.x) && y) (same_way c.y d.y)

-- it stays where more come behind
place_stays : (found more : List Corner) (c : Corner) → region_at_corner found c < length found → region_at_corner (found ++ more) c ≡ region_at_corner found c
place_stays found more c there =
    position_or_len_is (is_corner c) (found ++ more) (region_at_corner found c) no_corner (omega (arith, there, length-append found more))
    (λ k before. ap (is_corner c) (get_or-append found more no_corner k (omega (arith, before, there))) ∙ fails_before_first (is_corner c) found k no_corner before)
    (λ within. ap (is_corner c) (get_or-append found more no_corner (region_at_corner found c) there) ∙ passes_at_first (is_corner c) found no_corner there)

-- one that is new is the last
place_new : (found : List Corner) (c : Corner) → region_at_corner found c ≡ length found → region_at_corner (found ++ c ∷ []) c ≡ length found
place_new found c new = position_or_len_push (is_corner c) found c ∙ rw (new, eq-eqb (length found) (length found) refl, itself c) (omega arith)

-- ---- corners, each once

with_push : (found xs : List Corner) (c : Corner) → with_corners found (xs ++ c ∷ []) ≡ with_corner (with_corners found xs) c
with_push found [] c = refl
with_push found (x ∷ xs) c = with_push (with_corner found x) xs c

-- what is found stays in front
with_stays : (found : List Corner) (c : Corner) → (more : List Corner) × (with_corner found c ≡ found ++ more)
with_stays found c = by_test (region_at_corner found c == length found)
  where
    by_test : (b : Bool) → (more : List Corner) × (cond b (found ++ c ∷ []) found ≡ found ++ more)
    by_test true = (c ∷ [], refl)
    by_test false = ([], sym (append-nil found))

all_stay : (found xs : List Corner) → (more : List Corner) × (with_corners found xs ≡ found ++ more)
all_stay found [] = ([], sym (append-nil found))
all_stay found (x ∷ xs) =
    let one = with_stays found x in
    let rest = all_stay (with_corner found x) xs in
    (one.0 ++ rest.0, rest.1 ∙ ap (λ (l : List Corner). l ++ rest.0) one.1 ∙ append_assoc found one.0 rest.0)

pub no_fewer : (found xs : List Corner) → length found ≤ length (with_corners found xs)
no_fewer found xs = let more = all_stay found xs in omega (arith, ap (λ (l : List Corner). length l) more.1, length-append found more.0)

-- ---- the regions of corners that are found

regions_stay : (found more xs : List Corner) → AllByRecursion (λ x. region_at_corner found x < length found) xs → (map (region_at_corner (found ++ more)) xs ≡ map (region_at_corner found) xs) × AllByRecursion (λ x. region_at_corner (found ++ more) x < length (found ++ more)) xs
regions_stay found more [] all = (refl, tt)
regions_stay found more (x ∷ xs) all =
    let here = place_stays found more x all.0 in
    let rest = regions_stay found more xs all.1 in (
      ap (λ (r : ℕ). r ∷ map (region_at_corner (found ++ more)) xs) here ∙ ap (λ (l : List ℕ). region_at_corner found x ∷ l) rest.0,
      (omega (arith, here, all.0, length-append found more), rest.1),
    )

all_push : (P : Corner → Type 0) (xs : List Corner) (c : Corner) → AllByRecursion P xs → P c → AllByRecursion P (xs ++ c ∷ [])
all_push P [] c all one = (one, tt)
all_push P (x ∷ xs) c all one = (all.0, all_push P xs c all.1 one)

map_push : (f : Corner → ℕ) (xs : List Corner) (c : Corner) → map f (xs ++ c ∷ []) ≡ map f xs ++ f c ∷ []
map_push f [] c = refl
map_push f (x ∷ xs) c = ap (λ (l : List ℕ). f x ∷ l) (map_push f xs c)

count_most : (rs : List ℕ) (r n : ℕ) → regions_counted rs ≤ n → r < n → regions_counted (rs ++ r ∷ []) ≤ n
count_most [] r n most low = max-le (omega (arith, low)) (omega arith)
count_most (x ∷ rs) r n most low = max-le (omega (arith, most, le-max_left (x + 1) (regions_counted rs))) (count_most rs r n (omega (arith, most, le-max_right (x + 1) (regions_counted rs))) low)

count_least : (rs : List ℕ) (r : ℕ) → (regions_counted rs ≤ regions_counted (rs ++ r ∷ [])) × (r < regions_counted (rs ++ r ∷ []))
count_least [] r = (omega arith, omega (arith, le-max_left (r + 1) 0))
count_least (x ∷ rs) r =
    let rest = count_least rs r in (
      max-le (le-max_left (x + 1) (regions_counted (rs ++ r ∷ []))) (omega (arith, rest.0, le-max_right (x + 1) (regions_counted (rs ++ r ∷ [])))),
      omega (arith, rest.1, le-max_right (x + 1) (regions_counted (rs ++ r ∷ []))),
    )

-- ---- corner by corner

pub found_none : HasFound [] [] []
found_none = record { once = refl; each = refl; known = tt; count = refl }

module _ (xs found : List Corner) (files : List ℕ) (h : HasFound xs found files) (c : Corner) where
  -- one that is known
  pub found_known : region_at_corner found c < length found → HasFound (xs ++ c ∷ []) found (files ++ region_at_corner found c ∷ [])
  found_known known = record {
    once = sym (with_push [] xs c ∙ ap (λ (l : List Corner). with_corner l c) (sym h.once) ∙ same (region_at_corner found c == length found) (ne_eqb (region_at_corner found c) (length found) (λ is. omega (arith, is, known))));
    each = ap (λ (l : List ℕ). l ++ region_at_corner found c ∷ []) h.each ∙ sym (map_push (region_at_corner found) xs c);
    known = all_push (λ x. region_at_corner found x < length found) xs c h.known known;
    count =
        let least = count_least files (region_at_corner found c) in
        omega (arith, h.count, least.0, count_most files (region_at_corner found c) (length found) (omega (arith, h.count)) known);
  }
    where
      same : (b : Bool) → b ≡ false → cond b (found ++ c ∷ []) found ≡ found
      same false is = refl
      same true is = let no : true ≡ false = is in absurd (cc)

  -- one that is new
  pub found_new : region_at_corner found c ≡ length found → HasFound (xs ++ c ∷ []) (found ++ c ∷ []) (files ++ region_at_corner found c ∷ [])
  found_new new =
      let last = place_new found c new in
      let stay = regions_stay found (c ∷ []) xs h.known in
      let longer : length (found ++ c ∷ []) ≡ length found + 1 = length-append found (c ∷ []) in
      record {
        once = sym (with_push [] xs c ∙ ap (λ (l : List Corner). with_corner l c) (sym h.once) ∙ more (region_at_corner found c == length found) (eq-eqb (region_at_corner found c) (length found) new));
        each =
            ap (λ (l : List ℕ). l ++ region_at_corner found c ∷ []) (h.each ∙ sym stay.0)
            ∙ ap (λ (r : ℕ). map (region_at_corner (found ++ c ∷ [])) xs ++ r ∷ []) (new ∙ sym last)
            ∙ sym (map_push (region_at_corner (found ++ c ∷ [])) xs c);
        known = all_push (λ x. region_at_corner (found ++ c ∷ []) x < length (found ++ c ∷ [])) xs c stay.1 (omega (arith, last, longer));
        count =
            let least = count_least files (region_at_corner found c) in
            omega (arith, h.count, new, longer, least.1, count_most files (region_at_corner found c) (length found + 1) (omega (arith, h.count)) (omega (arith, new)));
      }
    where
      more : (b : Bool) → b ≡ true → cond b (found ++ c ∷ []) found ≡ found ++ c ∷ []
      more true is = refl
      more false is = let no : false ≡ true = is in absurd (cc)

-- one that is known or new
pub found_one : (xs found : List Corner) (files : List ℕ) → HasFound xs found files → (c : Corner) → HasFound (xs ++ c ∷ []) (with_corner found c) (files ++ region_at_corner found c ∷ [])
found_one xs found files h c = elim (cases_lt (region_at_corner found c) (length found)) [
  | inl known ↦ subst (λ (l : List Corner). HasFound (xs ++ c ∷ []) l (files ++ region_at_corner found c ∷ [])) (sym (kept (region_at_corner found c == length found) (ne_eqb (region_at_corner found c) (length found) (λ is. omega (arith, is, known))))) (found_known xs found files h c known)
  | inr not_ ↦
      let new : region_at_corner found c ≡ length found = omega (arith, not_, prefix_len-le-length (λ x. not (is_corner c x)) found) in
      subst (λ (l : List Corner). HasFound (xs ++ c ∷ []) l (files ++ region_at_corner found c ∷ [])) (sym (added (region_at_corner found c == length found) (eq-eqb (region_at_corner found c) (length found) new))) (found_new xs found files h c new)
]
  where
    kept : (b : Bool) → b ≡ false → cond b (found ++ c ∷ []) found ≡ found
    kept false is = refl
    kept true is = let no : true ≡ false = is in absurd (cc)

    added : (b : Bool) → b ≡ true → cond b (found ++ c ∷ []) found ≡ found ++ c ∷ []
    added true is = refl
    added false is = let no : false ≡ true = is in absurd (cc)

-- one more of all
pub found_at : (all : List Corner) (i : ℕ) (d : Corner) (found : List Corner) (files : List ℕ) → i < length all → HasFound (take i all ++ get_or all i d ∷ []) found files → HasFound (take (i + 1) all) found files
found_at all i d found files within h = subst (λ (l : List Corner). HasFound l found files) (sym (take_more all i d within)) h

-- there are no fewer corners in all
pub too_many_found : (all : List Corner) (i : ℕ) (d : Corner) (found : List Corner) (files : List ℕ) → i < length all → HasFound (take i all) found files → region_at_corner found (get_or all i d) ≡ length found → length found < length (with_corners [] all)
too_many_found all i d found files within h new =
    let next = found_at all i d (found ++ get_or all i d ∷ []) (files ++ region_at_corner found (get_or all i d) ∷ []) within (found_new (take i all) found files h (get_or all i d) new) in
    let more = whole all (i + 1) (omega (arith, within)) in
    omega (arith, ap (λ (l : List Corner). length l) next.once, more, length-append found (get_or all i d ∷ []))
  where
    whole : (xs : List Corner) (k : ℕ) → k ≤ length xs → length (with_corners [] (take k xs)) ≤ length (with_corners [] xs)
    whole xs k low = cut [] xs k
      where
        cut : (before ys : List Corner) (n : ℕ) → length (with_corners before (take n ys)) ≤ length (with_corners before ys)
        cut before ys zero = no_fewer before ys
        cut before [] (suc n) = omega arith
        cut before (y ∷ ys) (suc n) = cut (with_corner before y) ys n

-- what one more step comes to
pub found_next : (all : List Corner) (i : ℕ) (found more : List Corner) (files others : List ℕ) (r : ℕ) → i < length all → HasFound (take i all) found files → r ≡ region_at_corner found (get_or all i no_corner) → more ≡ with_corner found (get_or all i no_corner)
    → others ≡ files ++ r ∷ [] → HasFound (take (i + 1) all) more others
found_next all i found more files others r within h region corners pushed =
    let c = get_or all i no_corner in
    let one = found_one (take i all) found files h c in
    let numbered = subst (λ (fs : List ℕ). HasFound (take i all ++ c ∷ []) (with_corner found c) fs) (sym (pushed ∙ ap (λ (n : ℕ). files ++ n ∷ []) region)) one in
    let cornered = subst (λ (cs : List Corner). HasFound (take i all ++ c ∷ []) cs others) (sym corners) numbered in
    found_at all i no_corner more others within cornered

pub too_many_at : (all : List Corner) (i : ℕ) (found : List Corner) (files : List ℕ) (n : ℕ) → i < length all → HasFound (take i all) found files → n ≡ region_at_corner found (get_or all i no_corner) → length found ≤ n → n < length (with_corners [] all)
too_many_at all i found files n within h region few =
    let new : region_at_corner found (get_or all i no_corner) ≡ length found = omega (arith, region, few, prefix_len-le-length (λ x. not (is_corner (get_or all i no_corner) x)) found) in
    omega (arith, region, new, too_many_found all i no_corner found files within h new)

-- all were found
pub found_all : (all : List Corner) (i : ℕ) (found : List Corner) (files : List ℕ) → length all ≤ i → HasFound (take i all) found files → HasFound all found files
found_all all i found files past h = subst (λ (l : List Corner). HasFound l found files) (take_all i all past) h

-- their regions are those of the words
pub files_found : {all corners : List Corner} {regions : List ℕ} → HasFound all corners regions → regions ≡ map (region_at_corner (with_corners [] all)) all
files_found {all} h = h.each ∙ ap (λ (l : List Corner). map (region_at_corner l) all) h.once

-- ---- what a merger may have

with_all : (P : Corner → Type 0) (found xs : List Corner) → AllByRecursion P found → AllByRecursion P xs → AllByRecursion P (with_corners found xs)
with_all P found [] have all = have
with_all P found (x ∷ xs) have all = with_all P (with_corner found x) xs (one (region_at_corner found x == length found)) all.1
  where
    one : (b : Bool) → AllByRecursion P (cond b (found ++ x ∷ []) found)
    one true = all_push P found x have all.0
    one false = have

pub some_found : (x : Corner) (xs : List Corner) → 0 < length (with_corners [] (x ∷ xs))
some_found x xs = omega (arith, no_fewer (with_corner [] x) xs)

pub some_regions : (placings : List Placing) → (placings ≡ [] → ⊥) → 0 < length (region_corners placings)
some_regions [] some = absurd (some refl)
some_regions (p ∷ placings) some = some_found (record { x = p.x; y = p.y }) (corners_of placings)

-- there are no more of them than these, where the corner isn't one more
pub no_more_found : (found : List Corner) (c : Corner) (n : ℕ) → length found ≤ n → region_at_corner found c ≢ n → length (with_corner found c) ≤ n
no_more_found found c n few other = by_test (region_at_corner found c == length found) refl
  where
    by_test : (b : Bool) → (region_at_corner found c == length found) ≡ b → length (cond b (found ++ c ∷ []) found) ≤ n
    by_test false is = few
    by_test true is =
        let last : region_at_corner found c ≡ length found = eqb-true (region_at_corner found c) (length found) is in
        let below : length found ≢ n = λ all. other (last ∙ all) in
        omega (arith, length-append found (c ∷ []), few, below)

placed_each : (placings : List Placing) → AllByRecursion IsPlacing placings → AllByRecursion IsCorner (corners_of placings)
placed_each [] all = tt
placed_each (p ∷ placings) all = ((omega (arith, all.0.0), omega (arith, all.0.1)), placed_each placings all.1)

pub found_corners : {A : Type 0} (words : List (String A)) (corners : List Corner) → AllByRecursion IsPlacingWord (texts words) → 0 < length words
    → corners ≡ region_corners (map placing_in (texts words)) → length corners ≤ most_sources → AreCorners corners
found_corners words corners all some is few = subst AreCorners (sym is) (record {
  some = some_regions placings (λ none. omega (arith, some, many_corners words, ap (λ (ps : List Placing). length (corners_of ps)) none));
  few = omega (arith, few, ap (λ (cs : List Corner). length cs) is);
  each = All-from_recursion IsCorner (region_corners placings) (with_all IsCorner [] (corners_of placings) tt (placed_each placings (words_read (texts words) all).1));
})
  where
    placings : List Placing
    placings = map placing_in (texts words)
