-- What is written of generated pictures, round by round, is a merge of their streams.
use Rattle.std.proofs.Common.{◌≡◌, ℕ, zero, suc, ◌+◌, ◌*◌, ◌≤◌, List, [], ◌∷◌, length, map, take, Some, None, refl, ap, sym, subst, ◌∙◌, arith}
use Rattle.std.specs.Prelude.{All, nat_le}
use Rattle.std.specs.List.{AllByRecursion, range_with_len}
use Rattle.std.proofs.lemmas.List.Elements.{All-map, All-weaker}
use Rattle.std.proofs.lemmas.List.FromFn.{length-map-range_with_len}
use Rattle.vx_annexb.specs.ByteStream.{UnitPlace, source_limit, unit_bytes}
use Rattle.vx_annexb.specs.Laws.{CanStand, HoldsNoCode, UnitsCanStand}
use Rattle.vx_pic.specs.Bytes.{AreSourcePictures, units_at}
use Rattle.vx_pic.specs.H266.{AreOfH266}
use Rattle.vx_pic.specs.Parts.{parts_of}
use Rattle.vx_pic.specs.Readings.{Picture}
use Rattle.vx_pic.specs.Resident.{planned_of, readings_of_plans}
use Rattle.vx_pic.specs.Rules.{Readers}
use Rattle.vx_pic.specs.Written.{Plan, planned as planned_picture}
use Rattle.vx_merge.specs.Merging.{Passes}
use Rattle.vx_again.specs.Sources.{CanBeMerged, PicturesCanBeMerged}
use Rattle.vx_again.specs.Streams.{AreMerged, earlier, lasts}
use Rattle.vx_again.specs.Whole.{MergeIsReadAgain}
use Rattle.vx_gen.specs.Laws.{GeneratedAreRead}
use Rattle.vx_gen.specs.Merges.{GeneratedAreMerged}
use Rattle.vx_gen.specs.Pictures.{plan, plans}
use Rattle.vx_gen.specs.Rounds.{AreGeneratedRounds, corners, planned}
use Rattle.vx_gen.specs.Shown.{generated_parts}
use Rattle.vx_gen.specs.Streams.{stream}
use Rattle.vx_gen.proofs.InOrder.{corners_there}
use Rattle.vx_gen.proofs.Seen.{one_shown}

-- ---- the streams up to a round

module _ (seed pictures : ℕ) where
  -- the first pictures of source k, so many, and the one behind them
  abbrev upto : (m k : ℕ) → List Picture
  upto m k = planned_of (plans seed (5 * (k * pictures)) k m)

  abbrev behind : (m k : ℕ) → Picture
  behind m k = planned_picture (readings_of_plans (plans seed (5 * (k * pictures)) k m)) (plan seed (5 * (k * pictures) + 5 * m) k m)

  none_first : (a n : ℕ) → AllByRecursion (λ ps. ps ≡ []) (map (upto 0) (range_with_len a n))
  none_first a zero = tt
  none_first a (suc n) = (refl, none_first (a + 1) n)

  lasts_are : (m a n : ℕ) → lasts (map (upto (suc m)) (range_with_len a n)) ≡ map (λ q. Some q) (map (behind m) (range_with_len a n))
  lasts_are m a zero = refl
  lasts_are m a (suc n) = ap (λ qs. Some (behind m a) ∷ qs) (lasts_are m (a + 1) n)

  earlier_are : (m a n : ℕ) → earlier (map (upto (suc m)) (range_with_len a n)) ≡ map (upto m) (range_with_len a n)
  earlier_are m a zero = refl
  earlier_are m a (suc n) = ap (λ qs. upto m a ∷ qs) (earlier_are m (a + 1) n)

  parts_are : (m a n : ℕ) → map parts_of (map (behind m) (range_with_len a n)) ≡ map (λ k. generated_parts seed (5 * (k * pictures) + 5 * m) k m) (range_with_len a n)
  parts_are m a zero = refl
  parts_are m a (suc n) = λ j. one_shown seed (5 * (a * pictures)) a m j ∷ parts_are m (a + 1) n j

  pub are_merged : (n : ℕ) (done : List Plan) → AreGeneratedRounds seed pictures n done → AreMerged (corners n) None (map (upto (length done)) (range_with_len 0 n)) done
  are_merged n [] are = none_first 0 n
  are_merged n (p ∷ done) (passes, are) =
      let m : ℕ = length done in (
        (map (behind m) (range_with_len 0 n), lasts_are m 0 n, subst (λ qs. Passes (corners n) None qs done p) (sym (parts_are m 0 n)) passes),
        subst (λ sources. AreMerged (corners n) None sources done) (sym (earlier_are m 0 n)) (are_merged n done are),
      )

-- ---- whole streams

-- pictures of a source can be merged
source_can : UnitsCanStand → PicturesCanBeMerged → (R : Readers) → AreOfH266 R → (b : List ℕ) (ps : List Picture) → AreSourcePictures R b ps None → CanBeMerged R ps
source_can stand can R of b ps are =
    let bytes : List ℕ = take source_limit b in
    let units : List (List ℕ) = units_at bytes are.places in
    let each = stand bytes (nat_le (length b) source_limit) 0 are.places are.stream.follow in
    let all : All CanStand units = All-map CanStand (unit_bytes bytes) are.places
    (All-weaker (λ (u : UnitPlace). CanStand (unit_bytes bytes u) × HoldsNoCode (unit_bytes bytes u)) (λ (u : UnitPlace). CanStand (unit_bytes bytes u)) (λ (u : UnitPlace) h. h.0) are.places each) in
    subst (CanBeMerged R) (sym are.done) (can R units of all)

module _ (read : GeneratedAreRead) (stand : UnitsCanStand) (can : PicturesCanBeMerged) (R : Readers) (of : AreOfH266 R) (seed pictures : ℕ)
    (some : 1 ≤ pictures) (few : pictures ≤ 1000) where
  each_can : (a n : ℕ) → a + n ≤ 16 → AllByRecursion (CanBeMerged R) (map (planned seed pictures) (range_with_len a n))
  each_can a zero low = tt
  each_can a (suc n) low = (
    source_can stand can R of (stream seed pictures a) (planned seed pictures a) (read R seed pictures a of (omega (arith, low)) some few),
    each_can (a + 1) n (omega (arith, low)),
  )

pub read_again : GeneratedAreRead → UnitsCanStand → PicturesCanBeMerged → MergeIsReadAgain → GeneratedAreMerged
read_again read stand can again R seed pictures n done of one low some few same are =
    let there = corners_there n one low in
    again R (corners n) None (map (planned seed pictures) (range_with_len 0 n)) done of (record {
      are = there.are;
      same = there.count ∙ sym (length-map-range_with_len (planned seed pictures) 0 n);
      can = each_can read stand can R of seed pictures some few 0 n (omega (arith, low));
      merged = subst (λ m. AreMerged (corners n) None (map (upto seed pictures m) (range_with_len 0 n)) done) same (are_merged seed pictures n done are);
    })
