-- The corners that words name, and where a command stops.
use Rattle.std.proofs.Common.{◌≡◌, ℕ, ◌<◌, ◌≤◌, List, [], ◌∷◌, Option, Some, None, Result, Ok, Err, length, map, refl, arith}
use Rattle.std.specs.Prelude.{All, OnOk, IsSome, MatchOption, String, string_bytes}
use Rattle.std.specs.List.{AllByRecursion}
use Rattle.std.proofs.lemmas.List.{length-map}
use Rattle.std.proofs.lemmas.List.Elements.{All-nil, All-cons}
use Rattle.std.proofs.lemmas.Option.{MatchOption-at_some}
use Rattle.vx_annexb.specs.ByteStream.{UnitPlace}
use Rattle.vx_pic.specs.Readings.{Reading}
use Rattle.vx_pic.specs.Rules.{Readers}
use Rattle.vx_assemble.specs.declared.feed.FeedFault.{FeedFault}
use Rattle.vx_assemble.specs.declared.feed.FeedFault.TheVariants as faults
use Rattle.vx_assemble.specs.Feed.{Feeding, Advances}
use Rattle.vx_write.specs.declared.fault.WriteError.{WriteError}
use Rattle.vx_write.specs.declared.fault.WriteError.TheVariants as errors
use Rattle.vx_write.specs.declared.fault.WriteFirst.{WriteFirst}
use Rattle.vx_frame.specs.Corners.{IsCorner, AreCorners}
use Rattle.vx_run.specs.declared.stop.Stop.{Stop}
use Rattle.vx_run.specs.declared.stop.Stop.TheVariants.{NotUnderstood, Mismatched, Refused, ReadFault, WriteFault, NoMemory}
use Rattle.vx_run.specs.declared.placings.Placing.{Placing as Placed}
use Rattle.vx_run.specs.Conclusion.{Outcome, IsOfCommand}
use Rattle.vx_run.specs.Grammar.{Placing, IsPlacing, texts}
use Rattle.vx_run.specs.Rounds.{most_sources, too_many}
use Rattle.vx_run.specs.Merge.{corner_of, corners_of}
use Rattle.vx_run.specs.inner.Advancing.{AdvancesOf}
use Rattle.vx_run.specs.inner.Stopping.{ComesOf, stop_of_feed, stop_of_write}
use Rattle.vx_run.specs.inner.Placings.{placing_in, IsPlacingWord}
use Rattle.vx_run.proofs.PlacingWords.{words_read}

-- ---- corners

-- as many as words
pub many_placed : {A X : Type 0} (f : Placing → X) (words : List (String A)) → length (map f (map placing_in (texts words))) ≡ length words
many_placed {A = A} f words = omega (arith, length-map (map placing_in (texts words)) f, length-map (texts words) placing_in, length-map words (string_bytes {Z = A}))

pub many_corners : {A : Type 0} (words : List (String A)) → length (corners_of (map placing_in (texts words))) ≡ length words
many_corners words = many_placed corner_of words

placed_corners : (ps : List Placing) → AllByRecursion IsPlacing ps → All IsCorner (corners_of ps)
placed_corners [] all = All-nil IsCorner
placed_corners (p ∷ ps) all =
    let here : IsCorner (corner_of p) = (omega (arith, all.0.0), omega (arith, all.0.1)) in
    All-cons IsCorner (corner_of p) (corners_of ps) here (placed_corners ps all.1)

-- a merge may have them
pub are_corners : {A : Type 0} (words : List (String A)) → AllByRecursion IsPlacingWord (texts words) → 0 < length words → length words ≤ most_sources → AreCorners (corners_of (map placing_in (texts words)))
are_corners words all some few = record {
  some = omega (arith, many_corners words, some);
  few = omega (arith, many_corners words, few);
  each = placed_corners (map placing_in (texts words)) (words_read (texts words) all).1;
}

-- what an answer says
pub placed_some : (r : Option Placed) (P : Type 0) (Q : Placed → Type 0) → MatchOption r (P → ⊥) Q → P → IsSome r
placed_some None P Q h p = absurd (h p)
placed_some (Some x) P Q h p = refl

pub placed_so : (r : Option Placed) (P : Type 0) (Q : Placed → Type 0) (x : Placed) → r ≡ Some x → MatchOption r (P → ⊥) Q → Q x
placed_so r P Q x is h = MatchOption-at_some _ _ x is h

pub on_ok : {A E : Type 0} (r : Result A E) (P : Type 0) → P → OnOk r P
on_ok (Ok a) P p = p
on_ok (Err e) P p = tt

-- ---- where a command stops

pub too_many_stop : (stop : Stop) → (let o : Outcome = Err stop in o) ≡ too_many → IsOfCommand stop
too_many_stop NotUnderstood is = absurd (cc)
too_many_stop (Mismatched x y) is = tt
too_many_stop (Refused r place) is = tt
too_many_stop (ReadFault k) is = tt
too_many_stop WriteFault is = tt
too_many_stop NoMemory is = tt

pub advanced_from : (k : ℕ) (R : Readers) (g : List ℕ) (units : List UnitPlace) (readings : List Reading) (f : Feeding) {l l' : Option (List ℕ)} {n n' : ℕ} (fault : FeedFault)
    → Advances R g units readings f l l' n n' (Err fault) → AdvancesOf k R g units readings f l l' n n' (Err (stop_of_feed fault k f.units))
advanced_from k R g units readings f (faults.Refused r) by = (by, refl)
advanced_from k R g units readings f faults.SourceFailed by = (by, refl)
advanced_from k R g units readings f faults.Memory by = by
advanced_from k R g units readings f (faults.Stopped first) by = absurd by.behind

pub comes_of : (Answers : Result (Unit {0}) WriteError → Type 0) → ((f : WriteFirst) → Answers (Err (errors.Stopped f)) → ⊥) → (n : ℕ) (error : WriteError) → Answers (Err error) → ComesOf Answers n (Err (stop_of_write error n))
comes_of Answers going n (errors.Refused r) by = (by, refl)
comes_of Answers going n errors.SinkFailed by = by
comes_of Answers going n errors.Memory by = by
comes_of Answers going n (errors.Stopped f) by = absurd (going f by)
