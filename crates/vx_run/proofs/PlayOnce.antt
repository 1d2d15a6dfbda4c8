-- What is played ends once.
use Rattle.std.proofs.Common.{◌≡◌, ℕ, List, [], ◌∷◌, ◌∙◌, Option, Some, None, Bool, cond, length, inl, inr, sym, ap, arith}
use Rattle.std.proofs.lemmas.Option.{same_Some}
use Rattle.vx_bits.specs.declared.refusal.Refusal.{Refusal}
use Rattle.vx_pic.specs.Parts.{Parts}
use Rattle.vx_pic.specs.Written.{Plan}
use Rattle.vx_frame.specs.declared.corner.Corner.{Corner}
use Rattle.vx_frame.specs.Verdict.{Rule}
use Rattle.vx_merge.specs.Joins.{IsBarredWhere, join_start}
use Rattle.vx_merge.specs.Written.{MergedIsOne}
use Rattle.vx_run.specs.declared.stop.Place.TheVariants as places
use Rattle.vx_run.specs.declared.stop.Stop.{Stop}
use Rattle.vx_run.specs.declared.stop.Stop.TheVariants.{Refused}
use Rattle.vx_run.specs.Play.{ArePlayedOf, PassesWhere, PlayEndsOnce, is_join, marked, play_telling, refused_file, region_streams}
use Rattle.vx_play.specs.Scheduled.{files_of_region}
use Rattle.vx_frame.proofs.Verdicts.{verdict_one}
use Rattle.vx_run.proofs.Once.{barred_once, ends_at_one, passes_or_barred, same_plan}
use Rattle.vx_run.proofs.RegionRounds.{many_streams}

module _ (one : MergedIsOne) (corners : List Corner) (level : Option ℕ) (joins : ℕ → Bool) where
  -- the rule that is tried first where a round is joined
  abbrev first_rule : Bool → List Parts → List Rule
  first_rule b round = cond b (join_start round ∷ []) []

  -- a round passes, or is barred by one thing
  passes_or : (b : Bool) (round : List Parts) (done : List Plan) (p : Plan) (r : Refusal) → PassesWhere b corners level round done p → IsBarredWhere b corners level round done r → ⊥
  passes_or b round done p r passes (inl first) =
      let no : (let o : Option Refusal = None in o) ≡ Some r = verdict_one (length corners) (first_rule b round) None (Some r) passes.starts first in
      absurd (cc)
  passes_or b round done p r passes (inr other) = passes_or_barred one corners level round done p r passes.passes other.1

  barred_by_one : (b : Bool) (round : List Parts) (done : List Plan) (r t : Refusal) → IsBarredWhere b corners level round done r → IsBarredWhere b corners level round done t → r ≡ t
  barred_by_one b round done r t (inl first) (inl other) = same_Some r t (verdict_one (length corners) (first_rule b round) (Some r) (Some t) first other)
  barred_by_one b round done r t (inl first) (inr other) =
      let no : (let o : Option Refusal = None in o) ≡ Some r = verdict_one (length corners) (first_rule b round) None (Some r) other.0 first in
      absurd (cc)
  barred_by_one b round done r t (inr first) (inl other) =
      let no : (let o : Option Refusal = None in o) ≡ Some t = verdict_one (length corners) (first_rule b round) None (Some t) first.0 other in
      absurd (cc)
  barred_by_one b round done r t (inr first) (inr other) = barred_once one corners level round done r t first.1 other.1

  abbrev Tells : (ℕ → ℕ) → List Plan → ℕ → List Parts → Stop → Type 0
  Tells refused done n round stop = (play_telling corners level joins refused done).of_round n round stop

  told_none : (refused : ℕ → ℕ) (done : List Plan) (n : ℕ) (round : List Parts) (p : Plan) → PassesWhere (joins n) corners level (marked (joins n) round) done p → (stop : Stop) → Tells refused done n round stop → ⊥
  told_none refused done n round p passes stop told = passes_or (joins n) (marked (joins n) round) done p told.0 passes told.1

  told_once : (refused : ℕ → ℕ) (done : List Plan) (n : ℕ) (round : List Parts) (a b : Stop) → Tells refused done n round a → Tells refused done n round b → a ≡ b
  told_once refused done n round a b told tells =
      told.2 ∙ ap (λ (r : Refusal). Refused r (places.Picture n)) (barred_by_one (joins n) (marked (joins n) round) done told.0 tells.0 told.1 tells.1) ∙ sym tells.2

pub play_once : MergedIsOne → PlayEndsOnce
play_once one corners level regions files done other a b some p q =
    let joins : ℕ → Bool = is_join (length corners) regions files in
    let refused : ℕ → ℕ = λ k. refused_file files (files_of_region regions k) in
    ends_at_one (region_streams (length corners) regions files) (omega (arith, some, many_streams (length corners) regions files))
    (λ n round rest x. PassesWhere (joins n) corners level (marked (joins n) round) rest x) (ArePlayedOf corners level regions files) (λ x rest are. are)
    (λ n round rest x y passes others. same_plan one corners level (marked (joins n) round) rest x y passes.passes.is others.passes.is)
    (play_telling corners level joins refused) (λ rest. told_none one corners level joins refused rest (length rest)) (λ rest. told_once one corners level joins refused rest (length rest))
    done other a b p q
