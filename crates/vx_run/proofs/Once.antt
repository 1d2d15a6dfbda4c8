-- A command over several sources ends once, and so does a merge.
use Rattle.std.proofs.Common.{◌≡◌, ℕ, ◌<◌, ◌⊎◌, List, [], ◌∷◌, ◌∙◌, Option, Some, None, Ok, Err, length, map, slice_get, inl, inr, sym, ap, refl, subst, arith}
use Rattle.std.specs.Prelude.{option_map, reverse}
use Rattle.std.proofs.lemmas.Bool.{cases_lt}
use Rattle.std.proofs.lemmas.List.{length-reverse}
use Rattle.std.proofs.lemmas.Option.{slice_get_within, slice_get-map, same_Some}
use Rattle.vx_bits.specs.declared.refusal.Refusal.{Refusal}
use Rattle.vx_pic.specs.Readings.{Picture}
use Rattle.vx_pic.specs.Bytes.{Ending}
use Rattle.vx_pic.specs.Parts.{Parts, parts_of}
use Rattle.vx_pic.specs.Written.{Plan}
use Rattle.vx_frame.specs.declared.corner.Corner.{Corner}
use Rattle.vx_frame.specs.Rules.{rules_of}
use Rattle.vx_frame.specs.Verdict.{IsVerdict}
use Rattle.vx_frame.proofs.Verdicts.{verdict_one}
use Rattle.vx_merge.specs.Merging.{Passes, IsBarred}
use Rattle.vx_merge.specs.Written.{IsMerged, MergedIsOne, limits_of}
use Rattle.vx_run.specs.declared.stop.Place.TheVariants as places
use Rattle.vx_run.specs.declared.stop.Stop.{Stop}
use Rattle.vx_run.specs.declared.stop.Stop.TheVariants.{Refused}
use Rattle.vx_run.specs.Conclusion.{Outcome}
use Rattle.vx_run.specs.Rounds.{Stream, picture_in, GoesOn, HasEnded, IsRefusedStream, OfStream, IsRound, NoneRefused, Telling, StopsIn, by_stream, by_length, by_round, EndsIn, AllEnded}
use Rattle.vx_run.specs.Merge.{AreRoundsWritten, merge_telling, EndsOnce}
use Rattle.vx_run.proofs.Indexed.{some_at}

-- ---- lists

some_once : {A : Type 0} (xs ys : List A) → map (λ (x : A). let o : Option A = Some x in o) xs ≡ map (λ (x : A). let o : Option A = Some x in o) ys → xs ≡ ys
some_once [] [] same = refl
some_once [] (y ∷ ys) same = absurd (omega (arith, ap (λ l. length l) same))
some_once (x ∷ xs) [] same = absurd (omega (arith, ap (λ l. length l) same))
some_once {A = A} (x ∷ xs) (y ∷ ys) same =
    let head : (let o : Option A = Some x in o) ≡ Some y = cc in
    let rest : map (λ (z : A). let o : Option A = Some z in o) xs ≡ map (λ (z : A). let o : Option A = Some z in o) ys = cc in
    ap (λ (z : A). z ∷ xs) (same_Some x y head) ∙ ap (λ (l : List A). y ∷ l) (some_once xs ys rest)

-- ---- what a stream does behind n pictures

goes_or_ends : (n : ℕ) (s : Stream) → GoesOn n s → HasEnded n s → ⊥
goes_or_ends n s goes ends = omega (arith, goes, ends.0)

goes_or_refused : (n : ℕ) (e : Ending) (s : Stream) → GoesOn n s → IsRefusedStream n e s → ⊥
goes_or_refused n e s goes refused = omega (arith, goes, refused.0)

ends_or_refused : (n : ℕ) (e : Ending) (s : Stream) → HasEnded n s → IsRefusedStream n e s → ⊥
ends_or_refused n e s ends refused = let no = sym ends.1 ∙ refused.1 in absurd (cc)

kept_or_refused : (n : ℕ) (e : Ending) (s : Stream) → GoesOn n s ⊎ HasEnded n s → IsRefusedStream n e s → ⊥
kept_or_refused n e s (inl goes) refused = goes_or_refused n e s goes refused
kept_or_refused n e s (inr ends) refused = ends_or_refused n e s ends refused

-- at one index stands one stream
same_stream : (ss : List Stream) (k : ℕ) (s t : Stream) → slice_get ss k ≡ Some s → slice_get ss k ≡ Some t → s ≡ t
same_stream ss k s t p q = same_Some s t (sym p ∙ q)

-- ---- rounds

mapped : (o : Option Picture) (q : Parts) → option_map parts_of o ≡ Some q → (p : Picture) × (o ≡ Some p)
mapped None q is = absurd (cc)
mapped (Some p) q is = (p, refl)

pub round_there : (ss : List Stream) (n : ℕ) (round : List Parts) (k : ℕ) (s : Stream) → IsRound ss n round → slice_get ss k ≡ Some s → GoesOn n s
round_there ss n round k s is at =
    let f : Stream → Option Parts = λ t. option_map parts_of (picture_in n t) in
    let g : Parts → Option Parts = λ q. Some q in
    let here : slice_get (map f ss) k ≡ Some (f s) = slice_get-map f ss k ∙ ap (option_map f) at in
    let there : option_map g (slice_get round k) ≡ Some (f s) = sym (slice_get-map g round k) ∙ ap (λ (l : List (Option Parts)). slice_get l k) (sym is) ∙ here in
    some_goes (slice_get round k) (f s) there refl
  where
    some_goes : (o : Option Parts) (r : Option Parts) → option_map (λ (q : Parts). let x : Option Parts = Some q in x) o ≡ Some r → r ≡ option_map parts_of (picture_in n s) → GoesOn n s
    some_goes None r is_ same = absurd (cc)
    some_goes (Some q) r is_ same =
        let it : (let x : Option Parts = Some q in x) ≡ r = same_Some _ r is_ in
        let m = mapped (picture_in n s) q (sym same ∙ sym it) in
        omega (arith, slice_get_within (reverse s.pictures) n m.0 m.1, length-reverse s.pictures)

-- the same round of streams
pub same_round : (ss : List Stream) (n m : ℕ) (round other : List Parts) → n ≡ m → IsRound ss n round → IsRound ss m other → round ≡ other
same_round ss n m round other same is are = some_once round other (sym is ∙ subst (λ (i : ℕ). IsRound ss i other) (sym same) are)

-- ---- whatever is told

module _ (t : Telling) (ss : List Stream) (some : 0 < length ss) where
  -- where a round is whole and nothing is told of it, it doesn't end there
  stops_there : (n : ℕ) (round : List Parts) → IsRound ss n round → ((stop : Stop) → t.of_round n round stop → ⊥) → (stop : Stop) → StopsIn t ss n stop → ⊥
  stops_there n round is passes stop (by_stream k e of none told) = goes_or_refused n e of.0 (round_there ss n round k of.0 is of.1) of.2
  stops_there n round is passes stop (by_length k none lowest goes told) = goes_or_ends n lowest.breaks.0 (round_there ss n round k lowest.breaks.0 is lowest.breaks.1) lowest.breaks.2
  stops_there n round is passes stop (by_round other are told) = passes stop (subst (λ (l : List Parts). t.of_round n l stop) (same_round ss n n other round refl are is) told)

  pub ends_there : (n : ℕ) (round : List Parts) → IsRound ss n round → ((stop : Stop) → t.of_round n round stop → ⊥) → (a : Outcome) → EndsIn t ss n a → ⊥
  ends_there n round is passes (Ok _) all = let s = some_at ss 0 some in goes_or_ends n s.0 (round_there ss n round 0 s.0 is s.1) (all 0 s.0 some s.1)
  ends_there n round is passes (Err stop) stops = stops_there n round is passes stop stops

  -- where all have ended nothing is told
  done_or_stopped : (n : ℕ) (stop : Stop) → AllEnded ss n → StopsIn t ss n stop → ⊥
  done_or_stopped n stop all (by_stream k e of none told) = ends_or_refused n e of.0 (all k of.0 (slice_get_within ss k of.0 of.1) of.1) of.2
  done_or_stopped n stop all (by_length k none lowest goes told) =
      let other = goes.1 in
      goes_or_ends n other.0 other.2 (all goes.0 other.0 (slice_get_within ss goes.0 other.0 other.1) other.1)
  done_or_stopped n stop all (by_round round is told) = let s = some_at ss 0 some in goes_or_ends n s.0 (round_there ss n round 0 s.0 is s.1) (all 0 s.0 some s.1)

  -- the first stream that is refused is one
  stream_first : (n j k : ℕ) (e : Ending) → NoneRefused k ss n → OfStream ss j (IsRefusedStream n e) → j < k → ⊥
  stream_first n j k e none of before = kept_or_refused n e of.0 (none j of.0 before of.1) of.2

  same_ending : (n j k : ℕ) (e d : Ending) → OfStream ss j (IsRefusedStream n e) → OfStream ss k (IsRefusedStream n d) → j ≡ k → e ≡ d
  same_ending n j k e d of other same =
      let s = same_stream ss k of.0 other.0 (subst (λ (i : ℕ). slice_get ss i ≡ Some of.0) same of.1) other.1 in
      same_Some e d (sym of.2.1 ∙ ap (λ (s_ : Stream). s_.ending) s ∙ other.2.1)

  -- where one thing is told of each round, one is told
  module _ (n : ℕ) (one : (round : List Parts) (a b : Stop) → t.of_round n round a → t.of_round n round b → a ≡ b) where
    stopped_once : (a b : Stop) → StopsIn t ss n a → StopsIn t ss n b → a ≡ b
    stopped_once a b (by_stream j e of none is) (by_stream k d other first are) = elim (cases_lt j k) [
      | inl before ↦ absurd (stream_first n j k e first of before)
      | inr behind ↦ elim (cases_lt k j) [
        | inl after ↦ absurd (stream_first n k j d none other after)
        | inr not_ ↦
            let same : j ≡ k = omega (arith, behind, not_) in
            is ∙ ap (λ (i : ℕ). t.of_stream i e) same ∙ ap (λ (x : Ending). t.of_stream k x) (same_ending n j k e d of other same) ∙ sym are
      ]
    ]
    stopped_once a b (by_stream j e of none is) (by_length k first lowest goes are) = absurd (stream_first n j (length ss) e first of (slice_get_within ss j of.0 of.1))
    stopped_once a b (by_stream j e of none is) (by_round round are told) = absurd (goes_or_refused n e of.0 (round_there ss n round j of.0 are of.1) of.2)
    stopped_once a b (by_length j none lowest goes is) (by_stream k d other first are) = absurd (stream_first n k (length ss) d none other (slice_get_within ss k other.0 other.1))
    stopped_once a b (by_length j none lowest goes is) (by_length k first other going are) = elim (cases_lt j k) [
      | inl before ↦ absurd (other.lower j before lowest.breaks)
      | inr behind ↦ elim (cases_lt k j) [
        | inl after ↦ absurd (lowest.lower k after other.breaks)
        | inr not_ ↦ let same : j ≡ k = omega (arith, behind, not_) in is ∙ ap (λ (i : ℕ). t.of_length n i) same ∙ sym are
      ]
    ]
    stopped_once a b (by_length j none lowest goes is) (by_round round are told) = absurd (goes_or_ends n lowest.breaks.0 (round_there ss n round j lowest.breaks.0 are lowest.breaks.1) lowest.breaks.2)
    stopped_once a b (by_round round is told) (by_stream k d other first are) = absurd (goes_or_refused n d other.0 (round_there ss n round k other.0 is other.1) other.2)
    stopped_once a b (by_round round is told) (by_length k first other going are) = absurd (goes_or_ends n other.breaks.0 (round_there ss n round k other.breaks.0 is other.breaks.1) other.breaks.2)
    stopped_once a b (by_round round is told) (by_round next are tells) = one next a b (subst (λ (l : List Parts). t.of_round n l a) (same_round ss n n round next refl is are) told) tells

    pub ends_alike : (a b : Outcome) → EndsIn t ss n a → EndsIn t ss n b → a ≡ b
    ends_alike (Ok _) (Ok _) p q = refl
    ends_alike (Ok _) (Err stop) p q = absurd (done_or_stopped n stop p q)
    ends_alike (Err stop) (Ok _) p q = absurd (done_or_stopped n stop q p)
    ends_alike (Err a) (Err b) p q = ap (λ (s : Stop). let o : Outcome = Err s in o) (stopped_once a b p q)

-- ---- rounds that are written, whatever is asked of them

module _ (ss : List Stream) (some : 0 < length ss) (P : ℕ → List Parts → List Plan → Plan → Type 0) (Are : List Plan → Type 0)
    (latest : (p : Plan) (done : List Plan) → Are (p ∷ done) → ((round : List Parts) × IsRound ss (length done) round × P (length done) round done p) × Are done)
    (one : (n : ℕ) (round : List Parts) (done : List Plan) (p q : Plan) → P n round done p → P n round done q → p ≡ q) where
  -- as many rounds are written in one way
  plans_once : (done other : List Plan) → length done ≡ length other → Are done → Are other → done ≡ other
  plans_once [] [] same is are = refl
  plans_once [] (q ∷ other) same is are = absurd (omega (arith, same))
  plans_once (p ∷ done) [] same is are = absurd (omega (arith, same))
  plans_once (p ∷ done) (q ∷ other) same is are =
      let x = latest p done is in
      let y = latest q other are in
      let many : length done ≡ length other = omega (arith, same) in
      let rest = plans_once done other many x.1 y.1 in
      let round = same_round ss (length done) (length other) x.0.0 y.0.0 many x.0.1 y.0.1 in
      let moved = subst (λ (n : ℕ). P n y.0.0 other p) many (subst (λ (l : List Plan). P (length done) y.0.0 l p) rest (subst (λ (l : List Parts). P (length done) l done p) round x.0.2)) in
      ap (λ (z : Plan). z ∷ done) (one (length other) y.0.0 other p q moved y.0.2) ∙ ap (λ (l : List Plan). q ∷ l) rest

  -- the first of them
  first_written : (n : ℕ) (done : List Plan) → n < length done → Are done → (p : Plan) × (first : List Plan) × (length first ≡ n) × Are (p ∷ first)
  first_written n [] before are = absurd (omega (arith, before))
  first_written n (p ∷ done) before are = elim (cases_lt n (length done)) [
    | inl earlier ↦ first_written n done earlier (latest p done are).1
    | inr not_ ↦ (p, done, omega (arith, before, not_), are)
  ]

  -- one thing is told behind them, and nothing where one more is written
  module _ (t : List Plan → Telling) (none : (done : List Plan) (round : List Parts) (p : Plan) → P (length done) round done p → (stop : Stop) → (t done).of_round (length done) round stop → ⊥)
      (told : (done : List Plan) (round : List Parts) (a b : Stop) → (t done).of_round (length done) round a → (t done).of_round (length done) round b → a ≡ b) where
    abbrev Ends : List Plan → Outcome → Type 0
    Ends done a = Are done × EndsIn (t done) ss (length done) a

    ends_before : (done other : List Plan) (a : Outcome) → Ends done a → Are other → length done < length other → ⊥
    ends_before done other a ends are before =
        let f = first_written (length done) other before are in
        let same = plans_once f.1 done f.2 (latest f.0 f.1 f.3).1 ends.0 in
        let more = latest f.0 done (subst (λ (l : List Plan). Are (f.0 ∷ l)) same f.3) in
        ends_there (t done) ss some (length done) more.0.0 more.0.1 (none done more.0.0 f.0 more.0.2) a ends.1

    pub ends_at_one : (done other : List Plan) (a b : Outcome) → Ends done a → Ends other b → (done ≡ other) × (a ≡ b)
    ends_at_one done other a b p q = elim (cases_lt (length done) (length other)) [
      | inl before ↦ absurd (ends_before done other a p q.0 before)
      | inr behind ↦ elim (cases_lt (length other) (length done)) [
        | inl after ↦ absurd (ends_before other done b q p.0 after)
        | inr not_ ↦
            let same = plans_once done other (omega (arith, behind, not_)) p.0 q.0 in
            let moved = subst (λ (l : List Plan). EndsIn (t l) ss (length l) a) same p.1 in
            (same, ends_alike (t other) ss some (length other) (told other) a b moved q.1)
      ]
    ]

-- ---- merges

module _ (one : MergedIsOne) (corners : List Corner) (level : Option ℕ) where
  -- a round is written in one way
  pub same_plan : (round : List Parts) (done : List Plan) (p q : Plan) → IsMerged corners level round done p → IsMerged corners level round done q → p ≡ q
  same_plan round done p q is are = one corners level round done p q is are

  -- it passes, or is barred by one thing
  pub passes_or_barred : (round : List Parts) (done : List Plan) (p : Plan) (r : Refusal) → Passes corners level round done p → IsBarred corners level round done r → ⊥
  passes_or_barred round done p r passes (inl broken) =
      let no : (let o : Option Refusal = None in o) ≡ Some r = verdict_one (length corners) (rules_of corners round) None (Some r) passes.verdict broken in
      absurd (cc)
  passes_or_barred round done p r passes (inr long) =
      let same = same_plan round done p long.plan passes.is long.is in
      let no : (let o : Option Refusal = None in o) ≡ Some r = verdict_one (length corners) (limits_of done long.plan) None (Some r) (subst (λ (x : Plan). IsVerdict (length corners) (limits_of done x) None) same passes.limits) long.limits in
      absurd (cc)

  pub barred_once : (round : List Parts) (done : List Plan) (r t : Refusal) → IsBarred corners level round done r → IsBarred corners level round done t → r ≡ t
  barred_once round done r t (inl broken) (inl breaks) = same_Some r t (verdict_one (length corners) (rules_of corners round) (Some r) (Some t) broken breaks)
  barred_once round done r t (inl broken) (inr long) =
      let no : (let o : Option Refusal = None in o) ≡ Some r = verdict_one (length corners) (rules_of corners round) None (Some r) long.verdict broken in
      absurd (cc)
  barred_once round done r t (inr long) (inl breaks) =
      let no : (let o : Option Refusal = None in o) ≡ Some t = verdict_one (length corners) (rules_of corners round) None (Some t) long.verdict breaks in
      absurd (cc)
  barred_once round done r t (inr long) (inr longer) =
      let same = same_plan round done long.plan longer.plan long.is longer.is in
      same_Some r t (verdict_one (length corners) (limits_of done longer.plan) (Some r) (Some t) (subst (λ (x : Plan). IsVerdict (length corners) (limits_of done x) (Some r)) same long.limits) longer.limits)

  -- one thing is told of each round, and nothing of one that is written
  told_once : (done : List Plan) (n : ℕ) (round : List Parts) (a b : Stop) → (merge_telling corners level done).of_round n round a → (merge_telling corners level done).of_round n round b → a ≡ b
  told_once done n round a b told tells = told.2 ∙ ap (λ (r : Refusal). Refused r (places.Picture n)) (barred_once round done told.0 tells.0 told.1 tells.1) ∙ sym tells.2

  told_none : (done : List Plan) (n : ℕ) (round : List Parts) (p : Plan) → Passes corners level round done p → (stop : Stop) → (merge_telling corners level done).of_round n round stop → ⊥
  told_none done n round p passes stop told = passes_or_barred round done p told.0 passes told.1

pub ends_once : MergedIsOne → EndsOnce
ends_once one corners level ss done other a b some p q =
    ends_at_one ss some (λ n. Passes corners level) (AreRoundsWritten corners level ss) (λ x rest are. are)
    (λ n round rest x y passes others. same_plan one corners level round rest x y passes.is others.is)
    (merge_telling corners level) (λ rest. told_none one corners level rest (length rest)) (λ rest. told_once one corners level rest (length rest))
    done other a b p q
