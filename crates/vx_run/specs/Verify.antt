-- What `verify merge` finds in the rounds of a finished stream and its sources. File 0 is the finished stream, and file k + 1 is source
-- k. Our own.
use Rattle.std.specs.Prelude.{◌≡◌, ℕ, ◌<◌, List, [], ◌∷◌, length, map, Ok, Err, codes, decimal}
use Rattle.std.specs.List.{concat}
use Rattle.vx_pic.specs.Rules.{Readers}
use Rattle.vx_pic.specs.Parts.{Parts}
use Rattle.vx_verify.specs.declared.mismatch.Mismatch.{Mismatch}
use Rattle.vx_verify.specs.declared.mismatch.Mismatch.TheVariants.{Length}
use Rattle.vx_verify.specs.declared.spot.Spot.{Spot}
use Rattle.vx_verify.specs.Verified.{IsVerified, IsMismatch}
use Rattle.vx_run.specs.declared.stop.Stop.{Stop}
use Rattle.vx_run.specs.declared.stop.Stop.TheVariants.{NotUnderstood, Refused, Mismatched, ReadFault, WriteFault, NoMemory}
use Rattle.vx_run.specs.Change.{Change, Sources, source_at, IsUntouched, HasNoFault, HasFault, Gains, GainsFront}
use Rattle.vx_run.specs.Conclusion.{Outcome}
use Rattle.vx_run.specs.Grammar.{Placing}
use Rattle.vx_run.specs.Rounds.{Stream, IsRound, NoneRefused, Telling, EndsIn, stream_refused, WhereAllTold, OfEachSource, OfAtMost}
use Rattle.vx_run.specs.Rounds.{IsRead, IsReadOut, IsReadInRound, OthersAreRead, AreReadToSource, Sees}

-- The places of the regions in which arguments place files.
abbrev pub spot_of : Placing → Spot
spot_of p = record { x = p.x; y = p.y }

abbrev pub spots_of : List Placing → List Spot
spots_of placings = map spot_of placings

-- This holds of the finished stream's picture of a round, and of those of the sources.
abbrev pub OfRound : (Parts → List Parts → Type 0) → List Parts → Type 0
OfRound P [] = ⊥
OfRound P (finished ∷ round) = P finished round

-- The first n rounds are there, and each is verified.
abbrev pub AreVerified : List Spot → List Stream → ℕ → Type 0
AreVerified spots ss n = (r : ℕ) → r < n → (round : List Parts) × IsRound ss r round × OfRound (IsVerified spots) round

-- File k has ended after n rounds, and another one hasn't (C5).
abbrev pub length_differs : ℕ → ℕ → Stop
length_differs n k = Mismatched (Length k) n

-- What is reported: what ends a file; that one has ended; and why a round isn't verified (C1 to C4).
abbrev pub verify_telling : List Spot → Telling
verify_telling spots = record {
  of_stream = stream_refused;
  of_length = length_differs;
  of_round = λ n round stop. OfRound (λ finished sources. (m : Mismatch) × IsMismatch spots finished sources m × (stop ≡ Mismatched m n)) round;
}

-- The verification ends so after n verified rounds.
abbrev pub EndsVerified : List Spot → List Stream → ℕ → Outcome → Type 0
EndsVerified spots ss n end = AreVerified spots ss n × EndsIn (verify_telling spots) ss n end

-- It ends once.
abbrev pub VerifyEndsOnce : Type 0
VerifyEndsOnce = (spots : List Spot) (ss : List Stream) (n m : ℕ) (a b : Outcome) → 0 < length ss
    → EndsVerified spots ss n a → EndsVerified spots ss m b → (n ≡ m) × (a ≡ b)

-- `yes pictures 2`
abbrev pub yes_text : ℕ → List ℕ
yes_text n = concat (codes "yes pictures " ∷ decimal n ∷ codes "\n" ∷ [])

-- What `verify merge` did to its sources and to `out`, by its outcome. It reports how many rounds are verified if all are, and writes
-- only that line. If a round isn't verified, all files were read for that one and no further. A failed read of file k ends it: round n
-- isn't complete, n pictures of that file are seen, and those before are verified.
abbrev pub VerifiesBy : {A K : Type 0} → Readers → List Spot → Sources A → Change K → Outcome → Type 0
VerifiesBy R spots sources out (Ok _) =
    OfEachSource sources IsReadOut × HasNoFault out
    × WhereAllTold R sources (λ ss. (n : ℕ) × EndsVerified spots ss n (Ok tt) × Gains out (yes_text n))
VerifiesBy R spots sources out (Err (Mismatched m n)) =
    OfEachSource sources (IsReadInRound R n) × IsUntouched out × WhereAllTold R sources (λ ss. EndsVerified spots ss n (Err (Mismatched m n)))
VerifiesBy R spots sources out (Err (Refused r place)) =
    (n : ℕ) × AreReadToSource R n place sources × IsUntouched out
    × WhereAllTold R sources (λ ss. EndsVerified spots ss n (Err (Refused r place)))
VerifiesBy R spots sources out (Err (ReadFault k)) =
    (k < length sources.old) × HasFault (source_at sources k) × IsUntouched out
    × ((n : ℕ) × Sees R (source_at sources k) n × OthersAreRead R n k sources
    × WhereAllTold R sources (λ ss. AreVerified spots ss n × NoneRefused k ss n))
VerifiesBy R spots sources out (Err WriteFault) =
    OfEachSource sources IsReadOut × HasFault out
    × WhereAllTold R sources (λ ss. (n : ℕ) × EndsVerified spots ss n (Ok tt) × GainsFront out (yes_text n))
VerifiesBy R spots sources out (Err NoMemory) = OfEachSource sources IsRead × IsUntouched out
VerifiesBy R spots sources out (Err NotUnderstood) = ⊥

-- It is so of as many sources as there may be, besides the finished stream.
abbrev pub Verifies : {A K : Type 0} → List Spot → Sources A → Change K → Outcome → Type 0
Verifies spots sources out outcome = OfAtMost (length spots) sources out outcome (λ R. VerifiesBy R spots sources out outcome)
