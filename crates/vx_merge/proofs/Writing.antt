-- What is answered of a round that was made, where it counts as written, is written, or breaks a limit.
use Rattle.std.proofs.Common.{◌≡◌, ℕ, ◌+◌, ◌<◌, List, ◌∷◌, ◌++◌, length, Option, Some, None, Ok, Err, refl, sym, ap, subst, ◌∙◌, inl, inr, length-append}
use Rattle.std.specs.Prelude.{sum_by}
use Rattle.std.proofs.lemmas.Grind.{flat_map-append}
use Rattle.std.specs.List.{AllByRecursion}
use Rattle.std.specs.Io.KnownBytes.{Appends}
use Rattle.vx_bits.specs.declared.refusal.Refusal.{Refusal}
use Rattle.vx_io.specs.declared.write.SinkFailed.{SinkFailed}
use Rattle.vx_io.specs.Written.{AppendsFront}
use Rattle.vx_annexb.specs.ByteStream.{long_start_code}
use Rattle.vx_annexb.specs.Laws.{written}
use Rattle.vx_pic.specs.Parts.{Parts}
use Rattle.vx_pic.specs.Resident.{history_of, units_written}
use Rattle.vx_pic.specs.Rules.{unit_size}
use Rattle.vx_pic.specs.Written.{Plan, planned_slices, units_of}
use Rattle.vx_write.specs.Slots.{Sent}
use Rattle.vx_write.specs.Writing.{Takes}
use Rattle.vx_write.specs.declared.fault.WriteError.{WriteError}
use Rattle.vx_write.specs.declared.fault.WriteError.TheVariants as errors
use Rattle.vx_frame.specs.declared.corner.Corner.{Corner}
use Rattle.vx_frame.specs.Rules.{rules_of}
use Rattle.vx_frame.specs.Verdict.{IsVerdict}
use Rattle.vx_merge.specs.declared.output.RoundUnits.{RoundUnits}
use Rattle.vx_merge.specs.Merging.{ChecksRound, IsBarred, Merging, Passes, WritesOneRound}
use Rattle.vx_bits.specs.Codes.{AreBytes}
use Rattle.vx_frame.specs.inner.Found.{Finds, Tries}
use Rattle.vx_merge.specs.Written.{limits_of}
use Rattle.vx_merge.specs.inner.Counting.{MakesRound}
use Rattle.vx_merge.specs.inner.Making.{AreLimits, AreRoundUnits, limits_by, size_of, slice_units, units_made}
use Rattle.vx_merge.proofs.Limiting.{written_size}

-- a merger that goes on
abbrev pub going : List Corner → Option ℕ → List Sent → ℕ → Merging
going corners level slots bytes = record { corners = corners; level = level; slots = slots; bytes = bytes; first = None }

-- the verdict that was found
pub judged : (corners : List Corner) (round : List Parts) (found answer : Option Refusal) → length corners ≡ length round → found ≡ answer
    → Finds (length round) (rules_of corners round) found → IsVerdict (length corners) (rules_of corners round) answer
judged corners round found answer same is finds =
    subst (λ n. IsVerdict n (rules_of corners round) answer) (sym same) (subst (IsVerdict (length round) (rules_of corners round)) is finds.verdict)

-- an error of what is made where it breaks none is the answer
pub tried_none : {A : Type 0} (corners : List Corner) (level : Option ℕ) (round : List Parts) (done : List Plan) (slots : List Sent) (bytes : ℕ) (P : A → Type 0) (e : WriteError)
    → length corners ≡ length round → Tries (length round) (rules_of corners round) P (Err e) → ChecksRound round done (going corners level slots bytes) (Err e)
tried_none corners level round done slots bytes P errors.Memory same is = tt
tried_none corners level round done slots bytes P errors.SinkFailed same is = is
tried_none corners level round done slots bytes P (errors.Refused r) same is = inl (judged corners round (Some r) (Some r) same refl is)
tried_none corners level round done slots bytes P (errors.Stopped first) same is = is

-- the bytes of the stream with the units of one picture more
stream_size : (done : List Plan) (p : Plan) (us : List (List ℕ)) (bytes : ℕ) → bytes ≡ length (written (units_written done)) → units_of p ≡ us
    → length (written (units_written (p ∷ done))) ≡ bytes + size_of 4 us
stream_size done p us bytes so_far are =
    ap length (flat_map-append (λ unit. long_start_code ++ unit) (units_written done) (units_of p))
    ∙ (length-append (written (units_written done)) (written (units_of p))
    ∙ (ap (λ n. n + length (written (units_of p))) (sym so_far) ∙ ap (λ n. bytes + n) (written_size (units_of p) ∙ ap (size_of 4) are)))

module _ (corners : List Corner) (level : Option ℕ) (round : List Parts) (done : List Plan) (m : RoundUnits) (slots : List Sent) (bytes : ℕ)
    (some : 0 < length corners) (sound : IsVerdict (length corners) (rules_of corners round) None)
    (made : AreRoundUnits corners level round (history_of done) m slots) (all : AllByRecursion AreBytes (units_made m)) (so_far : bytes ≡ length (written (units_written done))) where
  limits : (answer : Option Refusal) → AreLimits m bytes answer → IsVerdict (length corners) (limits_of done made.plan) answer
  limits answer are =
      let n = length corners in
      let size : ℕ = unit_size made.plan.begun.unit + sum_by (λ s. length s.unit) (planned_slices made.plan) in
      let total : ℕ = length (written (units_written (made.plan ∷ done))) in
      subst (λ us. IsVerdict n (limits_by us size total) answer) (sym made.units)
      (subst (λ k. IsVerdict n (limits_by (units_made m) k total) answer) (sym made.size)
      (subst (λ k. IsVerdict n (limits_by (units_made m) (length m.header.items + size_of 0 (slice_units m)) k) answer)
      (sym (stream_size done made.plan (units_made m) bytes so_far made.units)) (are n some)))

  passes : AreLimits m bytes None → Passes corners level round done made.plan
  passes are = record { verdict = sound; is = made.is done refl all; limits = limits None are }

  pub counts_all : (total : ℕ) → AreLimits m bytes None → total ≡ bytes + size_of 4 (units_made m)
      → MakesRound round done (going corners level slots total) (Ok m)
  counts_all total are is = (
    made.plan,
    passes are,
    record {
      slots = made.last;
      bytes = is ∙ sym (stream_size done made.plan (units_made m) bytes so_far made.units);
      going = refl;
    },
    made.units,
  )

  pub counts_none : (total : ℕ) (r : Refusal) → AreLimits m bytes (Some r) → MakesRound round done (going corners level slots total) (Err (errors.Refused r))
  counts_none total r are = inr (record { verdict = sound; plan = made.plan; is = made.is done refl all; limits = limits (Some r) are })

-- ---- of what counts as written

pub checks_counted : (round : List Parts) (done : List Plan) (x : Merging) (m : RoundUnits) → MakesRound round done x (Ok m) → ChecksRound round done x (Ok tt)
checks_counted round done x m is = (is.0, is.1, is.2)

pub writes_counted : (round : List Parts) (done : List Plan) (x : Merging) (m : RoundUnits) (a b : Option (List ℕ)) (k l : ℕ) → MakesRound round done x (Ok m)
    → Takes a b k l (units_made m) (Ok tt) → WritesOneRound round done x a b k l (Ok tt)
writes_counted round done x m a b k l is took =
    (took.faults, (is.0, is.1, subst (λ us. Appends a b (written us)) (sym is.3) took.ok, is.2))

pub writes_front : (round : List Parts) (done : List Plan) (x : Merging) (m : RoundUnits) (a b : Option (List ℕ)) (k l : ℕ) (e : SinkFailed)
    → MakesRound round done x (Ok m) → Takes a b k l (units_made m) (Err e) → WritesOneRound round done x a b k l (Err errors.SinkFailed)
writes_front round done x m a b k l e is took =
    (took.faults, (is.0, is.1, subst (λ us. AppendsFront a b (written us)) (sym is.3) took.err))

-- nothing is written where it is refused
unwritten : (round : List Parts) (done : List Plan) (x : Merging) (a : Option (List ℕ)) (k : ℕ) (e : WriteError) → ChecksRound round done x (Err e)
    → WritesOneRound round done x a a k k (Err e)
unwritten round done x a k errors.Memory is = (refl, refl)
unwritten round done x a k errors.SinkFailed is = absurd is
unwritten round done x a k (errors.Refused r) is = (refl, refl, is)
unwritten round done x a k (errors.Stopped f) is = is

pub writes_none : (round made : List Parts) (done : List Plan) (x : Merging) (a : Option (List ℕ)) (k : ℕ) (e : WriteError) → made ≡ round → ChecksRound made done x (Err e)
    → WritesOneRound round done x a a k k (Err e)
writes_none round made done x a k e same is = unwritten round done x a k e (subst (λ r. ChecksRound r done x (Err e)) same is)

-- ---- by what was asked for alone

other_passes : (round : List Parts) (done : List Plan) (x y : Merging) (p : Plan) → y.corners ≡ x.corners → y.level ≡ x.level
    → Passes x.corners x.level round done p → Passes y.corners y.level round done p
other_passes round done x y p corners level is =
    subst (λ l. Passes y.corners l round done p) (sym level) (subst (λ cs. Passes cs x.level round done p) (sym corners) is)

other_refused : (round : List Parts) (done : List Plan) (x y : Merging) (r : Refusal) → y.corners ≡ x.corners → y.level ≡ x.level
    → IsBarred x.corners x.level round done r → IsBarred y.corners y.level round done r
other_refused round done x y r corners level is =
    subst (λ l. IsBarred y.corners l round done r) (sym level) (subst (λ cs. IsBarred cs x.level round done r) (sym corners) is)

-- after an error what counts as sent doesn't matter, nor how many bytes count as written
pub writes_stopped : (round : List Parts) (done : List Plan) (x y : Merging) (a b : Option (List ℕ)) (k l : ℕ) (e : WriteError)
    → y.corners ≡ x.corners → y.level ≡ x.level → WritesOneRound round done x a b k l (Err e) → WritesOneRound round done y a b k l (Err e)
writes_stopped round done x y a b k l errors.Memory corners level is = is
writes_stopped round done x y a b k l errors.SinkFailed corners level is =
    let p = is.1.1 in
    (is.0, (is.1.0, other_passes round done x y is.1.0 corners level p, is.1.2))
writes_stopped round done x y a b k l (errors.Refused r) corners level is = (is.0, is.1, other_refused round done x y r corners level is.2)
writes_stopped round done x y a b k l (errors.Stopped f) corners level is = is

pub checks_stopped : (round : List Parts) (done : List Plan) (x y : Merging) (e : WriteError) → y.corners ≡ x.corners → y.level ≡ x.level
    → ChecksRound round done x (Err e) → ChecksRound round done y (Err e)
checks_stopped round done x y errors.Memory corners level is = is
checks_stopped round done x y errors.SinkFailed corners level is = is
checks_stopped round done x y (errors.Refused r) corners level is = other_refused round done x y r corners level is
checks_stopped round done x y (errors.Stopped f) corners level is = is
