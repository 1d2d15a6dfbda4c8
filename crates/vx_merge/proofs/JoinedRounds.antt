-- What is answered of a round that is joined behind others.
use Rattle.std.proofs.Common.{◌≡◌, ℕ, List, [], ◌∷◌, length, map, Bool, true, false, cond, Option, Some, None, Result, Ok, Err, refl, sym, subst, inl, inr}
use Rattle.std.proofs.lemmas.List.{length-map}
use Rattle.vx_bits.specs.declared.refusal.Refusal.{Refusal}
use Rattle.vx_pic.specs.Parts.{Parts}
use Rattle.vx_pic.specs.Written.{Plan}
use Rattle.vx_write.specs.declared.fault.WriteError.{WriteError}
use Rattle.vx_write.specs.declared.fault.WriteError.TheVariants as errors
use Rattle.vx_frame.specs.declared.corner.Corner.{Corner}
use Rattle.vx_frame.specs.Verdict.{IsVerdict}
use Rattle.vx_frame.specs.inner.Found.{Finds}
use Rattle.vx_merge.specs.Joins.{IsBarredWhere, JudgesJoin, WritesJoined, after_end_of_sequence, join_start}
use Rattle.vx_merge.specs.Merging.{Merging, WritesOneRound}
use Rattle.vx_merge.specs.inner.Counting.{WritesAs, WritesWhere, pictures_where}
use Rattle.vx_merge.proofs.Writing.{writes_stopped}

-- the verdict that was found
pub starts : (joins : Bool) (corners : List Corner) (round : List Parts) (found answer : Option Refusal) → length corners ≡ length round → found ≡ answer
    → Finds (length round) (cond joins (join_start round ∷ []) []) found → JudgesJoin joins corners round answer
starts joins corners round found answer same is finds =
    subst (λ a. JudgesJoin joins corners round a) is (subst (λ n. IsVerdict n (cond joins (join_start round ∷ []) []) found) (sym same) finds.verdict)

-- where its pictures can't begin there, nothing is written
pub joins_barred : (joins : Bool) (round : List Parts) (done : List Plan) (x : Merging) (a : Option (List ℕ)) (k : ℕ) (r : Refusal)
    → JudgesJoin joins x.corners round (Some r) → WritesAs joins round done x a a k k (Err (errors.Refused r))
joins_barred true round done x a k r barred = (refl, refl, inl barred)
joins_barred false round done x a k r barred = absurd (let e : Some r ≡ None = barred in cc)

-- where its pictures may begin, it is written as any round
joined_writes : (round : List Parts) (done : List Plan) (x : Merging) (a b : Option (List ℕ)) (k l : ℕ) (answer : Result (Unit {0}) WriteError)
    → JudgesJoin true x.corners round None → WritesOneRound round done x a b k l answer → WritesJoined round done x a b k l answer
joined_writes round done x a b k l (Ok tt) starts is = (starts, is)
joined_writes round done x a b k l (Err (errors.Refused r)) starts is = (is.0, is.1, inr (starts, is.2))
joined_writes round done x a b k l (Err errors.Memory) starts is = is
joined_writes round done x a b k l (Err errors.SinkFailed) starts is = (starts, is)
joined_writes round done x a b k l (Err (errors.Stopped first)) starts is = is

-- where they may, or aren't joined, it is written as any round
pub writes_as : (joins : Bool) (round : List Parts) (done : List Plan) (x : Merging) (a b : Option (List ℕ)) (k l : ℕ) (answer : Result (Unit {0}) WriteError)
    → JudgesJoin joins x.corners round None → WritesOneRound round done x a b k l answer → WritesAs joins round done x a b k l answer
writes_as true round done x a b k l answer starts is = joined_writes round done x a b k l answer starts is
writes_as false round done x a b k l answer starts is = is

-- the pictures as they are written
pub pictures_length : (joins : Bool) (round : List Parts) → length (pictures_where joins round) ≡ length round
pictures_length true round = length-map round after_end_of_sequence
pictures_length false round = refl

pub writes_where : (joins : Bool) (round : List Parts) (done : List Plan) (x : Merging) (a b : Option (List ℕ)) (k l : ℕ) (answer : Result (Unit {0}) WriteError)
    → WritesAs joins (pictures_where joins round) done x a b k l answer → WritesWhere joins round done x a b k l answer
writes_where true round done x a b k l answer is = is
writes_where false round done x a b k l answer is = is

other_starts : (round : List Parts) (x y : Merging) (answer : Option Refusal) → y.corners ≡ x.corners → JudgesJoin true x.corners round answer → JudgesJoin true y.corners round answer
other_starts round x y answer corners is = subst (λ cs. JudgesJoin true cs round answer) (sym corners) is

other_barred : (round : List Parts) (done : List Plan) (x y : Merging) (r : Refusal) → y.corners ≡ x.corners → y.level ≡ x.level
    → IsBarredWhere true x.corners x.level round done r → IsBarredWhere true y.corners y.level round done r
other_barred round done x y r corners level is =
    subst (λ l. IsBarredWhere true y.corners l round done r) (sym level) (subst (λ cs. IsBarredWhere true cs x.level round done r) (sym corners) is)

-- after an error what counts as sent doesn't matter
joined_stopped : (round : List Parts) (done : List Plan) (x y : Merging) (a b : Option (List ℕ)) (k l : ℕ) (e : WriteError)
    → y.corners ≡ x.corners → y.level ≡ x.level → WritesJoined round done x a b k l (Err e) → WritesJoined round done y a b k l (Err e)
joined_stopped round done x y a b k l errors.Memory corners level is = is
joined_stopped round done x y a b k l errors.SinkFailed corners level is =
    (other_starts round x y None corners is.0, writes_stopped round done x y a b k l errors.SinkFailed corners level is.1)
joined_stopped round done x y a b k l (errors.Refused r) corners level is = (is.0, is.1, other_barred round done x y r corners level is.2)
joined_stopped round done x y a b k l (errors.Stopped first) corners level is = is

pub where_stopped : (joins : Bool) (round : List Parts) (done : List Plan) (x y : Merging) (a b : Option (List ℕ)) (k l : ℕ) (e : WriteError)
    → y.corners ≡ x.corners → y.level ≡ x.level → WritesWhere joins round done x a b k l (Err e) → WritesWhere joins round done y a b k l (Err e)
where_stopped true round done x y a b k l e corners level is = joined_stopped (map after_end_of_sequence round) done x y a b k l e corners level is
where_stopped false round done x y a b k l e corners level is = writes_stopped round done x y a b k l e corners level is
