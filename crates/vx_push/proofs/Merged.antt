-- What a merger answers to a mixer.
use Rattle.std.proofs.Common.{◌≡◌, ℕ, ◌<◌, List, [], ◌∷◌, ◌++◌, ◌∙◌, Some, Option, Ok, Err, length, get_or, sym, ap, refl, arith}
use Rattle.vx_annexb.specs.Laws.{written}
use Rattle.vx_pic.specs.Parts.{Parts}
use Rattle.vx_pic.specs.Written.{Plan, units_of}
use Rattle.vx_pic.specs.declared.kind.Kind.{Kind}
use Rattle.vx_assemble.specs.Held.{lent_by}
use Rattle.vx_write.specs.declared.fault.WriteError.{WriteError}
use Rattle.vx_write.specs.declared.fault.WriteError.TheVariants as errors
use Rattle.vx_frame.specs.Rounds.{picture_at}
use Rattle.vx_merge.specs.Merging.{Merging, WritesOneRound}
use Rattle.vx_push.specs.Comes.{Intaking}
use Rattle.vx_push.specs.inner.Mixing.{MergesHanded, stop_by, round_of}

-- the first picture of a round is that of the first intake
pub first_of_round : (intakes : List Intaking) (i : Intaking) → 0 < length intakes → i ≡ get_or intakes 0 i → picture_at (round_of intakes) 0 ≡ lent_by i.feed.assembler
first_of_round [] i some is = absurd (omega (arith, some))
first_of_round (x ∷ intakes) i some is = ap (λ (y : Intaking). lent_by y.feed.assembler) (sym is)

-- a round was written to a sink that had taken nothing
pub merges_ok : (round : List Parts) (done : List Plan) (m : Merging) (old new : List ℕ) (f f' n : ℕ) (kind : Kind) → old ≡ [] → kind ≡ (picture_at round 0).kind
    → WritesOneRound round done m (Some old) (Some new) f f' (Ok tt) → MergesHanded round done m new n (Ok kind)
merges_ok round done m old new f f' n kind none is writes =
    let x = writes.1 in
    (x.0, x.1, x.2 ∙ ap (λ (b : List ℕ). b ++ written (units_of x.0)) none, x.3, is ∙ sym x.1.is.kind)

-- or it wasn't
pub merges_err : (round : List Parts) (done : List Plan) (m : Merging) (old new : Option (List ℕ)) (bytes : List ℕ) (f f' n : ℕ) (error : WriteError)
    → WritesOneRound round done m old new f f' (Err error) → MergesHanded round done m bytes n (Err (stop_by error n))
merges_err round done m old new bytes f f' n (errors.Refused r) writes = (writes.2, refl)
merges_err round done m old new bytes f f' n errors.Memory writes = tt
merges_err round done m old new bytes f f' n errors.SinkFailed writes = tt
merges_err round done m old new bytes f f' n (errors.Stopped first) writes = absurd writes
