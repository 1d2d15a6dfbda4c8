-- The pictures of merged streams have the messages of the first of these.
use Rattle.std.proofs.Common.{◌≡◌, ℕ, List, [], ◌∷◌, map, Option, refl, ap, sym, ◌∙◌}
use Rattle.std.specs.Prelude.{drop}
use Rattle.std.specs.List.{AllZip}
use Rattle.std.proofs.lemmas.Option.{none-some, same_Some}
use Rattle.vx_sei.specs.declared.message.Message.{Message}
use Rattle.vx_pic.specs.Parts.{parts_of}
use Rattle.vx_pic.specs.Readings.{Picture, messages_of}
use Rattle.vx_pic.specs.Resident.{planned_of, readings_of_plans}
use Rattle.vx_pic.specs.Written.{Plan, planned}
use Rattle.vx_write.proofs.Messages.{planned_messages, unit_has}
use Rattle.vx_frame.specs.declared.corner.Corner.{Corner}
use Rattle.vx_merge.specs.Merging.{Passes}
use Rattle.vx_again.specs.Streams.{MergedKeepsMessages}
use Rattle.vx_again.proofs.Columns.{IsLast, all_last}

-- a round has the messages of its first picture
first_messages : (corners : List Corner) (level : Option ℕ) (s : List Picture) (rest : List (List Picture)) (round : List Picture)
    (done : List Plan) (p : Plan) → AllZip IsLast (s ∷ rest) round
    → Passes corners level (map parts_of round) done p
    → (q : Picture) × (s ≡ q ∷ drop 1 s) × (messages_of (planned (readings_of_plans done) p) ≡ messages_of q)
first_messages corners level s rest [] done p lasts_ passes = absurd lasts_
first_messages corners level s rest (q ∷ round) done p lasts_ passes = (q, lasts_.0.is, planned_messages done p ∙ unit_has p.kind.temporal_id (messages_of q) p.sei passes.is.sei)

pub keeps_messages : MergedKeepsMessages
keeps_messages corners level [] done ps merged at = absurd (none-some ps at)
keeps_messages corners level (s ∷ rest) [] ps merged at = ap (map messages_of) (sym merged.0 ∙ same_Some s ps at)
keeps_messages corners level (s ∷ rest) (p ∷ done) ps ((round, same, passes), merged) at =
    let first = first_messages corners level s rest round done p (all_last (s ∷ rest) round same) passes in
    let more = keeps_messages corners level (drop 1 s ∷ map (λ (xs : List Picture). drop 1 xs) rest) done (drop 1 s) merged refl in
    ap (λ (ms : List Message). ms ∷ map messages_of (planned_of done)) first.2 ∙ ap (λ ms. messages_of first.0 ∷ ms) more
    ∙ ap (map messages_of) (sym first.1 ∙ same_Some s ps at)
