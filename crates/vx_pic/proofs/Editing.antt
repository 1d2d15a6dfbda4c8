-- Plans that take the places of finished pictures are as plans have to be.
use Rattle.std.proofs.Common.{[], ◌∷◌, subst}
use Rattle.vx_pic.specs.declared.kind.Kind.{Kind}
use Rattle.vx_pic.specs.Alike.{IsNext}
use Rattle.vx_pic.specs.Resident.{planned_of}
use Rattle.vx_pic.specs.laws.Edited.{EditsArePlanned}
use Rattle.vx_pic.proofs.Counting.{alike_is_next}

pub edits_are_planned : EditsArePlanned
edits_are_planned R [] [] finished edits = (tt, tt)
edits_are_planned R [] (q ∷ done) finished edits = absurd edits
edits_are_planned R (p ∷ earlier) [] finished edits = absurd edits
edits_are_planned R (p ∷ earlier) (q ∷ done) finished edits =
    let e = edits.0 in
    let before = edits_are_planned R earlier done finished.2 edits.1 in
    let P : Kind → Type 0 = λ k. IsNext (planned_of done) q.begun k in
    let next = subst P e.kind (alike_is_next earlier (planned_of done) p.begun q.begun p.kind before.1 e.alike e.keeps finished.0.next) in
    ((e.others next, before.0), (e.kind, e.alike, before.1))
