use Rattle.std.proofs.Common.{◌≡◌, false, sym, ap, subst, ◌∙◌, arith}
use Rattle.std.proofs.lemmas.List.{take_all}
use Rattle.std.proofs.lemmas.List.Elements.{All-more}
use Rattle.vx_pic.specs.Resident.{same_slot}
use Rattle.vx_write.specs.Slots.{Sent, a_pps_of}
use Rattle.vx_write.specs.inner.Places.{NoneIsOf}
use Rattle.vx_write.proofs.slots.Slots.place_of_pps.Goals as goal

pub loop-i-preserved : goal.loop-i-preserved
loop-i-preserved c =
    let other : same_slot c.index.result.now.set (a_pps_of c.args.id) ≡ false = sym c.is_pps.ensures ∙ c.if-is_pps.false in
    All-more (λ (x : Sent). same_slot x.set (a_pps_of c.args.id) ≡ false) c.self.inside.sets.items c.loop-i.i c.index.result.now (omega arith) c.loop-i.invariant
    (ap (λ (x : Sent). same_slot x.set (a_pps_of c.args.id)) (sym c.index.ensures) ∙ other)

pub returns : goal.returns
returns c =
    let all : NoneIsOf (a_pps_of c.args.id) c.self.inside.sets.items = subst (NoneIsOf (a_pps_of c.args.id)) (take_all c.loop-i.i c.self.inside.sets.items (omega arith)) c.loop-i.invariant in
    subst (NoneIsOf (a_pps_of c.args.id)) c.self.view_is all
