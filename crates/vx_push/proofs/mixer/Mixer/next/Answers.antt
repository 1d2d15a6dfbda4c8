use Rattle.std.proofs.Common.{◌≡◌, ◌+◌, ◌<◌, List, ◌∙◌, Ok, Err, length, refl, sym, subst, arith}
use Rattle.std.specs.List.{All}
use Rattle.vx_run.proofs.Advancing.{each_holds}
use Rattle.vx_run.proofs.Indexed.{some_at}
use Rattle.vx_push.specs.declared.intake.State.TheVariants.{Picture as AtPicture}
use Rattle.vx_push.specs.Comes.{Intaking}
use Rattle.vx_push.specs.inner.Mixing.{Looks, MergesHanded, round_of}
use Rattle.vx_push.proofs.Few.{few_behind}
use Rattle.vx_push.proofs.Mixing.{ready_all, answers_looked, answers_barred, answers_merged}
use Rattle.vx_push.proofs.mixer.Mixer.next.Goals as goal

-- what is seen of the sources keeps it from going on
pub returns-in-Err-clause-answer : goal.returns-in-Err-clause-answer
returns-in-Err-clause-answer c held end R of given done mixed =
    let h = rw (← c.self.view_is) at mixed in
    let none = rw (← c.self.view_is) at end in
    let looks = subst (λ (l : List Intaking). Looks l c.self.inside.rounds (Err c.in-Err.mixed)) c.deref.ensures.value c.in-Err.ensures.looks in
    rw c.end_of-self-inside.ensures (answers_looked R _ given done h none c.in-Err.mixed looks)

pub merge_round-requires-clause-hold : goal.merge_round-requires-clause-hold
merge_round-requires-clause-hold c =
    let x = c.in_default-look.ensures.looks in
    let same : c.deref.result.now ≡ c.deref-2.result.now = c.deref.ensures.value ∙ sym c.deref-2.ensures.value in
    subst (λ (l : List Intaking). All (λ (i : Intaking). i.state ≡ AtPicture) l) same (each_holds c.deref.result.now (ready_all c.deref.result.now x.0 x.1 x.2))

-- a round is merged
pub returns-in-Ok-clause-answer : goal.returns-in-Ok-clause-answer
returns-in-Ok-clause-answer c held end R of given done mixed =
    let h = rw (← c.self.view_is) at mixed in
    let none = rw (← c.self.view_is) at end in
    let looks = subst (λ (l : List Intaking). Looks l c.self.inside.rounds (Ok tt)) c.deref.ensures.value c.in_default-look.ensures.looks in
    let merges = subst (λ (l : List Intaking). MergesHanded (round_of l) done c.merge_round.new.merger c.merge_round.new.merged.taken c.self.inside.rounds (Ok c.in-Ok.kind)) c.deref-2.ensures.value (c.in-Ok.ensures.merges done (h.stands none)) in
    let intakes = c.self.inside.intakes.items in
    let some : 0 < length intakes = omega (arith, c.self.invariant.0.some, c.self.invariant.1) in
    let first = some_at intakes 0 some in
    let within : 0 < length given = omega (arith, some, h.sources) in
    let handed = some_at given 0 within in
    let few = few_behind R first.0 handed.0 c.self.inside.rounds (ready_all intakes looks.0 looks.1 looks.2 0 first.0 first.1) (h.come 0 first.0 handed.0 first.1 handed.1) in
    answers_merged R _ given done h _ looks.0 looks.1 looks.2 c.in-Ok.ensures.task.corners c.in-Ok.ensures.task.level of c.pass_each.ensures
    (omega (arith, c.saturating_add-self-inside.ensures, few)) c.in-Ok.kind refl none merges

-- or barred
pub returns-in-Err-merge_round-clause-answer : goal.returns-in-Err-merge_round-clause-answer
returns-in-Err-merge_round-clause-answer c held end R of given done mixed =
    let h = rw (← c.self.view_is) at mixed in
    let none = rw (← c.self.view_is) at end in
    let empty = rw (← c.self.view_is) at held in
    let looks = subst (λ (l : List Intaking). Looks l c.self.inside.rounds (Ok tt)) c.deref.ensures.value c.in_default-look.ensures.looks in
    let merges = subst (λ (l : List Intaking). MergesHanded (round_of l) done c.merge_round.new.merger c.merge_round.new.merged.taken c.self.inside.rounds (Err c.in-Err-merge_round.stop)) c.deref-2.ensures.value (c.in-Err-merge_round.ensures.merges done (h.stands none)) in
    answers_barred R _ given done h _ looks.0 looks.1 looks.2 c.in-Err-merge_round.ensures.task.corners c.in-Err-merge_round.ensures.task.level refl refl empty c.in-Err-merge_round.stop refl merges
