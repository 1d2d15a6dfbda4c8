use Rattle.vx_push.proofs.seek.give_end.Goals as goal

pub returns-clause-comes : goal.returns-clause-comes
returns-clause-comes c R of g ps taken =
    c.seek.ensures.comes R of g ps (record { places = taken.places; before = taken.before; fed = c.finish.ensures.fed R g taken.places taken.before taken.fed; done = taken.done })
