use Rattle.std.proofs.Common.{length, sym, ap, ◌∙◌}
use Rattle.std.proofs.lemmas.List.{length-map}
use Rattle.vx_merge.proofs.merger.check_lent.Goals as goal

pub check_round-requires-clause-corners : goal.check_round-requires-clause-corners
check_round-requires-clause-corners g c = c.requires.corners

pub check_round-requires-clause-same : goal.check_round-requires-clause-same
check_round-requires-clause-same g c =
    sym (ap length (c.deref.ensures.value ∙ c.in_ok-round.ensures) ∙ (length-map c.args.lenders.now g.L.Lender.lent ∙ c.requires.count))

pub check_round-requires-clause-progress : goal.check_round-requires-clause-progress
check_round-requires-clause-progress g c = c.requires.progress

pub returns-clause-answer : goal.returns-clause-answer
returns-clause-answer g c done stands = rw (c.deref.ensures.value ∙ c.in_ok-round.ensures) at (c.check_round.ensures.answer done stands)
