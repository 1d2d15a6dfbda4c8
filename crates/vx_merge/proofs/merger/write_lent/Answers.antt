use Rattle.std.proofs.Common.{length, map, sym, ap, ◌∙◌}
use Rattle.std.proofs.lemmas.List.{length-map}
use Rattle.vx_merge.specs.inner.Progress.{merging_of}
use Rattle.vx_merge.proofs.JoinedRounds.{pictures_length, writes_where}
use Rattle.vx_merge.proofs.merger.write_lent.Goals as goal

pub pictures-requires : goal.pictures-requires
pictures-requires g c = c.requires.holds

pub write_round-requires-clause-corners : goal.write_round-requires-clause-corners
write_round-requires-clause-corners g c = c.requires.corners

pub write_round-requires-clause-same : goal.write_round-requires-clause-same
write_round-requires-clause-same g c =
    sym (ap length (c.deref.ensures.value ∙ c.in_ok-round.ensures)
    ∙ (pictures_length c.args.joins (map g.L.Lender.lent c.args.lenders.now) ∙ (length-map c.args.lenders.now g.L.Lender.lent ∙ c.requires.count)))

pub write_round-requires-clause-progress : goal.write_round-requires-clause-progress
write_round-requires-clause-progress g c = c.requires.progress

pub returns-clause-progress : goal.returns-clause-progress
returns-clause-progress g c = c.write_round.ensures.progress

pub returns-clause-answer : goal.returns-clause-answer
returns-clause-answer g c done stands =
    writes_where c.args.joins (map g.L.Lender.lent c.args.lenders.now) done (merging_of c.args.corners.now c.args.level c.write_round.new.progress) _ _ _ _ _
    (rw (c.deref.ensures.value ∙ c.in_ok-round.ensures) at (c.write_round.ensures.answer done stands))
