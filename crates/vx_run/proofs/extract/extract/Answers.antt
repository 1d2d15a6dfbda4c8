use Rattle.std.proofs.lemmas.Result.{err_from_is_err_and}
use Rattle.vx_run.proofs.Extracting.{Extracts-unmade}
use Rattle.vx_run.proofs.Taking.{taken_none}
use Rattle.vx_run.proofs.extract.extract.Goals as goal

pub extract_fed-requires-clause-none : goal.extract_fed-requires-clause-none
extract_fed-requires-clause-none g c R of =
    taken_none _ _ R _ c.in_ok-feed.feed c.in_ok-feed.ensures.open.reader (c.in_ok-feed.ensures.fed R) c.in_ok-feed.ensures.needed

pub returns-in_err-feed-clause-extracts : goal.returns-in_err-feed-clause-extracts
returns-in_err-feed-clause-extracts g c R of =
    let p = err_from_is_err_and c.from_residual.result c.from_residual.ensures.1 in
    rw (p.1, p.2) (Extracts-unmade (λ s. (goal.Source-dyn g (s.vtable, s.value)).bytes_left s.value) (λ s. (goal.Source-dyn g (s.vtable, s.value)).read_faults s.value) g.K.Sink.bytes_taken g.K.Sink.write_faults R c.args.task (c.extractions_read_again.ensures.none R of c.args.task) c.args.source.now c.args.out.now)
