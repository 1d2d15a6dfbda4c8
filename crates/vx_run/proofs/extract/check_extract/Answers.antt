use Rattle.std.proofs.Common.{refl, List, ℕ, ◌∙◌, subst}
use Rattle.std.proofs.lemmas.Result.{err_from_is_err_and}
use Rattle.vx_run.specs.Change.{change, Gains, GainsFront}
use Rattle.vx_run.proofs.Checking.{Checks-stopped, Checks-unmade, Checks-done, Checks-cut}
use Rattle.vx_run.proofs.extract.check_extract.Goals as goal

pub returns-in_err-kept-clause-checks : goal.returns-in_err-kept-clause-checks
returns-in_err-kept-clause-checks g c R of =
    let p = err_from_is_err_and c.from_residual.result c.from_residual.ensures.1 in
    let source = change (λ s. (goal.Source-dyn g (s.vtable, s.value)).bytes_left s.value) (λ s. (goal.Source-dyn g (s.vtable, s.value)).read_faults s.value) c.args.source.now c.count_kept.new.source in
    let out = change g.K.Sink.bytes_taken g.K.Sink.write_faults c.args.out.now c.args.out.now in
    rw (p.1, p.2) (Checks-stopped R c.args.task source out _ refl (c.in_err-kept.ensures.counts R of))

pub returns-in_err-line-clause-checks : goal.returns-in_err-line-clause-checks
returns-in_err-line-clause-checks g c R of =
    let p = err_from_is_err_and c.from_residual-in_err-line.result c.from_residual-in_err-line.ensures.1 in
    let source = change (λ s. (goal.Source-dyn g (s.vtable, s.value)).bytes_left s.value) (λ s. (goal.Source-dyn g (s.vtable, s.value)).read_faults s.value) c.args.source.now c.count_kept.new.source in
    let out = change g.K.Sink.bytes_taken g.K.Sink.write_faults c.args.out.now c.args.out.now in
    rw (p.1, p.2) (Checks-unmade R c.args.task source out c.in_ok-kept.kept (c.in_ok-kept.ensures.counts R of) refl)

pub returns-in_err-write_all-clause-checks : goal.returns-in_err-write_all-clause-checks
returns-in_err-write_all-clause-checks g c R of =
    let p = err_from_is_err_and c.from_residual-in_err-write_all.result c.from_residual-in_err-write_all.ensures.1 in
    let source = change (λ s. (goal.Source-dyn g (s.vtable, s.value)).bytes_left s.value) (λ s. (goal.Source-dyn g (s.vtable, s.value)).read_faults s.value) c.args.source.now c.count_kept.new.source in
    let out = change g.K.Sink.bytes_taken g.K.Sink.write_faults c.args.out.now c.write_all.new.out in
    let front = subst (λ (l : List ℕ). GainsFront out l) (c.deref.ensures.value ∙ c.in_ok-line.ensures) (record { failed = c.in_err-write_all.ensures.faults; gained = c.in_err-write_all.ensures.err }) in
    rw (p.1, p.2) (Checks-cut R c.args.task source out c.in_ok-kept.kept (c.in_ok-kept.ensures.counts R of) front)

pub returns-clause-checks : goal.returns-clause-checks
returns-clause-checks g c R of =
    let source = change (λ s. (goal.Source-dyn g (s.vtable, s.value)).bytes_left s.value) (λ s. (goal.Source-dyn g (s.vtable, s.value)).read_faults s.value) c.args.source.now c.count_kept.new.source in
    let out = change g.K.Sink.bytes_taken g.K.Sink.write_faults c.args.out.now c.write_all.new.out in
    let gained = subst (λ (l : List ℕ). Gains out l) (c.deref.ensures.value ∙ c.in_ok-line.ensures) (record { kept = c.in_ok-write_all.ensures.faults; gained = c.in_ok-write_all.ensures.ok }) in
    Checks-done R c.args.task source out c.in_ok-kept.kept (c.in_ok-kept.ensures.counts R of) gained
