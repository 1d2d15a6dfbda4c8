use Rattle.std.proofs.Common.{◌≡◌, ◌∙◌, ap, sym, subst, refl, Err}
use Rattle.std.proofs.lemmas.Result.{err_from_is_err_and}
use Rattle.vx_assemble.specs.inner.Takes.{Gives}
use Rattle.vx_assemble.proofs.Beginnings.{id_refused, sets_refused, header_refused, begun_kept}
use Rattle.vx_assemble.proofs.InForce.{makes}
use Rattle.vx_assemble.proofs.state.State.begin.Goals as goal

pub returns-in_err-id : goal.returns-in_err-id
returns-in_err-id c =
    let p = err_from_is_err_and c.from_residual.result c.from_residual.ensures.1 in
    record {
      answer = λ R h before held.
          rw (p.1, p.2) (id_refused R c.args.self.now before c.args.inside c.args.unit.bytes.now c.args.unit.rbsp.now _ held c.args.unit.spells (c.in_err-id.ensures R h));
      header = rw p.1 tt;
      stored = rw p.1 tt;
    }

pub returns-in_err-sets : goal.returns-in_err-sets
returns-in_err-sets c =
    let p = err_from_is_err_and c.from_residual-in_err-sets.result c.from_residual-in_err-sets.ensures.1 in
    record {
      answer = λ R h before held.
          rw (p.1, p.2) (sets_refused R c.args.self.now before c.args.inside c.args.unit.bytes.now c.args.unit.rbsp.now c.in_ok-id.id _ held c.args.unit.spells
          (c.in_ok-id.ensures R h) (c.in_err-sets.ensures.answer R h));
      header = rw p.1 tt;
      stored = rw p.1 tt;
    }

pub returns-in_err-header-clause-answer : goal.returns-in_err-header-clause-answer
returns-in_err-header-clause-answer c R h before held =
    let f = c.in_ok-sets.sets in
    let are = c.in_ok-sets.ensures.sets in
    let rbsp = c.args.unit.rbsp.now in
    let sps : c.value-sps.result.now ≡ f.sps = c.value-sps.ensures ∙ ap (λ x. x.sps) c.value-made.ensures in
    let pps : c.value-pps.result.now ≡ f.pps = c.value-pps.ensures ∙ ap (λ x. x.pps) c.value-made.ensures in
    let p = err_from_is_err_and c.from_residual-in_err-header.result c.from_residual-in_err-header.ensures.1 in
    rw (p.1, p.2) (header_refused R c.args.self.now before c.args.inside c.args.unit.bytes.now rbsp c.in_ok-id.id (record { sps = f.sps; pps = f.pps }) f.layout
    _ held c.args.unit.spells (c.in_ok-id.ensures R h) are.found (makes R f h are.made)
    (subst (λ y. Gives (R.header c.args.inside f.sps y rbsp) (Err c.in_err-header.field-0.0)) pps
    (subst (λ x. Gives (R.header c.args.inside x c.value-pps.result.now rbsp) (Err c.in_err-header.field-0.0)) sps
    (c.in_err-header.ensures.answer R h))))

pub returns-clause-answer : goal.returns-clause-answer
returns-clause-answer c R h before held =
    let f = c.in_ok-sets.sets in
    let are = c.in_ok-sets.ensures.sets in
    let rbsp = c.args.unit.rbsp.now in
    let sps : c.value-sps.result.now ≡ f.sps = c.value-sps.ensures ∙ ap (λ x. x.sps) c.value-made.ensures in
    let pps : c.value-pps.result.now ≡ f.pps = c.value-pps.ensures ∙ ap (λ x. x.pps) c.value-made.ensures in
    begun_kept R c.args.self.now before c.args.inside c.args.unit.bytes.now rbsp c.in_ok-id.id (record { sps = f.sps; pps = f.pps })
    (record { pps_id = c.in_ok-id.id; sets = f; header = c.in_ok-header.header; temporal_id = c.args.unit.header.temporal_id })
    held c.args.unit.spells (c.in_ok-id.ensures R h) are.found (makes R f h are.made)
    (sym (ap (λ x. R.header c.args.inside x f.pps rbsp) sps) ∙ sym (ap (λ y. R.header c.args.inside c.value-sps.result.now y rbsp) pps)
    ∙ c.in_ok-header.ensures.answer R h)
    refl refl
    (ap (λ x. x.temporal_id) c.args.unit.heads)

pub returns-in_err-header-clause-header : goal.returns-in_err-header-clause-header
returns-in_err-header-clause-header c =
    let p = err_from_is_err_and c.from_residual-in_err-header.result c.from_residual-in_err-header.ensures.1 in
    rw p.1 tt

pub returns-in_err-header-clause-stored : goal.returns-in_err-header-clause-stored
returns-in_err-header-clause-stored c =
    let p = err_from_is_err_and c.from_residual-in_err-header.result c.from_residual-in_err-header.ensures.1 in
    rw p.1 tt

pub returns-clause-stored : goal.returns-clause-stored
returns-clause-stored c = c.in_ok-sets.ensures.sets
