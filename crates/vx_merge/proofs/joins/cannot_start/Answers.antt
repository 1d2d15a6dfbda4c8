use Rattle.std.proofs.Common.{◌≡◌, ◌∙◌, ◌==◌, not, nat_eq, sym, ap}
use Rattle.std.proofs.lemmas.Bool.{OnFalse_from, OnTrue_from, not-false, true≢false}
use Rattle.vx_fields.specs.declared.ph.TheConstants as ph
use Rattle.vx_table.specs.Loaded.{number}
use Rattle.vx_ph.specs.declared.header.PictureHeader.{PictureHeader}
use Rattle.vx_pic.specs.Sets.{is_non_ref}
use Rattle.vx_pic.specs.declared.kind.Kind.{Kind}
use Rattle.vx_merge.specs.Joins.{CanStart}
use Rattle.vx_merge.proofs.joins.cannot_start.Goals as goal

pub returns-clause-can : goal.returns-clause-can
unfolding is_non_ref
returns-clause-can c =
    let kind = sym c.kind-kind.ensures.value in
    let asked : c.number_of.result ≡ number c.args.picture.now.header.fields ph.ph_non_ref_pic_flag
    = c.number_of.ensures ∙ ap (λ (h : PictureHeader). number h.fields ph.ph_non_ref_pic_flag) c.header.ensures.value in
    OnFalse_from (not (nat_eq c.number_of.result 0)) (CanStart c.args.picture.now)
    (λ zero. record {
      clvss = ap (λ (k : Kind). k.clvss) kind ∙ not-false c.kind-kind.result.clvss c.if-not-kind.false;
      tid = ap (λ (k : Kind). k.temporal_id) kind ∙ c.if-kind-ne0.false;
      ref = ap (λ n. not (n == 0)) (sym asked) ∙ zero;
    })

pub returns-clause-cannot : goal.returns-clause-cannot
unfolding is_non_ref
returns-clause-cannot c =
    let asked : c.number_of.result ≡ number c.args.picture.now.header.fields ph.ph_non_ref_pic_flag
    = c.number_of.ensures ∙ ap (λ (h : PictureHeader). number h.fields ph.ph_non_ref_pic_flag) c.header.ensures.value in
    OnTrue_from (not (nat_eq c.number_of.result 0)) (¬ CanStart c.args.picture.now)
    (λ other can. true≢false (sym other ∙ (ap (λ n. not (n == 0)) asked ∙ can.ref)))
