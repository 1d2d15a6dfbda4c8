use Rattle.std.proofs.Common.{◌≡◌, Some, ap, sym, subst, unwrap_or, length, arith}
use Rattle.std.proofs.lemmas.List.{length-map, take_all}
use Rattle.std.specs.List.{AllByRecursion}
use Rattle.vx_bits.specs.Fields.{first_value}
use Rattle.vx_fields.specs.declared.sh.TheConstants.{sh_no_output_of_prior_pics_flag}
use Rattle.vx_pic.specs.Parts.{SlicePart}
use Rattle.vx_frame.specs.Rules.{outputs_of}
use Rattle.vx_frame.proofs.Gathered.{all_at, all_more}
use Rattle.vx_frame.proofs.slices.has_other_output.Goals as goal

pub returns-then-not-same_output-clause-unlike : goal.returns-then-not-same_output-clause-unlike
returns-then-not-same_output-clause-unlike c = λ all.
    let told = all_at (λ x. Some c.args.first ≡ Some x) (outputs_of c.args.picture.now) c.loop-i.i c.output_of.result all c.output_of.ensures in
    c.if-not-same_output.ensures.other (sym (ap (λ o. unwrap_or o c.args.first) told))

pub loop-i-preserved : goal.loop-i-preserved
loop-i-preserved c =
    all_more (λ x. Some c.args.first ≡ Some x) (outputs_of c.args.picture.now) c.loop-i.i c.output_of.result c.output_of.ensures c.loop-i.invariant (ap Some (sym c.if-not-same_output.ensures.same))

pub returns-clause-alike : goal.returns-clause-alike
returns-clause-alike c =
    let outputs = outputs_of c.args.picture.now in
    let size : length outputs ≡ length c.args.picture.now.slices = length-map c.args.picture.now.slices (λ (s : SlicePart). first_value s.header.fields sh_no_output_of_prior_pics_flag) in
    subst (AllByRecursion (λ x. Some c.args.first ≡ Some x)) (take_all c.loop-i.i outputs (omega (arith, size))) c.loop-i.invariant
