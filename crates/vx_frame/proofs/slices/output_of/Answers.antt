use Rattle.std.proofs.Common.{Some, ap, sym, ◌∙◌}
use Rattle.std.specs.Prelude.{option_map}
use Rattle.std.proofs.lemmas.Option.{slice_get-map}
use Rattle.vx_bits.specs.Fields.{first_value}
use Rattle.vx_fields.specs.declared.sh.TheConstants.{sh_no_output_of_prior_pics_flag}
use Rattle.vx_pic.specs.Parts.{SlicePart}
use Rattle.vx_frame.proofs.slices.output_of.Goals as goal

pub returns : goal.returns
returns c =
    let told = λ (s : SlicePart). first_value s.header.fields sh_no_output_of_prior_pics_flag in
    slice_get-map told c.args.picture.now.slices c.args.i ∙ (ap (option_map told) c.slice.ensures.slice ∙ ap Some (sym c.first.ensures))
