use Rattle.std.proofs.Common.{◌≡◌, ◌∙◌, false, ap, subst}
use Rattle.std.proofs.lemmas.Result.{err_from_is_err_and}
use Rattle.vx_pic.specs.declared.structure.Structure.TheVariants as structures
use Rattle.vx_pic.specs.Shown.{fields_of}
use Rattle.vx_assemble.specs.Fields as fields
use Rattle.vx_assemble.specs.declared.unit.UnitClass.TheVariants as classes
use Rattle.vx_assemble.proofs.Looking.{as_fields}
use Rattle.vx_assemble.proofs.state.State.class_fields.Goals as goal

pub returns-in_ok-slice_fields-in-Slice : goal.returns-in_ok-slice_fields-in-Slice
returns-in_ok-slice_fields-in-Slice c R h before held =
    let f = c.in_ok-slice_fields-in-Slice.field-0 in
    as_fields R h c.args.class classes.Slice before c.args.unit.bytes.now f c.in-Slice.is
    (subst (λ x. f ≡ fields.slice_fields R h before x) c.as_slice.ensures (c.in_ok-slice_fields-in-Slice.ensures R h before held))

pub returns-in_ok-vps_items-in-Vps : goal.returns-in_ok-vps_items-in-Vps
returns-in_ok-vps_items-in-Vps c R h before held =
    as_fields R h c.args.class classes.Vps before c.args.unit.bytes.now c.fields_of.result c.in-Vps.is
    (c.fields_of.ensures ∙ ap (fields_of structures.Vps) (c.in_ok-vps_items-in-Vps.ensures R h ∙ ap (fields.vps_items R h) c.args.unit.spells))

pub returns-in_ok-sps_items-in-Sps : goal.returns-in_ok-sps_items-in-Sps
returns-in_ok-sps_items-in-Sps c R h before held =
    as_fields R h c.args.class classes.Sps before c.args.unit.bytes.now c.fields_of-in-Sps.result c.in-Sps.is
    (c.fields_of-in-Sps.ensures ∙ ap (fields_of structures.Sps) (c.in_ok-sps_items-in-Sps.ensures R h ∙ ap (fields.sps_items R h) c.args.unit.spells))

pub returns-in_ok-pps_items-in-Pps : goal.returns-in_ok-pps_items-in-Pps
returns-in_ok-pps_items-in-Pps c R h before held =
    as_fields R h c.args.class classes.Pps before c.args.unit.bytes.now c.fields_of-in-Pps.result c.in-Pps.is
    (c.fields_of-in-Pps.ensures ∙ ap (fields_of structures.Pps) (c.in_ok-pps_items-in-Pps.ensures R h ∙ ap (fields.pps_items R h) c.args.unit.spells))

pub returns-in_ok-items-in-Header : goal.returns-in_ok-items-in-Header
returns-in_ok-items-in-Header c R h before held =
    as_fields R h c.args.class classes.Header before c.args.unit.bytes.now c.fields_of-in-Header.result c.in-Header.is
    (c.fields_of-in-Header.ensures ∙ ap (fields_of structures.PictureHeader) (c.in_ok-items-in-Header.ensures R h before held.apart ∙ ap (λ x. fields.picture_header_items R h false x before) c.args.unit.spells))

pub returns-in_ok-aps_fields-in-PrefixAps : goal.returns-in_ok-aps_fields-in-PrefixAps
returns-in_ok-aps_fields-in-PrefixAps c R h before held =
    as_fields R h c.args.class classes.PrefixAps before c.args.unit.bytes.now c.in_ok-aps_fields-in-PrefixAps.field-0 c.in-PrefixAps.is
    (c.in_ok-aps_fields-in-PrefixAps.ensures R h ∙ ap (fields.aps_fields R h) c.args.unit.spells)

pub returns-in_ok-aps_fields-in-SuffixAps : goal.returns-in_ok-aps_fields-in-SuffixAps
returns-in_ok-aps_fields-in-SuffixAps c R h before held =
    as_fields R h c.args.class classes.SuffixAps before c.args.unit.bytes.now c.in_ok-aps_fields-in-SuffixAps.field-0 c.in-SuffixAps.is
    (c.in_ok-aps_fields-in-SuffixAps.ensures R h ∙ ap (fields.aps_fields R h) c.args.unit.spells)

pub returns-in-Other : goal.returns-in-Other
returns-in-Other c R h before held = as_fields R h c.args.class classes.Other before c.args.unit.bytes.now c.new.result c.in-Other.is c.new.ensures

pub returns-in-End : goal.returns-in-End
returns-in-End c R h before held = as_fields R h c.args.class classes.End before c.args.unit.bytes.now c.new-in-End.result c.in-End.is c.new-in-End.ensures

pub returns-in-Sei : goal.returns-in-Sei
returns-in-Sei c R h before held = as_fields R h c.args.class classes.Sei before c.args.unit.bytes.now c.new-in-Sei.result c.in-Sei.is c.new-in-Sei.ensures

pub returns-in_err-items-in-Header : goal.returns-in_err-items-in-Header
returns-in_err-items-in-Header c = rw (err_from_is_err_and c.from_residual-in_err-items-in-Header.result c.from_residual-in_err-items-in-Header.ensures.1).1 tt

pub returns-in_err-vps_items-in-Vps : goal.returns-in_err-vps_items-in-Vps
returns-in_err-vps_items-in-Vps c = rw (err_from_is_err_and c.from_residual.result c.from_residual.ensures.1).1 tt

pub returns-in_err-sps_items-in-Sps : goal.returns-in_err-sps_items-in-Sps
returns-in_err-sps_items-in-Sps c = rw (err_from_is_err_and c.from_residual-in_err-sps_items-in-Sps.result c.from_residual-in_err-sps_items-in-Sps.ensures.1).1 tt

pub returns-in_err-pps_items-in-Pps : goal.returns-in_err-pps_items-in-Pps
returns-in_err-pps_items-in-Pps c = rw (err_from_is_err_and c.from_residual-in_err-pps_items-in-Pps.result c.from_residual-in_err-pps_items-in-Pps.ensures.1).1 tt

pub returns-in_err-aps_fields-in-PrefixAps : goal.returns-in_err-aps_fields-in-PrefixAps
returns-in_err-aps_fields-in-PrefixAps c = rw (err_from_is_err_and c.from_residual-in_err-aps_fields-in-PrefixAps.result c.from_residual-in_err-aps_fields-in-PrefixAps.ensures.1).1 tt

pub returns-in_err-aps_fields-in-SuffixAps : goal.returns-in_err-aps_fields-in-SuffixAps
returns-in_err-aps_fields-in-SuffixAps c = rw (err_from_is_err_and c.from_residual-in_err-aps_fields-in-SuffixAps.result c.from_residual-in_err-aps_fields-in-SuffixAps.ensures.1).1 tt

pub returns-in_err-slice_fields-in-Slice : goal.returns-in_err-slice_fields-in-Slice
returns-in_err-slice_fields-in-Slice c = rw (err_from_is_err_and c.from_residual-in_err-slice_fields-in-Slice.result c.from_residual-in_err-slice_fields-in-Slice.ensures.1).1 tt
