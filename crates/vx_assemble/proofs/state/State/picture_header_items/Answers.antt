use Rattle.std.proofs.Common.{◌≡◌, ◌++◌, ◌∙◌, sym, ap}
use Rattle.std.specs.Prelude.{Some, None}
use Rattle.vx_pic.specs.Sets.{referred_sps}
use Rattle.vx_pic.specs.Readings.{stored_sps, stored_pps}
use Rattle.vx_assemble.specs.Fields as fields
use Rattle.vx_assemble.specs.inner.Fields.{head_items}
use Rattle.vx_assemble.proofs.Looking.{id_refused, pps_missing, sps_missing, under_both}
use Rattle.vx_assemble.proofs.state.State.picture_header_items.Goals as goal

pub returns-in-Err-Refused : goal.returns-in-Err-Refused
returns-in-Err-Refused c R h before apart =
    c.in_ok-items-in-Err-Refused.ensures R h
    ∙ ap (λ xs. head_items c.args.inside ++ xs) (sym (id_refused R h c.args.inside c.args.rbsp.now before _ (rw c.in-Err-Refused.field-0-is at (c.in-Err-Refused.ensures R h))))

pub returns-in_default : goal.returns-in_default
returns-in_default c R h before apart =
    c.in_ok-items.ensures R h
    ∙ ap (λ xs. head_items c.args.inside ++ xs)
    (sym (pps_missing R h c.args.inside c.args.rbsp.now before c.in-Ok.id (c.in-Ok.ensures R h) (sym (apart.pps c.in-Ok.id) ∙ sym c.in_default.ensures)))

pub returns-in_default-sps_of : goal.returns-in_default-sps_of
unfolding referred_sps
returns-in_default-sps_of c R h before apart =
    let pps = c.in-Some.pps.now in
    let some : stored_pps c.in-Ok.id before ≡ Some pps = sym (apart.pps c.in-Ok.id) ∙ sym c.in-Some.ensures in
    let id : c.sps_id.result ≡ referred_sps pps = c.sps_id.ensures.value ∙ ap referred_sps c.value.ensures in
    let none : stored_sps (referred_sps pps) before ≡ None = ap (λ i. stored_sps i before) (sym id) ∙ sym (apart.sps c.sps_id.result) ∙ sym c.in_default-sps_of.ensures in
    c.in_ok-items-2.ensures R h
    ∙ ap (λ xs. head_items c.args.inside ++ xs) (sym (sps_missing R h c.args.inside c.args.rbsp.now before c.in-Ok.id pps (c.in-Ok.ensures R h) some none))

pub returns : goal.returns
unfolding referred_sps
returns c R h before apart =
    let pps = c.in-Some.pps.now in
    let sps = c.in-Some-sps_of.sps.now in
    let head = head_items c.args.inside in
    let rbsp = c.args.rbsp.now in
    let some : stored_pps c.in-Ok.id before ≡ Some pps = sym (apart.pps c.in-Ok.id) ∙ sym c.in-Some.ensures in
    let id : c.sps_id.result ≡ referred_sps pps = c.sps_id.ensures.value ∙ ap referred_sps c.value.ensures in
    let known : stored_sps (referred_sps pps) before ≡ Some sps = ap (λ i. stored_sps i before) (sym id) ∙ sym (apart.sps c.sps_id.result) ∙ sym c.in-Some-sps_of.ensures in
    c.in_ok-items-3.ensures R h
    ∙ ap (λ x. head ++ fields.header_items R h c.args.inside rbsp x c.value-3.result.now) c.value-2.ensures
    ∙ ap (λ y. head ++ fields.header_items R h c.args.inside rbsp sps y) c.value-3.ensures
    ∙ ap (λ xs. head ++ xs) (sym (under_both R h c.args.inside rbsp before c.in-Ok.id pps sps (c.in-Ok.ensures R h) some known))
