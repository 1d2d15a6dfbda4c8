use Rattle.std.proofs.Common.{◌∙◌, sym, ap}
use Rattle.vx_pic.specs.Parts.{header_unit_in}
use Rattle.vx_pic.specs.Readings.{current}
use Rattle.vx_assemble.specs.Fields as fields
use Rattle.vx_assemble.specs.inner.Held.{begun_of}
use Rattle.vx_assemble.proofs.KeptPicture.{nothing_open}
use Rattle.vx_assemble.proofs.Looking.{closed_none, headed_fields, going_fields}
use Rattle.vx_assemble.proofs.state.State.following_fields.Goals as goal

pub returns-then-not-is_open : goal.returns-then-not-is_open
returns-then-not-is_open c R h before held =
    c.new.ensures
    ∙ sym (closed_none R h (current before) c.args.unit.bytes.now (sym (c.is_open.ensures (current before) held.picture) ∙ c.if-not-is_open.true))

pub returns-in-Nothing : goal.returns-in-Nothing
returns-in-Nothing c R h before held =
    c.new-in-Nothing.ensures
    ∙ sym (closed_none R h (current before) c.args.unit.bytes.now (nothing_open c.args.self.now.picture (current before) c.in-Nothing.is held.picture))

pub returns-in_ok-items-in-Headed : goal.returns-in_ok-items-in-Headed
returns-in_ok-items-in-Headed c R h before held =
    let s = c.args.self.now.picture in
    let b = begun_of c.in-Headed.begun (header_unit_in s.bytes s.header_end) in
    let u = c.args.unit.bytes.now in
    c.fields_of.ensures
    ∙ headed_fields R h s (current before) c.in-Headed.begun u c.in_ok-items-in-Headed.items held.picture c.in-Headed.is
    (c.in_ok-items-in-Headed.ensures R h (header_unit_in s.bytes s.header_end) ∙ ap (λ t. fields.slice_items R h t b u) (ap (λ x. x.nal_type) c.args.unit.heads))

pub returns-in_ok-items-in-Going : goal.returns-in_ok-items-in-Going
returns-in_ok-items-in-Going c R h before held =
    let s = c.args.self.now.picture in
    c.fields_of-in-Going.ensures
    ∙ going_fields R h s (current before) c.in-Going.going c.args.unit.bytes.now c.in_ok-items-in-Going.items held.picture c.in-Going.is
    (sym (c.is_open.ensures (current before) held.picture) ∙ c.if-not-is_open.false) (c.in_ok-items-in-Going.ensures R h (header_unit_in s.bytes s.header_end))
