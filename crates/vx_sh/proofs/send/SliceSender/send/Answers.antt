-- What is sent is the rewritten slice header, and it never comes that there is none.
use Rattle.std.proofs.Common.{ap, ◌∙◌}
use Rattle.vx_sh.specs.Reshaped.{stated_sh_items}
use Rattle.vx_sh.proofs.Sending.{is_sent, sends, whole}
use Rattle.vx_sh.proofs.send.SliceSender.send.Goals as goal

pub into_bytes-requires : goal.into_bytes-requires
into_bytes-requires c =
    let stated_are = c.in_ok-stated.ensures ∙ ap (λ n. stated_sh_items n c.args.shape.now) c.self.view_is in
    let says = rw c.in-Ok.is at (sends c.args.source.now c.args.shape.now c.args.self.now c.requires.shape c.requires.source c.in_ok-stated.stated c.send_fields.new.bits c.send_fields.result stated_are c.send_fields.ensures) in
    whole c.args.source.now c.args.shape.now c.args.self.now c.requires.shape c.requires.source c.send_fields.new.bits says

pub returns-in-Ok : goal.returns-in-Ok
returns-in-Ok c =
    let stated_are = c.in_ok-stated.ensures ∙ ap (λ n. stated_sh_items n c.args.shape.now) c.self.view_is in
    let says = rw c.in-Ok.is at (sends c.args.source.now c.args.shape.now c.args.self.now c.requires.shape c.requires.source c.in_ok-stated.stated c.send_fields.new.bits c.send_fields.result stated_are c.send_fields.ensures) in
    is_sent c.args.source.now c.args.shape.now c.args.self.now c.requires.shape c.requires.source c.into_bytes.result.items c.send_fields.new.bits c.into_bytes.ensures says

pub only_memory-requires : goal.only_memory-requires
only_memory-requires c = λ none.
    let stated_are = c.in_ok-stated.ensures ∙ ap (λ n. stated_sh_items n c.args.shape.now) c.self.view_is in
    rw (c.in-Err.is, none) at (sends c.args.source.now c.args.shape.now c.args.self.now c.requires.shape c.requires.source c.in_ok-stated.stated c.send_fields.new.bits c.send_fields.result stated_are c.send_fields.ensures)
