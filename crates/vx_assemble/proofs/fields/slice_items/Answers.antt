use Rattle.vx_assemble.specs.inner.Held.{begun_of}
use Rattle.vx_assemble.proofs.Shown.{same_front, same_slice}
use Rattle.vx_assemble.proofs.fields.slice_items.Goals as goal

pub returns-in-Ok : goal.returns-in-Ok
returns-in-Ok c R h head =
    let t = c.args.nal_type in
    let b = begun_of c.args.begun.now head in
    let u = c.args.unit in
    let read = rw c.new-first.ensures at (c.in-Ok.ensures head) in
    same_front t b u.front.bytes.now u.bytes.now (R.slice t b u.bytes.now) (h.slice t b u.bytes.now) read.0 c.read_slice_fields.new.into u.begins u.front.sound.header read.1

pub returns : goal.returns
returns c R h head =
    let t = c.args.nal_type in
    let b = begun_of c.args.begun.now head in
    let u = c.args.unit.bytes.now in
    let given = rw c.new-items.ensures at (c.read_slice_fields-2.ensures head) in
    let read = rw c.whole-whole.ensures at given in
    same_slice t b u (R.slice t b u) (h.slice t b u) c.read_slice_fields-2.result read.0 c.read_slice_fields-2.new.into c.in_ok-unless_memory.ensures read.1
