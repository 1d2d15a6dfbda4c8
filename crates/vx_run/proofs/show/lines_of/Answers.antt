use Rattle.std.proofs.Common.{◌≡◌, ◌++◌}
use Rattle.vx_run.proofs.Made.{unit_lines_made}
use Rattle.vx_run.proofs.show.lines_of.Goals as goal

pub returns : goal.returns
returns c R of g units u r before fed told count =
    let both : c.extend_from_slice.new.self.items ≡ c.in_ok-lines.lines.items ++ c.in_ok-told.told.items = rw c.deref.ensures.value at c.in_ok-extend_from_slice.ensures.items in
    unit_lines_made g u r before c.args.header c.args.offset c.args.bytes c.args.what _ _ _ told c.in_ok-lines.ensures (c.in_ok-told.ensures R of g units r before fed told.what count) both
