use Rattle.std.proofs.Common.{sym, ap}
use Rattle.vx_io.specs.Memory.{Supply}
use Rattle.vx_io.proofs.MemoryLemmas.{read_moves}
use Rattle.vx_io.proofs.memory.source.MemorySourceSource.read.Goals as goal

pub returns-clause-bytes : goal.returns-clause-bytes
returns-clause-bytes c =
    let left = ap (λ (s : Supply). s.left) (sym c.self.view_is) in
    let moved = rw c.in_ok-count.ensures.ok_part at c.next.ensures.moved in
    let most = rw c.deref.ensures.value at c.min-most.ensures in
    let copied = rw c.deref.ensures.value at c.copy_from_slice.ensures.after in
    read_moves _ _ _ _ _ _ _ _ _ left moved most copied c.copy_from_slice.ensures.len
