-- What a handle owns. Our own.
use Rattle.std.specs.Prelude.{Bool, true, false, Option, Some, None}
use base.Fml.{Fml, ftrue, ffalse}
use denote.RawPtr.{Ptr}
use Rattle.std.specs.Global.{Global}
use Rattle.std.specs.contracts.impls.GlobalAllocator.TheImpl.{ghosts}
use Rattle.std_alloc.specs.Box.Ownership.{box_owns}
use Rattle.vx_c.specs.declared.state.State.{State}
use Rattle.vx_c.specs.contracts.state.State.{the_row}

-- The allocator of each box: there is one heap.
abbrev pub heap : Global
heap = record { memory = record { seal = tt } }

-- A live one the box at its pointer, and a closed one nothing.
abbrev pub owned : Ptr → Bool → Option State → Fml
owned at true (Some state) = box_owns (ghosts.dealloc_token heap) the_row at state
owned at false None = ftrue
owned at live state = ffalse
