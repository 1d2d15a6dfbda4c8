-- A handle may go to another thread: what it owns says the same there.
use mir.Raw.{raw}
use base.Shift.{Keyless}
use denote.Memory.{lone}
use denote.RawPtr.{Ptr}
use denote.Struct.Struct.{exits_of}
use denote.Struct.Owning.{shape, fields, to}
use denote.Param.Send.{IsSend, AllSend, owning_send, struct_send, sendable}
use Rattle.std.specs.Prelude.{Bool, true, false, Option, Some, None}
use Rattle.std.proofs.Crossing as std
use Rattle.std_alloc.proofs.SendSync.{quiet, lies}
use Rattle.vx_c.specs.Handles.{heap, owned}
use Rattle.vx_c.specs.declared.state.State.{State as Stated}
use Rattle.vx_c.specs.contracts.state.State as state
use Rattle.vx_c.proofs.state.State.TheSendSync.{the_send as inside}
use Rattle.vx_c.specs.contracts.handle.Handle.{the_row, the_type}

owns : (at : Ptr) (live : Bool) (s : Option Stated) → Keyless (owned at live s)
owns at true (Some s) = (lies state.the_row inside at s, std.frees.frees heap (raw (lone state.the_row.mir)) at)
owns at true None = tt
owns at false None = tt
owns at false (Some s) = tt

pub send : IsSend the_row
send =
    let all : AllSend (fields the_type) = search sendable in
    owning_send the_type all (λ h. owns h.at h.live h.state) (λ k. quiet (to the_type) (exits_of k (fields the_type)) ((struct_send (shape the_type) all).leaving k))
