use Rattle.std.proofs.Common.{◌≡◌, take}
use Rattle.vx_sei.specs.Sei.{sei_messages}
use Rattle.vx_sei.proofs.write.write_sei.Given as goal

abbrev pub invariant-loop-message : goal.invariant-loop-message
invariant-loop-message l = l.rbsp.items ≡ sei_messages (take l.message-index l.messages)
