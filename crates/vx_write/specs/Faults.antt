-- Why a picture isn't written. Our own.
use Rattle.vx_write.specs.declared.fault.WriteError.{WriteError}
use Rattle.vx_write.specs.declared.fault.WriteError.TheVariants as errors
use Rattle.vx_write.specs.declared.fault.WriteFirst.{WriteFirst}
use Rattle.vx_write.specs.declared.fault.WriteFirst.TheVariants as firsts

-- The first error that kept pictures from being written, after this result.
abbrev pub first_of : WriteError → WriteFirst
first_of errors.Memory = firsts.Memory
first_of errors.SinkFailed = firsts.SinkFailed
first_of (errors.Refused r) = firsts.Refused r
first_of (errors.Stopped f) = f
