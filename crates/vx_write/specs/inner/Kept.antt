-- A set that was sent, as it is kept. Our own.
use Rattle.vx_pic.specs.Written.{Set, an_sps, a_pps, an_aps}
use Rattle.vx_write.specs.declared.written.WrittenSet.{WrittenSet}
use Rattle.vx_write.specs.declared.written.WrittenSet.TheVariants as written

-- The set.
abbrev pub set_kept : WrittenSet → Set
set_kept (written.Sps items) = an_sps items
set_kept (written.Pps items) = a_pps items
set_kept (written.Aps a) = an_aps a
