use Rattle.std.proofs.Common.{◌<◌, Err, refl, ap, subst}
use Rattle.vx_annexb.specs.Reading.{Reading}
use Rattle.vx_assemble.proofs.Feeding.{few_bytes, reads_more, unended}
use Rattle.vx_assemble.proofs.Within.{reader_within}
use Rattle.vx_annexb.specs.declared.unit_reader.ReadFault.{ReadFault}
use Rattle.vx_assemble.proofs.feed.Feed.read.Goals as goal

pub returns-in-Ok-clause-answer : goal.returns-in-Ok-clause-answer
returns-in-Ok-clause-answer g c R bytes places before fed =
    let open_ = rw (← c.self.view_is) at c.requires.open in
    reads_more R bytes places before _ _ _ _ _ _ (rw (← c.self.view_is) at fed) open_.reader (λ units read. c.in-Ok.ensures.answer bytes units read) refl refl open_.going

pub returns-in-Err-clause-unended : goal.returns-in-Err-clause-unended
returns-in-Err-clause-unended g c =
    let open_ = rw (← c.self.view_is) at c.requires.open in
    unended _ _ c.in-Err.fault open_.reader (λ e. c.in-Err.ensures.memory (ap (λ (f : ReadFault). Err f) e)) (λ e. c.in-Err.ensures.failed (ap (λ (f : ReadFault). Err f) e))

pub returns-in-Ok-clause-bytes : goal.returns-in-Ok-clause-bytes
returns-in-Ok-clause-bytes g c = few_bytes c.read.new.self c.self.inside.assembler c.in-Ok.ensures.held c.self.invariant.bounded

pub returns-in-Err-clause-bytes : goal.returns-in-Err-clause-bytes
returns-in-Err-clause-bytes g c = few_bytes c.read.new.self c.self.inside.assembler c.in-Err.ensures.held c.self.invariant.bounded

pub returns-in-Ok-clause-units : goal.returns-in-Ok-clause-units
returns-in-Ok-clause-units g c = rw (← c.self.view_is) refl

pub returns-in-Ok-clause-lends : goal.returns-in-Ok-clause-lends
returns-in-Ok-clause-lends g c = rw (← c.self.view_is) refl

pub returns-in-Ok-clause-held : goal.returns-in-Ok-clause-held
returns-in-Ok-clause-held g c = c.in-Ok.ensures.held

pub returns-in-Ok-clause-bounded : goal.returns-in-Ok-clause-bounded
returns-in-Ok-clause-bounded g c = c.self.invariant.bounded

pub returns-in-Err-clause-units : goal.returns-in-Err-clause-units
returns-in-Err-clause-units g c = rw (← c.self.view_is) refl

pub returns-in-Err-clause-lends : goal.returns-in-Err-clause-lends
returns-in-Err-clause-lends g c = rw (← c.self.view_is) refl

pub returns-in-Err-clause-held : goal.returns-in-Err-clause-held
returns-in-Err-clause-held g c = c.in-Err.ensures.held

pub returns-in-Err-clause-bounded : goal.returns-in-Err-clause-bounded
returns-in-Err-clause-bounded g c = c.self.invariant.bounded

pub returns-in-Ok-clause-going : goal.returns-in-Ok-clause-going
returns-in-Ok-clause-going g c =
    let open_ = rw (← c.self.view_is) at c.requires.open in
    open_.going

pub returns-in-Ok-clause-first : goal.returns-in-Ok-clause-first
returns-in-Ok-clause-first g c = tt

pub returns-in-Ok-clause-unended : goal.returns-in-Ok-clause-unended
returns-in-Ok-clause-unended g c = tt

pub returns-in-Err-clause-going : goal.returns-in-Err-clause-going
returns-in-Err-clause-going g c = tt

pub returns-in-Err-clause-grows : goal.returns-in-Err-clause-grows
returns-in-Err-clause-grows g c = tt

pub returns-in-Err-clause-end : goal.returns-in-Err-clause-end
returns-in-Err-clause-end g c = tt

pub returns-in-Ok-clause-grows : goal.returns-in-Ok-clause-grows
returns-in-Ok-clause-grows g c open_ =
    subst (λ (h : Reading). h.taken < c.read.new.self.taken) (reader_within _ _ _ _ _ c.self.view_is) (c.in-Ok.ensures.grows open_.reader)

pub returns-in-Ok-clause-within : goal.returns-in-Ok-clause-within
returns-in-Ok-clause-within g c = c.in-Ok.ensures.within

pub returns-in-Ok-clause-end : goal.returns-in-Ok-clause-end
returns-in-Ok-clause-end g c = c.in-Ok.ensures.end

pub returns-in-Err-clause-within : goal.returns-in-Err-clause-within
returns-in-Err-clause-within g c = c.in-Err.ensures.within
