use Rattle.std.proofs.Common.{◌≡◌, ◌<◌, ◌∙◌, ap, sym, subst, length, Ok, Err}
use Rattle.std.specs.Prelude.{None}
use Rattle.std.proofs.lemmas.Result.{err_from_is_err_and}
use Rattle.vx_rpl.specs.HeaderLists.{lists_of}
use Rattle.vx_ph.specs.InForce.{in_force, structures}
use Rattle.vx_assemble.specs.inner.Answered.{slice_seen}
use Rattle.vx_assemble.specs.inner.Held.{begun_of}
use Rattle.vx_assemble.specs.inner.Takes.{Gives}
use Rattle.vx_assemble.proofs.Small.{small_names}
use Rattle.vx_assemble.proofs.ReadUnder.{read_under, at_read}
use Rattle.vx_assemble.proofs.readers.slice_of.Goals as goal

pub read_slice-requires-clause-scope : goal.read_slice-requires-clause-scope
read_slice-requires-clause-scope c =
    let of = c.numbers_under-numbers.ensures.under None in
    rw (of.sps, of.pps) (c.value-scope.ensures ∙ ap (λ s. s.scope) c.value.ensures ∙ c.requires.sets.scope)

pub returns-in_err-header-clause-answer : goal.returns-in_err-header-clause-answer
returns-in_err-header-clause-answer c R h head =
    let p = err_from_is_err_and c.from_residual.result c.from_residual.ensures.1 in
    let n = c.numbers_under-numbers in
    rw (p.1, p.2) (subst (λ t. Gives (R.slice t (begun_of c.args.begun.now head) c.args.unit.bytes.now) (Err c.in_err-header.field-0.0)) n.ensures.nal_type
    (c.in_err-header.ensures.answer R h (begun_of c.args.begun.now head) (n.ensures.under head)))

pub returns-clause-answer : goal.returns-clause-answer
returns-clause-answer c R h head =
    let n = c.numbers_under-numbers in
    subst (λ t. Gives (R.slice t (begun_of c.args.begun.now head) c.args.unit.bytes.now) (Ok (slice_seen (c.in_ok-header.header, c.in_ok-header.payload)))) n.ensures.nal_type
    (c.in_ok-header.ensures.answer R h (begun_of c.args.begun.now head) (n.ensures.under head))

pub returns-clause-made : goal.returns-clause-made
returns-clause-made c =
    let b = c.args.begun.now in
    let h = c.in_ok-header.header in
    let n = c.numbers_under-numbers in
    let of = n.ensures.under None in
    let read = c.in_ok-header.ensures in
    read_under b c.args.nal_type h c.in_ok-header.payload c.requires
    (subst (λ ids. h.subpic < length ids) (of.ids ∙ sym c.requires.sets.ids) read.subpic)
    (subst (λ y. h.lists ≡ lists_of (structures b.sets.sps) (in_force b.sets.sps y) h.fields) of.pps
    (subst (λ x. h.lists ≡ lists_of (structures x) (in_force x n.result.pps.now) h.fields) of.sps read.lists))
    (small_names b.sets.pps b.header.fields h.fields c.requires.small read.small)
    (at_read c.args.nal_type n.result b h c.requires n.ensures.nal_type of read.read)
