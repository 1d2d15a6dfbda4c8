use Rattle.std.proofs.Common.{◌≡◌, ◌≢◌, ◌≤◌, false, true, length, ap, ◌∙◌, rules, arith}
use Rattle.std.specs.Prelude.{replicate}
use Rattle.vx_pic.specs.Parts.{part_of}
use Rattle.vx_extract.specs.inner.Needed.{all_marked, own_names, header_names}
use Rattle.vx_extract.proofs.Naming.{walk_first, walk_on, walk_off, names_none, names_some}
use Rattle.vx_extract.proofs.needed.named_aps.Goals as goal

pub loop-i-init : goal.loop-i-init
loop-i-init c = rw c.none-named.ensures (walk_first c.args.picture.now c.args.target (replicate 24 false))

pub loop-i-preserved-then-slice-target : goal.loop-i-preserved-then-slice-target
loop-i-preserved-then-slice-target c =
    let other : c.slice-slice.result.header.now.subpic ≢ c.args.target = search rules in
    walk_off c.args.picture.now c.args.target (replicate 24 false) c.loop-i.named c.loop-i.found c.loop-i.i (part_of c.slice-slice.result)
    c.slice-slice.ensures.slice other c.loop-i.invariant

pub loop-i-preserved : goal.loop-i-preserved
loop-i-preserved c =
    let is : c.slice-slice.result.header.now.subpic ≡ c.args.target = search rules in
    walk_on c.args.picture.now c.args.target (replicate 24 false) c.loop-i.named c.mark_slice.new.self c.loop-i.found c.loop-i.i (part_of c.slice-slice.result)
    c.slice-slice.ensures.slice is c.loop-i.invariant
    (c.mark_slice.ensures ∙ ap (λ p. all_marked c.loop-i.named (own_names p c.slice-slice.result.header.now.fields)) c.pps.ensures)
    c.slice-slice.ensures.bodies

pub returns-then-not-found : goal.returns-then-not-found
returns-then-not-found c =
    let past : length c.args.picture.now.slices ≤ c.loop-i.i = omega arith in
    let none : c.loop-i.found ≡ false = search rules in
    names_none c.args.picture.now c.args.target c.loop-i.named c.loop-i.found c.loop-i.i past none c.loop-i.invariant

pub returns : goal.returns
returns c =
    let past : length c.args.picture.now.slices ≤ c.loop-i.i = omega arith in
    let some : c.loop-i.found ≡ true = search rules in
    let header : c.header.result.now.fields ≡ c.args.picture.now.header.fields = ap (λ h. h.fields) c.header.ensures.value in
    names_some c.args.picture.now c.args.target c.loop-i.named c.mark_header.new.self c.loop-i.found c.loop-i.i past some c.loop-i.invariant
    (c.mark_header.ensures ∙ ap (λ p. all_marked c.loop-i.named (header_names p c.header.result.now.fields)) c.pps-2.ensures
    ∙ ap (λ items. all_marked c.loop-i.named (header_names c.args.picture.now.pps items)) header)
