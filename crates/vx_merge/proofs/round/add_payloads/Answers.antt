use Rattle.std.proofs.Common.{◌++◌, map, sym, ap, ◌∙◌, arith}
use Rattle.std.proofs.lemmas.List.{append-nil, take_all}
use Rattle.vx_pic.specs.Parts.{part_of}
use Rattle.vx_merge.specs.inner.Making.{payload_of}
use Rattle.vx_merge.proofs.Planning.{payload_more}
use Rattle.vx_merge.proofs.round.add_payloads.Goals as goal

pub loop-i-init : goal.loop-i-init
loop-i-init c = sym (append-nil _)

pub loop-i-preserved : goal.loop-i-preserved
loop-i-preserved c =
    payload_more c.loop-i.payloads _ _ c.args.picture.now.slices c.loop-i.i (part_of c.slice.result) c.slice.result.payload c.slice.ensures.slice c.slice.ensures.suffix
    c.in_ok-push.ensures.ok c.loop-i.invariant

pub returns : goal.returns
returns c =
    c.loop-i.invariant ∙ ap (λ ss. map (λ b. b.now) c.args.payloads.now ++ map payload_of ss) (take_all c.loop-i.i c.args.picture.now.slices (omega arith))
