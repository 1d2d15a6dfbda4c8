-- A stream more.
use Rattle.std.proofs.Common.{◌≡◌, ℕ, ◌+◌, ◌*◌, [], ◌∷◌, ◌++◌, ap, sym, ◌∙◌, arith}
use Rattle.vx_gen.specs.Draws.{state}
use Rattle.vx_gen.specs.Streams.{stream}
use Rattle.vx_gen.proofs.Making.{stream_more}
use Rattle.vx_gen.proofs.streams.generate.Goals as goal

pub loop-k-preserved : goal.loop-k-preserved
loop-k-preserved c =
    let at : ℕ = 5 * (c.loop-k.k * c.args.pictures) in
    let made : c.in_ok-stream.stream ≡ stream c.args.seed c.args.pictures c.loop-k.k = c.in_ok-stream.ensures.bytes c.args.seed at c.loop-k.invariant.0 in
    let drawn : c.stream.new.draws.state ≡ state c.args.seed (at + 5 * c.args.pictures) = c.in_ok-stream.ensures.draws c.args.seed at c.loop-k.invariant.0 in
    let one : c.push.new.self ≡ c.loop-k.streams ++ c.in_ok-stream.stream ∷ [] = c.in_ok-push.ensures.ok in
    (drawn ∙ ap (state c.args.seed) (omega arith), one ∙ ap (λ made. c.loop-k.streams ++ made ∷ []) made ∙ ap (λ made. made ++ stream c.args.seed c.args.pictures c.loop-k.k ∷ []) c.loop-k.invariant.1 ∙ sym (stream_more c.args.seed c.args.pictures c.loop-k.k))
