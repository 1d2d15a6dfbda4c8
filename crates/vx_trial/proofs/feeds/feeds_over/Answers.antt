-- One more feed.
use Rattle.std.proofs.Common.{◌≡◌, ◌+◌, ◌++◌, ◌∷◌, [], ◌∙◌, ℕ, List, take, ap, subst, sym}
use Rattle.std.specs.List.{AllZip}
use Rattle.std.proofs.lemmas.List.{take_more}
use Rattle.vx_assemble.specs.Feed.{Feeding}
use Rattle.vx_assemble.specs.Memory.{HasSeen}
use Rattle.vx_trial.specs.inner.Feeds.{IsUnfed}
use Rattle.vx_trial.proofs.Pairs.{zip_push}
use Rattle.vx_trial.proofs.feeds.feeds_over.Goals as goal

pub loop-stream-preserved : goal.loop-stream-preserved
loop-stream-preserved c =
    let streams = c.args.streams.now in
    let i = c.loop-stream.stream-index in
    let stream = c.stream-item.result in
    let feed = c.in_ok-feed.feed in
    let more : take (i + 1) streams ≡ take i streams ++ stream ∷ [] =
    take_more streams i stream c.loop-stream-test.true ∙ ap (λ (s : List ℕ). take i streams ++ s ∷ []) (sym c.stream-item.is) in
    let unfed : IsUnfed feed stream = λ R. subst (λ (b : List ℕ). HasSeen R feed b []) c.as_slice.ensures (c.in_ok-feed.ensures.seen R) in
    subst (λ (l : List Feeding). AllZip IsUnfed l (take (i + 1) streams)) (sym c.in_ok-push.ensures.items)
    (subst (λ (l : List (List ℕ)). AllZip IsUnfed (c.loop-stream.feeds.items ++ feed ∷ []) l) (sym more)
    (zip_push IsUnfed c.loop-stream.feeds.items (take i streams) feed stream c.loop-stream.invariant unfed))
