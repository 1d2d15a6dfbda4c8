use Rattle.std.proofs.Common.{◌≡◌, ◌+◌, ◌<◌, ◌≤◌, ℕ, List, ◌++◌, Vec, Global, length, map, take, ap, sym, subst, ◌∙◌, arith}
use Rattle.std.proofs.lemmas.List.{append-nil, take_all}
use Rattle.vx_pic.specs.Parts.{Parts, SlicePart}
use Rattle.vx_frame.specs.Rounds.{picture_at}
use Rattle.vx_frame.proofs.Reading.{picture_read}
use Rattle.vx_merge.specs.Headers.{IsFront}
use Rattle.vx_merge.specs.inner.Fronts.{AreFronts}
use Rattle.vx_merge.specs.inner.Ready.{ids_in}
use Rattle.vx_merge.proofs.SliceFronts.{fronts_more}
use Rattle.vx_merge.proofs.fronts.push_fronts.Goals as goal

pub loop-i-init : goal.loop-i-init
loop-i-init c = λ b before begun old.
    subst (λ (xs : List (ℕ × SlicePart)). AreFronts c.args.round.now c.args.needed.now b xs (map (λ f. f.items) c.args.fronts.now.items))
    (sym (append-nil before)) old

pub loop-i-preserved : goal.loop-i-preserved
loop-i-preserved c = λ b before begun old.
    let round = c.args.round.now in
    let n = c.args.needed.now in
    let k : ℕ = c.args.k in
    let i : ℕ = c.loop-i.i in
    let slices : List SlicePart = (picture_at round k).slices in
    let q_is = picture_read round k c.index-round-k.result c.requires.k c.index-round-k.is in
    let count : c.slice_count-i-end.result ≡ length (picture_at round k).slices = c.slice_count-i-end.ensures.number
    ∙ ap (λ (x : Parts). length x.slices) q_is in
    let short : c.loop-i.i < length (picture_at round k).slices = let test = c.loop-i-test.true in omega (arith, test, count) in
    subst (λ (xs : List (Vec ℕ Global)). AreFronts round n b (before ++ map (λ s. (k, s)) (take (i + 1) slices)) (map (λ f. f.items) xs))
    (sym {A = List (Vec ℕ Global)} c.in_ok-push.ensures.items)
    (fronts_more (λ x front. IsFront round (ids_in n) (picture_at round 0).kind.nal_type b x.0 x.1 front) (λ (f : Vec ℕ Global). f.items)
    before k slices i c.loop-i.fronts.items c.in_ok-slice_front.field-0
    short (c.loop-i.invariant b before begun old) (c.in_ok-slice_front.ensures b begun))

pub returns : goal.returns
returns c = λ b before begun old.
    let round = c.args.round.now in
    let k : ℕ = c.args.k in
    let q_is = picture_read round k c.index-round-k.result c.requires.k c.index-round-k.is in
    let count : c.slice_count-i-end.result ≡ length (picture_at round k).slices = c.slice_count-i-end.ensures.number
    ∙ ap (λ (x : Parts). length x.slices) q_is in
    let past : length (picture_at round k).slices ≤ c.loop-i.i = let test = c.loop-i-test.false in omega (arith, test, count) in
    subst (λ (xs : List SlicePart). AreFronts round c.args.needed.now b (before ++ map (λ s. (k, s)) xs)
    (map (λ f. f.items) c.loop-i.fronts.items)) (take_all c.loop-i.i (picture_at round k).slices past)
    (c.loop-i.invariant b before begun old)
