-- One more region.
use Rattle.std.proofs.Common.{◌≡◌, ◌++◌, ◌∷◌, [], ◌∙◌, ℕ, List, ap, append-nil, map, None, subst, sym, arith}
use Rattle.std.specs.List.{AllZip, concat, range_with_len}
use Rattle.vx_pic.specs.Parts.{parts_of}
use Rattle.vx_extract.specs.Written.{IsExtraction}
use Rattle.vx_trial.specs.inner.Weighing.{Weighs}
use Rattle.vx_trial.proofs.Extracting.{one_piece, one_region}
use Rattle.vx_trial.proofs.tally.weigh.Goals as goal

pub loop-k-init : goal.loop-k-init
loop-k-init c R of ps can =
    ([], tt, subst (λ (l : List ℕ). Weighs l c.add.new.self) (sym (append-nil c.args.merged.now)) (c.add.ensures [] c.new-weight.ensures))

pub extract-requires : goal.extract-requires
extract-requires c R of = let has = c.requires R of in (has.0, has.1 c.loop-k.k c.loop-k-test.true)

pub loop-k-preserved : goal.loop-k-preserved
loop-k-preserved c R of ps can =
    let so_far = c.loop-k.invariant R of ps can in
    let merged = c.args.merged.now in
    let region = c.in_ok-region.region.taken in
    let one = c.in_ok-region.ensures R of ps (can c.loop-k.k c.loop-k-test.true) in
    let all : (merged ++ concat so_far.0) ++ c.bytes.result.now ≡ merged ++ concat (so_far.0 ++ region ∷ []) =
    ap (λ (l : List ℕ). (merged ++ concat so_far.0) ++ l) c.bytes.ensures ∙ one_piece merged so_far.0 region in (
      so_far.0 ++ region ∷ [],
      one_region ps c.loop-k.k so_far.0 region so_far.1 one,
      subst (λ (l : List ℕ). Weighs l c.add-in-loop-k.new.self) all (c.add-in-loop-k.ensures (merged ++ concat so_far.0) so_far.2),
    )

pub returns : goal.returns
returns c R of ps can =
    let all = c.loop-k.invariant R of ps can in
    let end : c.loop-k.k ≡ c.args.sources = omega (arith, c.loop-k-test.false, c.loop-k.auto.k-end) in (
      all.0,
      subst (λ (n : ℕ). AllZip (λ k bytes. IsExtraction k None (map parts_of ps) bytes) (range_with_len 0 n) all.0) end all.1,
      c.of_all.ensures (c.args.merged.now ++ concat all.0) all.2,
    )
