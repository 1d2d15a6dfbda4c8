use Rattle.std.proofs.Common.{◌≡◌, ℕ, ◌<◌, true, length, arith, sym, subst}
use Rattle.std.proofs.lemmas.List.Elements.{AllWithin-more, at_read}
use Rattle.std.specs.List.{Any}
use Rattle.vx_layout.specs.Faults.{IfFault, SlicesFit, slice_split_fault}
use Rattle.vx_layout.specs.declared.numbers.LayoutError.{LayoutError}
use Rattle.vx_layout.specs.declared.numbers.LayoutError.TheVariants.{Memory, Fault}
use Rattle.std.proofs.lemmas.Result.{err_from_is_err_and}
use Rattle.vx_layout.specs.Rects.{fits}
use Rattle.vx_layout.proofs.Owners.{AreGroups-more}
use Rattle.vx_layout.proofs.groups.group_slices.Goals as goal

-- what follows for each fault follows for the fault that is told
IfFault-weaker : (e : LayoutError) (P Q : ℕ → Type 0) → ((k : ℕ) → P k → Q k) → IfFault e P → IfFault e Q
IfFault-weaker Memory P Q f p = tt
IfFault-weaker (Fault k) P Q f p = f k p

pub returns-in_err-add-clause-fault : goal.returns-in_err-add-clause-fault
returns-in_err-add-clause-fault c =
    let n = c.args.numbers.now in
    let short : c.loop-k.k < length n.slices = omega arith in
    let p = err_from_is_err_and c.from_residual-in_err-add.result c.from_residual-in_err-add.ensures.1 in
    rw (p.1, p.2)
    (IfFault-weaker c.in_err-add.field-0.0 (λ k. (k ≡ slice_split_fault) × (Any (λ s. fits c.item.result s ≡ true) n.subpics → ⊥)) (λ k. (k ≡ slice_split_fault) × (SlicesFit n → ⊥))
    (λ k h. (h.0, λ all. h.1 (subst (λ r. Any (λ s. fits r s ≡ true) n.subpics) (sym c.item.ensures.index) (all c.loop-k.k c.item.result short)))) c.in_err-add.ensures.fault)

pub loop-k-preserved : goal.loop-k-preserved
loop-k-preserved c =
    let n = c.args.numbers.now in
    let short : c.loop-k.k < length n.slices = omega arith in
    record {
      groups = AreGroups-more _ _ n.slices n.subpics c.loop-k.k c.item.result short c.item.ensures.index c.loop-k.invariant.groups c.in_ok-add.ensures.adds;
      split = AllWithin-more (λ r. Any (λ s. fits r s ≡ true) n.subpics) n.slices 0 c.loop-k.k c.loop-k.invariant.split
          (at_read n.slices (λ r. Any (λ s. fits r s ≡ true) n.subpics) c.loop-k.k c.item.result short c.item.ensures.index c.in_ok-add.ensures.fits);
    }
