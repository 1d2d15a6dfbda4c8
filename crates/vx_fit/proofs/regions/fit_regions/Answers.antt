use Rattle.std.proofs.Common.{inl, inr, arith, refl}
use Rattle.vx_fit.proofs.Together.{apart_all, grid_all, order_all, small_enough}
use Rattle.vx_fit.proofs.regions.fit_regions.Goals as goal

pub returns-in-Some-lowest_overlap-clause-fault : goal.returns-in-Some-lowest_overlap-clause-fault
returns-in-Some-lowest_overlap-clause-fault c =
    let placed = c.args.placed.now in
    record {
      small = small_enough placed (omega arith) (omega arith);
      cause = inr (inl (record { grid = grid_all placed c.args.ctb c.in_default.ensures; lowest = c.in-Some-lowest_overlap.ensures }));
    }

pub leaves_gap-requires-clause-apart : goal.leaves_gap-requires-clause-apart
leaves_gap-requires-clause-apart c = apart_all c.args.placed.now c.in_default-lowest_overlap.ensures

pub returns-then-leaves_gap-clause-fault : goal.returns-then-leaves_gap-clause-fault
returns-then-leaves_gap-clause-fault c =
    let placed = c.args.placed.now in
    record {
      small = small_enough placed (omega arith) (omega arith);
      cause = inr (inr (record {
        grid = grid_all placed c.args.ctb c.in_default.ensures;
        apart = apart_all placed c.in_default-lowest_overlap.ensures;
        gap = c.if-leaves_gap.ensures.gap;
        first = refl;
      }));
    }

pub returns-in-Some-lowest_early-clause-fault : goal.returns-in-Some-lowest_early-clause-fault
returns-in-Some-lowest_early-clause-fault c =
    let placed = c.args.placed.now in
    record {
      small = small_enough placed (omega arith) (omega arith);
      grid = grid_all placed c.args.ctb c.in_default.ensures;
      apart = apart_all placed c.in_default-lowest_overlap.ensures;
      filled = c.if-leaves_gap.ensures.filled;
      lowest = c.in-Some-lowest_early.ensures;
    }

pub returns-clause-fit : goal.returns-clause-fit
returns-clause-fit c =
    let placed = c.args.placed.now in
    record {
      small = small_enough placed (omega arith) (omega arith);
      grid = grid_all placed c.args.ctb c.in_default.ensures;
      apart = apart_all placed c.in_default-lowest_overlap.ensures;
      filled = c.if-leaves_gap.ensures.filled;
      order = order_all placed c.args.ctb c.in_default-lowest_early.ensures;
    }
