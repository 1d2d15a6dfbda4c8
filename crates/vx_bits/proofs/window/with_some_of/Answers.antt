use Rattle.std.proofs.Common.{◌+◌, ◌*◌, ◌<◌, ◌≤◌, ◌-◌, ◌/◌, ℕ, arith}
use Rattle.vx_bits.proofs.Bits.{pow_le}
use Rattle.vx_bits.proofs.EightBytes.{eight_ahead}
use Rattle.vx_bits.proofs.window.with_some_of.Goals as goal

pub overflow_add-result : goal.overflow_add-result
overflow_add-result c =
    let k : ℕ = (63 - c.args.window.held) / 8 in
    let room : c.args.window.held + 8 * k < 64 = omega (arith, c.requires.room) in
    let few : k ≤ 8 = omega arith in
    let below = (eight_ahead c.args.bytes.now c.args.window k c.args.eight c.requires.sound c.requires.within room few c.requires.eight).1 in
    omega (arith, below, pow_le (c.args.window.held + 8 * k) 63 (omega (arith, room)))

pub returns-clause-same : goal.returns-clause-same
returns-clause-same c =
    let k : ℕ = (63 - c.args.window.held) / 8 in
    let room : c.args.window.held + 8 * k < 64 = omega (arith, c.requires.room) in
    let few : k ≤ 8 = omega arith in
    (eight_ahead c.args.bytes.now c.args.window k c.args.eight c.requires.sound c.requires.within room few c.requires.eight).0

pub returns-clause-sound : goal.returns-clause-sound
returns-clause-sound c =
    let k : ℕ = (63 - c.args.window.held) / 8 in
    let room : c.args.window.held + 8 * k < 64 = omega (arith, c.requires.room) in
    let few : k ≤ 8 = omega arith in
    record {
      few = room;
      range = (eight_ahead c.args.bytes.now c.args.window k c.args.eight c.requires.sound c.requires.within room few c.requires.eight).1;
      passed = omega (arith, c.requires.sound.passed);
      within = omega (arith, c.requires.within);
    }
