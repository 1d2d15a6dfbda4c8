-- What an assembler keeps is bounded, and the end of its units, by what is kept.
use Rattle.std.proofs.Common.{◌≡◌, ◌≤◌, Bool, true, false, cond, List, sym, ◌∙◌, ap, subst}
use Rattle.std.specs.Prelude.{Some, None, Result, Ok, Err, IfOk}
use Rattle.vx_bits.specs.declared.rules.TheConstants.{SLICE_MISSING}
use Rattle.vx_pic.specs.declared.accepted.Accepted.{Accepted}
use Rattle.vx_pic.specs.declared.accepted.Accepted.TheVariants as accepted
use Rattle.vx_bits.specs.declared.refusal.ReadError.{ReadError}
use Rattle.vx_pic.specs.Readings.{Reading, current, is_open}
use Rattle.vx_pic.specs.Rules.{structure, message_limit}
use Rattle.vx_pic.specs.Streams.{lacks_slice}
use Rattle.vx_assemble.specs.Held.{IsBounded}
use Rattle.vx_assemble.specs.inner.Held.{Held}
use Rattle.vx_assemble.specs.inner.Order.{IsInOrder}
use Rattle.vx_assemble.proofs.Bodies.{few_bodies}

pub kept_bounded : (h : Held) → IsInOrder h.state → IsBounded h
kept_bounded h order = record {
  bytes = order.picture.bytes;
  messages = order.picture.messages;
  gathered = subst (λ n. n ≤ message_limit) order.spelled order.gathered;
  sps = order.sps;
  pps = order.pps;
  aps = few_bodies h.state.aps order.aps;
  bodies = few_bodies h.state.picture.bodies order.picture.bodies;
}

-- a slice is lacking, or none is
pub lacks_one : (before : List Reading) (lacks : Bool) → lacks ≡ is_open (current before) → lacks ≡ true → lacks_slice before ≡ Some (structure SLICE_MISSING)
lacks_one before lacks said is = ap (λ b. cond b (Some (structure SLICE_MISSING)) None) (sym said ∙ is)

pub lacks_none : (before : List Reading) (lacks : Bool) → lacks ≡ is_open (current before) → lacks ≡ false → lacks_slice before ≡ None
lacks_none before lacks said is = ap (λ b. cond b (Some (structure SLICE_MISSING)) None) (sym said ∙ is)

-- a unit that completes no picture
pub none_done : (P : Type 0) (r : Result Accepted ReadError) → IfOk r (λ what. what ≡ accepted.PictureDone → ⊥) → IfOk r (λ what. what ≡ accepted.PictureDone → P)
none_done P (Ok what) quiet = λ is. absurd (quiet is)
none_done P (Err e) quiet = tt
