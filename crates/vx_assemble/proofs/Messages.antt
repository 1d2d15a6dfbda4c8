-- Messages that are taken.
use Rattle.std.proofs.Common.{◌≡◌, ℕ, ◌+◌, ◌<◌, ◌≤◌, List, ◌++◌, Bool, true, false, cond, refl, sym, ◌∙◌, ap, subst, arith, Ok, Err}
use Rattle.std.specs.Prelude.{nat_lt}
use Rattle.std.proofs.lemmas.Bool.Decides.{nat_tests}
use Rattle.vx_bits.specs.declared.refusal.Refusal.TheVariants.{Limit}
use Rattle.vx_bits.specs.declared.rules.TheConstants as rules
use Rattle.vx_sei.specs.declared.message.Message.{Message}
use Rattle.vx_sei.specs.Sei.{spelled_length}
use Rattle.vx_pic.specs.declared.accepted.Accepted.TheVariants as accepted
use Rattle.vx_pic.specs.Units.{rbsp_of, sei_unit}
use Rattle.vx_pic.specs.Readings.{Reading, dropped, messages_read, gathered, current, is_within_picture}
use Rattle.vx_pic.specs.Rules.{Readers, message_limit, gathers, reads_as}
use Rattle.vx_assemble.specs.declared.state.State.{State}
use Rattle.vx_assemble.specs.inner.Held.{IsHeld}
use Rattle.vx_assemble.specs.inner.Order.{IsInOrder}
use Rattle.vx_assemble.specs.inner.Takes.{TookUnit}
use Rattle.vx_assemble.specs.inner.Changes.{with_messages}
use Rattle.vx_assemble.proofs.Gathered.{spelled_append}
use Rattle.vx_assemble.proofs.Holding.{dropped_held, messages_held}

pub sei_within : (R : Readers) (s : State) (before : List Reading) (u : List ℕ) (w : Bool) → w ≡ is_within_picture (current before) → w ≡ true → IsHeld s before
    → TookUnit (reads_as R sei_unit before u) before s accepted.Nothing
sei_within R s before u w said is held = record {
  reading = dropped;
  reads = let inside : is_within_picture (current before) ≡ true = sym said ∙ is in rw inside refl;
  held = dropped_held s before held;
  told = refl;
}

sei_is : (R : Readers) (before : List Reading) (u rbsp : List ℕ) (ms : List Message) (w : Bool) → w ≡ is_within_picture (current before) → w ≡ false
    → rbsp ≡ rbsp_of u → ms ≡ R.sei rbsp → reads_as R sei_unit before u ≡ gathers before ms
sei_is R before u rbsp ms w said is spells read =
    let outside : is_within_picture (current before) ≡ false = sym said ∙ is in
    ap (λ b. cond b (Ok dropped) (gathers before (R.sei (rbsp_of u)))) outside
    ∙ ap (λ m. gathers before m) (sym (read ∙ ap R.sei spells))

-- those gathered before have so many bytes
length_is : (s : State) (before : List Reading) (ms : List Message) → IsHeld s before → IsInOrder s
    → spelled_length (gathered before ++ ms) ≡ s.gathered_len + spelled_length ms
length_is s before ms held order =
    spelled_append (gathered before) ms ∙ ap (λ l. spelled_length l + spelled_length ms) (sym held.apart.gathered)
    ∙ ap (λ n. n + spelled_length ms) (sym order.spelled)

gathers_by : (before : List Reading) (ms : List Message) (b : Bool) → nat_lt message_limit (spelled_length (gathered before ++ ms)) ≡ b
    → gathers before ms ≡ cond b (Err (Limit rules.LONG_MESSAGES)) (Ok (messages_read ms))
gathers_by before ms true is = rw is refl
gathers_by before ms false is = rw is refl

pub sei_long : (R : Readers) (s : State) (before : List Reading) (u rbsp : List ℕ) (ms : List Message) (w : Bool) → w ≡ is_within_picture (current before)
    → w ≡ false → rbsp ≡ rbsp_of u → ms ≡ R.sei rbsp → IsHeld s before → IsInOrder s → message_limit < s.gathered_len + spelled_length ms
    → reads_as R sei_unit before u ≡ Err (Limit rules.LONG_MESSAGES)
sei_long R s before u rbsp ms w said is spells read held order long =
    let e = length_is s before ms held order in
    let over : nat_lt message_limit (spelled_length (gathered before ++ ms)) ≡ true = grind (arith, nat_tests, e) in
    sei_is R before u rbsp ms w said is spells read ∙ gathers_by before ms true over

pub took_sei : (R : Readers) (s new : State) (before : List Reading) (u rbsp : List ℕ) (ms : List Message) (w : Bool) → w ≡ is_within_picture (current before)
    → w ≡ false → rbsp ≡ rbsp_of u → ms ≡ R.sei rbsp → IsHeld s before → IsInOrder s → new ≡ with_messages ms s → IsInOrder new
    → TookUnit (reads_as R sei_unit before u) before new accepted.Nothing
took_sei R s new before u rbsp ms w said is spells read held order kept new_order =
    let few : spelled_length (s.gathered ++ ms) ≤ message_limit = subst (λ x. x.gathered_len ≤ message_limit) kept new_order.gathered in
    let all : spelled_length (gathered before ++ ms) ≡ spelled_length (s.gathered ++ ms) =
    ap (λ l. spelled_length (l ++ ms)) (sym held.apart.gathered) in
    let within : nat_lt message_limit (spelled_length (gathered before ++ ms)) ≡ false = grind (arith, nat_tests, all) in
    record {
      reading = messages_read ms;
      reads = sei_is R before u rbsp ms w said is spells read ∙ gathers_by before ms false within;
      held = rw kept (messages_held s before ms held);
      told = refl;
    }
