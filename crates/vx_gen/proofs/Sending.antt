-- The sets of a generated stream are sent with its first picture, and no more.
use Rattle.std.proofs.Common.{◌≡◌, ℕ, zero, suc, ◌+◌, ◌*◌, ◌<◌, Bool, not, List, [], refl, ap, sym, ◌∙◌, inl, inr, arith}
use Rattle.std.specs.Prelude.{filter}
use Rattle.std.specs.List.{AllByRecursion}
use Rattle.std.proofs.lemmas.List.{append-nil}
use Rattle.vx_table.specs.Scope.{fresh, natural}
use Rattle.vx_pic.specs.Rules.{Readers}
use Rattle.vx_pic.specs.H266.{AreOfH266}
use Rattle.vx_pic.specs.Sets.{pps_id, referred_sps, sps_id}
use Rattle.vx_pic.specs.Written.{Says, SetUnit, a_pps, an_sps}
use Rattle.vx_pic.specs.Resident.{HasSet, HaveOwnSlots, Sends, history_of, is_resident, sent_before}
use Rattle.vx_write.specs.Again.{SetUnitsAreRead}
use Rattle.vx_gen.specs.Units as units
use Rattle.vx_gen.specs.Pictures.{plan, plans, generated_pps, sent, sets, generated_sps}
use Rattle.vx_gen.proofs.Below.{below_16}
use Rattle.vx_gen.proofs.Pps.{pps_spelled}
use Rattle.vx_gen.proofs.Sets.{sps_spelled}
use Rattle.vx_gen.proofs.Standing.{pps_is, sps_is}

-- behind the first picture both sets count as sent
pub history : (seed n k p : ℕ) → history_of (plans seed n k (suc p)) ≡ sets k
history seed n k zero = refl
history seed n k (suc p) = append-nil (history_of (plans seed n k (suc p))) ∙ history seed n k p

-- then none of them is sent
abbrev not_resident : List SetUnit → SetUnit → Bool
not_resident before x = not (is_resident 0 before x)

NoneSent : ℕ → Type 0
NoneSent k = filter (not_resident (sets k)) (sets k) ≡ []

none_sent : (k : ℕ) → k < 16 → NoneSent k
unfolding NoneSent sps_id pps_id fresh natural
none_sent = below_16 NoneSent refl refl refl refl refl refl refl refl refl refl refl refl refl refl refl refl

own_slots : (k : ℕ) → HaveOwnSlots (sets k)
own_slots k = ((refl, tt), (tt, tt))

pub sends : (seed n k p : ℕ) → k < 16 → Sends (plans seed n k p) (plan seed (n + 5 * p) k p)
unfolding NoneSent
sends seed n k zero low = record { needed = sets k; slots = own_slots k; sent = refl }
sends seed n k (suc p) low =
    let before : sent_before (plans seed n k (suc p)) (plan seed (n + 5 * suc p) k (suc p)) ≡ sets k = history seed n k p in
    record {
      needed = sets k;
      slots = own_slots k;
      sent = sym (ap (λ xs. filter (not_resident xs) (sets k)) before ∙ none_sent k low);
    }

pub needed_is : (seed n k p : ℕ) (low : k < 16) → (sends seed n k p low).needed ≡ sets k
unfolding sends
needed_is seed n k zero low = refl
needed_is seed n k (suc p) low = refl

pub has_sps : (seed n k p : ℕ) (low : k < 16) → HasSet (sends seed n k p low).needed (an_sps generated_sps)
unfolding sends
has_sps seed n k zero low = inl refl
has_sps seed n k (suc p) low = inl refl

pub has_pps : (seed n k p : ℕ) (low : k < 16) → HasSet (sends seed n k p low).needed (a_pps (generated_pps k))
unfolding sends
has_pps seed n k zero low = inr (inl refl)
has_pps seed n k (suc p) low = inr (inl refl)

pub refers : (k : ℕ) → referred_sps (generated_pps k) ≡ sps_id generated_sps
unfolding referred_sps sps_id fresh natural
refers k = refl

-- what is sent is read as it
pub sent_read : SetUnitsAreRead → (R : Readers) → AreOfH266 R → (k p : ℕ) → k < 16 → AllByRecursion (λ (x : SetUnit). Says R x.unit x.set) (sent k p)
sent_read read R of k zero low = (
  read R 0 (an_sps generated_sps) units.sps of (omega arith) tt (_, sps_spelled, sps_is),
  (read R 0 (a_pps (generated_pps k)) (units.pps k) of (omega arith) tt (_, pps_spelled k low, pps_is k low), tt),
)
sent_read read R of k (suc p) low = tt
