-- Messages in front of bytes: no message begins another, and bytes are taken apart in one way.
use Rattle.std.proofs.Common.{◌≡◌, ⊎_elim, inl, inr, true, false, ℕ, zero, suc, ◌*◌, ◌/◌, ◌%◌, ◌<◌, ◌≤◌, List, [], ◌∷◌, ◌++◌, length, replicate, sym, ap, ◌∙◌, arith, refl, append_assoc, length-append}
use Rattle.std.proofs.Math.Nat.{div-add-mod}
use Rattle.std.proofs.lemmas.List.{append-nil}
use Rattle.std.proofs.lemmas.Bool.{cases_Bool}
use Rattle.std.proofs.lemmas.Grind.{flat_map-append}
use Rattle.std.proofs.lemmas.List.Elements.{filter-append, All-head, All-tail}
use Rattle.std.specs.Prelude.{All, IsTrue}
use Rattle.vx_sei.specs.laws.Messages.{WrittenIsRead, CarriedIsShorter}
use Rattle.std.proofs.lemmas.List.Concat.{flat_map-cons}
use Rattle.vx_sei.specs.declared.message.Message.{Message}
use Rattle.vx_sei.specs.Sei.{ff_coded, sei_message, sei_messages, IsSei, is_carried, carried}
use Rattle.vx_sei.specs.inner.Front.{BeginsWithMessage}

-- a run of FF and a byte below are told apart
pub run_tells : (a b c d : ℕ) (x y : List ℕ) → c < 255 → d < 255 → replicate a 255 ++ c ∷ x ≡ replicate b 255 ++ d ∷ y → (a ≡ b) × (c ≡ d) × (x ≡ y)
run_tells zero zero c d x y cl dl e = (refl, cc, cc)
run_tells zero (suc b) c d x y cl dl e = let k : c ≡ 255 = cc in absurd (omega arith)
run_tells (suc a) zero c d x y cl dl e = let k : d ≡ 255 = cc in absurd (omega arith)
run_tells (suc a) (suc b) c d x y cl dl e =
    let k : replicate a 255 ++ c ∷ x ≡ replicate b 255 ++ d ∷ y = cc in
    let r = run_tells a b c d x y cl dl k in
    (ap suc r.0, r.1, r.2)

-- the code of a number, in front of more
pub ff_front : (n : ℕ) (x : List ℕ) → ff_coded n ++ x ≡ replicate (n / 255) 255 ++ n % 255 ∷ x
ff_front n x = append_assoc (replicate (n / 255) 255) (n % 255 ∷ []) x

-- no code of a number begins another
pub ff_tells : (n m : ℕ) (x y : List ℕ) → ff_coded n ++ x ≡ ff_coded m ++ y → (n ≡ m) × (x ≡ y)
ff_tells n m x y e =
    let r = run_tells (n / 255) (m / 255) (n % 255) (m % 255) x y (omega arith) (omega arith) (sym (ff_front n x) ∙ e ∙ ff_front m y) in
    (omega (arith, div-add-mod n 255, div-add-mod m 255, r.0, r.1), r.2)

-- lists of one length in front of others
pub front_tells : (a b x y : List ℕ) → length a ≡ length b → a ++ x ≡ b ++ y → (a ≡ b) × (x ≡ y)
front_tells [] [] x y l e = (refl, e)
front_tells [] (c ∷ b) x y l e = absurd (omega arith)
front_tells (c ∷ a) [] x y l e = absurd (omega arith)
front_tells (c ∷ a) (d ∷ b) x y l e =
    let k : a ++ x ≡ b ++ y = cc in
    let same : c ≡ d = cc in
    let r = front_tells a b x y (omega arith) k in
    (rw (same, r.0) refl, r.1)

-- a message in front of more: type, size and payload
pub message_front : (m : Message) (x : List ℕ) → sei_message m ++ x ≡ ff_coded m.kind ++ (ff_coded (length m.bytes) ++ (m.bytes ++ x))
message_front m x = simp append_assoc

-- no message begins another
pub message_tells : (m n : Message) (x y : List ℕ) → sei_message m ++ x ≡ sei_message n ++ y → (m ≡ n) × (x ≡ y)
message_tells m n x y e =
    let k = ff_tells m.kind n.kind _ _ (sym (message_front m x) ∙ e ∙ message_front n y) in
    let s = ff_tells (length m.bytes) (length n.bytes) _ _ k.1 in
    let p = front_tells m.bytes n.bytes x y s.0 s.1 in
    (ap (λ (f : ℕ). let r : Message = record { kind = f; bytes = m.bytes } in r) k.0 ∙ ap (λ (f : List ℕ). let r : Message = record { kind = n.kind; bytes = f } in r) p.0, p.1)

-- a message has two bytes at least
pub message_size : (m : Message) → 2 ≤ length (sei_message m)
message_size m = simp length-append (omega arith)

-- what begins with no message is all that stands behind the messages of an RBSP, and is its last byte
pub taken_all : (ms ns : List Message) (rest : List ℕ) → ¬ BeginsWithMessage rest → sei_messages ns ++ 128 ∷ [] ≡ sei_messages ms ++ rest → (ns ≡ ms) × (rest ≡ 128 ∷ [])
taken_all [] [] rest none e = (refl, sym e)
taken_all [] (n ∷ ns) rest none e = absurd (none (n, (sei_messages ns ++ 128 ∷ [], sym e ∙ ap (λ l. l ++ 128 ∷ []) (flat_map-cons sei_message n ns) ∙ append_assoc (sei_message n) (sei_messages ns) (128 ∷ []))))
taken_all (m ∷ ms) [] rest none e =
    let k = ap length e in
    absurd (omega (arith, k, length-append (sei_messages (m ∷ ms)) rest, ap length (flat_map-cons sei_message m ms), length-append (sei_message m) (sei_messages ms), message_size m))
taken_all (m ∷ ms) (n ∷ ns) rest none e =
    let left = ap (λ l. l ++ 128 ∷ []) (flat_map-cons sei_message n ns) ∙ append_assoc (sei_message n) (sei_messages ns) (128 ∷ []) in
    let right = ap (λ l. l ++ rest) (flat_map-cons sei_message m ms) ∙ append_assoc (sei_message m) (sei_messages ms) rest in
    let t = message_tells n m _ _ (sym left ∙ e ∙ right) in
    let r = taken_all ms ns rest none t.1 in
    (rw (t.0, r.0) refl, r.1)

-- no message is as short as one byte
pub short_begins_none : (b : ℕ) → ¬ BeginsWithMessage (b ∷ [])
short_begins_none b w = omega (arith, ap length w.1.1, length-append (sei_message w.0) w.1.0, message_size w.0)

pub sei_unique : (rbsp : List ℕ) (ms ns : List Message) → IsSei rbsp ms → IsSei rbsp ns → ms ≡ ns
sei_unique rbsp ms ns a b = sym (taken_all ms ns (128 ∷ []) (short_begins_none 128) (sym b.bytes ∙ a.bytes)).0

-- messages have two bytes each at least
pub sei_messages_size : (ms : List Message) → 2 * length ms ≤ length (sei_messages ms)
sei_messages_size [] = omega arith
sei_messages_size (m ∷ ms) = omega (arith, sei_messages_size ms, ap length (flat_map-cons sei_message m ms), length-append (sei_message m) (sei_messages ms), message_size m)

pub some_taken : (rbsp rest : List ℕ) (ms : List Message) → rbsp ≡ sei_messages ms ++ rest → length rest < length rbsp → 0 < length ms
some_taken rbsp rest [] e some = absurd (omega (arith, ap length e))
some_taken rbsp rest (m ∷ ms) e some = omega arith

-- where no size follows the type, no message begins
pub no_size : (bytes behind : List ℕ) (kind : ℕ) → bytes ≡ ff_coded kind ++ behind → ((n : ℕ) (rest : List ℕ) → behind ≡ ff_coded n ++ rest → ⊥) → ¬ BeginsWithMessage bytes
no_size bytes behind kind e none w =
    none (length w.0.bytes) (w.0.bytes ++ w.1.0) (ff_tells kind w.0.kind _ _ (sym e ∙ w.1.1 ∙ message_front w.0 w.1.0)).1

-- nor where the payload is cut short
pub too_short : (bytes behind rest : List ℕ) (kind size : ℕ) → bytes ≡ ff_coded kind ++ behind → behind ≡ ff_coded size ++ rest → length rest < size → ¬ BeginsWithMessage bytes
too_short bytes behind rest kind size e s lt w =
    let k = ff_tells kind w.0.kind _ _ (sym e ∙ w.1.1 ∙ message_front w.0 w.1.0) in
    let p = ff_tells size (length w.0.bytes) _ _ (sym s ∙ k.1) in
    omega (arith, p.0, ap length p.1, length-append w.0.bytes w.1.0)

-- what a reader has taken: the messages in front of the rest, of which those that are carried were gathered
pub record HasTaken (rbsp rest : List ℕ) (gathered : List Message) : Type 0 where
  pub messages : List Message
  pub bytes : rbsp ≡ sei_messages messages ++ rest
  pub carries : gathered ≡ carried messages

pub take_turn : (rbsp rest behind : List ℕ) (gathered more : List Message) (m : Message) → HasTaken rbsp rest gathered → rest ≡ sei_message m ++ behind → more ≡ gathered ++ carried (m ∷ []) → HasTaken rbsp behind more
take_turn rbsp rest behind gathered more m t e g = record {
  messages = t.messages ++ m ∷ [];
  bytes = t.bytes ∙ ap (λ l. sei_messages t.messages ++ l) e ∙ sym (append_assoc (sei_messages t.messages) (sei_message m) behind)
      ∙ ap (λ l. l ++ behind) (sym (flat_map-append sei_message t.messages (m ∷ []) ∙ ap (λ l. sei_messages t.messages ++ l) (flat_map-cons sei_message m [] ∙ append-nil (sei_message m))));
  carries = g ∙ ap (λ l. l ++ carried (m ∷ [])) t.carries ∙ sym (filter-append (λ (k : Message). is_carried k.kind) t.messages (m ∷ []));
}

-- where the rest begins with no message, an RBSP is that of the messages taken, and the rest is its last byte
pub taken_is_all : (rbsp rest : List ℕ) (gathered ns : List Message) (t : HasTaken rbsp rest gathered) → ¬ BeginsWithMessage rest → IsSei rbsp ns → (ns ≡ t.messages) × (rest ≡ 128 ∷ [])
taken_is_all rbsp rest gathered ns t none s = taken_all t.messages ns rest none (sym s.bytes ∙ t.bytes)

-- so it is no SEI RBSP where the rest isn't that byte, behind messages
pub not_ended : (rbsp rest : List ℕ) (gathered ns : List Message) → HasTaken rbsp rest gathered → ¬ BeginsWithMessage rest → ((length rest < length rbsp) × (rest ≡ 128 ∷ []) → ⊥) → ¬ IsSei rbsp ns
not_ended rbsp rest gathered ns t none unended s =
    let all = taken_is_all rbsp rest gathered ns t none s in
    unended (omega (arith, ap length t.bytes, length-append (sei_messages t.messages) rest, ap length all.0, sei_messages_size t.messages, s.some), all.1)

pub all_taken : (rbsp rest : List ℕ) (gathered : List Message) → HasTaken rbsp rest gathered → (length rest < length rbsp) × (rest ≡ 128 ∷ []) → (messages : List Message) × IsSei rbsp messages × (gathered ≡ carried messages)
all_taken rbsp rest gathered t ended = (t.messages, record { some = some_taken rbsp rest t.messages t.bytes ended.0; bytes = t.bytes ∙ ap (λ l. sei_messages t.messages ++ l) ended.1 }, t.carries)

-- the carried messages are no longer than all
pub carried_size : (ms : List Message) → length (sei_messages (carried ms)) ≤ length (sei_messages ms)
carried_size [] = omega arith
carried_size (m ∷ ms) =
    let before = carried_size ms in
    let all = ap length (flat_map-cons sei_message m ms) ∙ length-append (sei_message m) (sei_messages ms) in
    ⊎_elim
    (λ (y : is_carried m.kind ≡ true). rw y (omega (arith, all, before, ap length (flat_map-cons sei_message m (carried ms)), length-append (sei_message m) (sei_messages (carried ms)))))
    (λ (n : is_carried m.kind ≡ false). rw n (omega (arith, all, before)))
    (cases_Bool (is_carried m.kind))

pub carried_shorter : CarriedIsShorter
carried_shorter rbsp ms (inl c) = rw c.2 (omega (arith, carried_size c.0, ap length c.1.bytes, length-append (sei_messages c.0) (128 ∷ [])))
carried_shorter rbsp ms (inr c) = rw c.1 (omega arith)

-- messages that are carried are all carried
pub carried_all : (ms : List Message) → All (λ m. IsTrue (is_carried m.kind)) ms → carried ms ≡ ms
carried_all [] all = refl
carried_all (m ∷ ms) all =
    let head : is_carried m.kind ≡ true = All-head (λ (k : Message). IsTrue (is_carried k.kind)) m ms all in
    let tail = carried_all ms (All-tail (λ (k : Message). IsTrue (is_carried k.kind)) m ms all) in
    rw head (ap (λ (l : List Message). m ∷ l) tail)

pub written_read : WrittenIsRead
written_read rbsp ms read all s (inl c) = c.2 ∙ ap carried (sei_unique rbsp c.0 ms c.1 s) ∙ carried_all ms all
written_read rbsp ms read all s (inr c) = absurd (c.0 ms s)
