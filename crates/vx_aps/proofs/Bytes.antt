-- Bytes taken apart into type, id and body.
use Rattle.std.proofs.Common.{◌≡◌, ℕ, ◌+◌, ◌*◌, ◌/◌, ◌%◌, ◌≤◌, ◌<◌, Bool, true, false, List, [], ◌∷◌, length, slice_index, cond, ◌==◌, nat_lt, nat_le, ◌⊎◌, inl, inr, Option, Some, None, Result, Ok, Err, sym, ap, ◌∙◌, arith, refl}
use Rattle.std.proofs.Math.Nat.{div-add-mod}
use Rattle.std.proofs.lemmas.Bool.{leb-true, le-leb, ltb-true, lt-ltb, eq-eqb, ne_eqb, false_from_ne_true, false≢true}
use Rattle.vx_bits.specs.declared.refusal.Refusal.{Refusal}
use Rattle.vx_bits.specs.declared.refusal.Refusal.TheVariants.{Syntax, Profile}
use Rattle.vx_bits.specs.declared.refusal.BitCause.TheVariants.{Short, BadTrailing}
use Rattle.vx_bits.specs.declared.rules.TheConstants.{APS_ID}
use Rattle.vx_bits.specs.Codes.{EndsInNoZero}
use Rattle.vx_fields.specs.declared.aps.TheConstants.{aps_params_type, aps_body}
use Rattle.vx_aps.specs.declared.aps.Aps.{Aps}
use Rattle.vx_aps.specs.declared.aps.TheConstants.{LMCS, SCALING}
use Rattle.vx_aps.specs.laws.Answers.{OneAnswer}
use Rattle.vx_aps.specs.Aps.{spelled, ids_of_type, IsRefusedAps, IsAnswer, no_type, no_such_id, no_body, bad_end}

pub is_spelled : (rbsp : List ℕ) (byte : ℕ) (body : List ℕ) → rbsp ≡ byte ∷ body → rbsp ≡ spelled (byte / 32) (byte % 32) body
is_spelled rbsp byte body e = e ∙ ap (λ n. n ∷ body) (sym (div-add-mod byte 32))

pub is_unknown : (rbsp : List ℕ) (byte : ℕ) (body : List ℕ) → rbsp ≡ byte ∷ body → byte / 32 ≤ SCALING → ids_of_type (byte / 32) ≤ byte % 32
    → IsRefusedAps rbsp (Profile APS_ID)
is_unknown rbsp byte body e known none = no_such_id (byte / 32) (byte % 32) body (is_spelled rbsp byte body e) known (omega arith) none

pub is_empty : (rbsp : List ℕ) (byte : ℕ) (body : List ℕ) → rbsp ≡ byte ∷ body → byte / 32 ≤ SCALING → byte % 32 < ids_of_type (byte / 32)
    → length body ≡ 0 → IsRefusedAps rbsp (Syntax aps_body 8 Short)
is_empty rbsp byte [] e known id none = no_body (byte / 32) (byte % 32) (is_spelled rbsp byte [] e) known id
is_empty rbsp byte (b ∷ body) e known id none = absurd (omega arith)

pub ends_badly : (rbsp : List ℕ) (byte : ℕ) (body : List ℕ) (last : ℕ) → rbsp ≡ byte ∷ body → byte / 32 ≤ SCALING
    → byte % 32 < ids_of_type (byte / 32) → length body ≡ last + 1 → slice_index body last ≡ 0 → IsRefusedAps rbsp (Syntax aps_body 8 BadTrailing)
ends_badly rbsp byte body last e known id n zero =
    bad_end (byte / 32) (byte % 32) body (is_spelled rbsp byte body e) known id (λ ends. ends last n zero)

pub is_bare : (rbsp : List ℕ) → length rbsp ≡ 0 → IsRefusedAps rbsp (Syntax aps_params_type 0 Short)
is_bare [] none = no_type refl
is_bare (b ∷ rbsp) none = absurd (omega arith)

-- ---- bytes have one answer

fewer : (b : Bool) → cond b 4 8 ≤ 32
fewer true = omega arith
fewer false = omega arith

pub ids_within : (kind : ℕ) → ids_of_type kind ≤ 32
ids_within kind = fewer (kind == LMCS)

-- type, id and body are told by the bytes
pub record Tells (k i l j : ℕ) (x y : List ℕ) : Type 0 where
  pub kind : k ≡ l
  pub id : i ≡ j
  pub body : x ≡ y

pub tells : (rbsp x y : List ℕ) (k i l j : ℕ) → rbsp ≡ spelled k i x → rbsp ≡ spelled l j y → i < 32 → j < 32 → Tells k i l j x y
tells rbsp x y k i l j a b il jl =
    let both : (32 * k + i) ∷ x ≡ (32 * l + j) ∷ y = sym a ∙ b in
    let n : 32 * k + i ≡ 32 * l + j = cc in
    record { kind = omega (arith, n); id = omega (arith, n); body = cc }

pub no_bytes : (rbsp x : List ℕ) (k i : ℕ) → rbsp ≡ [] → rbsp ≡ spelled k i x → ⊥
no_bytes rbsp x k i e b = let n : 0 ≡ length (spelled k i x) = ap length (sym e ∙ b) in omega (arith, n)

-- what bytes that begin with a type and an id are
told_of : (kind id : ℕ) → List ℕ → Result (Option Aps) Refusal
told_of kind id [] = Err (Syntax aps_body 8 Short)
told_of kind id (b ∷ body) =
    cond (slice_index (b ∷ body) (length body) == 0) (Err (Syntax aps_body 8 BadTrailing))
    (Ok (Some (record { kind = kind; id = id; body = b ∷ body })))

told : (kind id : ℕ) → List ℕ → Result (Option Aps) Refusal
told kind id body = cond (nat_lt SCALING kind) (Ok None) (cond (nat_le (ids_of_type kind) id) (Err (Profile APS_ID)) (told_of kind id body))

record IsTold (rbsp : List ℕ) (a : Result (Option Aps) Refusal) : Type 0 where
  kind : ℕ
  id : ℕ
  body : List ℕ
  bytes : rbsp ≡ spelled kind id body
  five_bits : id < 32
  is : a ≡ told kind id body

known : (kind id : ℕ) (body : List ℕ) → kind ≤ SCALING → id < ids_of_type kind → told kind id body ≡ told_of kind id body
unfolding told
known kind id body k i =
    let a : nat_lt SCALING kind ≡ false = false_from_ne_true (nat_lt SCALING kind) (λ e. let l = ltb-true SCALING kind e in omega (arith, l, k)) in
    let b : nat_le (ids_of_type kind) id ≡ false = false_from_ne_true (nat_le (ids_of_type kind) id) (λ e. let l = leb-true (ids_of_type kind) id e in omega (arith, l, i)) in
    rw (a, b) refl

whole : (kind id : ℕ) (body : List ℕ) → 0 < length body → EndsInNoZero body
    → told_of kind id body ≡ Ok (Some (record { kind = kind; id = id; body = body }))
unfolding told_of
whole kind id [] some ends = absurd (omega arith)
whole kind id (b ∷ body) some ends =
    let e : (slice_index (b ∷ body) (length body) == 0) ≡ false = ne_eqb (slice_index (b ∷ body) (length body)) 0 (ends (length body) (omega arith)) in
    rw e refl

zero_at : (kind id b : ℕ) (body : List ℕ) → ¬ EndsInNoZero (b ∷ body) → (z : Bool) → (slice_index (b ∷ body) (length body) == 0) ≡ z
    → told_of kind id (b ∷ body) ≡ Err (Syntax aps_body 8 BadTrailing)
unfolding told_of
zero_at kind id b body bad true e = rw e refl
zero_at kind id b body bad false e = absurd (bad (λ k n z.
    let same : length body ≡ k = omega (arith, n) in
    false≢true (sym e ∙ eq-eqb (slice_index (b ∷ body) (length body)) 0 (ap (slice_index (b ∷ body)) same ∙ z))))

zero_ended : (kind id : ℕ) (body : List ℕ) → ¬ EndsInNoZero body → told_of kind id body ≡ Err (Syntax aps_body 8 BadTrailing)
unfolding told_of
zero_ended kind id [] bad = absurd (bad (λ k e. absurd (omega (arith, e))))
zero_ended kind id (b ∷ body) bad = zero_at kind id b body bad (slice_index (b ∷ body) (length body) == 0) refl

-- an answer is that
is_told : (rbsp : List ℕ) (a : Result (Option Aps) Refusal) → IsAnswer rbsp a
    → ((rbsp ≡ []) × (a ≡ Err (Syntax aps_params_type 0 Short))) ⊎ IsTold rbsp a
unfolding told told_of
is_told rbsp (Ok (Some aps)) p =
    let v = p.valid in
    let within = ids_within aps.kind in
    inr (record {
      kind = aps.kind;
      id = aps.id;
      body = aps.body;
      bytes = p.bytes;
      five_bits = omega (arith, v.id, within);
      is = sym (known aps.kind aps.id aps.body v.kind v.id ∙ whole aps.kind aps.id aps.body v.some v.ends);
    })
is_told rbsp (Ok None) p =
    let e : nat_lt SCALING p.kind ≡ true = lt-ltb SCALING p.kind p.reserved in
    inr (record { kind = p.kind; id = p.id; body = p.body; bytes = p.bytes; five_bits = p.five_bits; is = rw e refl })
is_told rbsp (Err r) (no_type e) = inl (e, refl)
is_told rbsp (Err r) (no_such_id kind id body bytes k five none) =
    let a : nat_lt SCALING kind ≡ false = false_from_ne_true (nat_lt SCALING kind) (λ e. let l = ltb-true SCALING kind e in omega (arith, l, k)) in
    let b : nat_le (ids_of_type kind) id ≡ true = le-leb (ids_of_type kind) id none in
    inr (record { kind = kind; id = id; body = body; bytes = bytes; five_bits = five; is = rw (a, b) refl })
is_told rbsp (Err r) (no_body kind id bytes k i) =
    let within = ids_within kind in
    inr (record { kind = kind; id = id; body = []; bytes = bytes; five_bits = omega (arith, i, within); is = sym (known kind id [] k i) })
is_told rbsp (Err r) (bad_end kind id body bytes k i bad) =
    let within = ids_within kind in
    inr (record {
      kind = kind;
      id = id;
      body = body;
      bytes = bytes;
      five_bits = omega (arith, i, within);
      is = sym (known kind id body k i ∙ zero_ended kind id body bad);
    })

same : (rbsp : List ℕ) (a b : Result (Option Aps) Refusal)
    → ((rbsp ≡ []) × (a ≡ Err (Syntax aps_params_type 0 Short))) ⊎ IsTold rbsp a
    → ((rbsp ≡ []) × (b ≡ Err (Syntax aps_params_type 0 Short))) ⊎ IsTold rbsp b → a ≡ b
same rbsp a b (inl x) (inl y) = x.1 ∙ sym y.1
same rbsp a b (inl x) (inr y) = absurd (no_bytes rbsp y.body y.kind y.id x.0 y.bytes)
same rbsp a b (inr x) (inl y) = absurd (no_bytes rbsp x.body x.kind x.id y.0 x.bytes)
same rbsp a b (inr x) (inr y) =
    let t = tells rbsp x.body y.body x.kind x.id y.kind y.id x.bytes y.bytes x.five_bits y.five_bits in
    x.is ∙ (rw (t.kind, t.id, t.body) refl) ∙ sym y.is

pub one_answer : OneAnswer
one_answer rbsp a b p q = same rbsp a b (is_told rbsp a p) (is_told rbsp b q)
