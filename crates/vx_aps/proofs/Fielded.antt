-- The fields of bytes that are taken apart into type, id and body.
use Rattle.std.proofs.Common.{◌≡◌, ℕ, ◌-◌, ◌/◌, ◌%◌, ◌≤◌, ◌<◌, Bool, true, false, List, [], ◌∷◌, length, slice_index, cond, ◌==◌, nat_lt, nat_le, Some, None, Ok, Err, sym, ap, ◌∙◌, arith, refl}
use Rattle.std.proofs.lemmas.Bool.{leb-true, le-leb, ltb-true, lt-ltb, eq-eqb, ne_eqb, false_from_ne_true, false≢true}
use Rattle.vx_bits.specs.declared.refusal.Refusal.{Refusal}
use Rattle.vx_bits.specs.Codes.{EndsInNoZero}
use Rattle.vx_aps.specs.declared.aps.TheConstants.{SCALING}
use Rattle.vx_aps.specs.declared.fields.ApsFields.{ApsFields}
use Rattle.vx_aps.specs.Aps.{ids_of_type, IsRefusedAps, no_type, no_such_id, no_body, bad_end}
use Rattle.vx_aps.specs.Fields.{with_type, with_id, fields_in, AreFields}
use Rattle.vx_aps.specs.inner.Bodies.{body_seen}
use Rattle.vx_aps.proofs.Bytes.{is_spelled, ids_within, tells, no_bytes}

-- what bytes that begin with a type and an id show
shown : (kind id : ℕ) → List ℕ → ApsFields
shown kind id body =
    cond (nat_lt SCALING kind) (with_id kind id (Some (length body)))
    (cond (nat_le (ids_of_type kind) id) (with_type kind) (with_id kind id (body_seen body)))

known : (kind id : ℕ) (body : List ℕ) → kind ≤ SCALING → id < ids_of_type kind → shown kind id body ≡ with_id kind id (body_seen body)
unfolding shown
known kind id body k i =
    let a : nat_lt SCALING kind ≡ false = false_from_ne_true (nat_lt SCALING kind) (λ e. let l = ltb-true SCALING kind e in omega (arith, l, k)) in
    let b : nat_le (ids_of_type kind) id ≡ false = false_from_ne_true (nat_le (ids_of_type kind) id) (λ e. let l = leb-true (ids_of_type kind) id e in omega (arith, l, i)) in
    rw (a, b) refl

whole : (body : List ℕ) → 0 < length body → EndsInNoZero body → body_seen body ≡ Some (length body)
whole body some ends =
    let n : (length body == 0) ≡ false = ne_eqb (length body) 0 (λ z. omega (arith, z, some)) in
    let e : (slice_index body (length body - 1) == 0) ≡ false = ne_eqb (slice_index body (length body - 1)) 0 (ends (length body - 1) (omega (arith, some))) in
    rw (n, e) refl

zero_at : (body : List ℕ) → ¬ EndsInNoZero body → (length body == 0) ≡ false → (z : Bool) → (slice_index body (length body - 1) == 0) ≡ z → body_seen body ≡ None
zero_at body bad n true e = rw (n, e) refl
zero_at body bad n false e = absurd (bad (λ k m z.
    let same : length body - 1 ≡ k = omega (arith, m) in
    false≢true (sym e ∙ eq-eqb (slice_index body (length body - 1)) 0 (ap (slice_index body) same ∙ z))))

ended : (body : List ℕ) → ¬ EndsInNoZero body → (z : Bool) → (length body == 0) ≡ z → body_seen body ≡ None
ended body bad true e = rw e refl
ended body bad false e = zero_at body bad e (slice_index body (length body - 1) == 0) refl

-- the same of other names
renamed : {k i l j : ℕ} {x y : List ℕ} → k ≡ l → i ≡ j → x ≡ y → shown k i x ≡ shown l j y
renamed a b c = rw (a, b, c) refl

refused : (rbsp : List ℕ) (byte : ℕ) (body : List ℕ) → rbsp ≡ byte ∷ body → (r : Refusal) (is : IsRefusedAps rbsp r)
    → shown (byte / 32) (byte % 32) body ≡ fields_in rbsp (Err r) is
unfolding shown
refused rbsp byte body e r (no_type none) = absurd (no_bytes rbsp body (byte / 32) (byte % 32) none (is_spelled rbsp byte body e))
refused rbsp byte body e r (no_such_id kind id other bytes k five none) =
    let t = tells rbsp body other (byte / 32) (byte % 32) kind id (is_spelled rbsp byte body e) bytes (omega arith) five in
    let a : nat_lt SCALING kind ≡ false = false_from_ne_true (nat_lt SCALING kind) (λ e. let l = ltb-true SCALING kind e in omega (arith, l, k)) in
    let b : nat_le (ids_of_type kind) id ≡ true = le-leb (ids_of_type kind) id none in
    renamed t.kind t.id t.body ∙ rw (a, b) refl
refused rbsp byte body e r (no_body kind id bytes k i) =
    let within = ids_within kind in
    let t = tells rbsp body [] (byte / 32) (byte % 32) kind id (is_spelled rbsp byte body e) bytes (omega arith) (omega (arith, i, within)) in
    renamed t.kind t.id t.body ∙ known kind id [] k i
refused rbsp byte body e r (bad_end kind id other bytes k i bad) =
    let within = ids_within kind in
    let t = tells rbsp body other (byte / 32) (byte % 32) kind id (is_spelled rbsp byte body e) bytes (omega arith) (omega (arith, i, within)) in
    renamed t.kind t.id t.body ∙ known kind id other k i ∙ ap (with_id kind id) (ended other bad (length other == 0) refl)

are_shown : (rbsp : List ℕ) (byte : ℕ) (body : List ℕ) → rbsp ≡ byte ∷ body → AreFields rbsp (shown (byte / 32) (byte % 32) body)
unfolding shown
are_shown rbsp byte body e (Ok (Some aps)) is =
    let v = is.valid in
    let within = ids_within aps.kind in
    let t = tells rbsp body aps.body (byte / 32) (byte % 32) aps.kind aps.id (is_spelled rbsp byte body e) is.bytes (omega arith) (omega (arith, v.id, within)) in
    renamed t.kind t.id t.body ∙ known aps.kind aps.id aps.body v.kind v.id ∙ ap (with_id aps.kind aps.id) (whole aps.body v.some v.ends)
are_shown rbsp byte body e (Ok None) is =
    let t = tells rbsp body is.body (byte / 32) (byte % 32) is.kind is.id (is_spelled rbsp byte body e) is.bytes (omega arith) is.five_bits in
    let a : nat_lt SCALING is.kind ≡ true = lt-ltb SCALING is.kind is.reserved in
    renamed t.kind t.id t.body ∙ rw a refl
are_shown rbsp byte body e (Err r) is = refused rbsp byte body e r is

-- ---- what a reader answers

at_fields : (rbsp : List ℕ) (f h : ApsFields) → AreFields rbsp f → f ≡ h → AreFields rbsp h
at_fields rbsp f h are e answer is = sym e ∙ are answer is

pub type_fields : (rbsp : List ℕ) (byte : ℕ) (body : List ℕ) → rbsp ≡ byte ∷ body → byte / 32 ≤ SCALING → ids_of_type (byte / 32) ≤ byte % 32
    → AreFields rbsp (with_type (byte / 32))
unfolding shown
type_fields rbsp byte body e k none =
    let a : nat_lt SCALING (byte / 32) ≡ false = false_from_ne_true (nat_lt SCALING (byte / 32)) (λ e. let l = ltb-true SCALING (byte / 32) e in omega (arith, l, k)) in
    let b : nat_le (ids_of_type (byte / 32)) (byte % 32) ≡ true = le-leb (ids_of_type (byte / 32)) (byte % 32) none in
    at_fields rbsp (shown (byte / 32) (byte % 32) body) _ (are_shown rbsp byte body e) (rw (a, b) refl)

pub all_fields : (rbsp : List ℕ) (byte : ℕ) (body : List ℕ) → rbsp ≡ byte ∷ body → byte / 32 ≤ SCALING → byte % 32 < ids_of_type (byte / 32)
    → AreFields rbsp (with_id (byte / 32) (byte % 32) (body_seen body))
all_fields rbsp byte body e k i =
    at_fields rbsp (shown (byte / 32) (byte % 32) body) _ (are_shown rbsp byte body e) (known (byte / 32) (byte % 32) body k i)

no_bytes_left : (rbsp : List ℕ) (r : Refusal) (is : IsRefusedAps rbsp r) → rbsp ≡ [] → record { items = []; body = None } ≡ fields_in rbsp (Err r) is
no_bytes_left rbsp r (no_type none) e = refl
no_bytes_left rbsp r (no_such_id kind id body bytes k five none) e = absurd (no_bytes rbsp body kind id e bytes)
no_bytes_left rbsp r (no_body kind id bytes k i) e = absurd (no_bytes rbsp [] kind id e bytes)
no_bytes_left rbsp r (bad_end kind id body bytes k i bad) e = absurd (no_bytes rbsp body kind id e bytes)

without_bytes : (rbsp : List ℕ) → rbsp ≡ [] → AreFields rbsp (record { items = []; body = None })
without_bytes rbsp e (Ok (Some aps)) is = absurd (no_bytes rbsp aps.body aps.kind aps.id e is.bytes)
without_bytes rbsp e (Ok None) is = absurd (no_bytes rbsp is.body is.kind is.id e is.bytes)
without_bytes rbsp e (Err r) is = no_bytes_left rbsp r is e

pub bare_fields : (rbsp : List ℕ) → length rbsp ≡ 0 → AreFields rbsp (record { items = []; body = None })
bare_fields [] none = without_bytes [] refl
bare_fields (b ∷ rbsp) none = absurd (omega (arith, none))
