-- Units of a round, one slice more at a time, and their lengths.
use Rattle.std.proofs.Common.{◌≡◌, ℕ, zero, suc, ◌+◌, ◌-◌, ◌^◌, ◌<◌, ◌≤◌, Bool, Bor, Vec, Global, true, false, List, [], ◌∷◌, ◌++◌, length, map, take, drop, get_or, slice_get, Some, None, refl, sym, ap, ◌∙◌, inl, inr, arith, length-append}
use Rattle.std.specs.Prelude.{◌||◌, option_map, vec_len}
use Rattle.std.specs.List.{AllByRecursion, list_any}
use Rattle.std.proofs.lemmas.Bool.{cases_Bool, ltb-false, ltb-true}
use Rattle.std.proofs.lemmas.List.{length-map, take_more, take-append-drop}
use Rattle.std.proofs.lemmas.List.Concat.{flat_map-cons}
use Rattle.std.proofs.lemmas.List.Folds.{list_any_at, list_any_more}
use Rattle.std.proofs.lemmas.List.Sums.{sum_by-cons, sum_by_push}
use Rattle.std.proofs.lemmas.Option.{get_or_from_slice_get, slice_get-get_or, slice_get-map, slice_get_within}
use Rattle.vx_bits.specs.Limits.{unit_limit}
use Rattle.vx_annexb.specs.ByteStream.{long_start_code, source_limit}
use Rattle.vx_annexb.specs.Laws.{written}
use Rattle.vx_bits.specs.declared.refusal.Refusal.TheVariants.{Limit}
use Rattle.vx_bits.specs.declared.rules.TheConstants as rules
use Rattle.vx_fit.specs.Lowest.{IsLowest}
use Rattle.vx_pic.specs.Rules.{picture_limit}
use Rattle.vx_pic.specs.Written.{eos_units}
use Rattle.vx_frame.specs.Verdict.{IsVerdict}
use Rattle.vx_merge.specs.declared.output.RoundUnits.{RoundUnits}
use Rattle.vx_bits.specs.Codes.{AreBytes}
use Rattle.vx_merge.specs.inner.Making.{HasPayloads, capped, is_long, with_payloads, limits_by, size_of, slice_units}

neither : (a b : Bool) → (a || b) ≡ false → (a ≡ false) × (b ≡ false)
neither true b is = absurd (cc)
neither false b is = (refl, is)

-- ---- lists with one item more

-- the item at a place, behind those before it
pub next_item : {X : Type 0} (xs : List X) (i : ℕ) (x : X) → slice_get xs i ≡ Some x → take (i + 1) xs ≡ take i xs ++ x ∷ []
next_item xs i x at = take_more xs i x (slice_get_within xs i x at) ∙ ap (λ y. take i xs ++ y ∷ []) (get_or_from_slice_get xs i x x at)

-- and before those behind it
pub item_split : {X : Type 0} (xs : List X) (i : ℕ) (x : X) → slice_get xs i ≡ Some x → (rest : List X) × (xs ≡ (take i xs ++ x ∷ []) ++ rest)
item_split xs i x at = (drop (i + 1) xs, sym (take-append-drop (i + 1) xs) ∙ ap (λ ys. ys ++ drop (i + 1) xs) (next_item xs i x at))

-- ---- bytes

pub all_fit : (bytes : List ℕ) → ((i : ℕ) → get_or bytes i 0 < 256) → AreBytes bytes
all_fit [] fit = tt
all_fit (b ∷ bytes) fit = (fit 0, all_fit bytes (λ i. fit (suc i)))

pub eos_bytes : (after_eos : Bool) → AllByRecursion AreBytes (eos_units after_eos)
eos_bytes true = ((omega arith, (omega arith, tt)), tt)
eos_bytes false = tt

-- ---- slices

pub joined_count : (fronts payloads : List (List ℕ)) → length fronts ≡ length payloads → length (with_payloads fronts payloads) ≡ length fronts
joined_count [] payloads same = refl
joined_count (f ∷ fronts) [] same = absurd (omega (arith, same))
joined_count (f ∷ fronts) (p ∷ payloads) same = ap suc (joined_count fronts payloads (omega (arith, same)))

pub joined_at : (fronts payloads : List (List ℕ)) (i : ℕ) (front payload : List ℕ) → slice_get fronts i ≡ Some front → slice_get payloads i ≡ Some payload
    → slice_get (with_payloads fronts payloads) i ≡ Some (front ++ payload)
joined_at [] payloads i front payload at there = absurd (cc)
joined_at (f ∷ fronts) [] i front payload at there = absurd (cc)
joined_at (f ∷ fronts) (p ∷ payloads) zero front payload at there = cc
joined_at (f ∷ fronts) (p ∷ payloads) (suc i) front payload at there = joined_at fronts payloads i front payload at there

-- an item that was read from a list, mapped
pub mapped_at : {X Y : Type 0} (f : X → Y) (xs : List X) (i : ℕ) (x : X) → i < length xs → x ≡ get_or xs i x → slice_get (map f xs) i ≡ Some (f x)
mapped_at f xs i x within is =
    slice_get-map f xs i ∙ ap (option_map f) (slice_get-get_or xs i x within ∙ ap Some (sym is))

-- ---- a test of units, unit by unit

pub any_found : {X : Type 0} (test : X → Bool) (xs : List X) (i : ℕ) (x : X) → slice_get xs i ≡ Some x → test x ≡ true → list_any test xs ≡ true
any_found test xs i x at holds =
    list_any_at test xs i x (slice_get_within xs i x at) (ap test (get_or_from_slice_get xs i x x at) ∙ holds)

pub none_more : {X : Type 0} (test : X → Bool) (xs : List X) (i : ℕ) (x : X) → slice_get xs i ≡ Some x → test x ≡ false
    → list_any test (take i xs) ≡ false → list_any test (take (i + 1) xs) ≡ false
none_more test xs i x at fails none =
    list_any_more test xs i x (slice_get_within xs i x at)
    ∙ (ap (λ b. b || test (get_or xs i x)) none ∙ (ap test (get_or_from_slice_get xs i x x at) ∙ fails))

-- ---- counts that stay at the highest number

pub own_length : (v : Vec ℕ Global) → vec_len v ≡ length v.items
own_length v = omega (arith, v.ok.0)

pub capped_once : (a b : ℕ) → capped (capped a + b) ≡ capped (a + b)
capped_once a b = omega arith

pub capped_twice : (a b c : ℕ) → capped (capped (a + b) + c) ≡ capped (a + (b + c))
capped_twice a b c = omega arith

pub capped_more : (total each i : ℕ) (us : List (List ℕ)) (u : List ℕ) → slice_get us i ≡ Some u
    → capped (capped (total + size_of each (take i us)) + (each + length u)) ≡ capped (total + size_of each (take (i + 1) us))
capped_more total each i us u at =
    let next : size_of each (take (i + 1) us) ≡ size_of each (take i us) + (each + length u) =
    ap (size_of each) (next_item us i u at) ∙ sum_by_push (λ x. each + length x) (take i us) u in
    capped_twice total (size_of each (take i us)) (each + length u) ∙ ap (λ n. capped (total + n)) (sym next)

-- the bytes of units that are written
pub written_size : (us : List (List ℕ)) → length (written us) ≡ size_of 4 us
written_size [] = refl
written_size (u ∷ us) =
    ap length (flat_map-cons (λ unit. long_start_code ++ unit) u us)
    ∙ (length-append (long_start_code ++ u) (written us)
    ∙ (ap (λ n. n + length (written us)) (length-append long_start_code u)
    ∙ (ap (λ n. (4 + length u) + n) (written_size us) ∙ sym (sum_by-cons (λ x. 4 + length x) u us))))

-- ---- limits

pub all_short : (us : List (List ℕ)) → list_any is_long us ≡ false → AllByRecursion (λ u. length u ≤ unit_limit) us
all_short [] none = tt
all_short (u ∷ us) none =
    let parts = neither (is_long u) (list_any is_long us) none in
    (ltb-false unit_limit (length u) parts.0, all_short us parts.1)

pub some_long : (us : List (List ℕ)) → list_any is_long us ≡ true → ¬ AllByRecursion (λ u. length u ≤ unit_limit) us
some_long [] some all = absurd (cc)
some_long (u ∷ us) some all =
    elim (cases_Bool (is_long u)) [
      | inl long ↦ let more = ltb-true unit_limit (length u) long in let short = all.0 in absurd (omega (arith, more, short))
      | inr short ↦ some_long us (sym (ap (λ b. b || list_any is_long us) short) ∙ some) all.1
    ]

module _ (n : ℕ) (some : 0 < n) (us : List (List ℕ)) (size total : ℕ) where
  lowest : (P : Type 0) → P → IsLowest n (λ k. P) 0
  lowest P holds = record { in_range = some; breaks = holds; lower = λ j less. absurd (omega arith) }

  pub breaks_unit : list_any is_long us ≡ true → IsVerdict n (limits_by us size total) (Some (Limit rules.LONG_UNIT))
  breaks_unit long = inr (0, lowest _ (some_long us long), refl)

  pub breaks_picture : list_any is_long us ≡ false → picture_limit < size → IsVerdict n (limits_by us size total) (Some (Limit rules.LONG_PICTURE))
  breaks_picture short long = inl (λ k less breaks. breaks (all_short us short), inr (0, lowest _ long, refl))

  pub breaks_stream : list_any is_long us ≡ false → size ≤ picture_limit → source_limit < total
      → IsVerdict n (limits_by us size total) (Some (Limit rules.LONG_SOURCE))
  breaks_stream short few long =
      inl (λ k less breaks. breaks (all_short us short), inl (λ k less breaks. absurd (omega (arith, few, breaks)), inr (0, lowest _ long, refl)))

  pub keeps_limits : list_any is_long us ≡ false → size ≤ picture_limit → total ≤ source_limit → IsVerdict n (limits_by us size total) None
  keeps_limits short few within = inl (
    λ k less breaks. breaks (all_short us short),
    inl (λ k less breaks. absurd (omega (arith, few, breaks)), inl (λ k less breaks. absurd (omega (arith, within, breaks)), refl)),
  )

-- ---- the slices of what was made

pub slices_past : (m : RoundUnits) (i : ℕ) → HasPayloads m → length m.fronts.items ≤ i → length (slice_units m) ≤ i
slices_past m i same past =
    let fronts = length-map m.fronts.items (λ u. u.items) in
    let payloads = length-map m.payloads (λ b. b.now) in
    let count = joined_count (map (λ u. u.items) m.fronts.items) (map (λ b. b.now) m.payloads) (fronts ∙ (same ∙ sym payloads)) in
    omega (arith, past, count, fronts)

-- the unit of a slice, with the front and the payload that were read
pub slice_at : (m : RoundUnits) (i : ℕ) (front : Vec ℕ Global) (payload : Bor (List ℕ)) → i < length m.fronts.items → front ≡ get_or m.fronts.items i front
    → slice_get m.payloads i ≡ Some payload → slice_get (slice_units m) i ≡ Some (front.items ++ payload.now)
slice_at m i front payload within is at =
    joined_at (map (λ u. u.items) m.fronts.items) (map (λ b. b.now) m.payloads) i front.items payload.now
    (mapped_at (λ u. u.items) m.fronts.items i front within is)
    (slice_get-map (λ (b : Bor (List ℕ)). b.now) m.payloads i ∙ ap (option_map (λ (b : Bor (List ℕ)). b.now)) at)

-- a number that stays at the highest passes a limit below it where it does
pub capped_over : (n limit : ℕ) → limit < 2 ^ 64 - 1 → limit < capped n → limit < n
capped_over n limit low over = omega (arith, low, over)

pub capped_within : (n limit : ℕ) → limit < 2 ^ 64 - 1 → capped n ≤ limit → (n ≤ limit) × (capped n ≡ n)
capped_within n limit low within = (omega (arith, low, within), omega (arith, low, within))
