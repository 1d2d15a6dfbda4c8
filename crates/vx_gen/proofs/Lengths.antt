-- How many bytes a few short units take in a stream.
use Rattle.std.proofs.Common.{◌≡◌, ℕ, suc, ◌+◌, ◌*◌, ◌≤◌, List, [], ◌∷◌, ◌++◌, length, map, ap, ◌∙◌, arith}
use Rattle.std.specs.Prelude.{sum_by}
use Rattle.std.specs.List.{AllByRecursion}
use Rattle.std.proofs.lemmas.List.{length-append}
use Rattle.std.proofs.lemmas.List.Sums.{sum_by-cons}
use Rattle.vx_annexb.specs.ByteStream.{long_start_code}
use Rattle.vx_annexb.specs.Laws.{written}
use Rattle.vx_layout.proofs.Parts.{Each-append}
use Rattle.vx_pic.specs.Readings.{Slice}
use Rattle.vx_gen.proofs.Making.{written_on}

pub both_long : (us vs : List (List ℕ)) → length (written (us ++ vs)) ≡ length (written us) + length (written vs)
both_long us vs = ap length (written_on us vs) ∙ length-append (written us) (written vs)

pub one_more : (u : List ℕ) (us : List (List ℕ)) → length (written (u ∷ us)) ≡ 4 + (length u + length (written us))
one_more u us =
    let all = length-append (long_start_code ++ u) (written us) in
    let first = length-append long_start_code u in
    omega (arith, all, first)

-- ---- so many units at most, none of which is long

abbrev pub IsShort : List ℕ → Type 0
IsShort u = length u ≤ 800000

pub record AreFew (n : ℕ) (us : List (List ℕ)) : Type 0 where
  pub count : length us ≤ n
  pub short : AllByRecursion IsShort us

pub few_none : AreFew 0 []
few_none = record { count = omega arith; short = tt }

pub few_more : (n : ℕ) (u : List ℕ) (us : List (List ℕ)) → IsShort u → AreFew n us → AreFew (suc n) (u ∷ us)
few_more n u us one few = record { count = let count = few.count in omega (arith, count); short = (one, few.short) }

pub few_weaker : (n m : ℕ) (us : List (List ℕ)) → n ≤ m → AreFew n us → AreFew m us
few_weaker n m us low few = record { count = let count = few.count in omega (arith, count, low); short = few.short }

pub few_joined : (n m : ℕ) (us vs : List (List ℕ)) → AreFew n us → AreFew m vs → AreFew (n + m) (us ++ vs)
few_joined n m us vs first second = record {
  count = let a = first.count in let b = second.count in omega (arith, a, b, length-append us vs);
  short = Each-append IsShort us vs first.short second.short;
}

bytes_each : (us : List (List ℕ)) → AllByRecursion IsShort us → length (written us) ≤ length us * 800004
bytes_each [] short = omega arith
bytes_each (u ∷ us) short =
    let one = short.0 in
    let more = bytes_each us short.1 in
    omega (arith, one, more, one_more u us)

pub few_bytes : (n : ℕ) (us : List (List ℕ)) → AreFew n us → length (written us) ≤ n * 800004
few_bytes n us few = let count = few.count in let each = bytes_each us few.short in omega (arith, count, each)

-- ---- slices have no more bytes than their units in a stream

pub slices_within : (slices : List Slice) → sum_by (λ (s : Slice). length s.unit) slices ≤ length (written (map (λ (s : Slice). s.unit) slices))
slices_within [] = omega arith
slices_within (s ∷ slices) =
    let sum = sum_by-cons (λ (t : Slice). length t.unit) s slices in
    let all = one_more s.unit (map (λ (t : Slice). t.unit) slices) in
    let more = slices_within slices in
    omega (arith, sum, all, more)
