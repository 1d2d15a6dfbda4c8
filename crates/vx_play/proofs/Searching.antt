-- A search through the files for those of a region.
use Rattle.std.proofs.Common.{◌≡◌, ℕ, suc, ◌+◌, ◌-◌, ◌<◌, ◌≤◌, ◌==◌, Bool, true, false, List, length, filter, slice_get, Some, refl, sym, ap, ◌∙◌, arith}
use Rattle.std.specs.Prelude.{Option, None, IsSome, slice_index}
use Rattle.std.specs.List.{range_with_len}
use Rattle.std.proofs.lemmas.Bool.{false≢true}
use Rattle.std.proofs.lemmas.Option.{slice_get_within}
use Rattle.std.proofs.lemmas.List.Sums.{length-filter, count_by-le-length}
use Rattle.std.proofs.lemmas.List.FromFn.{length-range_with_len}
use Rattle.vx_play.specs.Scheduled.{Scheduled, file_being_read}

-- ---- the numbers from i on that pass, below n

pub found : (test : ℕ → Bool) (n i left : ℕ) → i < n → test i ≡ true → left ≡ 0 → slice_get (filter test (range_with_len i (n - i))) left ≡ Some i
found test n i left low is none =
    let more : n - i ≡ suc (n - (i + 1)) = omega arith in
    rw (none, more, is) refl

one_less : (test : ℕ → Bool) (n i left : ℕ) → i < n → test i ≡ true
    → slice_get (filter test (range_with_len i (n - i))) (suc left) ≡ slice_get (filter test (range_with_len (i + 1) (n - (i + 1)))) left
one_less test n i left low is =
    let more : n - i ≡ suc (n - (i + 1)) = omega arith in
    rw (more, is) refl

pub passed : (test : ℕ → Bool) (n i left : ℕ) → i < n → test i ≡ true → 0 < left
    → slice_get (filter test (range_with_len (i + 1) (n - (i + 1)))) (left - 1) ≡ slice_get (filter test (range_with_len i (n - i))) left
passed test n i left low is some =
    let e : left ≡ suc (left - 1) = omega arith in
    sym (ap (slice_get (filter test (range_with_len i (n - i)))) e ∙ one_less test n i (left - 1) low is)

pub skipped : (test : ℕ → Bool) (n i left : ℕ) → i < n → test i ≡ false
    → slice_get (filter test (range_with_len (i + 1) (n - (i + 1)))) left ≡ slice_get (filter test (range_with_len i (n - i))) left
skipped test n i left low is =
    let more : n - i ≡ suc (n - (i + 1)) = omega arith in
    rw (more, is) refl

pub ended : (test : ℕ → Bool) (n i left : ℕ) → n ≤ i → slice_get (filter test (range_with_len i (n - i))) left ≡ None
ended test n i left past =
    let none : n - i ≡ 0 = omega arith in
    rw none refl

-- ---- fewer files of a region have ended than there are in all

pub few_gone : (s : Scheduled) (region file : ℕ) → file_being_read s region ≡ Some file → slice_index s.gone region < length s.regions
few_gone s region file is =
    let test : ℕ → Bool = λ j. slice_index s.regions j == region in
    let files : List ℕ = range_with_len 0 (length s.regions) in
    let within = slice_get_within (filter test files) (slice_index s.gone region) file is in
    omega (arith, within, length-filter test files, count_by-le-length test files, length-range_with_len 0 (length s.regions))

pub some_file : (o : Option ℕ) → IsSome o → (file : ℕ) × (o ≡ Some file)
some_file None some = absurd (false≢true some)
some_file (Some file) some = (file, refl)
