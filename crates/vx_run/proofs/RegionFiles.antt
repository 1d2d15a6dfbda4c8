-- The files of a region, in order: those that were read out, the one that is read, and those behind it.
use Rattle.std.proofs.Common.{◌≡◌, ◌≢◌, ℕ, zero, suc, ◌+◌, ◌<◌, ◌≤◌, ◌==◌, ◌⊎◌, List, [], ◌∷◌, ◌++◌, ◌∙◌, Option, Some, Bool, true, false, cond, length, filter, slice_get, inl, inr, sym, ap, refl, subst, arith}
use Rattle.std.specs.Prelude.{None, slice_index}
use Rattle.std.specs.List.{AllByRecursion, range_with_len}
use Rattle.std.proofs.lemmas.Bool.{eq-eqb, eqb-true}
use Rattle.std.proofs.lemmas.Option.{same_Some}
use Rattle.vx_pic.specs.Readings.{Picture}
use Rattle.vx_pic.specs.Rules.{Readers}
use Rattle.vx_assemble.specs.Feed.{Feeding}
use Rattle.vx_play.specs.Scheduled.{files_of_region}
use Rattle.vx_run.specs.Change.{Change, Sources, sources_change, source_at, IsUntouched}
use Rattle.vx_run.specs.Play.{AreOut, AreUnread, IsBehind, IsOut}
use Rattle.vx_run.specs.Rounds.{IsRead, IsReadOut}
use Rattle.vx_run.specs.inner.Advancing.{IsUnfed}
use Rattle.vx_run.specs.inner.Playing.{AllRead, IsAt}
use Rattle.vx_run.proofs.Indexed.{where_is}
use Rattle.vx_run.proofs.Sources.{still, untouched_read, untouched_waits, waits_read, waits_still}

-- ---- the numbers of a region's files

-- they rise from a, are below n, and each is of the region
abbrev pub AreOfRegion : List ℕ → ℕ → ℕ → ℕ → List ℕ → Type 0
AreOfRegion regions k n a [] = Unit {0}
AreOfRegion regions k n a (j ∷ js) = (a ≤ j) × (j < n) × (slice_index regions j ≡ k) × AreOfRegion regions k n (j + 1) js

pub later_of : (regions : List ℕ) (k n a b : ℕ) (js : List ℕ) → b ≤ a → AreOfRegion regions k n a js → AreOfRegion regions k n b js
later_of regions k n a b [] less of = tt
later_of regions k n a b (j ∷ js) less of = (omega (arith, less, of.0), of.1, of.2, of.3)

module _ (regions : List ℕ) (k : ℕ) where
  abbrev Test : ℕ → Bool
  Test j = slice_index regions j == k

  sifted : (n a m : ℕ) (b : Bool) → Test a ≡ b → a < n → AreOfRegion regions k n (a + 1) (filter Test (range_with_len (a + 1) m)) → AreOfRegion regions k n a (cond b (a ∷ filter Test (range_with_len (a + 1) m)) (filter Test (range_with_len (a + 1) m)))
  sifted n a m true is low rest = (omega arith, low, eqb-true (slice_index regions a) k is, rest)
  sifted n a m false is low rest = later_of regions k n (a + 1) a (filter Test (range_with_len (a + 1) m)) (omega arith) rest

  from_range : (n a m : ℕ) → a + m ≡ n → AreOfRegion regions k n a (filter Test (range_with_len a m))
  from_range n a zero is = tt
  from_range n a (suc m) is = sifted n a m (Test a) refl (omega (arith, is)) (from_range n (a + 1) m (omega (arith, is)))

  pub files_are : AreOfRegion regions k (length regions) 0 (files_of_region regions k)
  files_are = from_range (length regions) 0 (length regions) (omega arith)

  -- what holds of each of them does of each file of the region
  one_of : (P : ℕ → Type 0) (a m j : ℕ) → a ≤ j → j < a + m → Test j ≡ true → AllByRecursion P (filter Test (range_with_len a m)) → P j
  one_of P a zero j low high is all = absurd (omega (arith, low, high))
  one_of P a (suc m) j low high is all = elim (where_is a j) [
    | inl before ↦ one_of P (a + 1) m j (omega (arith, before)) (omega (arith, high)) is (rest (Test a) all)
    | inr (inl same) ↦ here a j same is all
    | inr (inr behind) ↦ absurd (omega (arith, low, behind))
  ]
    where
      rest : (b : Bool) → AllByRecursion P (cond b (a ∷ filter Test (range_with_len (a + 1) m)) (filter Test (range_with_len (a + 1) m))) → AllByRecursion P (filter Test (range_with_len (a + 1) m))
      rest true all_ = all_.1
      rest false all_ = all_

      here : (x y : ℕ) → x ≡ y → Test y ≡ true → AllByRecursion P (cond (Test x) (x ∷ filter Test (range_with_len (a + 1) m)) (filter Test (range_with_len (a + 1) m))) → P y
      here x y same passes all_ =
          let test : Test x ≡ true = ap Test same ∙ passes in
          subst P same (subst (λ (b : Bool). AllByRecursion P (cond b (x ∷ filter Test (range_with_len (a + 1) m)) (filter Test (range_with_len (a + 1) m)))) test all_).0

  pub file_has : (P : ℕ → Type 0) (j : ℕ) → j < length regions → slice_index regions j ≡ k → AllByRecursion P (files_of_region regions k) → P j
  file_has P j within is all = one_of P 0 (length regions) j (omega arith) (omega (arith, within)) (eq-eqb (slice_index regions j) k is) all

-- the i-th of them
pub file_at : (regions : List ℕ) (k n a : ℕ) (js : List ℕ) (i j : ℕ) → AreOfRegion regions k n a js → slice_get js i ≡ Some j → (j < n) × (slice_index regions j ≡ k)
file_at regions k n a [] i j of at = absurd (cc)
file_at regions k n a (h ∷ js) zero j of at = subst (λ (x : ℕ). (x < n) × (slice_index regions x ≡ k)) (same_Some h j at) (of.1, of.2)
file_at regions k n a (h ∷ js) (suc i) j of at = file_at regions k n (h + 1) js i j of.3 at

pub current_file : (regions : List ℕ) (k i j : ℕ) → slice_get (files_of_region regions k) i ≡ Some j → (j < length regions) × (slice_index regions j ≡ k)
current_file regions k i j at = file_at regions k (length regions) 0 (files_of_region regions k) i j (files_are regions k) at

-- there are no more than numbers
pub few_files : (regions : List ℕ) (k n a : ℕ) (js : List ℕ) → AreOfRegion regions k n a js → a ≤ n → length js + a ≤ n
few_files regions k n a [] of low = omega (arith, low)
few_files regions k n a (j ∷ js) of low = omega (arith, of.0, of.1, few_files regions k n (j + 1) js of.3 (omega (arith, of.1)))

-- ---- files that were read, and that weren't

module _ {A : Type 0} (bytes : A → Option (List ℕ)) (faults : A → ℕ) (R : Readers) (first : List A) where
  abbrev Src : List A → Sources A
  Src l = sources_change bytes faults first l

  abbrev At : List A → ℕ → Change (Option A)
  At l k = source_at (Src l) k

  pub all_unread : (js : List ℕ) → AreUnread (Src first) js
  all_unread [] = tt
  all_unread (j ∷ js) = (refl, all_unread js)

  -- ---- the file that is read

  pub behind_current : (l : List A) (js : List ℕ) (passed : List (List Picture)) (j : ℕ) → IsBehind R (Src l) j js passed → slice_get js (length passed) ≡ Some j
  behind_current l [] passed j behind = absurd behind
  behind_current l (i ∷ js) [] j behind = ap (λ (x : ℕ). let o : Option ℕ = Some x in o) behind.0
  behind_current l (i ∷ js) (ps ∷ passed) j behind = behind_current l js passed j behind.1

  pub out_current : (l : List A) (js : List ℕ) (passed : List (List Picture)) → AreOut R (Src l) js passed → slice_get js (length passed) ≡ None
  out_current l [] passed out = refl
  out_current l (j ∷ js) [] out = absurd out
  out_current l (j ∷ js) (ps ∷ passed) out = out_current l js passed out.1

  -- it is of the region
  pub behind_of : (regions : List ℕ) (k n a : ℕ) (l : List A) (js : List ℕ) (passed : List (List Picture)) (j : ℕ) → AreOfRegion regions k n a js → IsBehind R (Src l) j js passed → (a ≤ j) × (j < n) × (slice_index regions j ≡ k)
  behind_of regions k n a l [] passed j of behind = absurd behind
  behind_of regions k n a l (i ∷ js) [] j of behind = subst (λ (x : ℕ). (a ≤ x) × (x < n) × (slice_index regions x ≡ k)) behind.0 (of.0, of.1, of.2)
  behind_of regions k n a l (i ∷ js) (ps ∷ passed) j of behind =
      let rest = behind_of regions k n (i + 1) l js passed j of.3 behind.1 in
      (omega (arith, of.0, rest.0), rest.1, rest.2)

  -- one more file was read out: the next one is read, or there is none
  pub goes_behind : (l : List A) (js : List ℕ) (passed : List (List Picture)) (own : List Picture) (j : ℕ) → IsBehind R (Src l) j js passed → IsOut R (At l j) own
      → ((i : ℕ) × IsBehind R (Src l) i js (passed ++ own ∷ []) × IsUntouched (At l i)) ⊎ AreOut R (Src l) js (passed ++ own ∷ [])
  goes_behind l [] passed own j behind out = absurd behind
  goes_behind l (i ∷ []) [] own j behind out = inr (subst (λ (x : ℕ). IsOut R (At l x) own) (sym behind.0) out, refl)
  goes_behind l (i ∷ h ∷ js) [] own j behind out = inl (h, (subst (λ (x : ℕ). IsOut R (At l x) own) (sym behind.0) out, (refl, behind.1.1)), behind.1.0)
  goes_behind l (i ∷ js) (ps ∷ passed) own j behind out = elim (goes_behind l js passed own j behind.1 out) [
    | inl next ↦ inl (next.0, (behind.0, next.1), next.2)
    | inr all ↦ inr (behind.0, all)
  ]

  -- ---- where other files were read

  module _ (l l' : List A) where
    out_still : (j : ℕ) (ps : List Picture) → slice_get l' j ≡ slice_get l j → IsOut R (At l j) ps → IsOut R (At l' j) ps
    out_still j ps same = still bytes faults R first l l' j same (λ c. IsOut R c ps)

    module _ (regions : List ℕ) (k n : ℕ) where
      -- all but j of the region are as they were
      abbrev Stay : ℕ → Type 0
      Stay j = (i : ℕ) → i ≢ j → slice_index regions i ≡ k → slice_get l' i ≡ slice_get l i

      unread_stay : (j a : ℕ) (js : List ℕ) → j < a → AreOfRegion regions k n a js → Stay j → AreUnread (Src l) js → AreUnread (Src l') js
      unread_stay j a [] low of stay none = tt
      unread_stay j a (i ∷ js) low of stay none =
          let other : i ≢ j = λ same. omega (arith, same, low, of.0) in
          (stay i other of.2 ∙ none.0, unread_stay j (i + 1) js (omega (arith, low, of.0)) of.3 stay none.1)

      pub behind_stay : (a : ℕ) (js : List ℕ) (passed : List (List Picture)) (j : ℕ) → AreOfRegion regions k n a js → Stay j → IsBehind R (Src l) j js passed → IsBehind R (Src l') j js passed
      behind_stay a [] passed j of stay behind = absurd behind
      behind_stay a (i ∷ js) [] j of stay behind = (behind.0, unread_stay j (i + 1) js (omega (arith, behind.0)) of.3 stay behind.1)
      behind_stay a (i ∷ js) (ps ∷ passed) j of stay behind =
          let low = (behind_of regions k n (i + 1) l js passed j of.3 behind.1).0 in
          let other : i ≢ j = λ same. omega (arith, same, low) in
          (out_still i ps (stay i other of.2) behind.0, behind_stay (i + 1) js passed j of.3 stay behind.1)

      -- none of the region was read
      abbrev AllStay : Type 0
      AllStay = (i : ℕ) → slice_index regions i ≡ k → slice_get l' i ≡ slice_get l i

      pub out_stay : (a : ℕ) (js : List ℕ) (passed : List (List Picture)) → AreOfRegion regions k n a js → AllStay → AreOut R (Src l) js passed → AreOut R (Src l') js passed
      out_stay a [] passed of stay out = out
      out_stay a (j ∷ js) [] of stay out = absurd out
      out_stay a (j ∷ js) (ps ∷ passed) of stay out = (out_still j ps (stay j of.2) out.0, out_stay (j + 1) js passed of.3 stay out.1)

      pub at_stay : (a : ℕ) (js : List ℕ) (f : Feeding) (passed : List (List Picture)) (own : List Picture) → AreOfRegion regions k n a js → AllStay → IsAt R (Src l) js f passed own → IsAt R (Src l') js f passed own
      at_stay a js f passed own of stay (inl at) =
          let j = at.0 in
          let mine = behind_of regions k n a l js passed j of at.1 in
          inl (j, behind_stay a js passed j of (λ i other. stay i) at.1, waits_still bytes faults R first l l' j (stay j mine.2) f own at.2)
      at_stay a js f passed own of stay (inr at) = inr (out_stay a js passed of stay at.0, at.1)

  -- ---- all of them were read

  unread_all : (l : List A) (js : List ℕ) → AreUnread (Src l) js → AllRead (Src l) js
  unread_all l [] none = tt
  unread_all l (j ∷ js) none = (untouched_read (At l j) none.0, unread_all l js none.1)

  pub behind_read : (l : List A) (js : List ℕ) (passed : List (List Picture)) (j : ℕ) → IsBehind R (Src l) j js passed → IsRead (At l j) → AllRead (Src l) js
  behind_read l [] passed j behind read = absurd behind
  behind_read l (i ∷ js) [] j behind read = (subst (λ (x : ℕ). IsRead (At l x)) (sym behind.0) read, unread_all l js behind.1)
  behind_read l (i ∷ js) (ps ∷ passed) j behind read = ((behind.0.0.0, behind.0.0.1), behind_read l js passed j behind.1 read)

  pub out_read : (l : List A) (js : List ℕ) (passed : List (List Picture)) → AreOut R (Src l) js passed → AllRead (Src l) js
  out_read l [] passed out = tt
  out_read l (j ∷ js) [] out = absurd out
  out_read l (j ∷ js) (ps ∷ passed) out = ((out.0.0.0, out.0.0.1), out_read l js passed out.1)

  pub out_out : (l : List A) (js : List ℕ) (passed : List (List Picture)) → AreOut R (Src l) js passed → AllByRecursion (λ j. IsReadOut (At l j)) js
  out_out l [] passed out = tt
  out_out l (j ∷ js) [] out = absurd out
  out_out l (j ∷ js) (ps ∷ passed) out = (out.0.0, out_out l js passed out.1)

  pub at_read : (l : List A) (js : List ℕ) (f : Feeding) (passed : List (List Picture)) (own : List Picture) → IsAt R (Src l) js f passed own → AllRead (Src l) js
  at_read l js f passed own (inl at) = behind_read l js passed at.0 at.1 (waits_read bytes faults R first l at.0 f own at.2)
  at_read l js f passed own (inr at) = out_read l js passed at.0

  -- a region that nothing was read of is at its first file
  pub at_first : (js : List ℕ) (f : Feeding) → IsUnfed f → IsAt R (Src first) js f [] []
  at_first [] f new = inr (refl, refl)
  at_first (j ∷ js) f new = inl (j, (refl, all_unread js), untouched_waits bytes faults R first first j f refl new)
