-- What the files of regions tell of a round.
use Rattle.std.proofs.Common.{◌≡◌, ◌≢◌, ℕ, zero, suc, ◌+◌, ◌<◌, ◌⊎◌, List, [], ◌∷◌, ◌++◌, ◌∙◌, Option, Some, Bool, true, false, length, get_or, slice_get, inl, inr, sym, ap, refl, subst, arith}
use Rattle.std.specs.Prelude.{option_map, reverse, slice_index}
use Rattle.std.specs.List.{list_any, range_with_len}
use Rattle.std.proofs.lemmas.List.{length-append}
use Rattle.std.proofs.lemmas.List.FromFn.{get_or-map-range_with_len, get_or-range_with_len, length-map-range_with_len, length-range_with_len}
use Rattle.std.proofs.lemmas.List.Folds.{list_any_at, list_any_none}
use Rattle.std.proofs.lemmas.Option.{slice_get_within, slice_get-get_or, same_Some}
use Rattle.vx_pic.specs.Bytes.{Ending}
use Rattle.vx_pic.specs.Counts.{is_empty}
use Rattle.vx_pic.specs.Joined.{begins_file, one_behind_another}
use Rattle.vx_pic.specs.Readings.{Picture}
use Rattle.vx_pic.specs.Rules.{Readers}
use Rattle.vx_assemble.specs.Feed.{Feeding}
use Rattle.vx_merge.specs.declared.ended.Lengths.TheVariants as lengths
use Rattle.vx_merge.specs.declared.ended.Lengths.TheVariants.{Differ}
use Rattle.vx_merge.specs.Ends.{IsLengths}
use Rattle.vx_play.specs.Scheduled.{files_of_region}
use Rattle.vx_run.specs.Change.{Change, Sources, sources_change, source_at, IsUntouched}
use Rattle.vx_run.specs.Extract.{WhereTold, BeginsWithPictures}
use Rattle.vx_run.specs.Play.{ArePlayedFor, ArePlayedInRound, AreOut, AreUnread, IsBehind, count_of, no_stream, pictures_in, region_stream, region_streams, refused_file}
use Rattle.vx_run.specs.Rounds.{Stream, picture_in, AllEnded, AreTold, GoesOn, HasEnded, IsRefusedStream}
use Rattle.vx_run.specs.inner.Advancing.{EndsFirst}
use Rattle.vx_run.specs.inner.Playing.{Ends, IsAt, HasTakenSo, Takes}
use Rattle.vx_run.proofs.Indexed.{any_default, earlier_stay, latest_at, some_at, where_is}
use Rattle.vx_run.proofs.RegionFiles.{AreOfRegion}
use Rattle.vx_run.proofs.RegionTold.{told_cut, told_out, told_takes}
use Rattle.vx_run.proofs.Sources.{takes_begin, takes_for, waits_for}

-- ---- the stream of each region

pub stream_at : (count : ℕ) (regions : List ℕ) (files : List Stream) (k : ℕ) → k < count → slice_get (region_streams count regions files) k ≡ Some (region_stream files (files_of_region regions k))
stream_at count regions files k within =
    let f : ℕ → Stream = λ i. region_stream files (files_of_region regions i) in
    let fits : k < length (region_streams count regions files) = omega (arith, within, length-map-range_with_len f 0 count) in
    slice_get-get_or (region_streams count regions files) k no_stream fits ∙ ap (λ (s : Stream). Some s) (get_or-map-range_with_len f 0 count k k no_stream within (omega arith))

pub many_streams : (count : ℕ) (regions : List ℕ) (files : List Stream) → length (region_streams count regions files) ≡ count
many_streams count regions files = length-map-range_with_len (λ (i : ℕ). region_stream files (files_of_region regions i)) 0 count

-- what holds of each region's stream does of each stream
pub of_each : (count : ℕ) (regions : List ℕ) (files : List Stream) (P : Stream → Type 0) (k : ℕ) (s : Stream) → slice_get (region_streams count regions files) k ≡ Some s → (k < count → P (region_stream files (files_of_region regions k))) → P s
of_each count regions files P k s at holds =
    let within : k < count = omega (arith, slice_get_within (region_streams count regions files) k s at, many_streams count regions files) in
    subst P (same_Some (region_stream files (files_of_region regions k)) s (sym (stream_at count regions files k within) ∙ at)) (holds within)

-- ---- picture n of pictures that begin so

pub picture_there : (pictures xs : List Picture) (p : Picture) (n : ℕ) → BeginsWithPictures pictures (p ∷ xs) → length xs ≡ n → slice_get (reverse pictures) n ≡ Some p
picture_there pictures xs p n begins count =
    ap (λ (l : List Picture). slice_get (reverse l) n) begins.1 ∙ earlier_stay begins.0 (p ∷ xs) n (omega (arith, count)) ∙ latest_at p xs n count

pub goes_there : (pictures xs : List Picture) (p : Picture) → BeginsWithPictures pictures (p ∷ xs) → length xs < length pictures
goes_there pictures xs p begins = omega (arith, ap (λ (l : List Picture). length l) begins.1, length-append begins.0 (p ∷ xs))

-- ---- what is told of one region

module _ {A : Type 0} (bytes : A → Option (List ℕ)) (faults : A → ℕ) (R : Readers) (first l : List A) where
  abbrev S : Sources A
  S = sources_change bytes faults first l

  abbrev At : ℕ → Change (Option A)
  At k = source_at S k

  module _ (regions : List ℕ) (k : ℕ) (of : AreOfRegion regions k (length first) 0 (files_of_region regions k)) (passed : List (List Picture)) (own : List Picture) (n : ℕ) (taken : length own + count_of passed ≡ n) where
    abbrev Js : List ℕ
    Js = files_of_region regions k

    so_many : (xs : List Picture) → xs ≡ own ++ one_behind_another [] passed → length xs ≡ n
    so_many xs same = ap (λ (x : List Picture). length x) same ∙ length-append own (one_behind_another [] passed) ∙ taken

    -- a picture was taken
    module _ (was at : ℕ) (f : Feeding) (t : Takes R S Js was at f passed own) where
      abbrev pub taken_one : Picture
      taken_one = t.takes.one.picture

      pub takes_told : (files : List Stream) → AreTold R S files
          → (picture_in n (region_stream files Js) ≡ Some taken_one) × GoesOn n (region_stream files Js) × (begins_file 0 (pictures_in files Js) n ≡ is_empty t.others)
      takes_told files are =
          let told = told_takes bytes faults R first l files are regions k 0 Js t.more t.j of t.behind taken_one t.others (takes_begin bytes faults R first l t.j f t.others t.takes) in
          let xs : List Picture = t.others ++ one_behind_another [] t.more in
          let count : length xs ≡ n = so_many xs t.same in (
            picture_there (region_stream files Js).pictures xs taken_one n told.0 count,
            omega (arith, goes_there (region_stream files Js).pictures xs taken_one told.0, count),
            subst (λ (m : ℕ). begins_file 0 (pictures_in files Js) m ≡ is_empty t.others) count told.1,
          )

      counted_in : n ≡ count_of t.more + length t.others
      counted_in = omega (arith, so_many (t.others ++ one_behind_another [] t.more) t.same, length-append t.others (one_behind_another [] t.more))

      pub takes_in : ArePlayedFor R S (n + 1) Js
      takes_in = inr (record {
        j = t.j;
        m = length t.others;
        passed = t.more;
        behind = t.behind;
        read = takes_for bytes faults R first l t.j (length t.others) f t.others refl t.takes;
        count = omega (arith, counted_in);
      })

    -- it has ended
    module _ (e : Ends R S Js passed own) where
      pub ends_told : (files : List Stream) → AreTold R S files → HasEnded n (region_stream files Js)
      ends_told files are =
          let told = told_out bytes faults R first l files are regions k 0 Js e.more of e.out in (
            ap (λ (x : List (List Picture)). length (one_behind_another [] x)) told.0 ∙ so_many (one_behind_another [] e.more) e.same,
            ap (λ (o : Option (ℕ × Ending)). option_map (λ (x : ℕ × Ending). x.1) o) told.1,
          )

      pub ends_in : ArePlayedInRound R S n Js
      ends_in = inr (e.more, e.out, sym (so_many (one_behind_another [] e.more) e.same))

    -- a file is refused
    pub cut_told : (others : List Picture) (more : List (List Picture)) (j : ℕ) (e : Ending) → IsBehind R S j Js more → others ++ one_behind_another [] more ≡ own ++ one_behind_another [] passed
        → WhereTold R (At j) (λ qs end. (qs ≡ others) × (end ≡ Some e)) → (files : List Stream) → AreTold R S files
        → IsRefusedStream n e (region_stream files Js) × (refused_file files Js ≡ j)
    cut_told others more j e behind same where_ files are =
        let told = told_cut bytes faults R first l files are regions k 0 Js more j of behind others e where_ in
        ((ap (λ (x : List Picture). length x) told.0 ∙ so_many (others ++ one_behind_another [] more) same, told.1), told.2)

    pub behind_count : (others : List Picture) (more : List (List Picture)) → others ++ one_behind_another [] more ≡ own ++ one_behind_another [] passed → n ≡ count_of more + length others
    behind_count others more same = omega (arith, so_many (others ++ one_behind_another [] more) same, length-append others (one_behind_another [] more))

  -- ---- how far files were read where nothing came of the round yet

  none_behind : (j : ℕ) (js : List ℕ) → IsBehind R S j js [] → IsUntouched (At j) → AreUnread S js
  none_behind j [] behind none = absurd behind
  none_behind j (i ∷ js) behind none = (subst (λ (x : ℕ). IsUntouched (At x)) (sym behind.0) none, behind.1)

  none_out : (js : List ℕ) → AreOut R S js [] → AreUnread S js
  none_out [] out = tt
  none_out (j ∷ js) out = absurd out

  pub at_for : (js : List ℕ) (f : Feeding) (passed : List (List Picture)) (own : List Picture) (n : ℕ) → HasTakenSo n passed own → IsAt R S js f passed own → ArePlayedFor R S n js
  at_for js f passed [] n so (inl at) =
      let empty : passed ≡ [] = so.1 refl in
      inl (
        omega (arith, so.0, ap (λ (x : List (List Picture)). count_of x) empty),
        none_behind at.0 js (subst (λ (x : List (List Picture)). IsBehind R S at.0 js x) empty at.1) at.2.1,
      )
  at_for js f passed (p ∷ ps) n so (inl at) = inr (record {
    j = at.0;
    m = length ps;
    passed = passed;
    behind = at.1;
    read = waits_for bytes faults R first l at.0 (length ps + 1) f (p ∷ ps) (omega arith) at.2;
    count = omega (arith, so.0);
  })
  at_for js f passed own n so (inr out) =
      let empty : passed ≡ [] = so.1 out.1 in
      let none : length own ≡ 0 = ap (λ (x : List Picture). length x) out.1 in
      inl (omega (arith, so.0, none, ap (λ (x : List (List Picture)). count_of x) empty), none_out js (subst (λ (x : List (List Picture)). AreOut R S js x) empty out.0))

-- ---- their lengths

module _ (ss : List Stream) (n : ℕ) (ended : List Bool) (same : length ended ≡ length ss)
    (goes : (k : ℕ) (s : Stream) → slice_get ss k ≡ Some s → get_or ended k false ≡ false → GoesOn n s)
    (ends : (k : ℕ) (s : Stream) → slice_get ss k ≡ Some s → get_or ended k false ≡ true → HasEnded n s) where
  pub flags_ended : IsLengths ended lengths.AllEnded → AllEnded ss n
  flags_ended all k s within at = ends k s at (all k (omega (arith, within, same)))

  keeps : (k : ℕ) (s : Stream) (b : Bool) → slice_get ss k ≡ Some s → get_or ended k false ≡ b → GoesOn n s ⊎ HasEnded n s
  keeps k s true at is = inr (ends k s at is)
  keeps k s false at is = inl (goes k s at is)

  pub flags_kept : (m : ℕ) (k : ℕ) (s : Stream) → k < m → slice_get ss k ≡ Some s → GoesOn n s ⊎ HasEnded n s
  flags_kept m k s before at = keeps k s (get_or ended k false) at refl

  pub flags_first : (k : ℕ) → IsLengths ended (Differ k) → EndsFirst ss n k
  flags_first k lowest =
      let fits : k < length ss = omega (arith, lowest.0.in_range, same) in
      let s = some_at ss k fits in
      let fitting : lowest.1.0 < length ss = omega (arith, lowest.1.1, same) in
      let u = some_at ss lowest.1.0 fitting in
      record {
        none = flags_kept (length ss);
        lowest = record {
          in_range = fits;
          breaks = (s.0, s.1, ends k s.0 s.1 lowest.0.breaks);
          lower = λ j before of. elim (flag_cases (get_or ended j false)) [
            | inl end ↦ lowest.0.lower j before end
            | inr go ↦ let on = goes j of.0 of.1 go in omega (arith, on, of.2.0)
          ];
        };
        goes = (lowest.1.0, (u.0, u.1, goes lowest.1.0 u.0 u.1 (any_default ended lowest.1.0 false true lowest.1.1 ∙ lowest.1.2)));
      }
    where
      flag_cases : (b : Bool) → (b ≡ true) ⊎ (b ≡ false)
      flag_cases true = inl refl
      flag_cases false = inr refl

-- ---- whether a round is joined

same_numbers : (xs ys : List ℕ) → length xs ≡ length ys → ((k : ℕ) → k < length xs → slice_index xs k ≡ slice_index ys k) → xs ≡ ys
same_numbers [] [] same each = refl
same_numbers [] (y ∷ ys) same each = absurd (omega (arith, same))
same_numbers (x ∷ xs) [] same each = absurd (omega (arith, same))
same_numbers (x ∷ xs) (y ∷ ys) same each =
    ap (λ (z : ℕ). z ∷ xs) (each zero (omega arith)) ∙ ap (λ (l : List ℕ). y ∷ l) (same_numbers xs ys (omega (arith, same)) (λ k within. each (suc k) (omega (arith, within))))

module _ (count : ℕ) (p : ℕ → Bool) where
  any_or_none : (m : ℕ) → ((k : ℕ) × (k < m) × (p k ≡ true)) ⊎ ((k : ℕ) → k < m → p k ≡ false)
  any_or_none zero = inr (λ k before. absurd (omega (arith, before)))
  any_or_none (suc m) = elim (any_or_none m) [
    | inl one ↦ inl (one.0, omega (arith, one.1), one.2)
    | inr none ↦ last (p m) refl none
  ]
    where
      last : (b : Bool) → p m ≡ b → ((k : ℕ) → k < m → p k ≡ false) → ((k : ℕ) × (k < suc m) × (p k ≡ true)) ⊎ ((k : ℕ) → k < suc m → p k ≡ false)
      last true is none = inl (m, omega arith, is)
      last false is none = inr (λ k before. elim (where_is k m) [
        | inl earlier ↦ none k earlier
        | inr (inl same) ↦ ap p same ∙ is
        | inr (inr later) ↦ absurd (omega (arith, later, before))
      ])

  at_number : (k d : ℕ) → k < count → get_or (range_with_len 0 count) k d ≡ k
  at_number k d within = omega (arith, get_or-range_with_len 0 count k d within)

  pub any_there : (k : ℕ) → k < count → p k ≡ true → list_any p (range_with_len 0 count) ≡ true
  any_there k within is =
      let fits : k < length (range_with_len 0 count) = omega (arith, within, length-range_with_len 0 count) in
      list_any_at p (range_with_len 0 count) k 0 fits (ap p (at_number k 0 within) ∙ is)

  none_there : ((k : ℕ) → k < count → p k ≡ false) → list_any p (range_with_len 0 count) ≡ false
  none_there none = list_any_none p (range_with_len 0 count) (λ k d within. let fits : k < count = omega (arith, within, length-range_with_len 0 count) in ap p (at_number k d fits) ∙ none k fits)

  module _ (was at : List ℕ) (many : length was ≡ count) (more : length at ≡ count)
      (moves : (k : ℕ) → k < count → p k ≡ true → slice_index was k ≢ slice_index at k) (rests : (k : ℕ) → k < count → p k ≡ false → slice_index at k ≡ slice_index was k) where
    pub any_moved : (b : Bool) → (b ≡ true → was ≢ at) → (b ≡ false → was ≡ at) → list_any p (range_with_len 0 count) ≡ b
    any_moved true moved stayed = elim (any_or_none count) [
      | inl one ↦ any_there one.0 one.1 one.2
      | inr none ↦ absurd (moved refl (same_numbers was at (many ∙ sym more) (λ k within. let fits : k < count = omega (arith, within, many) in sym (rests k fits (none k fits)))))
    ]
    any_moved false moved stayed = elim (any_or_none count) [
      | inl one ↦ absurd (moves one.0 one.1 one.2 (ap (λ (l : List ℕ). slice_index l one.0) (stayed refl)))
      | inr none ↦ none_there none
    ]
