-- A region that goes on, from file to file.
use Rattle.std.proofs.Common.{◌≡◌, ◌≢◌, ℕ, ◌+◌, ◌^◌, ◌<◌, ◌≤◌, List, [], ◌∷◌, ◌++◌, ◌∙◌, Option, Some, None, Result, Ok, Err, Bool, true, false, length, slice_get, inl, inr, sym, ap, refl, subst, arith}
use Rattle.std.specs.Prelude.{option_and_then, slice_index}
use Rattle.std.specs.Option.{option_map_or}
use Rattle.std.proofs.lemmas.List.{length-append}
use Rattle.std.proofs.lemmas.Option.{same_Some}
use Rattle.vx_io.specs.Listed.{bytes_at}
use Rattle.vx_bits.specs.declared.refusal.Refusal.{Refusal}
use Rattle.vx_pic.specs.Joined.{one_behind_another}
use Rattle.vx_pic.specs.Readings.{Picture}
use Rattle.vx_pic.specs.Rules.{Readers}
use Rattle.vx_run.specs.declared.stop.Place.{Place}
use Rattle.vx_assemble.specs.Feed.{Feeding, EndsAtEnd}
use Rattle.vx_run.specs.declared.stop.Stop.{Stop}
use Rattle.vx_run.specs.declared.stop.Stop.TheVariants.{NotUnderstood, Mismatched, Refused, ReadFault, WriteFault, NoMemory}
use Rattle.vx_run.specs.Change.{Change, Sources, sources_change, source_at}
use Rattle.vx_run.specs.Play.{IsBehind, IsOut}
use Rattle.vx_run.specs.inner.Advancing.{IsUnfed, LendsLatest, Waits}
use Rattle.vx_run.specs.inner.Playing.{AllRead, AreFew, Ends, GoesOn, IsAt, IsCut, IsLost, IsOn, StaysOrBegins, Takes}
use Rattle.vx_run.proofs.RegionFiles.{AreOfRegion, behind_current, behind_of, behind_read, behind_stay, goes_behind, out_current, out_read}
use Rattle.vx_run.proofs.RegionTold.{count_more, one_more}
use Rattle.vx_run.proofs.Sources.{Advanced, step_ends, step_none, step_refused, step_takes, step_unread, untouched_read, untouched_waits, went}
use Rattle.vx_run.proofs.Taking.{taken_below}

module _ {A : Type 0} (bytes : A → Option (List ℕ)) (faults : A → ℕ) (R : Readers) (first : List A) where
  abbrev Src : List A → Sources A
  Src l = sources_change bytes faults first l

  abbrev At : List A → ℕ → Change (Option A)
  At l k = source_at (Src l) k

  -- it is where it was
  pub on_still : (l : List A) (js : List ℕ) (at : ℕ) (f : Feeding) (passed : List (List Picture)) (own : List Picture) → IsAt R (Src l) js f passed own → AreFew passed own → length passed ≡ at → IsOn R (Src l) js at at f passed own
  on_still l js at f passed own is few place = record { more = passed; others = own; is = is; few = few; place = place; same = refl; stays = inl (refl, refl) }

  -- it has gone through its files
  pub on_ends : (l : List A) (js : List ℕ) (was at : ℕ) (f : Feeding) (passed : List (List Picture)) (own : List Picture) (on : IsOn R (Src l) js was at f passed own) → slice_get js at ≡ None → Ends R (Src l) js passed own
  on_ends l js was at f passed own on none = ended on.is
    where
      ended : IsAt R (Src l) js f on.more on.others → Ends R (Src l) js passed own
      ended (inl is) =
          let here : slice_get js at ≡ Some is.0 = subst (λ (n : ℕ). slice_get js n ≡ Some is.0) on.place (behind_current bytes faults R first l js on.more is.0 is.1) in
          let no = sym none ∙ here in
          absurd (cc)
      ended (inr is) = record { more = on.more; out = is.0; same = ap (λ (own_ : List Picture). own_ ++ one_behind_another [] on.more) (sym is.1) ∙ on.same }

  -- ---- at its file

  record Reads (l : List A) (js : List ℕ) (f : Feeding) (passed : List (List Picture)) (own : List Picture) (file : ℕ) : Type 0 where
    behind : IsBehind R (Src l) file js passed
    waits : Waits R (At l file) f own

  reads_it : (l : List A) (js : List ℕ) (at : ℕ) (f : Feeding) (passed : List (List Picture)) (own : List Picture) (file : ℕ) → length passed ≡ at → slice_get js at ≡ Some file → IsAt R (Src l) js f passed own → Reads l js f passed own file
  reads_it l js at f passed own file place current (inl is) =
      let here : slice_get js at ≡ Some is.0 = subst (λ (n : ℕ). slice_get js n ≡ Some is.0) place (behind_current bytes faults R first l js passed is.0 is.1) in
      let same : is.0 ≡ file = same_Some is.0 file (sym here ∙ current) in
      record { behind = subst (λ (i : ℕ). IsBehind R (Src l) i js passed) same is.1; waits = subst (λ (i : ℕ). Waits R (At l i) f own) same is.2 }
  reads_it l js at f passed own file place current (inr is) =
      let here : slice_get js at ≡ None = subst (λ (n : ℕ). slice_get js n ≡ None) place (out_current bytes faults R first l js passed is.0) in
      let no = sym here ∙ current in
      absurd (cc)

  module _ (l l' : List A) (regions : List ℕ) (k n a : ℕ) (js : List ℕ) (of : AreOfRegion regions k n a js) (was at : ℕ) (f f' : Feeding) (passed : List (List Picture)) (own : List Picture)
      (on : IsOn R (Src l) js was at f passed own) (file : ℕ) (current : slice_get js at ≡ Some file) (others : (i : ℕ) → i ≢ file → slice_get l' i ≡ slice_get l i) where
    here : Reads l js f on.more on.others file
    here = reads_it l js at f on.more on.others file on.place current on.is

    pub waits_there : Waits R (At l file) f on.others
    waits_there = here.waits

    -- it is a source
    pub file_within : file < n
    file_within = (behind_of bytes faults R first regions k n a l js on.more file of here.behind).1

    pub file_of : slice_index regions file ≡ k
    file_of = (behind_of bytes faults R first regions k n a l js on.more file of here.behind).2

    behind_it : IsBehind R (Src l') file js on.more
    behind_it = behind_stay bytes faults R first l l' regions k n a js on.more file of (λ i other is. others i other) here.behind

    abbrev pub Advanced_ : Result Bool Stop → Type 0
    Advanced_ result = Advanced bytes faults R first l l' file f f' on.others waits_there result

    module _ (ended : EndsAtEnd f' (bytes_at bytes l' file)) where
      -- it came to a picture,
      pub on_takes : LendsLatest f' → f'.units ≤ 2 ^ 40 → Advanced_ (Ok true) → Takes R (Src l') js was at f' passed own
      on_takes lends few advanced =
          let takes = step_takes bytes faults R first l l' file f f' on.others waits_there ended lends advanced in
          let below = taken_below (option_and_then bytes) (λ x. option_map_or faults x 0) R (slice_get first file) (slice_get l' file) f' on.others takes.one in
          record { more = on.more; others = on.others; j = file; behind = behind_it; takes = takes; few = on.few; below = omega (arith, below, few); place = on.place; same = on.same; stays = on.stays }

      -- or to the end of the file,
      out_there : Advanced_ (Ok false) → IsOut R (At l' file) on.others
      out_there advanced = let end = step_ends bytes faults R first l l' file f f' on.others waits_there ended advanced in (end.read, end.told)

      pub on_read : Advanced_ (Ok false) → AllRead (Src l') js
      on_read advanced = elim (goes_behind bytes faults R first l' js on.more on.others file behind_it (out_there advanced)) [
        | inl next ↦ behind_read bytes faults R first l' js (on.more ++ on.others ∷ []) next.0 next.1 (untouched_read (At l' next.0) next.2)
        | inr all ↦ out_read bytes faults R first l' js (on.more ++ on.others ∷ []) all
      ]

      -- where it goes on with the next one
      pub on_next : (new : Feeding) → IsUnfed new → Advanced_ (Ok false) → IsOn R (Src l') js was (at + 1) new passed own
      on_next new unfed advanced =
          let more : List (List Picture) = on.more ++ on.others ∷ [] in
          let is : IsAt R (Src l') js new more [] = elim (goes_behind bytes faults R first l' js on.more on.others file behind_it (out_there advanced)) [
            | inl next ↦ inl (next.0, next.1, untouched_waits bytes faults R first l' next.0 new next.2 unfed)
            | inr all ↦ inr (all, refl)
          ] in
          let longer : length more ≡ length on.more + 1 = length-append on.more (on.others ∷ []) in
          record {
            more = more;
            others = [];
            is = is;
            few = record { own_few = omega arith; passed_few = omega (arith, longer, count_more on.more on.others, on.few.own_few, on.few.passed_few) };
            place = omega (arith, longer, on.place);
            same = one_more [] on.more on.others ∙ on.same;
            stays = inr (later on.stays, refl);
          }
        where
          later : StaysOrBegins was at own on.others → was < at + 1
          later (inl stays) = omega (arith, stays.0)
          later (inr begins) = omega (arith, begins.0)

      -- or it is refused,
      on_cut : (r : Refusal) (place : Place) → Advanced_ (Err (Refused r place)) → IsCut R (Src l') js passed own r place
      on_cut r place advanced =
          let stop = step_refused bytes faults R first l l' file f f' on.others waits_there ended r place advanced in
          record { more = on.more; others = on.others; j = file; units = f'.units; behind = behind_it; same = on.same; read = stop.0; told = stop.1; is = stop.2 }

    on_lost : (j : ℕ) → Advanced_ (Err (ReadFault j)) → IsLost R (Src l') js passed own j
    on_lost j advanced =
        let stop = step_unread bytes faults R first l l' file f f' on.others waits_there j advanced in
        subst (λ (i : ℕ). IsLost R (Src l') js passed own i) (sym stop.2) (record { more = on.more; others = on.others; behind = behind_it; same = on.same; failed = stop.0; sees = stop.1 })

    pub on_stops : EndsAtEnd f' (bytes_at bytes l' file) → (stop : Stop) → Advanced_ (Err stop) → GoesOn R (Src l') js was at f' passed own (Err stop)
    on_stops ended (Refused r place) advanced = on_cut ended r place advanced
    on_stops ended (ReadFault j) advanced = on_lost j advanced
    on_stops ended NoMemory advanced =
        behind_read bytes faults R first l' js on.more file behind_it (step_none bytes faults R first l l' file f f' on.others waits_there advanced).0
    on_stops ended NotUnderstood advanced = absurd (went bytes faults R first l l' file f f' on.others waits_there (Err NotUnderstood) advanced)
    on_stops ended (Mismatched x y) advanced = absurd (went bytes faults R first l l' file f f' on.others waits_there (Err (Mismatched x y)) advanced)
    on_stops ended WriteFault advanced = absurd (went bytes faults R first l l' file f f' on.others waits_there (Err WriteFault) advanced)
