-- Regions that are gone on with, one after another.
use Rattle.std.proofs.Common.{◌≡◌, ◌≢◌, ℕ, ◌+◌, ◌<◌, ◌≤◌, List, ◌∙◌, Option, Some, Ok, Bool, true, false, not, length, get_or, slice_get, slice_set, inl, inr, sym, ap, refl, subst, arith}
use Rattle.std.specs.Prelude.{slice_index}
use Rattle.vx_pic.specs.Readings.{Picture}
use Rattle.vx_pic.specs.Rules.{Readers}
use Rattle.vx_assemble.specs.Feed.{Feeding}
use Rattle.vx_play.specs.Scheduled.{Scheduled, files_of_region}
use Rattle.vx_run.specs.Change.{Sources, sources_change}
use Rattle.vx_run.specs.inner.Playing.{ArePlaced, GoesOn, IsPlaced, SameBut, Takes, Went, WentOn}
use Rattle.vx_run.proofs.Indexed.{get_set_there, set_other, set_there, where_is}
use Rattle.vx_run.proofs.RegionFiles.{at_stay, behind_of, behind_stay, files_are, out_stay}
use Rattle.vx_run.proofs.Sources.{came_still}

module _ {A : Type 0} (bytes : A → Option (List ℕ)) (faults : A → ℕ) (R : Readers) (first : List A) where
  abbrev Src : List A → Sources A
  Src l = sources_change bytes faults first l

  -- ---- where another region's files were read

  module _ (l l' : List A) (regions : List ℕ) (k : ℕ) (stay : (i : ℕ) → slice_index regions i ≡ k → slice_get l' i ≡ slice_get l i) where
    takes_stay : (was at : ℕ) (f : Feeding) (passed : List (List Picture)) (own : List Picture) → Takes R (Src l) (files_of_region regions k) was at f passed own → Takes R (Src l') (files_of_region regions k) was at f passed own
    takes_stay was at f passed own t =
        let of = files_are regions k in
        let mine = (behind_of bytes faults R first regions k (length regions) 0 l (files_of_region regions k) t.more t.j of t.behind).2 in
        record {
          more = t.more;
          others = t.others;
          j = t.j;
          behind = behind_stay bytes faults R first l l' regions k (length regions) 0 (files_of_region regions k) t.more t.j of (λ i other. stay i) t.behind;
          takes = came_still bytes faults R first l l' t.j (stay t.j mine) f t.others false t.takes;
          few = t.few;
          below = t.below;
          place = t.place;
          same = t.same;
          stays = t.stays;
        }

    goes_stay : (go : Bool) (was at : ℕ) (f : Feeding) (passed : List (List Picture)) (own : List Picture) → GoesOn R (Src l) (files_of_region regions k) was at f passed own (Ok go) → GoesOn R (Src l') (files_of_region regions k) was at f passed own (Ok go)
    goes_stay true was at f passed own t = takes_stay was at f passed own t
    goes_stay false was at f passed own e = record {
      more = e.more;
      out = out_stay bytes faults R first l l' regions k (length regions) 0 (files_of_region regions k) e.more (files_are regions k) stay e.out;
      same = e.same;
    }

  -- ---- region k was gone on with, behind those before it

  module _ (s : Scheduled) (passed : ℕ → List (List Picture)) (own : ℕ → List Picture) where
    -- none was yet
    pub went_none : (l : List A) (s' : Scheduled) (feeds : List Feeding) (ended : List Bool) → ArePlaced R (Src l) s feeds passed own → WentOn R (Src l) s s' feeds ended passed own 0 0
    went_none l s' feeds ended placed = record { went = λ k f before there. absurd (omega (arith, before)); stays = λ k f behind there. placed k f there }

    pub went_all : (l : List A) (s' : Scheduled) (feeds : List Feeding) (ended : List Bool) (m n : ℕ) → WentOn R (Src l) s s' feeds ended passed own m m → m ≡ n → WentOn R (Src l) s s' feeds ended passed own n n
    went_all l s' feeds ended m n on same = subst (λ (i : ℕ). WentOn R (Src l) s s' feeds ended passed own i i) same on

    module _ (l l' : List A) (s' s'' : Scheduled) (feeds : List Feeding) (ended flags : List Bool) (k : ℕ) (f' : Feeding) (on : WentOn R (Src l) s s' feeds ended passed own k k)
        (regions : s'.regions ≡ s.regions) (but : SameBut k s' s'') (rest : (i : ℕ) → slice_index s'.regions i ≢ k → slice_get l' i ≡ slice_get l i)
        (alike : (i : ℕ) → i ≢ k → get_or flags i false ≡ get_or ended i false) where
      stay_at : (i : ℕ) → i ≢ k → (j : ℕ) → slice_index s.regions j ≡ i → slice_get l' j ≡ slice_get l j
      stay_at i other j of = rest j (λ same. other (sym of ∙ ap (λ (r : List ℕ). slice_index r j) (sym regions) ∙ same))

      went_still : (i : ℕ) (g : Feeding) → i < k → slice_get (slice_set feeds k f') i ≡ Some g → Went R (Src l') s s'' i g passed own (Ok (not (get_or flags i false)))
      went_still i g before there =
          let other : i ≢ k = λ same. omega (arith, same, before) in
          let was = on.went i g before (sym (set_other feeds i k f' other) ∙ there) in
          subst (λ (b : Bool). Went R (Src l') s s'' i g passed own (Ok (not b))) (sym (alike i other))
          (subst (λ (at : ℕ). GoesOn R (Src l') (files_of_region s.regions i) (slice_index s.gone i) at g (passed i) (own i) (Ok (not (get_or ended i false)))) (sym (but.others i other))
          (goes_stay l l' s.regions i (stay_at i other) (not (get_or ended i false)) (slice_index s.gone i) (slice_index s'.gone i) g (passed i) (own i) was))

      stays_still : (i : ℕ) (g : Feeding) → k + 1 ≤ i → slice_get (slice_set feeds k f') i ≡ Some g → IsPlaced R (Src l') s i g (passed i) (own i)
      stays_still i g behind there =
          let other : i ≢ k = λ same. omega (arith, same, behind) in
          let was = on.stays i g (omega (arith, behind)) (sym (set_other feeds i k f' other) ∙ there) in
          (at_stay bytes faults R first l l' s.regions i (length s.regions) 0 (files_of_region s.regions i) g (passed i) (own i) (files_are s.regions i) (stay_at i other) was.0, was.1, was.2)

      pub went_before : WentOn R (Src l') s s'' (slice_set feeds k f') flags passed own k (k + 1)
      went_before = record { went = went_still; stays = stays_still }

      pub went_more : k < length ended → (go : Bool) → flags ≡ slice_set ended k (not go) → Went R (Src l') s s'' k f' passed own (Ok go) → WentOn R (Src l') s s'' (slice_set feeds k f') flags passed own (k + 1) (k + 1)
      went_more within go is here = record {
        went = λ i g before there. elim (where_is i k) [
          | inl earlier ↦ went_still i g earlier there
          | inr (inl same) ↦
              let there_ : slice_get (slice_set feeds k f') k ≡ Some g = subst (λ (x : ℕ). slice_get (slice_set feeds k f') x ≡ Some g) same there in
              let feed : f' ≡ g = set_there feeds k f' g there_ in
              let flag : go ≡ not (get_or flags k false) = sym (twice go) ∙ ap not (sym (ap (λ (x : List Bool). get_or x k false) is ∙ get_set_there ended k (not go) false within)) in
              let moved : Went R (Src l') s s'' k g passed own (Ok go) = subst (λ (x : Feeding). Went R (Src l') s s'' k x passed own (Ok go)) feed here in
              let told : Went R (Src l') s s'' k g passed own (Ok (not (get_or flags k false))) = subst (λ (b : Bool). Went R (Src l') s s'' k g passed own (Ok b)) flag moved in
              subst (λ (x : ℕ). Went R (Src l') s s'' x g passed own (Ok (not (get_or flags x false)))) (sym same) told
          | inr (inr later) ↦ absurd (omega (arith, later, before))
        ];
        stays = stays_still;
      }
        where
          twice : (b : Bool) → not (not b) ≡ b
          twice true = refl
          twice false = refl
