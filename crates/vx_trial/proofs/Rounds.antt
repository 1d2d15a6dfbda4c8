-- Rounds of streams, and what is written of one more.
use Rattle.std.proofs.Common.{◌≡◌, ℕ, zero, suc, List, [], ◌∷◌, ◌++◌, ◌∙◌, Option, Some, None, Result, Ok, Err, All, length, map, slice_get, refl, ap, sym, subst, arith}
use Rattle.std.specs.Prelude.{drop}
use Rattle.std.specs.List.{AllByRecursion, AllZip}
use Rattle.std.proofs.lemmas.List.{drop_all}
use Rattle.std.proofs.lemmas.List.Elements.{All-from_recursion}
use Rattle.vx_bits.specs.declared.refusal.Refusal.{Refusal}
use Rattle.vx_annexb.specs.Laws.{written}
use Rattle.vx_pic.specs.Parts.{Parts, parts_of}
use Rattle.vx_pic.specs.Readings.{Picture}
use Rattle.vx_pic.specs.Resident.{units_written}
use Rattle.vx_pic.specs.Rules.{Readers}
use Rattle.vx_pic.specs.Written.{Plan, units_of}
use Rattle.vx_assemble.specs.Feed.{Feeding}
use Rattle.vx_assemble.specs.Held.{HasPicture, lent_by}
use Rattle.vx_write.specs.declared.fault.WriteError.{WriteError}
use Rattle.vx_write.specs.declared.fault.WriteError.TheVariants as errors
use Rattle.vx_frame.specs.declared.corner.Corner.{Corner}
use Rattle.vx_merge.specs.Merging.{IsBarred, Merging, Passes, SameTask, Stands, WritesOneRound}
use Rattle.vx_again.specs.Streams.{AreMerged, earlier, lasts}
use Rattle.vx_gen.proofs.Making.{written_on}
use Rattle.vx_trial.specs.inner.Feeds.{IsUnbarred, Lends, Waits}
use Rattle.vx_trial.specs.inner.Merges.{CanBeTried, GoesOn, HasMerged, IsMergeOf, IsWrittenOn, before_last}

-- ---- the pictures before the last m

drop_one : {A : Type 0} (m : ℕ) (xs : List A) → drop 1 (drop m xs) ≡ drop (suc m) xs
drop_one zero xs = refl
drop_one (suc m) [] = refl
drop_one (suc m) (x ∷ xs) = drop_one m xs

pub earlier_before : (m : ℕ) (sources : List (List Picture)) → earlier (before_last m sources) ≡ before_last (suc m) sources
earlier_before m [] = refl
earlier_before m (ps ∷ sources) =
    ap (λ (l : List Picture). l ∷ earlier (before_last m sources)) (drop_one m ps)
    ∙ ap (λ (l : List (List Picture)). drop (suc m) ps ∷ l) (earlier_before m sources)

-- before the first round there are none,
none_before : (count : ℕ) (sources : List (List Picture)) → AllByRecursion (λ (ps : List Picture). length ps ≡ count) sources
    → AllByRecursion (λ (ps : List Picture). ps ≡ []) (before_last count sources)
none_before count [] many = tt
none_before count (ps ∷ sources) many = (drop_all count ps (omega (arith, many.0)), none_before count sources many.1)

-- and behind the last all
all_before : (sources : List (List Picture)) → before_last 0 sources ≡ sources
all_before [] = refl
all_before (ps ∷ sources) = ap (λ (l : List (List Picture)). ps ∷ l) (all_before sources)

-- ---- a round that feeds lend

abbrev lent_of : List Feeding → List Parts
lent_of feeds = map (λ f. lent_by f.assembler) feeds

record IsLent (R : Readers) (m : ℕ) (feeds : List Feeding) (sources : List (List Picture)) : Type 0 where
  pub round : List Picture
  pub last : lasts (before_last m sources) ≡ map (λ p. Some p) round
  pub lent : lent_of feeds ≡ map parts_of round
  pub holds : AllByRecursion (λ f. HasPicture f.assembler) feeds
  pub waits : AllZip (Waits R m) feeds sources

round_lent : (R : Readers) (m : ℕ) (feeds : List Feeding) (sources : List (List Picture)) → AllZip (Lends R m) feeds sources → IsLent R m feeds sources
round_lent R m [] [] all = record { round = []; last = refl; lent = refl; holds = tt; waits = tt }
round_lent R m [] (ps ∷ sources) all = absurd all
round_lent R m (f ∷ feeds) [] all = absurd all
round_lent R m (f ∷ feeds) (ps ∷ sources) all =
    let one = all.0 in
    let others = round_lent R m feeds sources all.1 in
    let last_ : List Picture → List (Option Picture) = λ l. slice_get l 0 ∷ lasts (before_last m sources) in
    record {
      round = one.picture ∷ others.round;
      last = ap last_ one.latest ∙ ap (λ (l : List (Option Picture)). Some one.picture ∷ l) others.last;
      lent = ap (λ (q : Parts). q ∷ lent_of feeds) one.lent ∙ ap (λ (l : List Parts). parts_of one.picture ∷ l) others.lent;
      holds = (one.holds, others.holds);
      waits = (one.waits, others.waits);
    }

pub all_hold : (R : Readers) (m : ℕ) (feeds : List Feeding) (sources : List (List Picture)) → AllZip (Lends R m) feeds sources
    → All (λ f. HasPicture f.assembler) feeds
all_hold R m feeds sources all = All-from_recursion (λ f. HasPicture f.assembler) feeds (round_lent R m feeds sources all).holds

-- ---- what a merger answers

-- the task stays
barred_so : (round : List Parts) (done : List Plan) (x x' : Merging) (r : Refusal) → SameTask x x' → IsBarred x'.corners x'.level round done r
    → IsBarred x.corners x.level round done r
barred_so round done x x' r task is =
    subst (λ (c : List Corner). IsBarred c x.level round done r) task.corners (subst (λ (l : Option ℕ). IsBarred x'.corners l round done r) task.level is)

passes_so : (round : List Parts) (done : List Plan) (x x' : Merging) (p : Plan) → SameTask x x' → Passes x'.corners x'.level round done p
    → Passes x.corners x.level round done p
passes_so round done x x' p task is =
    subst (λ (c : List Corner). Passes c x.level round done p) task.corners (subst (λ (l : Option ℕ). Passes x'.corners l round done p) task.level is)

-- of a round that isn't barred
pub is_unbarred : (round : List Parts) (done : List Plan) (x x' : Merging) (b b' : Option (List ℕ)) (n n' : ℕ) → SameTask x x'
    → ((r : Refusal) → ¬ IsBarred x.corners x.level round done r) → (result : Result (Unit {0}) WriteError) → WritesOneRound round done x' b b' n n' result
    → IsUnbarred result
is_unbarred round done x x' b b' n n' task none (Ok _) wrote = tt
is_unbarred round done x x' b b' n n' task none (Err errors.Memory) wrote = tt
is_unbarred round done x x' b b' n n' task none (Err errors.SinkFailed) wrote = tt
is_unbarred round done x x' b b' n n' task none (Err (errors.Refused r)) wrote = absurd (none r (barred_so round done x x' r task wrote.2))
is_unbarred round done x x' b b' n n' task none (Err (errors.Stopped f)) wrote = absurd wrote

-- and one that is written
pub is_written : (round : List Parts) (done : List Plan) (x x' : Merging) (bytes bytes' : List ℕ) (n n' : ℕ) → SameTask x x'
    → WritesOneRound round done x' (Some bytes) (Some bytes') n n' (Ok tt) → IsWrittenOn round done x x' bytes bytes'
is_written round done x x' bytes bytes' n n' task wrote = record {
  plan = wrote.1.0;
  passes = passes_so round done x x' wrote.1.0 task wrote.1.1;
  more = wrote.1.2;
  stands = wrote.1.3;
}

-- ---- a merge that goes on

-- before the first round
pub begins : (R : Readers) (corners : List Corner) (count : ℕ) (streams : List (List ℕ)) (sources : List (List Picture)) (feeds : List Feeding)
    (x : Merging) (bytes : List ℕ) → CanBeTried R corners count streams sources → x.corners ≡ corners → x.level ≡ None → Stands x []
    → bytes ≡ [] → (waits : AllZip (Waits R count) feeds sources) → HasMerged R count sources feeds x bytes
begins R corners count streams sources feeds x bytes can is level stands none waits = record {
  level = level;
  same = ap (λ (l : List Corner). length l) is ∙ can.same;
  goes = λ n low. subst (λ (c : List Corner). GoesOn c sources n) (sym is) (can.goes n low);
  waits = waits;
  done = [];
  stands = stands;
  rounds = none_before count sources can.many;
  written = none;
}

-- behind the last
pub ends : (R : Readers) (sources : List (List Picture)) (feeds : List Feeding) (x : Merging) (bytes : List ℕ) → HasMerged R 0 sources feeds x bytes
    → IsMergeOf x.corners sources bytes
ends R sources feeds x bytes merged = record {
  done = merged.done;
  rounds = subst (λ (l : List (List Picture)). AreMerged x.corners None l merged.done) (all_before sources) merged.rounds;
  written = merged.written;
}

module _ (R : Readers) (m : ℕ) (sources : List (List Picture)) (feeds feeds' : List Feeding) (x : Merging) (bytes : List ℕ)
    (merged : HasMerged R (suc m) sources feeds x bytes) (lends : AllZip (Lends R m) feeds' sources) where
  lent : IsLent R m feeds' sources
  lent = round_lent R m feeds' sources lends

  -- the next round isn't barred
  pub goes : (r : Refusal) → ¬ IsBarred x.corners x.level (lent_of feeds') merged.done r
  goes r barred =
      let here : IsBarred x.corners None (lent_of feeds') merged.done r =
      subst (λ (l : Option ℕ). IsBarred x.corners l (lent_of feeds') merged.done r) merged.level barred in
      merged.goes m (omega arith) lent.round merged.done r lent.last merged.rounds
      (subst (λ (q : List Parts). IsBarred x.corners None q merged.done r) lent.lent here)

  -- and is written
  pub goes_on : (x' : Merging) (bytes' : List ℕ) → SameTask x x' → IsWrittenOn (lent_of feeds') merged.done x x' bytes bytes'
      → HasMerged R m sources feeds' x' bytes'
  goes_on x' bytes' task wrote =
      let p = wrote.plan in
      let passes : Passes x.corners None (map parts_of lent.round) merged.done p =
      subst (λ (q : List Parts). Passes x.corners None q merged.done p) lent.lent
      (subst (λ (l : Option ℕ). Passes x.corners l (lent_of feeds') merged.done p) merged.level wrote.passes) in
      let before : AreMerged x.corners None (earlier (before_last m sources)) merged.done =
      subst (λ (l : List (List Picture)). AreMerged x.corners None l merged.done) (sym (earlier_before m sources)) merged.rounds in
      record {
        level = task.level ∙ merged.level;
        same = ap (λ (l : List Corner). length l) task.corners ∙ merged.same;
        goes = λ n low. subst (λ (c : List Corner). GoesOn c sources n) (sym task.corners) (merged.goes n (omega (arith, low)));
        waits = lent.waits;
        done = p ∷ merged.done;
        stands = wrote.stands;
        rounds = subst (λ (c : List Corner). AreMerged c None (before_last m sources) (p ∷ merged.done)) (sym task.corners) ((lent.round, lent.last, passes), before);
        written = wrote.more ∙ ap (λ (b : List ℕ). b ++ written (units_of p)) merged.written ∙ sym (written_on (units_written merged.done) (units_of p));
      }
