-- Feeds that come to pictures of their streams.
use Rattle.std.proofs.Common.{◌≡◌, ℕ, suc, List, [], ◌∷◌, None, Result, Ok, Err, length, ap, sym, subst, arith}
use Rattle.std.specs.Prelude.{drop}
use Rattle.std.specs.List.{AllByRecursion, AllZip}
use Rattle.std.proofs.lemmas.List.{drop_all, length-drop}
use Rattle.vx_pic.specs.Bytes.{AreSourcePictures}
use Rattle.vx_pic.specs.Readings.{Picture}
use Rattle.vx_pic.specs.Rules.{Readers}
use Rattle.vx_assemble.specs.declared.fault.AssembleFault.{AssembleFault}
use Rattle.vx_assemble.specs.declared.fault.AssembleFault.TheVariants as faults
use Rattle.vx_assemble.specs.declared.feed.Step.{Step}
use Rattle.vx_assemble.specs.declared.feed.Step.TheVariants.{Picture as ToPicture, End as ToEnd}
use Rattle.vx_assemble.specs.Feed.{Feeding}
use Rattle.vx_assemble.specs.Held.{HasPicture}
use Rattle.vx_assemble.specs.Memory.{HasSeen, Sees}
use Rattle.vx_trial.specs.inner.Feeds.{IsToPicture, IsUnfed, Lends, Waits}
use Rattle.vx_trial.proofs.Pairs.{next_of}

module _ (R : Readers) where
  -- before the first picture all are to come
  pub waits_first : (count : ℕ) (f : Feeding) (bytes : List ℕ) (ps : List Picture) → IsUnfed f bytes → AreSourcePictures R bytes ps None → length ps ≡ count
      → Waits R count f ps
  waits_first count f bytes ps unfed read many = record {
    bytes = bytes;
    read = read;
    within = omega (arith, many);
    seen = subst (HasSeen R f bytes) (sym (drop_all count ps (omega (arith, many)))) (unfed R);
  }

  pub all_wait : (count : ℕ) (feeds : List Feeding) (streams : List (List ℕ)) (sources : List (List Picture)) → AllZip IsUnfed feeds streams
      → AllZip (λ stream ps. AreSourcePictures R stream ps None) streams sources → AllByRecursion (λ (ps : List Picture). length ps ≡ count) sources
      → AllZip (Waits R count) feeds sources
  all_wait count [] [] [] unfed read many = tt
  all_wait count [] [] (ps ∷ sources) unfed read many = absurd read
  all_wait count [] (s ∷ streams) sources unfed read many = absurd unfed
  all_wait count (f ∷ feeds) [] sources unfed read many = absurd unfed
  all_wait count (f ∷ feeds) (s ∷ streams) [] unfed read many = absurd read
  all_wait count (f ∷ feeds) (s ∷ streams) (ps ∷ sources) unfed read many =
      (waits_first count f s ps unfed.0 read.0 many.0, all_wait count feeds streams sources unfed.1 read.1 many.1)

  -- ---- one more picture

  module _ (m : ℕ) (ps : List Picture) (old f : Feeding) (w : Waits R (suc m) old ps) where
    abbrev Went : Result Step AssembleFault → Type 0
    Went result = Sees R w.bytes ps None (drop (suc m) ps) f result

    -- there is one
    fewer : ps ≡ drop (suc m) ps → ⊥
    fewer is =
        let many : length ps ≡ length (drop (suc m) ps) = ap (λ (l : List Picture). length l) is in
        omega (arith, many, length-drop (suc m) ps, w.within)

    pub comes_to : HasPicture f.assembler → Went (Ok ToPicture) → Lends R m f ps
    comes_to holds went =
        let latest : drop m ps ≡ went.0 ∷ drop (suc m) ps = next_of m ps went.2.0 went.0 w.within went.2.1 in
        record {
          waits = record {
            bytes = w.bytes;
            read = w.read;
            within = omega (arith, w.within);
            seen = subst (HasSeen R f w.bytes) (sym latest) went.1;
          };
          holds = holds;
          picture = went.0;
          latest = latest;
          lent = went.3;
        }

    pub is_to_picture : (result : Result Step AssembleFault) → Went result → IsToPicture result
    is_to_picture (Ok ToPicture) went = tt
    is_to_picture (Ok ToEnd) went = fewer went.1
    is_to_picture (Err faults.Memory) went = tt
    is_to_picture (Err (faults.Refused r)) went = fewer went.0
    is_to_picture (Err (faults.Stopped first)) went = absurd went
