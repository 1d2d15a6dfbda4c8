-- What is written of the region of one more picture.
use Rattle.std.proofs.Common.{◌≡◌, ℕ, zero, suc, ◌+◌, Bool, true, List, [], ◌∷◌, ◌++◌, ◌∙◌, Option, Some, None, Result, Ok, Err, length, map, append_assoc, append-nil, ap, sym, subst, arith}
use Rattle.std.specs.Prelude.{drop}
use Rattle.std.specs.List.{AllByRecursion, AllZip, concat, range_with_len}
use Rattle.std.proofs.lemmas.List.{drop_all}
use Rattle.std.proofs.lemmas.List.Folds.{concat-append}
use Rattle.std.proofs.lemmas.Option.{none-some}
use Rattle.vx_bits.specs.declared.refusal.Refusal.{Refusal}
use Rattle.vx_annexb.specs.Laws.{written}
use Rattle.vx_pic.specs.Parts.{Parts, parts_of}
use Rattle.vx_pic.specs.Readings.{Picture}
use Rattle.vx_pic.specs.Resident.{units_written}
use Rattle.vx_pic.specs.Rules.{Readers}
use Rattle.vx_pic.specs.Written.{Plan, units_of}
use Rattle.vx_assemble.specs.Feed.{Feeding}
use Rattle.vx_write.specs.declared.fault.WriteError.{WriteError}
use Rattle.vx_write.specs.declared.fault.WriteError.TheVariants as errors
use Rattle.vx_extract.specs.Extracting.{Extracting, HasSlice, SameTask, Stands, WritesPicture, WritesKept}
use Rattle.vx_extract.specs.Rules.{is_kept, refusal_of}
use Rattle.vx_extract.specs.Written.{AreExtracted, IsExtracted, IsExtraction}
use Rattle.vx_gen.proofs.Making.{written_on}
use Rattle.vx_trial.specs.inner.Feeds.{IsUnbarred, Lends, Waits}
use Rattle.vx_trial.specs.inner.Regions.{CanBeExtracted, HasExtracted, HasRegion, IsExtractedOn}
use Rattle.vx_trial.proofs.Pairs.{zip_push}

-- ---- what an extractor answers of a picture whose region can be extracted

module _ (q : Parts) (done : List Plan) (x x' : Extracting) (task : SameTask x x') (tid : x.tid ≡ 6) (has : HasRegion x.target q) where
  of_task : refusal_of x'.target x'.tid q ≡ refusal_of x.target 6 q
  of_task = ap (λ (k : ℕ). refusal_of k x'.tid q) task.target ∙ ap (λ (t : ℕ). refusal_of x.target t q) (task.tid ∙ tid)

  none_refused : (r : Refusal) → refusal_of x'.target x'.tid q ≡ Some r → ⊥
  none_refused r is = none-some r (sym has.rules ∙ (sym of_task ∙ is))

  pub is_unbarred : (b b' : Option (List ℕ)) (n n' : ℕ) (result : Result (Unit {0}) WriteError) → WritesPicture q done x' b b' n n' result → IsUnbarred result
  is_unbarred b b' n n' (Ok _) wrote = tt
  is_unbarred b b' n n' (Err errors.Memory) wrote = tt
  is_unbarred b b' n n' (Err errors.SinkFailed) wrote = tt
  is_unbarred b b' n n' (Err (errors.Refused r)) wrote = absurd (none_refused r wrote.0)
  is_unbarred b b' n n' (Err (errors.Stopped f)) wrote = absurd wrote

  pub is_extracted : (bytes bytes' : List ℕ) (n n' : ℕ) → WritesPicture q done x' (Some bytes) (Some bytes') n n' (Ok tt) → IsExtractedOn q done x x' bytes bytes'
  is_extracted bytes bytes' n n' wrote =
      let kept : is_kept x'.tid q ≡ true = ap (λ (t : ℕ). is_kept t q) (task.tid ∙ tid) ∙ has.kept in
      let some : HasSlice x'.target q = subst (λ (k : ℕ). HasSlice k q) (sym task.target) has.slice in
      let one = subst (λ (k : Bool). WritesKept k q done x' (Some bytes) (Some bytes')) kept wrote.2 some in
      record {
        plan = one.0;
        is = subst (λ (k : ℕ). IsExtracted k x.level q done one.0) task.target (subst (λ (l : Option ℕ). IsExtracted x'.target l q done one.0) task.level one.1);
        more = one.2;
        stands = one.3;
      }

-- ---- an extraction that goes on

-- before the first picture
pub begins : (R : Readers) (k count : ℕ) (bytes : List ℕ) (ps : List Picture) (f : Feeding) (x : Extracting) (out : List ℕ)
    → CanBeExtracted R k count bytes ps → x.target ≡ k → x.level ≡ None → x.tid ≡ 6 → Stands x [] → out ≡ [] → Waits R count f ps
    → HasExtracted R count ps f x out
begins R k count bytes ps f x out can target level tid stands none waits = record {
  level = level;
  tid = tid;
  waits = waits;
  each = subst (λ (j : ℕ). AllByRecursion (λ p. HasRegion j (parts_of p)) ps) (sym target) can.each;
  done = [];
  stands = stands;
  plans = subst (λ (l : List Picture). AreExtracted x.target None (map parts_of l) []) (sym (drop_all count ps (omega (arith, can.many)))) tt;
  written = none;
}

-- behind the last
pub ends : (R : Readers) (k : ℕ) (ps : List Picture) (f : Feeding) (x : Extracting) (out : List ℕ) → x.target ≡ k → HasExtracted R 0 ps f x out
    → IsExtraction k None (map parts_of ps) out
ends R k ps f x out target extracted =
    (extracted.done, subst (λ (j : ℕ). AreExtracted j None (map parts_of ps) extracted.done) target extracted.plans, extracted.written)

-- the next one has the region
has_at : (k m : ℕ) (ps : List Picture) (p : Picture) (rest : List Picture) → AllByRecursion (λ q. HasRegion k (parts_of q)) ps → drop m ps ≡ p ∷ rest
    → HasRegion k (parts_of p)
has_at k zero ps p rest each is = (subst (AllByRecursion (λ q. HasRegion k (parts_of q))) is each).0
has_at k (suc m) [] p rest each is = absurd (omega (arith, ap (λ (l : List Picture). length l) is))
has_at k (suc m) (q ∷ ps) p rest each is = has_at k m ps p rest each.1 is

module _ (R : Readers) (m : ℕ) (ps : List Picture) (f f' : Feeding) (x : Extracting) (bytes : List ℕ)
    (extracted : HasExtracted R (suc m) ps f x bytes) (lends : Lends R m f' ps) where
  pub has : HasRegion x.target (parts_of lends.picture)
  has = has_at x.target m ps lends.picture (drop (suc m) ps) extracted.each lends.latest

  pub goes_on : (x' : Extracting) (bytes' : List ℕ) → SameTask x x' → IsExtractedOn (parts_of lends.picture) extracted.done x x' bytes bytes'
      → HasExtracted R m ps f' x' bytes'
  goes_on x' bytes' task wrote =
      let p = wrote.plan in
      let is : IsExtracted x.target None (parts_of lends.picture) extracted.done p =
      subst (λ (l : Option ℕ). IsExtracted x.target l (parts_of lends.picture) extracted.done p) extracted.level wrote.is in
      let plans : AreExtracted x.target None (map parts_of (drop m ps)) (p ∷ extracted.done) =
      subst (λ (l : List Picture). AreExtracted x.target None (map parts_of l) (p ∷ extracted.done)) (sym lends.latest) (is, extracted.plans) in
      record {
        level = task.level ∙ extracted.level;
        tid = task.tid ∙ extracted.tid;
        waits = lends.waits;
        each = subst (λ (k : ℕ). AllByRecursion (λ q. HasRegion k (parts_of q)) ps) (sym task.target) extracted.each;
        done = p ∷ extracted.done;
        stands = wrote.stands;
        plans = subst (λ (k : ℕ). AreExtracted k None (map parts_of (drop m ps)) (p ∷ extracted.done)) (sym task.target) plans;
        written = wrote.more ∙ ap (λ (b : List ℕ). b ++ written (units_of p)) extracted.written ∙ sym (written_on (units_written extracted.done) (units_of p));
      }

-- ---- one region behind others

range_more : (a n : ℕ) → range_with_len a (suc n) ≡ range_with_len a n ++ (a + n) ∷ []
range_more a zero = let same : a ≡ a + 0 = omega arith in ap (λ (b : ℕ). b ∷ []) same
range_more a (suc n) =
    let same : (a + 1) + n ≡ a + suc n = omega arith in
    ap (λ (l : List ℕ). a ∷ l) (range_more (a + 1) n) ∙ ap (λ (b : ℕ). a ∷ (range_with_len (a + 1) n ++ b ∷ [])) same

-- with one more
pub one_region : (ps : List Picture) (k : ℕ) (parts : List (List ℕ)) (bytes : List ℕ)
    → AllZip (λ j part. IsExtraction j None (map parts_of ps) part) (range_with_len 0 k) parts → IsExtraction k None (map parts_of ps) bytes
    → AllZip (λ j part. IsExtraction j None (map parts_of ps) part) (range_with_len 0 (k + 1)) (parts ++ bytes ∷ [])
one_region ps k parts bytes all one =
    let P : ℕ → List ℕ → Type 0 = λ j part. IsExtraction j None (map parts_of ps) part in
    let place : k ≡ 0 + k = omega arith in
    let next : suc k ≡ k + 1 = omega arith in
    let more : range_with_len 0 k ++ k ∷ [] ≡ range_with_len 0 (k + 1) =
    ap (λ (j : ℕ). range_with_len 0 k ++ j ∷ []) place ∙ sym (range_more 0 k) ∙ ap (range_with_len 0) next in
    subst (λ (ks : List ℕ). AllZip P ks (parts ++ bytes ∷ [])) more (zip_push P (range_with_len 0 k) parts k bytes all one)

pub one_piece : (merged : List ℕ) (parts : List (List ℕ)) (bytes : List ℕ) → (merged ++ concat parts) ++ bytes ≡ merged ++ concat (parts ++ bytes ∷ [])
one_piece merged parts bytes =
    append_assoc merged (concat parts) bytes
    ∙ ap (λ (l : List ℕ). merged ++ l) (sym (concat-append parts (bytes ∷ []) ∙ ap (λ (l : List ℕ). concat parts ++ l) (append-nil bytes)))
