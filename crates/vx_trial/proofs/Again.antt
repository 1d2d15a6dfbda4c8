-- What is written of generated streams is read again as their merge, and each region of it can be extracted.
use Rattle.std.proofs.Common.{◌≡◌, ℕ, zero, suc, ◌*◌, ◌<◌, ◌≤◌, ◌==◌, true, List, [], ◌∷◌, ◌∙◌, inl, inr, Some, None, length, map, take, slice_get, refl, ap, sym, subst, arith}
use Rattle.std.specs.Prelude.{filter}
use Rattle.std.specs.List.{AllByRecursion}
use Rattle.std.proofs.Math.Seq.{take_all}
use Rattle.std.proofs.lemmas.Bool.{cases_Bool, le-leb}
use Rattle.std.proofs.lemmas.List.{length-map}
use Rattle.std.proofs.lemmas.List.FromFn.{get_or-map-range_with_len, length-map-range_with_len}
use Rattle.std.proofs.lemmas.Option.{slice_get-get_or}
use Rattle.vx_annexb.specs.ByteStream.{source_limit}
use Rattle.vx_pic.specs.declared.kind.Kind.{Kind}
use Rattle.vx_pic.specs.Bytes.{ArePictures, AreSourcePictures}
use Rattle.vx_pic.specs.Inputs.{Input, input_of, inputs_of}
use Rattle.vx_pic.specs.Parts.{SlicePart, parts_of, slice_part}
use Rattle.vx_pic.specs.Readings.{Begun, Picture, Slice}
use Rattle.vx_pic.specs.Resident.{planned_of}
use Rattle.vx_pic.specs.Rules.{Readers}
use Rattle.vx_extract.specs.Rules.{refusal_of}
use Rattle.vx_extract.specs.Written.{parts_in, slice_alone}
use Rattle.vx_again.specs.Regions.{AreOfSource}
use Rattle.vx_again.specs.Whole.{IsReadAsMerge}
use Rattle.vx_again.proofs.Columns.{cons_parts}
use Rattle.vx_gen.specs.Merges.{GeneratedAreMerged}
use Rattle.vx_gen.specs.Rounds.{corners, planned}
use Rattle.vx_gen.proofs.InOrder.{so_many}
use Rattle.vx_trial.specs.inner.Laws.{TriedAreReadAgain, sources_of}
use Rattle.vx_trial.specs.inner.Merges.{HasSlices}
use Rattle.vx_trial.specs.inner.Regions.{HasRegion}
use Rattle.vx_trial.proofs.Generated.{are_rounds, have_slices}

-- ---- regions

-- as many slices of subpicture k are shown
as_many_shown : (b : Begun) (k : ℕ) (ss : List Slice)
    → length (filter (λ (s : SlicePart). s.header.subpic == k) (map (slice_part b) ss)) ≡ length (filter (λ (s : Slice). s.header.subpic == k) ss)
as_many_shown b k [] = refl
as_many_shown b k (s ∷ ss) = elim (cases_Bool (s.header.subpic == k)) [
  | inl is ↦ rw is (ap suc (as_many_shown b k ss))
  | inr not ↦ rw not (as_many_shown b k ss)
]

module _ (k : ℕ) where
  region : (p q : Picture) → q.kind ≡ p.kind → inputs_of q k ≡ inputs_of p 0 → HasSlices p → refusal_of k 6 (parts_of q) ≡ None → HasRegion k (parts_of q)
  region p q kind inputs has rules =
      let some : length (inputs_of q k) ≡ length (inputs_of p 0) = ap (λ (l : List Input). length l) inputs in
      let low : q.kind.temporal_id ≤ 6 = subst (λ (n : Kind). n.temporal_id ≤ 6) (sym kind) has.tid in
      record {
        rules = rules;
        kept = le-leb q.kind.temporal_id 6 low;
        slice = omega (arith, some, has.some, as_many_shown q.begun k q.slices, length-map (filter (λ (s : Slice). s.header.subpic == k) q.slices) (input_of q), length-map (parts_in (parts_of q) k) slice_alone);
      }

  regions : (ps qs : List Picture) → map (λ q. q.kind) qs ≡ map (λ p. p.kind) ps → map (λ q. inputs_of q k) qs ≡ map (λ p. inputs_of p 0) ps
      → AllByRecursion HasSlices ps → AllByRecursion (λ q. refusal_of k 6 (parts_of q) ≡ None) qs → AllByRecursion (λ q. HasRegion k (parts_of q)) qs
  regions ps [] kinds inputs has rules = tt
  regions [] (q ∷ qs) kinds inputs has rules = absurd (omega (arith, ap (λ (l : List Kind). length l) kinds))
  regions (p ∷ ps) (q ∷ qs) kinds inputs has rules =
      let kind = cons_parts q.kind p.kind (map (λ (x : Picture). x.kind) qs) (map (λ (x : Picture). x.kind) ps) kinds in
      let input = cons_parts (inputs_of q k) (inputs_of p 0) (map (λ (x : Picture). inputs_of x k) qs) (map (λ (x : Picture). inputs_of x 0) ps) inputs in
      (region p q kind.0 input.0 has.0 rules.0, regions ps qs kind.1 input.1 has.1 rules.1)

-- no more bytes than a source may have are those of one
of_source : (R : Readers) (bytes : List ℕ) (qs : List Picture) → ArePictures R bytes true qs None → length bytes ≤ source_limit → AreSourcePictures R bytes qs None
of_source R bytes qs are few =
    subst (λ w. ArePictures R (take source_limit bytes) w qs None) (sym (le-leb (length bytes) source_limit few))
    (subst (λ (l : List ℕ). ArePictures R l true qs None) (sym (take_all source_limit bytes few)) are)

-- ---- the merge

source_at : (seed pictures n k : ℕ) → k < n → slice_get (sources_of seed n pictures) k ≡ Some (planned seed pictures k)
source_at seed pictures n k low =
    let long = length-map-range_with_len (planned seed pictures) 0 n in
    slice_get-get_or (sources_of seed n pictures) k [] (omega (arith, long, low))
    ∙ ap Some (get_or-map-range_with_len (planned seed pictures) 0 n k k [] low (omega arith))

pub tried_again : GeneratedAreMerged → TriedAreReadAgain
tried_again law R seed zero pictures bytes of some few one short is = absurd (omega (arith, some))
tried_again law R seed (suc n) pictures bytes of some few one short is =
    let rounds = are_rounds seed pictures n pictures is.done is.rounds in
    let qs : List Picture = planned_of is.done in
    let again : IsReadAsMerge R (corners (suc n)) (sources_of seed (suc n) pictures) bytes qs =
    subst (λ (b : List ℕ). IsReadAsMerge R (corners (suc n)) (sources_of seed (suc n) pictures) b qs) (sym is.written)
    (law R seed pictures (suc n) is.done of some few one short rounds.0 rounds.1) in
    record {
      merged = qs;
      again = again;
      regions = λ k low.
          let ps : List Picture = planned seed pictures k in
          let at : slice_get (sources_of seed (suc n) pictures) k ≡ Some ps = source_at seed pictures (suc n) k low in
          let of_k : AreOfSource k ps qs = again.pictures.each k ps at in
          let same : length (map (λ (q : Picture). q.kind) qs) ≡ length (map (λ (p : Picture). p.kind) ps) = ap (λ (l : List Kind). length l) of_k.kinds in
          record {
            read = of_source R bytes qs again.read again.short;
            many = omega (arith, same, length-map qs (λ (q : Picture). q.kind), length-map ps (λ (p : Picture). p.kind), so_many seed pictures k);
            each = regions k ps qs of_k.kinds of_k.inputs (have_slices seed (5 * (k * pictures)) k pictures) (again.regions k ps at).rules;
          };
    }
