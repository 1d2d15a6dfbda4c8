-- Pictures of files that are played one behind another can be merged.
use Rattle.std.proofs.Common.{◌≡◌, ℕ, ◌+◌, ◌==◌, ◌&&◌, ◌||◌, ◌⊎◌, Bool, true, false, not, cond, List, [], ◌∷◌, ◌++◌, length, ◌∙◌, refl, sym, ap, subst, inl, inr, arith}
use Rattle.std.specs.Prelude.{drop}
use Rattle.std.specs.List.{AllByRecursion}
use Rattle.std.proofs.lemmas.Bool.{true≢false}
use Rattle.std.proofs.lemmas.List.{append-nil, append_assoc, append_cancel_right, length-append}
use Rattle.vx_pic.specs.Counts.{is_empty}
use Rattle.vx_pic.specs.Finished.{AreFinished}
use Rattle.vx_pic.specs.Joined.{AreJoined, PlayedAreFinished, StartWhere, after_end, begins_file, one_behind_another, played}
use Rattle.vx_pic.specs.Parts.{Parts, SlicePart, parts_of}
use Rattle.vx_pic.specs.Readings.{Picture}
use Rattle.vx_pic.specs.Rules.{Readers}
use Rattle.vx_merge.specs.Joins.{after_end_of_sequence}
use Rattle.vx_again.specs.Played.{PlayedCanBeMerged}
use Rattle.vx_again.specs.Sources.{CanBeMerged, IsSource, IsSourceSlice}
use Rattle.vx_again.proofs.Facts.{each_weaker}

-- ---- a picture behind an end of sequence

slice_joined : (q : Parts) (s : SlicePart) → IsSourceSlice q s → IsSourceSlice (after_end_of_sequence q) s
slice_joined q s is = record {
  read = is.read;
  subpic = is.subpic;
  address = is.address;
  lists = is.lists;
  qp = is.qp;
  some = is.some;
  payload = is.payload;
  there = is.there;
  filter = is.filter;
}

source_joined : (q : Parts) → IsSource q → IsSource (after_end_of_sequence q)
source_joined q is = record {
  sets = record {
    sps = is.sets.sps;
    pps = is.sets.pps;
    size = is.sets.size;
    made = is.sets.made;
    ids = is.sets.ids;
    numbers = is.sets.numbers;
    layout = is.sets.layout;
  };
  header = is.header;
  lists = is.lists;
  maps = record { lmcs = is.maps.lmcs; scaling = is.maps.scaling; chroma = is.maps.chroma };
  class = is.class;
  tid = is.tid;
  slices = each_weaker (IsSourceSlice q) (IsSourceSlice (after_end_of_sequence q)) (slice_joined q) q.slices is.slices;
  whole = is.whole;
  order = is.order;
  readable = is.readable;
  carried = is.carried;
  short = is.short;
}

abbrev AreSources : List Picture → Type 0
AreSources ps = AllByRecursion (λ (p : Picture). IsSource (parts_of p)) ps

one_source : (b : Bool) (p : Picture) → IsSource (parts_of p) → IsSource (parts_of (cond b (after_end p) p))
one_source true p is = source_joined (parts_of p) is
one_source false p is = is

played_are_sources : (joins : ℕ → Bool) (ps : List Picture) → AreSources ps → AreSources (played joins ps)
played_are_sources joins [] are = tt
played_are_sources joins (p ∷ ps) are = (one_source (joins (length ps)) p are.0, played_are_sources joins ps are.1)

-- ---- the pictures of files

append_sources : (xs ys : List Picture) → AreSources xs → AreSources ys → AreSources (xs ++ ys)
append_sources [] ys first second = second
append_sources (x ∷ xs) ys first second = (first.0, append_sources xs ys first.1 second)

module _ (R : Readers) where
  sources_behind : (before : List Picture) (files : List (List Picture)) → AreSources before → AllByRecursion (CanBeMerged R) files → AreSources (one_behind_another before files)
  sources_behind before [] sources can = sources
  sources_behind before (f ∷ files) sources can = sources_behind (f ++ before) files (append_sources f before can.0.each sources) can.1

  -- those before others can be merged
  pub can_before : (later ps : List Picture) → CanBeMerged R (later ++ ps) → CanBeMerged R ps
  can_before [] ps can = can
  can_before (p ∷ later) ps can = can_before later ps (record { finished = can.finished.2; each = can.each.1 })

-- what comes behind others stands before them
files_so : (before : List Picture) (files : List (List Picture)) → (later : List Picture) × (one_behind_another before files ≡ later ++ before)
files_so before [] = ([], refl)
files_so before (f ∷ files) =
    let rest = files_so (f ++ before) files in
    (rest.0 ++ f, rest.1 ∙ sym (append_assoc rest.0 f before))

-- of two lists before the same pictures one is the end of the other
ends_of : (bs cs xs ys zs : List Picture) → bs ++ (xs ++ zs) ≡ cs ++ (ys ++ zs)
    → ((m : List Picture) × (xs ≡ m ++ ys)) ⊎ ((m : List Picture) × (ys ≡ m ++ xs))
ends_of [] cs xs ys zs same = inl (cs, append_cancel_right xs (cs ++ ys) zs (same ∙ sym (append_assoc cs ys zs)))
ends_of (b ∷ bs) [] xs ys zs same = inr (b ∷ bs, append_cancel_right ys ((b ∷ bs) ++ xs) zs (sym same ∙ sym (append_assoc (b ∷ bs) xs zs)))
ends_of (b ∷ bs) (c ∷ cs) xs ys zs same = ends_of bs cs xs ys zs (ap (λ (l : List Picture). drop 1 l) same)

none_own : (later own before : List Picture) → before ≡ later ++ (own ++ before) → own ≡ []
none_own later [] before is = refl
none_own later (p ∷ own) before is =
    absurd (omega (arith, ap (λ (l : List Picture). length l) is, length-append later ((p ∷ own) ++ before), length-append own before))

-- ---- the first ones of files

-- These pictures are those of files that begin as those do, behind the others.
record AreFirst (R : Readers) (files : List (List Picture)) (before ps : List Picture) : Type 0 where
  front : List (List Picture)
  same : one_behind_another before front ≡ ps
  can : AllByRecursion (CanBeMerged R) front
  begun : (b n : ℕ) → begins_file b front n ≡ true → begins_file b files n ≡ true

-- a file begins where a part of it does
part_begins : (m own : List Picture) (here rest : Bool) → ((not (is_empty own) && here) || false) ≡ true → ((not (is_empty (m ++ own)) && here) || rest) ≡ true
part_begins m [] here rest is = absurd (true≢false (sym is))
part_begins [] (p ∷ own) true rest is = refl
part_begins (q ∷ m) (p ∷ own) true rest is = refl
part_begins m (p ∷ own) false rest is = absurd (true≢false (sym is))

or_weaker : (a x y : Bool) → (x ≡ true → y ≡ true) → (a || x) ≡ true → (a || y) ≡ true
or_weaker true x y weaker is = refl
or_weaker false x y weaker is = weaker is

module _ (R : Readers) where
  first_files : (files : List (List Picture)) (before own later : List Picture) → AllByRecursion (CanBeMerged R) files
      → one_behind_another before files ≡ later ++ (own ++ before) → AreFirst R files before (own ++ before)
  first_files [] before own later can is = record {
    front = [];
    same = ap (λ (l : List Picture). l ++ before) (sym (none_own later own before is));
    can = tt;
    begun = λ b n begins. begins;
  }
  first_files (f ∷ files) before own later can is =
      let rest = files_so (f ++ before) files in
      elim (ends_of rest.0 later f own before (sym rest.1 ∙ is)) [
        | inl part ↦ record {
          front = own ∷ [];
          same = refl;
          can = (can_before R part.0 own (subst (CanBeMerged R) part.1 can.0), tt);
          begun = λ b n begins.
              subst (λ (l : List Picture). begins_file b (l ∷ files) n ≡ true) (sym part.1) (part_begins part.0 own (b == n) (begins_file (b + length (part.0 ++ own)) files n) begins);
        }
        | inr more ↦
            let moved : own ++ before ≡ more.0 ++ (f ++ before) = ap (λ (l : List Picture). l ++ before) more.1 ∙ append_assoc more.0 f before in
            let first = first_files files (f ++ before) more.0 later can.1 (is ∙ ap (λ (l : List Picture). later ++ l) moved) in
            record {
              front = f ∷ first.front;
              same = first.same ∙ sym moved;
              can = (can.0, first.can);
              begun = λ b n begins.
                  or_weaker (not (is_empty f) && b == n) (begins_file (b + length f) first.front n) (begins_file (b + length f) files n) (first.begun (b + length f) n) begins;
            }
      ]

-- ---- what is played

pub played_can_be_merged : PlayedAreFinished → PlayedCanBeMerged
played_can_be_merged law R joins files later ps are can is starts =
    let first = first_files R files [] ps later can (is ∙ ap (λ (l : List Picture). later ++ l) (sym (append-nil ps))) in
    let whole : one_behind_another [] first.front ≡ ps = first.same ∙ append-nil ps in
    let begun : AreJoined joins first.front = record { first = are.first; begun = λ n some begins. are.begun n some (first.begun 0 n begins) } in
    let finished = law R joins first.front begun (each_weaker (CanBeMerged R) (AreFinished R) (λ qs own. own.finished) first.front first.can) (subst (StartWhere joins) (sym whole) starts) in
    record {
      finished = subst (λ (l : List Picture). AreFinished R (played joins l)) whole finished;
      each = played_are_sources joins ps (subst AreSources whole (sources_behind R [] first.front tt first.can));
    }
