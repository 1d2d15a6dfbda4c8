-- What the bytes of a region's files tell of its pictures.
use Rattle.std.proofs.Common.{◌≡◌, ℕ, ◌+◌, ◌<◌, List, [], ◌∷◌, ◌++◌, ◌∙◌, Option, Some, None, cond, length, slice_get, sym, ap, refl, subst, arith, append_assoc}
use Rattle.std.specs.Prelude.{is_none, option_map, unwrap_or}
use Rattle.std.proofs.lemmas.List.{length-append}
use Rattle.std.proofs.lemmas.Option.{slice_get-get_or}
use Rattle.vx_pic.specs.Bytes.{Ending}
use Rattle.vx_pic.specs.Counts.{is_empty}
use Rattle.vx_pic.specs.Joined.{begins_file, one_behind_another}
use Rattle.vx_pic.specs.Readings.{Picture}
use Rattle.vx_pic.specs.Rules.{Readers}
use Rattle.vx_pic.proofs.Joining.{begins_where_first}
use Rattle.vx_run.specs.Change.{Change, Sources, sources_change, source_at}
use Rattle.vx_run.specs.Extract.{WhereTold, BeginsWithPictures}
use Rattle.vx_run.specs.Play.{AreOut, IsBehind, IsOut, count_of, file_in, no_stream, pictures_in, refused_in, region_stream, refused_file}
use Rattle.vx_run.specs.Rounds.{Stream, AreTold}
use Rattle.vx_run.proofs.RegionFiles.{AreOfRegion, behind_of}
use Rattle.vx_run.proofs.Sources.{told_of}

-- ---- lists of pictures, one behind another

pub one_more : (before : List Picture) (passed : List (List Picture)) (own : List Picture) → one_behind_another before (passed ++ own ∷ []) ≡ own ++ one_behind_another before passed
one_more before [] own = refl
one_more before (ps ∷ passed) own = one_more (ps ++ before) passed own

-- what comes later stands before it
pub begins_so : (before : List Picture) (more : List (List Picture)) → (later : List Picture) × (one_behind_another before more ≡ later ++ before)
begins_so before [] = ([], refl)
begins_so before (ps ∷ more) =
    let rest = begins_so (ps ++ before) more in
    (rest.0 ++ ps, rest.1 ∙ sym (append_assoc rest.0 ps before))

in_order : (before : List Picture) (passed : List (List Picture)) (ps : List Picture) (more : List (List Picture)) → one_behind_another before (passed ++ ps ∷ more) ≡ one_behind_another (ps ++ one_behind_another before passed) more
in_order before [] ps more = refl
in_order before (qs ∷ passed) ps more = in_order (qs ++ before) passed ps more

-- behind files and a part of the next one
pub begins_there : (passed : List (List Picture)) (later own : List Picture) (more : List (List Picture)) → BeginsWithPictures (one_behind_another [] (passed ++ (later ++ own) ∷ more)) (own ++ one_behind_another [] passed)
begins_there passed later own more =
    let rest = begins_so ((later ++ own) ++ one_behind_another [] passed) more in (
      rest.0 ++ later,
      in_order [] passed (later ++ own) more ∙ rest.1 ∙ ap (λ (l : List Picture). rest.0 ++ l) (append_assoc later own (one_behind_another [] passed)) ∙ sym (append_assoc rest.0 later (own ++ one_behind_another [] passed)),
    )

pub count_more : (passed : List (List Picture)) (own : List Picture) → count_of (passed ++ own ∷ []) ≡ length own + count_of passed
count_more passed own = ap (λ (l : List Picture). length l) (one_more [] passed own) ∙ length-append own (one_behind_another [] passed)

-- ---- what is told of files

module _ {A : Type 0} (bytes : A → Option (List ℕ)) (faults : A → ℕ) (R : Readers) (first l : List A) (files : List Stream) (are : AreTold R (sources_change bytes faults first l) files) where
  abbrev S : Sources A
  S = sources_change bytes faults first l

  abbrev At : ℕ → Change (Option A)
  At k = source_at S k

  there : (j : ℕ) → j < length first → slice_get files j ≡ Some (file_in files j)
  there j within = slice_get-get_or files j no_stream (omega (arith, within, are.count))

  pub told_file : (j : ℕ) (P : List Picture → Option Ending → Type 0) → j < length first → WhereTold R (At j) P → P (file_in files j).pictures (file_in files j).ending
  told_file j P within where_ = told_of bytes faults R first l files j (file_in files j) P are (there j within) where_

  -- a file that was read out comes before the others
  passes : (j : ℕ) (js : List ℕ) (ps : List Picture) → j < length first → IsOut R (At j) ps
      → (pictures_in files (j ∷ js) ≡ ps ∷ pictures_in files js) × (refused_in files (j ∷ js) ≡ refused_in files js)
  passes j js ps within out =
      let is = told_file j (λ qs e. (qs ≡ ps) × (e ≡ None)) within out.1 in
      rw (is.1, is.0) (refl, refl)

  module _ (regions : List ℕ) (k : ℕ) where
    -- those before file j tell nothing else
    pub told_behind : (a : ℕ) (js : List ℕ) (passed : List (List Picture)) (j : ℕ) → AreOfRegion regions k (length first) a js → IsBehind R S j js passed
        → (rest : List ℕ) × (pictures_in files js ≡ passed ++ pictures_in files (j ∷ rest)) × (refused_in files js ≡ refused_in files (j ∷ rest))
    told_behind a [] passed j of behind = absurd behind
    told_behind a (i ∷ js) [] j of behind =
        (js, subst (λ (x : ℕ). pictures_in files (i ∷ js) ≡ pictures_in files (x ∷ js)) behind.0 refl, subst (λ (x : ℕ). refused_in files (i ∷ js) ≡ refused_in files (x ∷ js)) behind.0 refl)
    told_behind a (i ∷ js) (ps ∷ passed) j of behind =
        let one = passes i js ps of.1 behind.0 in
        let more = told_behind (i + 1) js passed j of.3 behind.1 in
        (more.0, one.0 ∙ ap (λ (x : List (List Picture)). ps ∷ x) more.1, one.1 ∙ more.2)

    pub told_out : (a : ℕ) (js : List ℕ) (passed : List (List Picture)) → AreOfRegion regions k (length first) a js → AreOut R S js passed → (pictures_in files js ≡ passed) × (refused_in files js ≡ None)
    told_out a [] passed of out = (sym out, refl)
    told_out a (j ∷ js) [] of out = absurd out
    told_out a (j ∷ js) (ps ∷ passed) of out =
        let one = passes j js ps of.1 out.0 in
        let more = told_out (j + 1) js passed of.3 out.1 in
        (one.0 ∙ ap (λ (x : List (List Picture)). ps ∷ x) more.0, one.1 ∙ more.1)

    module _ (a : ℕ) (js : List ℕ) (passed : List (List Picture)) (j : ℕ) (of : AreOfRegion regions k (length first) a js) (behind : IsBehind R S j js passed) where
      -- one more picture was taken of it: so the region's begin, and the file begins there where it is its first
      pub told_takes : (p : Picture) (others : List Picture) → WhereTold R (At j) (λ qs e. BeginsWithPictures qs (p ∷ others))
          → BeginsWithPictures (region_stream files js).pictures (p ∷ (others ++ one_behind_another [] passed))
          × (begins_file 0 (pictures_in files js) (length (others ++ one_behind_another [] passed)) ≡ is_empty others)
      told_takes p others where_ =
          let within = (behind_of bytes faults R first regions k (length first) a l js passed j of behind).1 in
          let b = told_file j (λ qs e. BeginsWithPictures qs (p ∷ others)) within where_ in
          let t = told_behind a js passed j of behind in
          let tail : List (List Picture) = cond (is_none (file_in files j).ending) (pictures_in files t.0) [] in
          let whole : pictures_in files js ≡ passed ++ (b.0 ++ p ∷ others) ∷ tail = t.1 ∙ ap (λ (x : List Picture). passed ++ x ∷ tail) b.1 in (
            subst (λ (x : List (List Picture)). BeginsWithPictures (one_behind_another [] x) (p ∷ (others ++ one_behind_another [] passed))) (sym whole) (begins_there passed b.0 (p ∷ others) tail),
            ap (λ (x : List (List Picture)). begins_file 0 x (length (others ++ one_behind_another [] passed))) whole
                ∙ ap (λ (x : List Picture). begins_file 0 (passed ++ (b.0 ++ p ∷ others) ∷ tail) (length x)) (sym (one_more [] passed others))
                ∙ begins_where_first passed others p b.0 tail,
          )

      -- or it is refused
      pub told_cut : (others : List Picture) (e : Ending) → WhereTold R (At j) (λ qs end. (qs ≡ others) × (end ≡ Some e))
          → ((region_stream files js).pictures ≡ others ++ one_behind_another [] passed) × ((region_stream files js).ending ≡ Some e) × (refused_file files js ≡ j)
      told_cut others e where_ =
          let within = (behind_of bytes faults R first regions k (length first) a l js passed j of behind).1 in
          let is = told_file j (λ qs end. (qs ≡ others) × (end ≡ Some e)) within where_ in
          let t = told_behind a js passed j of behind in
          let here : pictures_in files (j ∷ t.0) ≡ others ∷ [] = rw (is.1, is.0) refl in
          let ended : refused_in files (j ∷ t.0) ≡ Some (j, e) = rw is.1 refl in
          let all : pictures_in files js ≡ passed ++ others ∷ [] = t.1 ∙ ap (λ (x : List (List Picture)). passed ++ x) here in
          let cut : refused_in files js ≡ Some (j, e) = t.2 ∙ ended in (
            ap (λ (x : List (List Picture)). one_behind_another [] x) all ∙ one_more [] passed others,
            ap (λ (o : Option (ℕ × Ending)). option_map (λ (x : ℕ × Ending). x.1) o) cut,
            ap (λ (o : Option (ℕ × Ending)). unwrap_or (option_map (λ (x : ℕ × Ending). x.0) o) 0) cut,
          )
