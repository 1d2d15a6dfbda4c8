-- What `extract` writes of pictures that break no rule is read again.
use Rattle.std.proofs.Common.{◌≡◌, ℕ, ◌<◌, ◌≤◌, nat_le, nat_lt, not, Option, Some, None, option_map, Bool, true, false, cond, List, [], ◌∷◌, length, map, take, All, inl, inr, refl, sym, ap, subst}
use Rattle.std.specs.List.{AllByRecursion}
use Rattle.std.proofs.lemmas.Bool.{cases_Bool, le-leb}
use Rattle.std.proofs.lemmas.List.Elements.{All-map, All-nil, All-weaker}
use Rattle.std.proofs.Math.Seq.{take_all}
use Rattle.vx_bits.specs.declared.refusal.Refusal.TheVariants.{Extract}
use Rattle.vx_annexb.specs.ByteStream.{FollowsFrom, UnitPlace, source_limit, unit_bytes}
use Rattle.vx_annexb.specs.Held.{is_all}
use Rattle.vx_annexb.specs.Laws.{CanStand, HoldsNoCode, UnitsCanStand, written}
use Rattle.vx_sps.specs.Subpictures.{subpics_of}
use Rattle.vx_pic.specs.Units.{is_irap_or_gdr}
use Rattle.vx_pic.specs.Readings.{Picture, pictures}
use Rattle.vx_pic.specs.Rules.{Readers}
use Rattle.vx_pic.specs.Streams.{StreamReading, pictures_of}
use Rattle.vx_pic.specs.Bytes.{ArePictures, AreSourcePictures, units_at}
use Rattle.vx_pic.specs.Sublayers.{KeepsStarts, at_most}
use Rattle.vx_pic.specs.H266.{AreOfH266}
use Rattle.vx_pic.specs.Parts.{Parts, parts_of}
use Rattle.vx_pic.specs.Written.{Plan}
use Rattle.vx_pic.specs.Resident.{units_written}
use Rattle.vx_assemble.specs.Feed.{seen_of}
use Rattle.vx_extract.specs.Rules.{is_kept, refusal_of, rule_of_kept}
use Rattle.vx_extract.specs.Written.{AreExtracted}
use Rattle.vx_extract.specs.Whole.{AreKeptWith, ExtractionReadsAgain}
use Rattle.vx_run.specs.declared.extract.Task.{Task}
use Rattle.vx_run.specs.Extract.{BreakNoRule}
use Rattle.vx_run.specs.ReadAgain.{IsReadAgain}
use Rattle.vx_run.specs.inner.Extracting.{TakenIsReadAgain}
use borrow.Author.Tests.{ltb-true}

-- ---- pictures that break no rule

-- a picture that is kept has the subpicture
has_it : (kept has : Bool) (rule dropped : Option ℕ) (n : ℕ) → option_map Extract (cond kept (cond (not has) (Some n) rule) dropped) ≡ None → kept ≡ true → has ≡ true
has_it true true rule dropped n none on = refl
has_it true false rule dropped n none on = absurd (cc)
has_it false has rule dropped n none on = absurd (cc)

pub has_subpicture : (target tid : ℕ) (q : Parts) → refusal_of target tid q ≡ None → is_kept tid q ≡ true → target < subpics_of q.sps
has_subpicture target tid q none kept = ltb-true target (subpics_of q.sps) (has_it (is_kept tid q) (nat_lt target (subpics_of q.sps)) _ _ _ none kept)

-- one that is left out is no IRAP or GDR picture
no_start : (kept start : Bool) (rule : Option ℕ) (n : ℕ) → option_map Extract (cond kept rule (cond start (Some n) None)) ≡ None → kept ≡ false → start ≡ false
no_start true start rule n none out = absurd (cc)
no_start false true rule n none out = absurd (cc)
no_start false false rule n none out = refl

module _ (t : Task) where
  kept_have : (ps : List Picture) → BreakNoRule t ps → AllByRecursion (λ (p : Picture). t.target < subpics_of p.begun.sps) (at_most t.tid ps)
  kept_have [] fine = tt
  kept_have (p ∷ ps) fine = elim (cases_Bool (nat_le p.kind.temporal_id t.tid)) [
    | inl on ↦ rw on (has_subpicture t.target t.tid (parts_of p) fine.0 on, kept_have ps fine.1)
    | inr out ↦ rw out (kept_have ps fine.1)
  ]

  starts_kept : (ps : List Picture) → BreakNoRule t ps → KeepsStarts t.tid ps
  starts_kept [] fine = tt
  starts_kept (p ∷ ps) fine = (
    λ out. no_start (nat_le p.kind.temporal_id t.tid) (is_irap_or_gdr p.kind.nal_type) (rule_of_kept t.target (parts_of p)) _ fine.0 out,
    starts_kept ps fine.1,
  )

-- ---- bytes

pub units_stand : UnitsCanStand → (b : List ℕ) (all : Bool) (us : List UnitPlace) → FollowsFrom b all 0 us → All CanStand (units_at b us)
units_stand can b all us follow =
    All-map CanStand (unit_bytes b) us
    (All-weaker (λ (u : UnitPlace). CanStand (unit_bytes b u) × HoldsNoCode (unit_bytes b u)) (λ (u : UnitPlace). CanStand (unit_bytes b u)) (λ u h. h.0) us (can b all 0 us follow))

-- no more bytes than a source may have are those of one
pub of_source : (R : Readers) (bytes : List ℕ) (qs : List Picture) → ArePictures R bytes true qs None → length bytes ≤ source_limit → AreSourcePictures R bytes qs None
of_source R bytes qs are few =
    subst (λ (w : Bool). ArePictures R (take source_limit bytes) w qs None) (sym (le-leb (length bytes) source_limit few))
    (subst (λ (l : List ℕ). ArePictures R l true qs None) (sym (take_all source_limit bytes few)) are)

-- ---- what is written

module _ (law : ExtractionReadsAgain) (R : Readers) (of : AreOfH266 R) (t : Task) where
  abbrev Again : List Picture → Type 0
  Again ps = BreakNoRule t ps → (done : List Plan) → AreExtracted t.target t.level (map parts_of (at_most t.tid ps)) done
      → IsReadAgain R t ps (written (units_written done))

  of_units : (units : List (List ℕ)) → All CanStand units → Again (pictures_of R units)
  of_units units stand fine done were =
      let ps : List Picture = pictures_of R units in
      let bytes : List ℕ = written (units_written done) in
      let fit : AreKeptWith t.target t.tid ps = record { has = kept_have t ps fine; starts = starts_kept t ps fine } in
      let again = law R units t.target t.tid t.level bytes of stand fit (done, were, refl) in
      record { pictures = again.0; target = again.2; read = again.1; source = of_source R bytes again.0 again.1 }

  -- of no picture
  pub none_again : IsReadAgain R t [] []
  none_again = of_units [] (All-nil CanStand) tt [] tt

  -- of pictures that were taken of a source
  pub taken_again : UnitsCanStand → TakenIsReadAgain R t
  taken_again can g units readings f fed =
      let all : Bool = is_all f.reader.splitter in
      let stand = units_stand can (seen_of g) all units fed.read.stands.given in
      let are : pictures_of R (units_at (seen_of g) units) ≡ pictures readings = ap (λ (o : StreamReading). pictures o.before) fed.readings in
      subst Again are (of_units (units_at (seen_of g) units) stand)
