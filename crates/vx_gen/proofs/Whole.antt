-- A generated stream is read as its planned pictures.
use Rattle.std.proofs.Common.{◌≡◌, ℕ, zero, suc, ◌+◌, ◌*◌, ◌<◌, ◌≤◌, Bool, true, List, [], ◌∷◌, ◌++◌, length, take, Option, None, refl, ap, sym, subst, ◌∙◌, add-one, arith}
use Rattle.std.specs.Prelude.{nat_le, option_map, cond, Some}
use Rattle.std.specs.List.{AllByRecursion}
use Rattle.std.proofs.lemmas.Bool.{le-leb}
use Rattle.std.proofs.lemmas.List.{take_all}
use Rattle.std.proofs.lemmas.List.Elements.{All-from_recursion}
use Rattle.std.proofs.lemmas.List.FromFn.{map-range_with_len_more}
use Rattle.vx_annexb.specs.ByteStream.{source_limit}
use Rattle.vx_annexb.specs.Laws.{CanStand, UnescapedJoins, written}
use Rattle.vx_bits.specs.declared.rules.TheConstants.{SLICE_MISSING}
use Rattle.vx_layout.proofs.Parts.{Each-append}
use Rattle.vx_table.specs.Scope.{fresh, natural}
use Rattle.vx_sh.specs.Value.{SpellingBegins}
use Rattle.vx_pic.specs.Bytes.{ArePictures, AreSourcePictures, Ending, ending_by}
use Rattle.vx_pic.specs.H266.{AreOfH266}
use Rattle.vx_pic.specs.H266Laws.{HaveOneAnswer}
use Rattle.vx_pic.specs.laws.Pictures.{WrittenHasPictures}
use Rattle.vx_pic.specs.Readings.{Picture, pictures}
use Rattle.vx_pic.specs.Resident.{AllReadAgain, AreAllPlanned, HaveNamed, IsPlanned, WrittenReadsAgain, planned_of, readings_of_plans, units_written}
use Rattle.vx_pic.specs.Rules.{Readers, picture_limit, structure}
use Rattle.vx_pic.specs.Sets.{address_of, names_of, slices_before}
use Rattle.vx_pic.specs.Streams.{StreamReading, read_on}
use Rattle.vx_pic.specs.Written.{Plan}
use Rattle.vx_write.specs.Again.{SetUnitsAreRead, UnitsStand}
use Rattle.vx_gen.specs.Laws.{GeneratedAreRead}
use Rattle.vx_gen.specs.Pictures.{generated_header, layout, plan, plans, generated_pps, slice_header}
use Rattle.vx_gen.specs.Streams.{stream, units}
use Rattle.vx_gen.specs.Units.{pps, slice, sps}
use Rattle.vx_gen.proofs.Laid.{laid}
use Rattle.vx_gen.proofs.Lengths.{both_long, one_more}
use Rattle.vx_gen.proofs.Next.{next}
use Rattle.vx_gen.proofs.Reading.{head_reads, slice_reads}
use Rattle.vx_gen.proofs.Sending.{has_pps, has_sps, refers, sends, sent_read}
use Rattle.vx_gen.proofs.Standing.{pps_short, pps_stands, slice_long, slice_stands, sps_stands}

-- ---- what is asked of its plans

names_none : (k p : ℕ) → names_of (generated_pps k) (generated_header p) (slice_header p) ≡ []
unfolding names_of fresh natural
names_none k zero = refl
names_none k (suc p) = refl

place_is : (p : ℕ) → slices_before layout (slice_header p) ≡ 0
unfolding slices_before address_of fresh natural
place_is zero = refl
place_is (suc p) = refl

-- The laws of lower crates that this stands on.
pub record Laws : Type 0 where
  pub unique : HaveOneAnswer
  pub begins : SpellingBegins
  pub joins : UnescapedJoins
  pub sets : SetUnitsAreRead
  pub stand : UnitsStand
  pub again : WrittenReadsAgain
  pub has_pictures : WrittenHasPictures

module _ (laws : Laws) (R : Readers) (of : AreOfH266 R) (seed n k : ℕ) (low : k < 16) where
  is_planned : (p : ℕ) → p ≤ 1000 → IsPlanned R (plans seed n k p) (plan seed (n + 5 * p) k p)
  unfolding picture_limit
  is_planned p few =
      let long = slice_long seed (n + 5 * p) p in
      record {
        sets = sent_read laws.sets R of k p low;
        sends = sends seed n k p low;
        pps = has_pps seed n k p low;
        sps = has_sps seed n k p low;
        refers = refers k;
        bodies = (subst (λ slots. HaveNamed (sends seed n k p low).needed slots) (sym (names_none k p)) tt, tt);
        sei = tt;
        head = head_reads R of laws.unique laws.begins laws.joins k low (laid k) seed (n + 5 * p) p;
        slices = (slice_reads R of laws.unique laws.begins laws.joins k low (laid k) seed (n + 5 * p) p, tt);
        outside = tt;
        order = (place_is p, tt);
        all = refl;
        size = omega (arith, long);
        tid = refl;
        next = next seed n k p few;
      }

  all_planned : (p : ℕ) → p ≤ 1000 → AreAllPlanned R (plans seed n k p)
  all_planned zero few = tt
  all_planned (suc p) few = (is_planned p (omega (arith, few)), all_planned p (omega (arith, few)))

-- ---- its units

units_more : (seed n k p : ℕ) → units seed n k (suc p) ≡ units seed n k p ++ slice seed (n + 5 * p) p ∷ []
units_more seed n k p =
    ap (λ (m : ℕ). units seed n k m) (sym (add-one p))
    ∙ ap (λ (slices : List (List ℕ)). sps ∷ pps k ∷ slices) (map-range_with_len_more (λ p. slice seed (n + 5 * p) p) 0 p p (omega arith))

planned_units : (seed n k p : ℕ) → units_written (plans seed n k (suc p)) ≡ units seed n k (suc p)
planned_units seed n k zero = refl
planned_units seed n k (suc p) = ap (λ us. us ++ slice seed (n + 5 * suc p) (suc p) ∷ []) (planned_units seed n k p) ∙ sym (units_more seed n k (suc p))

all_stand : UnitsStand → (seed n k p : ℕ) → k < 16 → AllByRecursion CanStand (units seed n k p)
all_stand stand seed n k zero low = (sps_stands stand, (pps_stands stand k low, tt))
all_stand stand seed n k (suc p) low =
    subst (AllByRecursion CanStand) (sym (units_more seed n k p))
    (Each-append CanStand (units seed n k p) (slice seed (n + 5 * p) p ∷ []) (all_stand stand seed n k p low) (slice_stands stand seed (n + 5 * p) p, tt))

-- ---- its length

short : (seed n k p : ℕ) → k < 16 → length (written (units seed n k p)) ≤ 40 + 14 * p
short seed n k zero low =
    let first = one_more sps (pps k ∷ []) in
    let second = one_more (pps k) [] in
    let few = pps_short k low in
    omega (arith, first, second, few)
short seed n k (suc p) low =
    let unit : List ℕ = slice seed (n + 5 * p) p in
    let more = ap (λ us. length (written us)) (units_more seed n k p) ∙ both_long (units seed n k p) (unit ∷ []) in
    let one = one_more unit [] in
    let long = slice_long seed (n + 5 * p) p in
    let before = short seed n k p low in
    omega (arith, more, one, long, before)

-- bytes of a source that are no more than it may have
of_source : (R : Readers) (b : List ℕ) (ps : List Picture) (e : Option Ending) → length b ≤ source_limit → ArePictures R b true ps e → AreSourcePictures R b ps e
of_source R b ps e few are =
    let all : nat_le (length b) source_limit ≡ true = le-leb (length b) source_limit few in
    subst (λ flag. ArePictures R (take source_limit b) flag ps e) (sym all) (subst (λ bytes. ArePictures R bytes true ps e) (sym (take_all source_limit b few)) are)

few_bytes : (size p : ℕ) → size ≤ 40 + 14 * p → p ≤ 1000 → size ≤ source_limit
unfolding source_limit
few_bytes size p short few = omega (arith, short, few)

-- ---- it is read

well : (R : Readers) (done : List Plan) → AllReadAgain R done → ending_by true None (read_on R [] (units_written done)) ≡ None
well R done again =
    ap (λ (o : StreamReading). ending_by true None o) again.read
    ∙ ap (λ (lacks : Bool). option_map (λ r. record { units = length (readings_of_plans done); refusal = r }) (cond lacks (Some (structure SLICE_MISSING)) None)) again.rests.closed

pub are_read : Laws → GeneratedAreRead
are_read laws R seed zero k of low some few = absurd (omega (arith, some))
are_read laws R seed (suc q) k of low some few =
    let n : ℕ = 5 * (k * suc q) in
    let done : List Plan = plans seed n k (suc q) in
    let same = planned_units seed n k q in
    let again : AllReadAgain R done = laws.again R done (all_planned laws R of seed n k low (suc q) few) in
    let stand = all_stand laws.stand seed n k (suc q) low in
    let have = laws.has_pictures R (units_written done) (All-from_recursion CanStand (units_written done) (subst (AllByRecursion CanStand) (sym same) stand)) in
    let are = subst (λ ps. ArePictures R (written (units_written done)) true ps (ending_by true None (read_on R [] (units_written done)))) (ap (λ (o : StreamReading). pictures o.before) again.read ∙ again.planned) have in
    let end = subst (λ e. ArePictures R (written (units_written done)) true (planned_of done) e) (well R done again) are in
    let bytes = subst (λ us. ArePictures R (written us) true (planned_of done) None) same end in
    of_source R (stream seed (suc q) k) (planned_of done) None (few_bytes (length (written (units seed n k (suc q)))) (suc q) (short seed n k (suc q) low) few) bytes
