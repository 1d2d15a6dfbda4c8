-- What is told of a unit, and the lines that it has.
use Rattle.std.proofs.Common.{◌≡◌, ℕ, ◌+◌, ◌<◌, ◌≤◌, ◌==◌, List, [], ◌∷◌, ◌++◌, ◌∙◌, Option, Some, None, Bool, true, false, cond, length, sym, ap, ap₂, refl, subst, arith, length-append, append-nil, eq-eqb}
use Rattle.std.proofs.lemmas.List.{length-map}
use Rattle.std.specs.Option.{option_or}
use Rattle.std.specs.List.{flat_map}
use Rattle.vx_bits.specs.declared.list.Item.{Item}
use Rattle.vx_annexb.specs.declared.header.NalHeader.{NalHeader}
use Rattle.vx_annexb.specs.NalUnit.{header_of}
use Rattle.vx_annexb.specs.ByteStream.{UnitPlace, unit_bytes}
use Rattle.vx_report.specs.UnitLine.{unit_text}
use Rattle.vx_pic.specs.declared.accepted.Accepted.{Accepted}
use Rattle.vx_pic.specs.declared.accepted.Accepted.TheVariants as accepted
use Rattle.vx_pic.specs.Sets.{sps_id, pps_id}
use Rattle.vx_pic.specs.Readings.{Reading, dropped, vps_read, sps_read, pps_read, aps_read, messages_read, header_read, first_slice, next_slice, sequence_ended}
use Rattle.vx_pic.specs.Readings.{stored_sps, stored_pps, Picture, Current, nothing, headed, going, current, is_whole, picture_if_whole, completed, pictures}
use Rattle.vx_pic.specs.Parts.{Parts, slice_part, parts_of}
use Rattle.vx_pic.specs.Rules.{Readers}
use Rattle.vx_pic.specs.Told.{told_of, done_or_not}
use Rattle.vx_aps.specs.declared.aps.Aps.{Aps}
use Rattle.vx_report.specs.declared.set.SetNumbers.{SetNumbers}
use Rattle.vx_report.specs.declared.set.SetNumbers.TheVariants as numbers
use Rattle.vx_report.specs.declared.picture.PictureNumbers.{PictureNumbers}
use Rattle.vx_report.specs.SetLine.{set_text, vps_numbers, sps_numbers, pps_numbers}
use Rattle.vx_report.specs.PictureLine.{picture_text, picture_numbers}
use Rattle.vx_report.specs.InputLines.{inputs_text}
use Rattle.vx_assemble.specs.Held.{items_of, ShowsLatest}
use Rattle.vx_assemble.specs.Feed.{Feeding, HasFed, IsTold}
use Rattle.vx_run.specs.Show.{Teller, shown_line, set_lines, picture_lines, input_lines, unit_lines, told_lines, numbers_shown}
use Rattle.vx_assemble.specs.Feed.{seen_of}
use Rattle.vx_run.specs.inner.Showing.{GathersOne}
use Rattle.vx_run.proofs.Lined.{all_length, few_pictures}

-- ---- the lines of a reading, by what it is

set_line_of_vps : (v : List Item) → set_lines (vps_read v) ≡ set_text (vps_numbers v)
unfolding set_lines
set_line_of_vps v = refl

set_line_of_sps : (s : List Item) → set_lines (sps_read s) ≡ set_text (sps_numbers s)
unfolding set_lines
set_line_of_sps s = refl

set_line_of_pps : (p : List Item) → set_lines (pps_read p) ≡ set_text (pps_numbers p)
unfolding set_lines
set_line_of_pps p = refl

set_line_of_aps : (a : Aps) → set_lines (aps_read a) ≡ set_text (numbers.Aps a.kind a.id)
unfolding set_lines
set_line_of_aps a = refl

line_of_pictures : (r : Reading) (before : List Reading) (ps : List Picture) → completed r before ≡ ps → picture_lines r before ≡ flat_map (λ p. picture_text (numbers_shown (length (pictures before)) p)) ps
unfolding picture_lines
line_of_pictures r before ps is = ap (flat_map (λ p. picture_text (numbers_shown (length (pictures before)) p))) is

pub no_picture : (r : Reading) (before : List Reading) → completed r before ≡ [] → picture_lines r before ≡ []
no_picture r before is = line_of_pictures r before [] is

pub one_picture : (r : Reading) (before : List Reading) (p : Picture) → completed r before ≡ p ∷ [] → picture_lines r before ≡ picture_text (numbers_shown (length (pictures before)) p)
one_picture r before p is = line_of_pictures r before (p ∷ []) is ∙ append-nil (picture_text (numbers_shown (length (pictures before)) p))

lines_of_inputs : (r : Reading) (before : List Reading) (ps : List Picture) → completed r before ≡ ps → input_lines r before ≡ flat_map (λ p. inputs_text (length (pictures before)) (parts_of p)) ps
unfolding input_lines
lines_of_inputs r before ps is = ap (flat_map (λ p. inputs_text (length (pictures before)) (parts_of p))) is

-- ---- a set, by what is told of it

abbrev pub SetIs : Accepted → Reading → Type 0
SetIs accepted.Vps r = (v : List Item) × (r ≡ vps_read v)
SetIs (accepted.Sps id) r = (s : List Item) × (r ≡ sps_read s) × (id ≡ sps_id s)
SetIs (accepted.Pps id) r = (p : List Item) × (r ≡ pps_read p) × (id ≡ pps_id p)
SetIs (accepted.Aps kind id) r = (a : Aps) × (r ≡ aps_read a) × (kind ≡ a.kind) × (id ≡ a.id)
SetIs accepted.Nothing r = set_lines r ≡ []
SetIs accepted.PictureDone r = set_lines r ≡ []

set_of_slice : (r : Reading) (w : Bool) → set_lines r ≡ [] → SetIs (cond w accepted.PictureDone accepted.Nothing) r
set_of_slice r true none = none
set_of_slice r false none = none

set_of_current : (r : Reading) (c : Current) → set_lines r ≡ [] → SetIs (done_or_not c) r
set_of_current r nothing none = none
set_of_current r (headed b) none = none
set_of_current r (going p) none = set_of_slice r (is_whole p) none

set_there : (r : Reading) (before : List Reading) → SetIs (told_of r before) r
unfolding set_lines
set_there dropped before = refl
set_there (vps_read v) before = (v, refl)
set_there (sps_read s) before = (s, refl, refl)
set_there (pps_read p) before = (p, refl, refl)
set_there (aps_read a) before = (a, refl, refl, refl)
set_there (messages_read m) before = refl
set_there (header_read b) before = refl
set_there (first_slice b k s) before = set_of_current (first_slice b k s) (current (first_slice b k s ∷ before)) refl
set_there (next_slice s) before = set_of_current (next_slice s) (current (next_slice s ∷ before)) refl
set_there sequence_ended before = refl

pub set_is : (what : Accepted) (r : Reading) (before : List Reading) → what ≡ told_of r before → SetIs what r
set_is what r before is = subst (λ (w : Accepted). SetIs w r) (sym is) (set_there r before)

-- ---- a picture, by what is told of its last slice

abbrev pub Completes : Accepted → List Picture → Type 0
Completes accepted.PictureDone ps = (p : Picture) × (ps ≡ p ∷ [])
Completes accepted.Nothing ps = ps ≡ []
Completes accepted.Vps ps = ps ≡ []
Completes (accepted.Sps id) ps = ps ≡ []
Completes (accepted.Pps id) ps = ps ≡ []
Completes (accepted.Aps kind id) ps = ps ≡ []

done_of_slice : (p : Picture) (w : Bool) → Completes (cond w accepted.PictureDone accepted.Nothing) (cond w (p ∷ []) [])
done_of_slice p true = (p, refl)
done_of_slice p false = refl

done_of_current : (c : Current) → Completes (done_or_not c) (picture_if_whole c)
done_of_current nothing = refl
done_of_current (headed b) = refl
done_of_current (going p) = done_of_slice p (is_whole p)

done_there : (r : Reading) (before : List Reading) → Completes (told_of r before) (completed r before)
done_there dropped before = refl
done_there (vps_read v) before = refl
done_there (sps_read s) before = refl
done_there (pps_read p) before = refl
done_there (aps_read a) before = refl
done_there (messages_read m) before = refl
done_there (header_read b) before = refl
done_there (first_slice b k s) before = done_of_current (current (first_slice b k s ∷ before))
done_there (next_slice s) before = done_of_current (current (next_slice s ∷ before))
done_there sequence_ended before = refl

pub completes : (what : Accepted) (r : Reading) (before : List Reading) → what ≡ told_of r before → Completes what (completed r before)
completes what r before is = subst (λ (w : Accepted). Completes w (completed r before)) (sym is) (done_there r before)

none_done : (what : Accepted) (ps : List Picture) → (what ≡ accepted.PictureDone → ⊥) → Completes what ps → ps ≡ []
none_done accepted.PictureDone ps not is = absurd (not refl)
none_done accepted.Nothing ps not is = is
none_done accepted.Vps ps not is = is
none_done (accepted.Sps id) ps not is = is
none_done (accepted.Pps id) ps not is = is
none_done (accepted.Aps kind id) ps not is = is

-- ---- what is shown

-- the set that was taken last is stored
here_or : (test : Bool) (s : List Item) (rest : Option (List Item)) → test ≡ true → option_or (cond test (Some s) None) rest ≡ Some s
here_or test s rest is = ap (λ t. option_or (cond t (Some s) None) rest) is

stored_first_sps : (s : List Item) (before : List Reading) (id : ℕ) (r : Reading) → r ≡ sps_read s → id ≡ sps_id s → stored_sps id (r ∷ before) ≡ Some s
stored_first_sps s before id r is same =
    ap (λ (x : Reading). stored_sps id (x ∷ before)) is ∙ here_or (sps_id s == id) s (stored_sps id before) (eq-eqb (sps_id s) id (sym same))

stored_first_pps : (p : List Item) (before : List Reading) (id : ℕ) (r : Reading) → r ≡ pps_read p → id ≡ pps_id p → stored_pps id (r ∷ before) ≡ Some p
stored_first_pps p before id r is same =
    ap (λ (x : Reading). stored_pps id (x ∷ before)) is ∙ here_or (pps_id p == id) p (stored_pps id before) (eq-eqb (pps_id p) id (sym same))

module _ (r : Reading) (before : List Reading) where
  -- of a VPS
  pub vps_shown : (fields : List Item) (n : SetNumbers) → accepted.Vps ≡ told_of r before → n ≡ vps_numbers fields → Some fields ≡ items_of r → set_lines r ≡ set_text n
  vps_shown fields n told is items =
      let set = set_is accepted.Vps r before told in
      let there : Some fields ≡ Some set.0 = items ∙ ap items_of set.1 in
      let same : fields ≡ set.0 = cc in
      ap set_lines set.1 ∙ set_line_of_vps set.0 ∙ ap set_text (ap vps_numbers (sym same) ∙ sym is)

  pub vps_there : accepted.Vps ≡ told_of r before → None ≡ items_of r → ⊥
  vps_there told items =
      let set = set_is accepted.Vps r before told in
      let no : None ≡ Some set.0 = items ∙ ap items_of set.1 in
      absurd (cc)

  -- of an SPS that is stored
  pub sps_shown : (id : ℕ) (fields : List Item) (n : SetNumbers) → accepted.Sps id ≡ told_of r before → n ≡ sps_numbers fields → Some fields ≡ stored_sps id (r ∷ before) → set_lines r ≡ set_text n
  sps_shown id fields n told is stored =
      let set = set_is (accepted.Sps id) r before told in
      let there : Some fields ≡ Some set.0 = stored ∙ stored_first_sps set.0 before id r set.1 set.2 in
      let same : fields ≡ set.0 = cc in
      ap set_lines set.1 ∙ set_line_of_sps set.0 ∙ ap set_text (ap sps_numbers (sym same) ∙ sym is)

  pub sps_there : (id : ℕ) → accepted.Sps id ≡ told_of r before → None ≡ stored_sps id (r ∷ before) → ⊥
  sps_there id told stored =
      let set = set_is (accepted.Sps id) r before told in
      let no : None ≡ Some set.0 = stored ∙ stored_first_sps set.0 before id r set.1 set.2 in
      absurd (cc)

  -- of a PPS that is stored
  pub pps_shown : (id : ℕ) (fields : List Item) (n : SetNumbers) → accepted.Pps id ≡ told_of r before → n ≡ pps_numbers fields → Some fields ≡ stored_pps id (r ∷ before) → set_lines r ≡ set_text n
  pps_shown id fields n told is stored =
      let set = set_is (accepted.Pps id) r before told in
      let there : Some fields ≡ Some set.0 = stored ∙ stored_first_pps set.0 before id r set.1 set.2 in
      let same : fields ≡ set.0 = cc in
      ap set_lines set.1 ∙ set_line_of_pps set.0 ∙ ap set_text (ap pps_numbers (sym same) ∙ sym is)

  pub pps_there : (id : ℕ) → accepted.Pps id ≡ told_of r before → None ≡ stored_pps id (r ∷ before) → ⊥
  pps_there id told stored =
      let set = set_is (accepted.Pps id) r before told in
      let no : None ≡ Some set.0 = stored ∙ stored_first_pps set.0 before id r set.1 set.2 in
      absurd (cc)

  -- of an APS
  pub aps_shown : (kind id : ℕ) → accepted.Aps kind id ≡ told_of r before → set_lines r ≡ set_text (numbers.Aps kind id)
  aps_shown kind id told =
      let set = set_is (accepted.Aps kind id) r before told in
      ap set_lines set.1 ∙ set_line_of_aps set.0 ∙ ap set_text (ap (λ k. numbers.Aps k set.0.id) (sym set.2) ∙ ap (λ i. numbers.Aps kind i) (sym set.3))

  -- of nothing
  pub nothing_shown : accepted.Nothing ≡ told_of r before → set_lines r ≡ []
  nothing_shown told = set_is accepted.Nothing r before told

  pub done_shown : accepted.PictureDone ≡ told_of r before → set_lines r ≡ []
  done_shown told = set_is accepted.PictureDone r before told

  -- of a picture, from its parts
  pub numbers_same : (p : Picture) (n : ℕ) (parts : Parts) → n ≡ length (pictures before) → completed r before ≡ p ∷ [] → ShowsLatest parts (pictures (r ∷ before))
      → picture_numbers n parts ≡ numbers_shown (length (pictures before)) p
  numbers_same p n parts count done shows =
      let is : parts ≡ parts_of p = subst (λ (ps : List Picture). ShowsLatest parts (ps ++ pictures before)) done shows in
      rw (count, is, length-map p.slices (slice_part p.begun)) refl

  pub picture_shown : (n : PictureNumbers) → accepted.PictureDone ≡ told_of r before → ((p : Picture) → completed r before ≡ p ∷ [] → n ≡ numbers_shown (length (pictures before)) p) → picture_text n ≡ picture_lines r before
  picture_shown n told is =
      let done = completes accepted.PictureDone r before told in
      ap picture_text (is done.0 done.1) ∙ sym (one_picture r before done.0 done.1)

  -- the lines of its slices
  pub inputs_shown : (n : ℕ) (parts : Parts) → n ≡ length (pictures before) → accepted.PictureDone ≡ told_of r before → ShowsLatest parts (pictures (r ∷ before)) → inputs_text n parts ≡ input_lines r before
  inputs_shown n parts count told shows =
      let done = completes accepted.PictureDone r before told in
      let is : parts ≡ parts_of done.0 = subst (λ (ps : List Picture). ShowsLatest parts (ps ++ pictures before)) done.1 shows in
      ap (λ k. inputs_text k parts) count
      ∙ ap (inputs_text (length (pictures before))) is
      ∙ sym (lines_of_inputs r before (done.0 ∷ []) done.1 ∙ append-nil (inputs_text (length (pictures before)) (parts_of done.0)))

  pub no_inputs : (what : Accepted) → (what ≡ accepted.PictureDone → ⊥) → what ≡ told_of r before → input_lines r before ≡ []
  no_inputs what not told = lines_of_inputs r before [] (none_done what (completed r before) not (completes what r before told))

  -- the line of the picture alone, or of the set alone
  pub done_line : (line : List ℕ) → accepted.PictureDone ≡ told_of r before → line ≡ picture_lines r before → line ≡ set_lines r ++ picture_lines r before
  done_line line told is = is ∙ ap (λ l. l ++ picture_lines r before) (sym (done_shown told))

  pub set_line : (what : Accepted) (line : List ℕ) → (what ≡ accepted.PictureDone → ⊥) → what ≡ told_of r before → line ≡ set_lines r → line ≡ set_lines r ++ picture_lines r before
  set_line what line not told is =
      is ∙ sym (append-nil (set_lines r)) ∙ ap (λ l. set_lines r ++ l) (sym (no_picture r before (none_done what (completed r before) not (completes what r before told))))

-- ---- the lines of a unit

pub unit_lines_made : (g : List ℕ) (u : UnitPlace) (r : Reading) (before : List Reading) (header : NalHeader) (offset bytes : ℕ) (what : Accepted) (line told new : List ℕ) → IsTold g u r before header offset bytes what
    → line ≡ unit_text header offset bytes → told ≡ set_lines r ++ picture_lines r before → new ≡ line ++ told → new ≡ unit_lines (seen_of g) u r before
unfolding shown_line
unit_lines_made g u r before header offset bytes what line told new t text rest is =
    let unit = unit_bytes (seen_of g) u in
    let same : line ≡ unit_text (header_of unit) u.start (length unit) =
    text ∙ ap (λ (h : NalHeader). unit_text h offset bytes) t.header ∙ ap (λ (o : ℕ). unit_text (header_of unit) o bytes) t.offset ∙ ap (λ (n : ℕ). unit_text (header_of unit) u.start n) t.bytes in
    is ∙ ap₂ (λ (l m : List ℕ). l ++ m) same rest

-- ---- how many pictures are done

count_by : (what : Accepted) (ps done : List Picture) (n k units : ℕ) → Completes what ps → k ≡ length done → length (ps ++ done) ≤ units
    → (what ≡ accepted.PictureDone → k < units → n ≡ k + 1) → ((what ≡ accepted.PictureDone → ⊥) → n ≡ k) → n ≡ length (ps ++ done)
count_by accepted.PictureDone ps done n k units is count few one other =
    let size : length (ps ++ done) ≡ 1 + length done = length-append ps done ∙ ap (λ (l : List Picture). length l + length done) is.1 in
    omega (arith, one refl (omega (arith, size, count, few)), size, count)
count_by accepted.Nothing ps done n k units is count few one other = other (λ no. absurd (cc)) ∙ count ∙ ap (λ (l : List Picture). length (l ++ done)) (sym is)
count_by accepted.Vps ps done n k units is count few one other = other (λ no. absurd (cc)) ∙ count ∙ ap (λ (l : List Picture). length (l ++ done)) (sym is)
count_by (accepted.Sps id) ps done n k units is count few one other = other (λ no. absurd (cc)) ∙ count ∙ ap (λ (l : List Picture). length (l ++ done)) (sym is)
count_by (accepted.Pps id) ps done n k units is count few one other = other (λ no. absurd (cc)) ∙ count ∙ ap (λ (l : List Picture). length (l ++ done)) (sym is)
count_by (accepted.Aps kind id) ps done n k units is count few one other = other (λ no. absurd (cc)) ∙ count ∙ ap (λ (l : List Picture). length (l ++ done)) (sym is)

-- the lines of a unit that was taken were put behind others
pub gathers_one : (R : Readers) (T : Teller) (g : List ℕ) (units : List UnitPlace) (before : List Reading) (f : Feeding) (old new made : List ℕ) (n k : ℕ) (header : NalHeader) (offset bytes : ℕ) (what : Accepted)
    → (u : UnitPlace) (r : Reading) → HasFed R f g (units ++ u ∷ []) (r ∷ before) → IsTold g u r before header offset bytes what → k ≡ length (pictures before) → new ≡ old ++ made → made ≡ told_lines T (seen_of g) u r before
    → (what ≡ accepted.PictureDone → k < f.units → n ≡ k + 1) → ((what ≡ accepted.PictureDone → ⊥) → n ≡ k) → GathersOne R T g units before f old new n
gathers_one R T g units before f old new made n k header offset bytes what u r fed told count lines is one other =
    let size : length (r ∷ before) ≡ f.units = all_length R (seen_of g) (units ++ u ∷ []) (r ∷ before) fed.readings ∙ sym fed.count in
    record {
      place = u;
      reading = r;
      fed = fed;
      lines = lines ∙ ap (λ l. old ++ l) is;
      count = count_by what (completed r before) (pictures before) n k f.units (completes what r before told.what) count (omega (arith, few_pictures (r ∷ before), size)) one other;
    }
