-- What units are read as behind others, as it is told by what they are read as alone.
use Rattle.std.proofs.Common.{◌≡◌, ◌≢◌, ℕ, ℤ, ◌==◌, Bool, true, false, cond, List, [], ◌∷◌, ◌++◌, length, Option, Some, None, refl, sym, ◌∙◌, ap, subst}
use Rattle.std.specs.Option.{option_or}
use Rattle.std.specs.List.{AllZip}
use Rattle.vx_bits.specs.declared.list.Item.{Item}
use Rattle.vx_aps.specs.declared.aps.Aps.{Aps}
use Rattle.vx_pic.specs.Readings.{Begun, Current, Picture, Reading, Slice, aps_in, aps_read, current, dropped, first_slice, gathered, going, header_read, headed, is_ended, is_open, is_whole, latest_given, messages_read, next_slice, nothing, pictures, pps_in, pps_read, sequence_ended, sps_in, sps_read, stored_aps, stored_pps, stored_sps, vps_read, picture_if_whole, with_slice}
use Rattle.vx_pic.specs.Written.{Rests}

-- ---- one reading

-- the same, in a picture that may start no coded layer video sequence, or with another count
abbrev pub again : Bool → ℤ → Reading → Reading
again clvss poc dropped = dropped
again clvss poc (vps_read v) = vps_read v
again clvss poc (sps_read s) = sps_read s
again clvss poc (pps_read p) = pps_read p
again clvss poc (aps_read a) = aps_read a
again clvss poc (messages_read m) = messages_read m
again clvss poc (header_read b) = header_read b
again clvss poc (first_slice b k s) = first_slice b (record k { clvss = clvss; poc = poc }) s
again clvss poc (next_slice s) = next_slice s
again clvss poc sequence_ended = sequence_ended

pub record IsAgain (x y : Reading) : Type 0 where
  pub clvss : Bool
  pub poc : ℤ
  pub same : y ≡ again clvss poc x

-- ---- readings behind others

-- the second ones are the first ones again, behind these
abbrev pub Behind : List Reading → List Reading → List Reading → Type 0
Behind before [] ys = ys ≡ before
Behind before (x ∷ xs) [] = ⊥
Behind before (x ∷ xs) (y ∷ ys) = IsAgain x y × Behind before xs ys

or_assoc : {A : Type 0} (a b c : Option A) → option_or a (option_or b c) ≡ option_or (option_or a b) c
or_assoc None b c = refl
or_assoc (Some a) b c = refl

module _ {A : Type 0} (gives : Reading → Option A) (blind : (clvss : Bool) (poc : ℤ) (r : Reading) → gives (again clvss poc r) ≡ gives r) where
  latest_behind : (before xs ys : List Reading) → Behind before xs ys → latest_given gives ys ≡ option_or (latest_given gives xs) (latest_given gives before)
  latest_behind before [] ys behind = ap (latest_given gives) behind
  latest_behind before (x ∷ xs) [] behind = absurd behind
  latest_behind before (x ∷ xs) (y ∷ ys) behind =
      let here : gives y ≡ gives x = ap gives behind.0.same ∙ blind behind.0.clvss behind.0.poc x in
      ap (λ o. option_or o (latest_given gives ys)) here
      ∙ (ap (option_or (gives x)) (latest_behind before xs ys behind.1) ∙ or_assoc (gives x) (latest_given gives xs) (latest_given gives before))

  latest_kept : (before xs ys : List Reading) (a : A) → Behind before xs ys → latest_given gives xs ≡ Some a → latest_given gives ys ≡ Some a
  latest_kept before xs ys a behind is = latest_behind before xs ys behind ∙ ap (λ o. option_or o (latest_given gives before)) is

blind_sps : (id : ℕ) (clvss : Bool) (poc : ℤ) (r : Reading) → sps_in id (again clvss poc r) ≡ sps_in id r
blind_sps id clvss poc dropped = refl
blind_sps id clvss poc (vps_read v) = refl
blind_sps id clvss poc (sps_read s) = refl
blind_sps id clvss poc (pps_read p) = refl
blind_sps id clvss poc (aps_read a) = refl
blind_sps id clvss poc (messages_read m) = refl
blind_sps id clvss poc (header_read b) = refl
blind_sps id clvss poc (first_slice b k s) = refl
blind_sps id clvss poc (next_slice s) = refl
blind_sps id clvss poc sequence_ended = refl

blind_pps : (id : ℕ) (clvss : Bool) (poc : ℤ) (r : Reading) → pps_in id (again clvss poc r) ≡ pps_in id r
blind_pps id clvss poc dropped = refl
blind_pps id clvss poc (vps_read v) = refl
blind_pps id clvss poc (sps_read s) = refl
blind_pps id clvss poc (pps_read p) = refl
blind_pps id clvss poc (aps_read a) = refl
blind_pps id clvss poc (messages_read m) = refl
blind_pps id clvss poc (header_read b) = refl
blind_pps id clvss poc (first_slice b k s) = refl
blind_pps id clvss poc (next_slice s) = refl
blind_pps id clvss poc sequence_ended = refl

blind_aps : (kind id : ℕ) (clvss : Bool) (poc : ℤ) (r : Reading) → aps_in kind id (again clvss poc r) ≡ aps_in kind id r
blind_aps kind id clvss poc dropped = refl
blind_aps kind id clvss poc (vps_read v) = refl
blind_aps kind id clvss poc (sps_read s) = refl
blind_aps kind id clvss poc (pps_read p) = refl
blind_aps kind id clvss poc (aps_read a) = refl
blind_aps kind id clvss poc (messages_read m) = refl
blind_aps kind id clvss poc (header_read b) = refl
blind_aps kind id clvss poc (first_slice b k s) = refl
blind_aps kind id clvss poc (next_slice s) = refl
blind_aps kind id clvss poc sequence_ended = refl

pub sps_kept : (before xs ys : List Reading) (id : ℕ) (s : List Item) → Behind before xs ys → stored_sps id xs ≡ Some s → stored_sps id ys ≡ Some s
sps_kept before xs ys id s behind is = latest_kept (sps_in id) (blind_sps id) before xs ys s behind is

pub pps_kept : (before xs ys : List Reading) (id : ℕ) (p : List Item) → Behind before xs ys → stored_pps id xs ≡ Some p → stored_pps id ys ≡ Some p
pps_kept before xs ys id p behind is = latest_kept (pps_in id) (blind_pps id) before xs ys p behind is

pub aps_kept : (before xs ys : List Reading) (kind id : ℕ) (a : Aps) → Behind before xs ys → stored_aps kind id xs ≡ Some a
    → stored_aps kind id ys ≡ Some a
aps_kept before xs ys kind id a behind is = latest_kept (aps_in kind id) (blind_aps kind id) before xs ys a behind is

-- messages
gathered_one : (clvss : Bool) (poc : ℤ) (x : Reading) (xs ys : List Reading) → gathered ys ≡ gathered xs → gathered (again clvss poc x ∷ ys) ≡ gathered (x ∷ xs)
gathered_one clvss poc dropped xs ys same = same
gathered_one clvss poc (vps_read v) xs ys same = same
gathered_one clvss poc (sps_read s) xs ys same = same
gathered_one clvss poc (pps_read p) xs ys same = same
gathered_one clvss poc (aps_read a) xs ys same = same
gathered_one clvss poc (messages_read m) xs ys same = ap (λ l. l ++ m) same
gathered_one clvss poc (header_read b) xs ys same = same
gathered_one clvss poc (first_slice b k s) xs ys same = refl
gathered_one clvss poc (next_slice s) xs ys same = refl
gathered_one clvss poc sequence_ended xs ys same = same

pub gathered_behind : (before xs ys : List Reading) → gathered before ≡ [] → Behind before xs ys → gathered ys ≡ gathered xs
gathered_behind before [] ys none behind = ap gathered behind ∙ none
gathered_behind before (x ∷ xs) [] none behind = absurd behind
gathered_behind before (x ∷ xs) (y ∷ ys) none behind =
    ap (λ r. gathered (r ∷ ys)) behind.0.same ∙ gathered_one behind.0.clvss behind.0.poc x xs ys (gathered_behind before xs ys none behind.1)

-- an end of a sequence
pub ended_one : (x : Reading) (xs : List Reading) → x ≢ sequence_ended → is_ended xs ≡ false → is_ended (x ∷ xs) ≡ false
ended_one dropped xs other none = none
ended_one (vps_read v) xs other none = none
ended_one (sps_read s) xs other none = none
ended_one (pps_read p) xs other none = none
ended_one (aps_read a) xs other none = none
ended_one (messages_read m) xs other none = none
ended_one (header_read b) xs other none = none
ended_one (first_slice b k s) xs other none = refl
ended_one (next_slice s) xs other none = refl
ended_one sequence_ended xs other none = absurd (other refl)

no_end_again : (clvss : Bool) (poc : ℤ) (x : Reading) → x ≢ sequence_ended → again clvss poc x ≢ sequence_ended
no_end_again clvss poc dropped other same = absurd (other same)
no_end_again clvss poc (vps_read v) other same = absurd (other same)
no_end_again clvss poc (sps_read s) other same = absurd (other same)
no_end_again clvss poc (pps_read p) other same = absurd (other same)
no_end_again clvss poc (aps_read a) other same = absurd (other same)
no_end_again clvss poc (messages_read m) other same = absurd (other same)
no_end_again clvss poc (header_read b) other same = absurd (other same)
no_end_again clvss poc (first_slice b k s) other same = absurd (cc)
no_end_again clvss poc (next_slice s) other same = absurd (other same)
no_end_again clvss poc sequence_ended other same = absurd (other refl)

pub no_end : (x y : Reading) → IsAgain x y → x ≢ sequence_ended → y ≢ sequence_ended
no_end x y is other = λ same. no_end_again is.clvss is.poc x other (sym is.same ∙ same)

-- ---- pictures

-- a picture again, behind others
pub record PictureAgain (before : List Reading) (p q : Picture) : Type 0 where
  pub clvss : Bool
  pub poc : ℤ
  pub begun : q.begun ≡ p.begun
  pub kind : q.kind ≡ record p.kind { clvss = clvss; poc = poc }
  pub slices : q.slices ≡ p.slices
  pub behind : Behind before p.before q.before

-- what was begun last: nothing, and then no picture lacks a slice; or the same
abbrev pub CurrentAgain : List Reading → Current → Current → Type 0
CurrentAgain before nothing c = is_open c ≡ false
CurrentAgain before (headed b) c = c ≡ headed b
CurrentAgain before (going p) c = (q : Picture) × (c ≡ going q) × PictureAgain before p q

pub whole_again : (before : List Reading) (p q : Picture) → PictureAgain before p q → is_whole q ≡ is_whole p
whole_again before p q is =
    ap (λ (l : List Slice). length l == length q.begun.layout.slices) is.slices ∙ ap (λ (b : Begun). length p.slices == length b.layout.slices) is.begun

-- a further slice comes only behind slices of a picture
abbrev pub Fits : Reading → Current → Type 0
Fits (next_slice s) c = (p : Picture) × (c ≡ going p)
Fits _ c = Unit {0}

with_one : (before : List Reading) (s : Slice) (c d : Current) (p : Picture) → c ≡ going p → CurrentAgain before c d → CurrentAgain before (with_slice s c) (with_slice s d)
with_one before s nothing d p is same = absurd (cc)
with_one before s (headed b) d p is same = absurd (cc)
with_one before s (going o) d p is same =
    let q = same.0 in
    let it : PictureAgain before o q = same.2 in (
      record q { slices = q.slices ++ s ∷ [] },
      ap (with_slice s) same.1,
      record {
        clvss = it.clvss;
        poc = it.poc;
        begun = it.begun;
        kind = it.kind;
        slices = ap (λ (l : List Slice). l ++ s ∷ []) it.slices;
        behind = it.behind;
      },
    )

pub current_one : (before : List Reading) (clvss : Bool) (poc : ℤ) (x : Reading) (xs ys : List Reading) → Behind before xs ys → Fits x (current xs)
    → CurrentAgain before (current xs) (current ys) → CurrentAgain before (current (x ∷ xs)) (current (again clvss poc x ∷ ys))
current_one before clvss poc dropped xs ys behind fits same = same
current_one before clvss poc (vps_read v) xs ys behind fits same = same
current_one before clvss poc (sps_read s) xs ys behind fits same = same
current_one before clvss poc (pps_read p) xs ys behind fits same = same
current_one before clvss poc (aps_read a) xs ys behind fits same = same
current_one before clvss poc (messages_read m) xs ys behind fits same = same
current_one before clvss poc (header_read b) xs ys behind fits same = refl
current_one before clvss poc (first_slice b k s) xs ys behind fits same = (
  record { begun = b; kind = record k { clvss = clvss; poc = poc }; before = ys; slices = s ∷ [] },
  refl,
  record { clvss = clvss; poc = poc; begun = refl; kind = refl; slices = refl; behind = behind },
)
current_one before clvss poc (next_slice s) xs ys behind fits same = with_one before s (current xs) (current ys) fits.0 fits.1 same
current_one before clvss poc sequence_ended xs ys behind fits same = same

-- the pictures behind those of others
pub record PicturesAgain (before : List Reading) (ps others : List Picture) : Type 0 where
  pub qs : List Picture
  pub are : others ≡ qs ++ pictures before
  pub each : AllZip (PictureAgain before) ps qs

whole_one : (before : List Reading) (w : Bool) (p q : Picture) (ps others : List Picture) → PictureAgain before p q → PicturesAgain before ps others
    → PicturesAgain before (cond w (p ∷ []) [] ++ ps) (cond w (q ∷ []) [] ++ others)
whole_one before true p q ps others is all = record { qs = q ∷ all.qs; are = ap (λ (l : List Picture). q ∷ l) all.are; each = (is, all.each) }
whole_one before false p q ps others is all = all

added : (before : List Reading) (c d : Current) (p : Picture) (ps others : List Picture) → c ≡ going p → CurrentAgain before c d → PicturesAgain before ps others
    → PicturesAgain before (picture_if_whole c ++ ps) (picture_if_whole d ++ others)
added before nothing d p ps others is same all = absurd (cc)
added before (headed b) d p ps others is same all = absurd (cc)
added before (going o) d p ps others is same all =
    let q = same.0 in
    let whole = whole_again before o q same.2 in
    subst (λ (e : Current). PicturesAgain before (picture_if_whole (going o) ++ ps) (picture_if_whole e ++ others)) (sym same.1)
    (subst (λ w. PicturesAgain before (picture_if_whole (going o) ++ ps) (cond w (q ∷ []) [] ++ others)) (sym whole)
    (whole_one before (is_whole o) o q ps others same.2 all))

going_with : (s : Slice) (c : Current) (p : Picture) → c ≡ going p → (o : Picture) × (with_slice s c ≡ going o)
going_with s nothing p is = absurd (cc)
going_with s (headed b) p is = absurd (cc)
going_with s (going o) p is = (record o { slices = o.slices ++ s ∷ [] }, refl)

pub pictures_one : (before : List Reading) (clvss : Bool) (poc : ℤ) (x : Reading) (xs ys : List Reading) → Behind before xs ys → Fits x (current xs)
    → CurrentAgain before (current xs) (current ys) → PicturesAgain before (pictures xs) (pictures ys)
    → PicturesAgain before (pictures (x ∷ xs)) (pictures (again clvss poc x ∷ ys))
pictures_one before clvss poc dropped xs ys behind fits same all = all
pictures_one before clvss poc (vps_read v) xs ys behind fits same all = all
pictures_one before clvss poc (sps_read s) xs ys behind fits same all = all
pictures_one before clvss poc (pps_read p) xs ys behind fits same all = all
pictures_one before clvss poc (aps_read a) xs ys behind fits same all = all
pictures_one before clvss poc (messages_read m) xs ys behind fits same all = all
pictures_one before clvss poc (header_read b) xs ys behind fits same all = all
pictures_one before clvss poc (first_slice b k s) xs ys behind fits same all =
    added before (current (first_slice b k s ∷ xs)) (current (again clvss poc (first_slice b k s) ∷ ys)) _ (pictures xs) (pictures ys) refl
    (current_one before clvss poc (first_slice b k s) xs ys behind tt same) all
pictures_one before clvss poc (next_slice s) xs ys behind fits same all =
    let on = going_with s (current xs) fits.0 fits.1 in
    added before (with_slice s (current xs)) (with_slice s (current ys)) on.0 (pictures xs) (pictures ys) on.1 (with_one before s (current xs) (current ys) fits.0 fits.1 same) all
pictures_one before clvss poc sequence_ended xs ys behind fits same all = all

-- ---- all of it

-- readings, alone and behind others
pub record Stands (before xs ys : List Reading) : Type 0 where
  pub behind : Behind before xs ys
  pub ended : is_ended xs ≡ false
  pub still : is_ended ys ≡ false
  pub current : CurrentAgain before (current xs) (current ys)
  pub pictures : PicturesAgain before (pictures xs) (pictures ys)

pub nothing_read : (before : List Reading) → Rests before → Stands before [] before
nothing_read before rests = record {
  behind = refl;
  ended = refl;
  still = rests.goes_on;
  current = rests.closed;
  pictures = record { qs = []; are = refl; each = tt };
}

pub stands_one : (before xs ys : List Reading) (x y : Reading) → Stands before xs ys → IsAgain x y → x ≢ sequence_ended → Fits x (current xs)
    → Stands before (x ∷ xs) (y ∷ ys)
stands_one before xs ys x y stands is other fits = record {
  behind = (is, stands.behind);
  ended = ended_one x xs other stands.ended;
  still = ended_one y ys (no_end x y is other) stands.still;
  current = subst (λ r. CurrentAgain before (current (x ∷ xs)) (current (r ∷ ys))) (sym is.same)
      (current_one before is.clvss is.poc x xs ys stands.behind fits stands.current);
  pictures = subst (λ r. PicturesAgain before (pictures (x ∷ xs)) (pictures (r ∷ ys))) (sym is.same)
      (pictures_one before is.clvss is.poc x xs ys stands.behind fits stands.current stands.pictures);
}
