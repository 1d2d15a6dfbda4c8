-- The pictures up to a TemporalId, of which none that is left out starts a coded layer video sequence, are finished.
use Rattle.std.proofs.Common.{◌≡◌, ℕ, ◌<◌, Bool, true, false, cond, ◌&&◌, ◌||◌, List, [], ◌∷◌, Some, find, refl, sym, ◌∙◌, ap, subst, inl, inr, arith}
use Rattle.std.specs.Prelude.{nat_le}
use Rattle.std.specs.List.{AllByRecursion}
use Rattle.std.proofs.lemmas.Bool.{cases_Bool, le-leb, not-false, true≢false}
use Rattle.std.proofs.lemmas.Bool.Decides.{nat_tests, eqb_tells}
use Rattle.vx_bits.specs.declared.list.Item.{Item}
use Rattle.vx_pic.specs.declared.kind.Kind.{Kind}
use Rattle.vx_pic.specs.Units.{is_cra_or_gdr, is_idr, is_irap_or_gdr}
use Rattle.vx_pic.specs.Sets.{same_items}
use Rattle.vx_pic.specs.Readings.{Begun, Picture}
use Rattle.vx_pic.specs.Counts.{begins_anew, counts_or_none, is_changed, is_empty, is_tid0_picture, kind_of, previous}
use Rattle.vx_pic.specs.Rules.{Readers}
use Rattle.vx_pic.specs.Alike.{IsNext}
use Rattle.vx_pic.specs.Written.{SliceReads}
use Rattle.vx_pic.specs.Finished.{AreFinished, IsSoundPicture}
use Rattle.vx_pic.specs.Sublayers.{AllAreKept, KeepsStarts, KeptAreFinished, at_most}
use Rattle.vx_pic.proofs.Sent.{items_are}

-- ---- a picture that starts nothing

or_right : (a b : Bool) → b ≡ true → (a || b) ≡ true
or_right true b h = refl
or_right false b h = h

-- is not the first
not_first : (earlier : List Picture) (b : Begun) (k : Kind) → IsNext earlier b k → is_irap_or_gdr k.nal_type ≡ false → is_empty earlier ≡ false
not_first earlier b k next other = elim (cases_Bool (is_empty earlier)) [
  | inl none ↦ absurd (true≢false (sym (next.begins (or_right k.after_eos (is_empty earlier) none)) ∙ other))
  | inr some ↦ some
]

not_clvss : (idr cra anew : Bool) → (idr || cra) ≡ false → (idr || (cra && anew)) ≡ false
not_clvss true cra anew other = absurd (true≢false other)
not_clvss false true anew other = absurd (true≢false other)
not_clvss false false anew other = refl

-- and starts no coded layer video sequence
no_start : (earlier : List Picture) (b : Begun) (k : Kind) → IsNext earlier b k → is_irap_or_gdr k.nal_type ≡ false → k.clvss ≡ false
no_start earlier b k next other =
    ap (λ (j : Kind). j.clvss) next.kind ∙ not_clvss (is_idr k.nal_type) (is_cra_or_gdr k.nal_type) (begins_anew earlier k.after_eos) other

-- ---- pictures that are left out

above : (n tid : ℕ) → nat_le n tid ≡ false → tid < n
above n tid is = grind (arith, nat_tests)

module _ (tid : ℕ) where
  -- with one more, where it is kept
  abbrev with_kept : Bool → Picture → List Picture → List Picture
  with_kept k p ps = cond k (p ∷ at_most tid ps) (at_most tid ps)

  -- none of them is prevTid0Pic
  not_tid0 : (p : Picture) → nat_le p.kind.temporal_id tid ≡ false → is_tid0_picture p ≡ false
  not_tid0 p out = elim (eqb_tells p.kind.temporal_id 0) [
    | inl none ↦ let more = above p.kind.temporal_id tid out in absurd (omega (arith, more, none.1))
    | inr some ↦ rw some.0 refl
  ]

  same_found : (ps : List Picture) → find is_tid0_picture (at_most tid ps) ≡ find is_tid0_picture ps
  same_found [] = refl
  same_found (p ∷ ps) = elim (cases_Bool (nat_le p.kind.temporal_id tid)) [
    | inl on ↦ ap (λ k. find is_tid0_picture (with_kept k p ps)) on ∙ ap (λ o. cond (is_tid0_picture p) (Some p) o) (same_found ps)
    | inr out ↦
        ap (λ k. find is_tid0_picture (with_kept k p ps)) out
        ∙ (same_found ps ∙ sym (ap (λ b. cond b (Some p) (find is_tid0_picture ps)) (not_tid0 p out)))
  ]

  module _ (R : Readers) where
    -- none of them is the first
    same_empty : (ps : List Picture) → AreFinished R ps → KeepsStarts tid ps → is_empty (at_most tid ps) ≡ is_empty ps
    same_empty [] finished starts = refl
    same_empty (p ∷ ps) (sound, whole, finished) (start, starts) = elim (cases_Bool (nat_le p.kind.temporal_id tid)) [
      | inl on ↦ ap (λ k. is_empty (with_kept k p ps)) on
      | inr out ↦
          ap (λ k. is_empty (with_kept k p ps)) out
          ∙ (same_empty ps finished starts ∙ not_first ps p.begun p.kind sound.next (start out))
    ]

    -- each has the SPS of the picture before it
    same_sps : (ps : List Picture) (sps : List Item) → AreFinished R ps → KeepsStarts tid ps → is_changed ps sps ≡ false → is_changed (at_most tid ps) sps ≡ false
    same_sps [] sps finished starts same = refl
    same_sps (p ∷ ps) sps (sound, whole, finished) (start, starts) same = elim (cases_Bool (nat_le p.kind.temporal_id tid)) [
      | inl on ↦ ap (λ k. is_changed (with_kept k p ps) sps) on ∙ same
      | inr out ↦
          let own = same_sps ps p.begun.sps finished starts (sound.next.same (no_start ps p.begun p.kind sound.next (start out))) in
          let one = items_are p.begun.sps sps (not-false (same_items p.begun.sps sps) same) in
          ap (λ k. is_changed (with_kept k p ps) sps) out ∙ subst (λ (s : List Item). is_changed (at_most tid ps) s ≡ false) one own
    ]

    module _ (earlier : List Picture) (finished : AreFinished R earlier) (starts : KeepsStarts tid earlier) where
      same_kind : (b : Begun) (ended : Bool) (t n : ℕ) → kind_of (at_most tid earlier) ended b t n ≡ kind_of earlier ended b t n
      same_kind b ended t n =
          let counts : previous (at_most tid earlier) ≡ previous earlier = ap counts_or_none (same_found earlier) in
          rw (same_empty earlier finished starts, counts) refl

      kept_next : (b : Begun) (k : Kind) → IsNext earlier b k → IsNext (at_most tid earlier) b k
      kept_next b k next = record {
        ends = λ h. same_empty earlier finished starts ∙ next.ends h;
        kind = next.kind ∙ sym (same_kind b k.after_eos k.nal_type k.temporal_id);
        begins = λ h. next.begins (ap (λ e. k.after_eos || e) (sym (same_empty earlier finished starts)) ∙ h);
        same = λ h. same_sps earlier b.sps finished starts (next.same h);
        fits = next.fits;
      }

      kept_sound : (p : Picture) → IsSoundPicture R earlier p → IsSoundPicture R (at_most tid earlier) p
      kept_sound p sound = record {
        first = sound.first;
        more = sound.more;
        slices = sound.slices;
        head = sound.head;
        refers = sound.refers;
        outside = sound.outside;
        each = sound.each;
        order = sound.order;
        bodies = sound.bodies;
        size = sound.size;
        messages = sound.messages;
        tid = sound.tid;
        next = kept_next p.begun p.kind sound.next;
      }

    all_finished : (ps : List Picture) → AreFinished R ps → KeepsStarts tid ps → AreFinished R (at_most tid ps)
    all_finished [] finished starts = tt
    all_finished (p ∷ ps) (sound, whole, finished) (start, starts) =
        let front = all_finished ps finished starts in
        elim (cases_Bool (nat_le p.kind.temporal_id tid)) [
          | inl on ↦ subst (λ (k : Bool). AreFinished R (with_kept k p ps)) (sym on) (kept_sound ps finished starts p sound, whole, front)
          | inr out ↦ subst (λ (k : Bool). AreFinished R (with_kept k p ps)) (sym out) front
        ]

pub kept_are_finished : KeptAreFinished
kept_are_finished R tid ps finished starts = all_finished tid R ps finished starts

-- ---- all pictures

-- TemporalId of a picture that was read
pub low_tid : (R : Readers) (earlier : List Picture) (p : Picture) → IsSoundPicture R earlier p → p.kind.temporal_id < 7
low_tid R earlier p sound =
    let each = subst (λ xs. AllByRecursion (SliceReads R p.begun p.kind.nal_type) xs) sound.slices sound.each in
    let at = each.0.tid in
    omega (arith, at, sound.tid)

pub all_are_kept : AllAreKept
all_are_kept R [] finished = (tt, refl)
all_are_kept R (p ∷ ps) (sound, whole, finished) =
    let low = low_tid R ps p sound in
    let on = le-leb p.kind.temporal_id 6 (omega (arith, low)) in
    let rest = all_are_kept R ps finished in
    ((λ out. absurd (true≢false (sym on ∙ out)), rest.0), ap (λ k. with_kept 6 k p ps) on ∙ ap (λ l. p ∷ l) rest.1)
