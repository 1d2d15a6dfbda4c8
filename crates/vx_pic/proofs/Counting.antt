-- Pictures that are alike have the same counts.
use Rattle.std.proofs.Common.{◌≡◌, ℕ, ℤ, pos, ◌+ℤ◌, Bool, cond, ◌||◌, List, [], ◌∷◌, refl, sym, ◌∙◌, ap, inl, inr, find}
use Rattle.std.specs.Prelude.{Option, Some}
use Rattle.std.proofs.lemmas.Bool.{cases_Bool}
use Rattle.vx_pic.specs.Readings.{Begun, Picture}
use Rattle.vx_pic.specs.Counts.{is_tid0_picture, Previous, counts_of, counts_or_none, previous, msb_by, is_empty, kind_of}
use Rattle.vx_pic.specs.Alike.{AlikeForCounts, AreAlike, AlikeIsNext}

-- both can be prevTid0Pic, or none
same_tid0 : (p q : Picture) → p.kind ≡ q.kind → AlikeForCounts p.begun q.begun → is_tid0_picture p ≡ is_tid0_picture q
same_tid0 p q kind alike = rw (kind, alike.non_ref) refl

same_counts : (p q : Picture) → p.kind ≡ q.kind → AlikeForCounts p.begun q.begun → counts_of p ≡ counts_of q
same_counts p q kind alike = rw (kind, alike.lsb) refl

pub same_previous : (ps qs : List Picture) → AreAlike ps qs → previous ps ≡ previous qs
same_previous [] [] alike = refl
same_previous [] (q ∷ qs) alike = absurd alike
same_previous (p ∷ ps) [] alike = absurd alike
same_previous (p ∷ ps) (q ∷ qs) alike =
    let same = same_tid0 p q alike.0 alike.1 in
    elim (cases_Bool (is_tid0_picture q)) [
      | inl can ↦
          ap (λ b. counts_or_none (cond b (Some p) (find is_tid0_picture ps))) (same ∙ can)
          ∙ same_counts p q alike.0 alike.1
          ∙ sym (ap (λ b. counts_or_none (cond b (Some q) (find is_tid0_picture qs))) can)
      | inr other ↦
          ap (λ b. counts_or_none (cond b (Some p) (find is_tid0_picture ps))) (same ∙ other)
          ∙ same_previous ps qs alike.2
          ∙ sym (ap (λ b. counts_or_none (cond b (Some q) (find is_tid0_picture qs))) other)
    ]

same_empty : (ps qs : List Picture) → AreAlike ps qs → is_empty ps ≡ is_empty qs
same_empty [] [] alike = refl
same_empty [] (q ∷ qs) alike = absurd alike
same_empty (p ∷ ps) [] alike = absurd alike
same_empty (p ∷ ps) (q ∷ qs) alike = refl

-- the count, as a function of what headers tell and of the picture before
abbrev counted : Option ℕ → Bool → ℕ → ℕ → Previous → ℤ
counted cycle clvss max lsb a = msb_by cycle clvss max lsb a +ℤ pos lsb

pub same_kind : (ps qs : List Picture) (b c : Begun) (ended : Bool) (t tid : ℕ) → AreAlike ps qs → AlikeForCounts b c
    → kind_of ps ended b t tid ≡ kind_of qs ended c t tid
same_kind ps qs b c ended t tid alike same =
    rw (same_empty ps qs alike, same_previous ps qs alike, same.lsb, same.cycle, same.max) refl

pub alike_is_next : AlikeIsNext
alike_is_next ps qs b c k alike same keeps next = record {
  ends = λ h. sym (same_empty ps qs alike) ∙ next.ends h;
  kind = next.kind ∙ same_kind ps qs b c k.after_eos k.nal_type k.temporal_id alike same;
  begins = λ h. next.begins (ap (λ e. k.after_eos || e) (same_empty ps qs alike) ∙ h);
  same = keeps;
  fits = next.fits;
}
