-- What lies in order does with one thing more.
use Rattle.std.proofs.Common.{◌≡◌, ℕ, Bool, true, false, ◌&&◌, List, length, refl, sym, ◌∙◌, ap, subst}
use Rattle.std.specs.Prelude.{Option, Some, None}
use Rattle.std.specs.List.{slice_index_or}
use Rattle.std.proofs.lemmas.Bool.{eqb-true}
use Rattle.vx_bits.specs.declared.list.Item.{Item}
use Rattle.vx_aps.specs.declared.aps.Aps.{Aps}
use Rattle.vx_aps.specs.Aps.{IsValid}
use Rattle.vx_assemble.specs.declared.state.BegunPicture.{BegunPicture}
use Rattle.vx_assemble.specs.declared.state.CurrentPicture.{CurrentPicture}
use Rattle.vx_assemble.specs.declared.state.MadeSets.{MadeSets}
use Rattle.vx_assemble.specs.declared.state.State.{State}
use Rattle.vx_assemble.specs.inner.Held.{last_held}
use Rattle.vx_assemble.specs.inner.Order.{AreKept, AreUnder, begun_sps, IsOrdered, IsInOrder}
use Rattle.vx_assemble.specs.inner.Stored.{KeepsMade}
use Rattle.vx_assemble.proofs.InForce.{stored}
use Rattle.vx_assemble.specs.inner.Beginning.{AreInForce}
use Rattle.vx_pic.specs.Sets.{referred_sps}
use Rattle.vx_assemble.proofs.Steps.{same_some}
use Rattle.vx_assemble.specs.inner.Changes.{is_made, with_items, with_sps, with_pps, with_aps, with_end, with_header, with_picture, with_begun}
use Rattle.vx_assemble.proofs.Bodies.{put_bodies}

pub items_ordered : (items : List Item) (s : State) → IsInOrder s → IsInOrder (with_items items s)
items_ordered items s o = record { sps = o.sps; pps = o.pps; aps = o.aps; made = o.made; under = o.under; known = o.known; picture = o.picture; spelled = o.spelled; gathered = o.gathered }

-- what holds where no sets are made holds of what is kept
kept_with : {S M : Type 0} (old new : List (Option S)) (made made' : Option M) (P : List (Option S) → Option M → Type 0) → ((l : List (Option S)) → P l None)
    → KeepsMade old new made made' → P old made → P new made'
kept_with old new made None P none keeps is = none new
kept_with old new made (Some m) P none keeps is = rw keeps.0 (subst (P old) keeps.1 is)

pub sps_ordered : (s : State) (sets : List (Option (List Item))) (made : Option MadeSets) → IsInOrder s → length sets ≡ length s.sps
    → KeepsMade s.sps sets s.made made → IsInOrder (with_sps sets made s)
sps_ordered s sets made o places keeps = record {
  sps = places ∙ o.sps;
  pps = o.pps;
  aps = o.aps;
  made = kept_with s.sps sets s.made made (λ l m. AreKept l s.pps m) (λ l. tt) keeps o.made;
  under = kept_with s.sps sets s.made made (λ l m. AreUnder (begun_sps s.picture.stage) m) (λ l. tt) keeps o.under;
  known = o.known;
  picture = o.picture;
  spelled = o.spelled;
  gathered = o.gathered;
}

pub pps_ordered : (s : State) (sets : List (Option (List Item))) (made : Option MadeSets) → IsInOrder s → length sets ≡ length s.pps
    → KeepsMade s.pps sets s.made made → IsInOrder (with_pps sets made s)
pps_ordered s sets made o places keeps = record {
  sps = o.sps;
  pps = places ∙ o.pps;
  aps = o.aps;
  made = kept_with s.pps sets s.made made (λ l m. AreKept s.sps l m) (λ l. tt) keeps o.made;
  under = kept_with s.pps sets s.made made (λ l m. AreUnder (begun_sps s.picture.stage) m) (λ l. tt) keeps o.under;
  known = o.known;
  picture = o.picture;
  spelled = o.spelled;
  gathered = o.gathered;
}

pub aps_ordered : (a : Aps) (s : State) → IsValid a → IsInOrder s → IsInOrder (with_aps a s)
aps_ordered a s valid o = record {
  sps = o.sps;
  pps = o.pps;
  aps = put_bodies a s.aps valid o.aps;
  made = o.made;
  under = o.under;
  known = o.known;
  picture = o.picture;
  spelled = o.spelled;
  gathered = o.gathered;
}

pub end_ordered : (s : State) → IsInOrder s → IsInOrder (with_end s)
end_ordered s o = record { sps = o.sps; pps = o.pps; aps = o.aps; made = o.made; under = o.under; known = o.known; picture = o.picture; spelled = o.spelled; gathered = o.gathered }

pub picture_ordered : (c : CurrentPicture) (s : State) → IsInOrder s → IsOrdered c → begun_sps s.picture.stage ≡ begun_sps c.stage
    → IsInOrder (with_picture c s)
picture_ordered c s o is same = record {
  sps = o.sps;
  pps = o.pps;
  aps = o.aps;
  made = o.made;
  under = subst (λ x. AreUnder x s.made) same o.under;
  known = λ t. o.known t ∙ same;
  picture = is;
  spelled = o.spelled;
  gathered = o.gathered;
}

-- where the sets that a header refers to are kept, its SPS is theirs
kept_sps : (s : State) (b : BegunPicture) (made : Option MadeSets) (sps : Option (List Item)) → AreKept s.sps s.pps made → AreUnder sps made
    → AreInForce s b.pps_id b.sets → is_made b.pps_id made ≡ true → sps ≡ Some b.sets.sps
kept_sps s b None sps kept under are is = absurd (let e : false ≡ true = is in cc)
kept_sps s b (Some m) sps kept under are is =
    let own = stored s b.pps_id b.sets are in
    let pps : Some m.sets.pps ≡ Some b.sets.pps =
    sym kept.pps_stored ∙ ap (λ i. slice_index_or s.pps i None) (eqb-true m.id b.pps_id is) ∙ own.pps_stored in
    under ∙ sym kept.sps_stored ∙ ap (λ p. slice_index_or s.sps (referred_sps p) None) (same_some m.sets.pps b.sets.pps pps) ∙ own.sps_stored

begun_known : (s : State) (b : BegunPicture) → IsInOrder s → AreInForce s b.pps_id b.sets → (t w : Bool) → s.unchanged ≡ t → is_made b.pps_id s.made ≡ w
    → (t && w) ≡ true → last_held s ≡ Some b.sets.sps
begun_known s b o are true w unchanged made is =
    o.known unchanged ∙ kept_sps s b s.made (begun_sps s.picture.stage) o.made o.under are (made ∙ is)
begun_known s b o are false w unchanged made is = absurd (let e : false ≡ true = is in cc)

pub start_ordered : (b : BegunPicture) (u : List ℕ) (s : State) → IsInOrder s → AreInForce s b.pps_id b.sets → IsOrdered (with_header b u s.picture)
    → IsInOrder (with_begun b u s)
start_ordered b u s o are is = record {
  sps = o.sps;
  pps = o.pps;
  aps = o.aps;
  made = stored s b.pps_id b.sets are;
  under = refl;
  known = begun_known s b o are s.unchanged (is_made b.pps_id s.made) refl refl;
  picture = is;
  spelled = o.spelled;
  gathered = o.gathered;
}
