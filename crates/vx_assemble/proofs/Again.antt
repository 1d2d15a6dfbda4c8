-- A parameter set that is stored; one that is sent again is kept as it is.
use Rattle.std.proofs.Common.{◌≡◌, ◌<◌, ℕ, List, length, length-set, refl, sym, ◌∙◌, ap, subst, inl, inr, cond, Bool, true, false, Result, Ok}
use Rattle.std.specs.Prelude.{◌==◌, Option, Some, None, slice_set}
use Rattle.std.specs.Bool.{OnTrue}
use Rattle.std.specs.Option.{option_or}
use Rattle.std.specs.List.{slice_index_or}
use Rattle.std.proofs.lemmas.Bool.Decides.{eqb_tells}
use Rattle.std.proofs.lemmas.Grind.{get_or-set_at}
use Rattle.std.proofs.lemmas.List.{get_or-set_other}
use Rattle.vx_bits.specs.declared.list.Item.{Item}
use Rattle.vx_bits.specs.declared.refusal.Refusal.{Refusal}
use Rattle.vx_pic.specs.Sets.{same_items}
use Rattle.vx_pic.specs.Rules.{Readers}
use Rattle.vx_pic.specs.H266.{AnswersAt, AreOfH266}
use Rattle.vx_sps.specs.Structure.{sps_form}
use Rattle.vx_pps.specs.Pps.{pps_form}
use Rattle.vx_table.specs.Forms.{Form}
use Rattle.vx_table.specs.ReadFrom.{IsReadFrom}
use Rattle.vx_table.specs.Reading.{at_front}
use Rattle.vx_assemble.specs.inner.Stored.{IsReadAs, IsSentAgain, KeepsMade, IsPut}
use Rattle.vx_assemble.proofs.Answers.{gives_value}
use Rattle.vx_pic.proofs.Sent.{items_are}

-- ---- whether a set is stored

pub is_again : {S : Type 0} (reads : Readers → List ℕ → Result S Refusal) (id_of : S → ℕ) (sets : List (Option S)) (rbsp : List ℕ) (id n : ℕ) (set : S)
    → slice_index_or sets id None ≡ Some set → IsReadAs reads set rbsp → n ≡ id_of set → n ≡ id → IsSentAgain reads id_of sets rbsp id
is_again reads id_of sets rbsp id n set stored of own same = record { set = set; stored = stored; own = sym same ∙ own; read = of }

pub is_there : {S : Type 0} (sets : List (Option S)) (id : ℕ) (stored set : S) → slice_index_or sets id None ≡ Some stored → stored ≡ set
    → slice_index_or sets id None ≡ Some set
is_there sets id stored set is same = is ∙ ap Some same

pub same_sets : (a b : List Item) (t : Bool) → t ≡ same_items a b → t ≡ true → a ≡ b
same_sets a b t said is = items_are a b (sym said ∙ is)

read_again : {A : Type 0} (form : Form A) (reads : Readers → List ℕ → Result (List Item) Refusal) (items : List Item) (known : Option (List ℕ)) (rbsp : List ℕ) (t : Bool)
    → ((R : Readers) → AreOfH266 R → AnswersAt form (at_front rbsp) (reads R rbsp)) → IsReadFrom form known items → OnTrue t (known ≡ Some rbsp)
    → OnTrue t (IsReadAs reads items rbsp)
read_again form reads items known rbsp false are read same = tt
read_again form reads items known rbsp true are read same = λ (R : Readers) (of : AreOfH266 R).
    gives_value form rbsp (reads R rbsp) (Ok items) (are R of) (subst (λ (x : Option (List ℕ)). IsReadFrom form x items) same read)

pub sps_read_again : (items : List Item) (known : Option (List ℕ)) (rbsp : List ℕ) (t : Bool) → IsReadFrom sps_form known items → OnTrue t (known ≡ Some rbsp)
    → OnTrue t (IsReadAs (λ R b. R.sps b) items rbsp)
sps_read_again items known rbsp t = read_again sps_form (λ R b. R.sps b) items known rbsp t (λ R of. of.sps rbsp)

pub pps_read_again : (items : List Item) (known : Option (List ℕ)) (rbsp : List ℕ) (t : Bool) → IsReadFrom pps_form known items → OnTrue t (known ≡ Some rbsp)
    → OnTrue t (IsReadAs (λ R b. R.pps b) items rbsp)
pps_read_again items known rbsp t = read_again pps_form (λ R b. R.pps b) items known rbsp t (λ R of. of.pps rbsp)

-- ---- what is stored then

-- what stands at a place is put there again
stands_again : {S : Type 0} (sets : List (Option S)) (id n : ℕ) (set : S) → slice_index_or sets id None ≡ Some set
    → slice_index_or sets n None ≡ option_or (cond (id == n) (Some set) None) (slice_index_or sets n None)
stands_again sets id n set here = elim (eqb_tells id n) [
  | inl same ↦ rw same.0 (subst (λ k. slice_index_or sets k None ≡ Some set) same.1 here)
  | inr other ↦ rw other.0 refl
]

-- another one is put there
stands_new : {S : Type 0} (sets : List (Option S)) (id n : ℕ) (set : S) → id < length sets
    → slice_index_or (slice_set sets id (Some set)) n None ≡ option_or (cond (id == n) (Some set) None) (slice_index_or sets n None)
stands_new sets id n set within = elim (eqb_tells id n) [
  | inl same ↦ rw same.0 (get_or-set_at sets id n (Some set) None (sym same.1) within)
  | inr other ↦ rw other.0 (get_or-set_other sets id n (Some set) None (λ e. other.1 (sym e)))
]

keeps_same : {S M : Type 0} (sets : List (Option S)) (made : Option M) → KeepsMade sets sets made made
keeps_same sets None = tt
keeps_same sets (Some m) = (refl, refl)

pub put_again : {S M : Type 0} (reads : Readers → List ℕ → Result S Refusal) (id_of : S → ℕ) (sets : List (Option S)) (made : Option M) (rbsp : List ℕ) (id : ℕ)
    → IsSentAgain reads id_of sets rbsp id → IsPut reads id_of sets sets made made rbsp id
put_again reads id_of sets made rbsp id is = record {
  set = is.set;
  read = is.read;
  own = is.own;
  stands = λ n. stands_again sets (id_of is.set) n is.set (subst (λ k. slice_index_or sets k None ≡ Some is.set) is.own is.stored);
  places = refl;
  kept = keeps_same sets made;
}

pub put_stored : {S M : Type 0} (reads : Readers → List ℕ → Result S Refusal) (id_of : S → ℕ) (sets : List (Option S)) (made : Option M) (rbsp : List ℕ) (id : ℕ) (set : S)
    → slice_index_or sets id None ≡ Some set → id ≡ id_of set → IsReadAs reads set rbsp → IsPut reads id_of sets sets made made rbsp id
put_stored reads id_of sets made rbsp id set stored own of =
    put_again reads id_of sets made rbsp id (record { set = set; stored = stored; own = own; read = of })

pub put_new : {S M : Type 0} (reads : Readers → List ℕ → Result S Refusal) (id_of : S → ℕ) (sets : List (Option S)) (made : Option M) (rbsp : List ℕ) (id : ℕ) (set : S)
    → id < length sets → id ≡ id_of set → IsReadAs reads set rbsp → IsPut reads id_of sets (slice_set sets id (Some set)) made None rbsp id
put_new reads id_of sets made rbsp id set within own of = record {
  set = set;
  read = of;
  own = own;
  stands = λ n. subst (λ k. slice_index_or (slice_set sets id (Some set)) n None ≡ option_or (cond (k == n) (Some set) None) (slice_index_or sets n None)) own
      (stands_new sets id n set within);
  places = length-set sets id (Some set);
  kept = tt;
}
