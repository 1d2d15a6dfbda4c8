-- A walk of a reader gives what the relations say.
use Rattle.std.proofs.Common.{◌≡◌, inl, inr, ℕ, ℤ, Bool, List, [], ◌∷◌, ◌++◌, Result, Ok, Err, refl, ap, sym, subst, ◌∙◌, ◌*◌, length}
use Rattle.std.proofs.lemmas.List.{append-nil, append_assoc}
use Rattle.std.specs.Prelude.{OnOk}
use Rattle.vx_bits.specs.declared.list.Item.{Item}
use Rattle.vx_bits.specs.declared.refusal.Refusal.{Refusal}
use Rattle.vx_bits.specs.declared.refusal.ReadError.{ReadError}
use Rattle.vx_bits.specs.declared.refusal.ReadError.TheVariants as errors
use Rattle.vx_bits.specs.Codes.{bits_of}
use Rattle.vx_bits.specs.Place.{Place}
use Rattle.vx_table.specs.declared.rows.Cell.{Cell}
use Rattle.vx_table.specs.Forms.{Form, done, field}
use Rattle.vx_table.specs.Walks.{Walks, ended, coded, refused, leaving}
use Rattle.vx_table.specs.Spelling.{BeginsField, Spells, at_end, behind, Reaches, here, later, IsRefusedField, item_of, items_along}
use Rattle.vx_table.specs.Values.{Follows, to_end, through}
use Rattle.vx_table.specs.Reading.{at_front, ReadsField, IsFound, StopsAt, IsFirstRefusal, IsAnswered, IsRefusedWith, Reads, LeadsTo}
use Rattle.vx_table.proofs.Codings.{begins_code_apart, begins_field_not_refused, refused_once}
use Rattle.vx_table.proofs.Spelled.{is_value}

-- the same at an equal total
spells_at : {A : Type 0} {f : Form A} {w : List ℤ} {left rest : List Bool} (s t : ℕ) → s ≡ t → Spells s f w left rest → Spells t f w left rest
spells_at {f} {w} {left} {rest} s t e h = subst (λ x. Spells x f w left rest) e h

reaches_at : {A : Type 0} {f : Form A} {w : List ℤ} {left rest : List Bool} {cell : Cell ℕ} (s t : ℕ) → s ≡ t → Reaches s f w left cell rest → Reaches t f w left cell rest
reaches_at {f} {w} {left} {rest} {cell} s t e h = subst (λ x. Reaches x f w left cell rest) e h

refused_at : {cell : Cell ℕ} {rest : List Bool} {r : Refusal} (s t : ℕ) → s ≡ t → IsRefusedField cell s rest r → IsRefusedField cell t rest r
refused_at {cell} {rest} {r} s t e h = subst (λ x. IsRefusedField cell x rest r) e h

-- the items of values behind one more
one_more : {A : Type 0} (cell : Cell ℕ) (goes : ℤ → Form A) (items between after : List Item) (v : ℤ) (w : List ℤ)
    → between ≡ items ++ item_of cell v → after ≡ between ++ items_along (goes v) w → after ≡ items ++ items_along (field cell goes) (v ∷ w)
one_more cell goes items between after v w first more = more ∙ (ap (λ front. front ++ items_along (goes v) w) first ∙ append_assoc items (item_of cell v) (items_along (goes v) w))

-- what is read is spelled
found : {A : Type 0} {form : Form A} {old new : Place} {items after : List Item} {a : A}
    → Walks ReadsField form old items (Ok a) new after → IsFound form old items new after
found {items} ended = record { values = []; spelled = at_end; total = refl; gained = sym (append-nil items) }
found {form = field cell goes} {old} {new} {items} {after} (coded {d} {j} {v} s rest) =
    let more = found rest in
    record {
      values = v ∷ more.values;
      spelled = behind s.0 (spells_at d.total old.total s.1 more.spelled);
      total = more.total ∙ s.1;
      gained = one_more cell goes items j after v more.values s.2 more.gained;
    }

-- a longer front
longer : {A : Type 0} {cell : Cell ℕ} {goes : ℤ → Form A} {old mid new : Place} {items between after : List Item} {v : ℤ} {next : Cell ℕ}
    → BeginsField cell old.total v old.left mid.left → mid.total ≡ old.total → between ≡ items ++ item_of cell v
    → StopsAt (goes v) mid between new after next → StopsAt (field cell goes) old items new after next
longer {cell} {goes} {old} {mid} {items} {between} {after} {v} begins total gained more = record {
  values = v ∷ more.values;
  reached = later begins (reaches_at mid.total old.total total more.reached);
  total = more.total ∙ total;
  gained = one_more cell goes items between after v more.values gained more.gained;
}

at_once : {A : Type 0} {cell : Cell ℕ} {goes : ℤ → Form A} {old new : Place} {items after : List Item} → new ≡ old → after ≡ items → StopsAt (field cell goes) old items new after cell
at_once {cell} {goes} {old} {items} still same = record {
  values = [];
  reached = subst (λ (p : Place). Reaches old.total (field cell goes) [] old.left cell p.left) (sym still) here;
  total = ap (λ (p : Place). p.total) still;
  gained = same ∙ sym (append-nil items);
}

-- a refusal is that of the longest front
stopped : {A : Type 0} {form : Form A} {old new : Place} {items after : List Item} (r : Refusal)
    → Walks {A = A} ReadsField form old items (Err (errors.Refused r)) new after → IsFirstRefusal form old items new after r
stopped {form = done a} r walk = elim walk [ ]
stopped {form = field cell goes} {old} r (refused s) =
    record { cell = cell; stops = at_once s.1 s.2; refused = subst (λ (p : Place). IsRefusedField cell old.total p.left r) (sym s.1) s.0 }
stopped {form = field cell goes} {old} r (coded {d} s walk) =
    let more = stopped r walk in
    record { cell = more.cell; stops = longer s.0 s.1 s.2 more.stops; refused = refused_at d.total old.total s.1 more.refused }

-- and where memory runs out, a front was read
interrupted : {A : Type 0} {form : Form A} {old new : Place} {items after : List Item}
    → Walks {A = A} ReadsField form old items (Err errors.Memory) new after → (cell : Cell ℕ) × StopsAt form old items new after cell
interrupted {form = done a} walk = elim walk [ ]
interrupted {form = field cell goes} (refused s) = (cell, at_once s.0 s.1)
interrupted {form = field cell goes} (coded s walk) = let more = interrupted walk in (more.0, longer s.0 s.1 s.2 more.1)

-- What the answer means for each fact about it.
answered_more : {B P Q : Type 0} (result : Result B ReadError) → (P → Q) → IsAnswered result P → IsAnswered result Q
answered_more (Ok b) f p = f p
answered_more (Err errors.Memory) f p = tt
answered_more (Err (errors.Refused r)) f p = p

refused_more : {B P Q : Type 0} (result : Result B ReadError) (r : Refusal) → (P → Q) → IsRefusedWith result r P → IsRefusedWith result r Q
refused_more (Ok b) r f p = p
refused_more (Err errors.Memory) r f p = tt
refused_more (Err (errors.Refused q)) r f p = (p.0, f p.1)

-- whatever is spelled is answered
only : {A : Type 0} {form : Form A} {old new : Place} {items after : List Item} {result : Result A ReadError} {w : List ℤ} {left rest : List Bool}
    → Walks ReadsField form old items result new after → Spells old.total form w left rest → left ≡ old.left
    → IsAnswered result ((new.left ≡ rest) × (after ≡ items ++ items_along form w))
only {items} ended at_end same = (sym same, sym (append-nil items))
only (refused {e = errors.Memory} s) (behind begins more) same = tt
only {form = field cell goes} {old} (refused {e = errors.Refused r} s) (behind {v} {mid} begins more) same =
    begins_field_not_refused (subst (λ x. BeginsField cell old.total v x mid) same begins) s.0
only {form = field cell goes} {old} {new} {items} {after} {result} {rest} (coded {d} {j} {v} s walk) (behind {v = u} {w} {mid} begins more) same =
    let apart = begins_code_apart (subst (λ x. BeginsField cell old.total u x mid) same begins).code s.0.code in
    let on : Spells d.total (goes v) w mid rest = spells_at old.total d.total (sym s.1) (subst (λ x. Spells old.total (goes x) w mid rest) apart.0 more) in
    let rec = only walk on apart.1 in
    let here : IsAnswered result ((new.left ≡ rest) × (after ≡ items ++ items_along (field cell goes) (v ∷ w)))
    = answered_more result (λ p. (p.0, one_more cell goes items j after v w s.2 p.1)) rec in
    subst (λ x. IsAnswered result ((new.left ≡ rest) × (after ≡ items ++ items_along (field cell goes) (x ∷ w)))) (sym apart.0) here

-- where a field is refused, that is the answer
refusal : {A : Type 0} {form : Form A} {old new : Place} {items after : List Item} {result : Result A ReadError} {w : List ℤ} {left rest : List Bool} {cell : Cell ℕ} {r : Refusal}
    → Walks ReadsField form old items result new after → Reaches old.total form w left cell rest → left ≡ old.left → IsRefusedField cell old.total rest r
    → IsRefusedWith result r ((new.left ≡ rest) × (after ≡ items ++ items_along form w))
refusal ended reach same out = elim reach [ ]
refusal (refused {e = errors.Memory} s) here same out = tt
refusal {old} {items} {cell} {r} (refused {e = errors.Refused q} s) here same out =
    (refused_once s.0 (subst (λ x. IsRefusedField cell old.total x r) same out), (ap (λ (p : Place). p.left) s.1 ∙ sym same, s.2 ∙ sym (append-nil items)))
refusal {old} {cell} {r} (coded s walk) here same out = absurd (begins_field_not_refused s.0 (subst (λ x. IsRefusedField cell old.total x r) same out))
refusal (refused {e = errors.Memory} s) (later begins more) same out = tt
refusal {form = field cell goes} {old} (refused {e = errors.Refused q} s) (later {v} {mid} begins more) same out =
    absurd (begins_field_not_refused (subst (λ x. BeginsField cell old.total v x mid) same begins) s.0)
refusal {form = field cell goes} {old} {new} {items} {after} {result} {rest} {cell = next} {r} (coded {d} {j} {v} s walk) (later {v = u} {w} {mid} begins more) same out =
    let apart = begins_code_apart (subst (λ x. BeginsField cell old.total u x mid) same begins).code s.0.code in
    let on : Reaches d.total (goes v) w mid next rest = reaches_at old.total d.total (sym s.1) (subst (λ x. Reaches old.total (goes x) w mid next rest) apart.0 more) in
    let rec = refusal walk on apart.1 (refused_at old.total d.total (sym s.1) out) in
    let here : IsRefusedWith result r ((new.left ≡ rest) × (after ≡ items ++ items_along (field cell goes) (v ∷ w)))
    = refused_more result r (λ p. (p.0, one_more cell goes items j after v w s.2 p.1)) rec in
    subst (λ x. IsRefusedWith result r ((new.left ≡ rest) × (after ≡ items ++ items_along (field cell goes) (x ∷ w)))) (sym apart.0) here

-- the end to which a reader comes
leads_to : {A : Type 0} {form : Form A} {old new : Place} {items after : List Item} {a : A} {w : List ℤ} {left rest : List Bool}
    → Walks ReadsField form old items (Ok a) new after → Spells old.total form w left rest → left ≡ old.left → Follows form w a
leads_to ended at_end same = to_end
leads_to {form = field cell goes} {old} {a} {rest} (coded {d} {v} s walk) (behind {v = u} {w} {mid} begins more) same =
    let apart = begins_code_apart (subst (λ x. BeginsField cell old.total u x mid) same begins).code s.0.code in
    let on : Spells d.total (goes v) w mid rest = spells_at old.total d.total (sym s.1) (subst (λ x. Spells old.total (goes x) w mid rest) apart.0 more) in
    through (is_value begins) (subst (λ x. Follows (goes x) w a) (sym apart.0) (leads_to walk on apart.1))

pub leads : {A B : Type 0} {form : Form A} {old new : Place} {items after : List Item} (a : A) (result : Result B ReadError)
    → Walks ReadsField form old items (leaving a result) new after → OnOk result (LeadsTo form old a)
leads a (Ok b) walk = λ w rest spelled. leads_to walk spelled refl
leads a (Err e) walk = tt

-- Such a walk is a reader's answer.
pub reads : {A B : Type 0} {form : Form A} {old new : Place} {items after : List Item} (a : A) (result : Result B ReadError)
    → Walks ReadsField form old items (leaving a result) new after → Reads form old items result new after
reads a (Ok b) walk = record {
  is = found walk;
  only = λ w rest spelled. only walk spelled refl;
  refusal = λ w cell rest r reached out. refusal walk reached refl out;
}
reads a (Err errors.Memory) walk = record {
  is = inl (interrupted walk);
  only = λ w rest spelled. only walk spelled refl;
  refusal = λ w cell rest r reached out. refusal walk reached refl out;
}
reads a (Err (errors.Refused q)) walk = record {
  is = stopped q walk;
  only = λ w rest spelled. only walk spelled refl;
  refusal = λ w cell rest r reached out. refusal walk reached refl out;
}

-- where memory runs out behind a whole reading
pub reads_cut_short : {A B C : Type 0} {form : Form A} {old new : Place} {items after : List Item} (b : B)
    → Reads form old items (Ok b) new after → Reads {B = C} form old items (Err errors.Memory) new after
reads_cut_short b r = record { is = inr r.is; only = λ w rest spelled. tt; refusal = λ w cell rest q reached out. tt }

-- an error is the same whatever else would have been the answer
pub reads_error : {A B C : Type 0} {form : Form A} {old new : Place} {items after : List Item} (e : ReadError)
    → Reads {B = B} form old items (Err e) new after → Reads {B = C} form old items (Err e) new after
reads_error errors.Memory r = record { is = r.is; only = r.only; refusal = r.refusal }
reads_error (errors.Refused q) r = record { is = r.is; only = r.only; refusal = r.refusal }

pub front_is : (p : Place) (bytes : List ℕ) → p.total ≡ 8 * length bytes → p.left ≡ bits_of bytes → p ≡ at_front bytes
front_is p bytes total left = rw (← total, ← left) refl
