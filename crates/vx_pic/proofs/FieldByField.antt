-- Records that are compared field by field.
use Rattle.std.proofs.Common.{◌≡◌, refl, ap}
use Rattle.vx_layout.specs.declared.numbers.Numbers.{Numbers}
use Rattle.vx_rpl.specs.declared.entry.RefLists.{RefLists}
use Rattle.vx_pic.specs.declared.place.Place.{Place}
use Rattle.vx_pic.specs.Inputs.{Alf}

pub alf_alike : (a b : Alf) → a.enabled ≡ b.enabled → a.luma ≡ b.luma → a.cb ≡ b.cb → a.cr ≡ b.cr → a.chroma ≡ b.chroma → a.cc_cb ≡ b.cc_cb → a.cc_cr ≡ b.cc_cr → a ≡ b
alf_alike a b e0 e1 e2 e3 e4 e5 e6 = rw (e0, e1, e2, e3, e4, e5, e6) refl

pub alf_enabled : (a b : Alf) → (a.enabled ≡ b.enabled → ⊥) → a ≡ b → ⊥
alf_enabled a b other same = other (ap (λ x. x.enabled) same)

pub alf_luma : (a b : Alf) → (a.luma ≡ b.luma → ⊥) → a ≡ b → ⊥
alf_luma a b other same = other (ap (λ x. x.luma) same)

pub alf_cb : (a b : Alf) → (a.cb ≡ b.cb → ⊥) → a ≡ b → ⊥
alf_cb a b other same = other (ap (λ x. x.cb) same)

pub alf_cr : (a b : Alf) → (a.cr ≡ b.cr → ⊥) → a ≡ b → ⊥
alf_cr a b other same = other (ap (λ x. x.cr) same)

pub alf_chroma : (a b : Alf) → (a.chroma ≡ b.chroma → ⊥) → a ≡ b → ⊥
alf_chroma a b other same = other (ap (λ x. x.chroma) same)

pub alf_cc_cb : (a b : Alf) → (a.cc_cb ≡ b.cc_cb → ⊥) → a ≡ b → ⊥
alf_cc_cb a b other same = other (ap (λ x. x.cc_cb) same)

pub alf_cc_cr : (a b : Alf) → (a.cc_cr ≡ b.cc_cr → ⊥) → a ≡ b → ⊥
alf_cc_cr a b other same = other (ap (λ x. x.cc_cr) same)

pub lists_alike : (a b : RefLists) → a.first ≡ b.first → a.second ≡ b.second → a ≡ b
lists_alike a b e0 e1 = rw (e0, e1) refl

pub lists_first : (a b : RefLists) → (a.first ≡ b.first → ⊥) → a ≡ b → ⊥
lists_first a b other same = other (ap (λ x. x.first) same)

pub lists_second : (a b : RefLists) → (a.second ≡ b.second → ⊥) → a ≡ b → ⊥
lists_second a b other same = other (ap (λ x. x.second) same)

pub numbers_alike : (a b : Numbers) → a.columns ≡ b.columns → a.rows ≡ b.rows → a.slices ≡ b.slices → a.subpics ≡ b.subpics → a ≡ b
numbers_alike a b e0 e1 e2 e3 = rw (e0, e1, e2, e3) refl

pub numbers_columns : (a b : Numbers) → (a.columns ≡ b.columns → ⊥) → a ≡ b → ⊥
numbers_columns a b other same = other (ap (λ x. x.columns) same)

pub numbers_rows : (a b : Numbers) → (a.rows ≡ b.rows → ⊥) → a ≡ b → ⊥
numbers_rows a b other same = other (ap (λ x. x.rows) same)

pub numbers_slices : (a b : Numbers) → (a.slices ≡ b.slices → ⊥) → a ≡ b → ⊥
numbers_slices a b other same = other (ap (λ x. x.slices) same)

pub numbers_subpics : (a b : Numbers) → (a.subpics ≡ b.subpics → ⊥) → a ≡ b → ⊥
numbers_subpics a b other same = other (ap (λ x. x.subpics) same)

pub place_alike : (a b : Place) → a.width ≡ b.width → a.height ≡ b.height → a.layout ≡ b.layout → a.address ≡ b.address → a.across_tiles ≡ b.across_tiles → a.across_slices ≡ b.across_slices → a ≡ b
place_alike a b e0 e1 e2 e3 e4 e5 = rw (e0, e1, e2, e3, e4, e5) refl

pub place_width : (a b : Place) → (a.width ≡ b.width → ⊥) → a ≡ b → ⊥
place_width a b other same = other (ap (λ x. x.width) same)

pub place_height : (a b : Place) → (a.height ≡ b.height → ⊥) → a ≡ b → ⊥
place_height a b other same = other (ap (λ x. x.height) same)

pub place_layout : (a b : Place) → (a.layout ≡ b.layout → ⊥) → a ≡ b → ⊥
place_layout a b other same = other (ap (λ x. x.layout) same)

pub place_address : (a b : Place) → (a.address ≡ b.address → ⊥) → a ≡ b → ⊥
place_address a b other same = other (ap (λ x. x.address) same)

pub place_tiles : (a b : Place) → (a.across_tiles ≡ b.across_tiles → ⊥) → a ≡ b → ⊥
place_tiles a b other same = other (ap (λ x. x.across_tiles) same)

pub place_slices : (a b : Place) → (a.across_slices ≡ b.across_slices → ⊥) → a ≡ b → ⊥
place_slices a b other same = other (ap (λ x. x.across_slices) same)
