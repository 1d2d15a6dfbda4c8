-- The form of a slice header from its first bit on (H.266 7.3.7): the picture header that may be inside it, its subpicture, and
-- what is after. The definition of what a reader of slice headers returns relies on it.
use Rattle.std.specs.Prelude.{ℕ, ◌+◌, Bool, cond, ◌&&◌, ◌==◌, nat_lt, List, [], ◌∷◌, length, slice_index, slice_set}
use Rattle.vx_table.specs.declared.rows.Term.TheVariants.{Latest}
use Rattle.vx_table.specs.declared.rows.Formula.TheVariants.{Plain}
use Rattle.vx_table.specs.declared.rows.Presence.TheVariants.{When}
use Rattle.vx_table.specs.Scope.{is_set}
use Rattle.vx_table.specs.Forms.{Form, done, ◌>>=◌, present, form_of}
use Rattle.vx_fields.specs.declared.sps.TheConstants.{sps_entropy_coding_sync_enabled_flag, sps_entry_point_offsets_present_flag}
use Rattle.vx_fields.specs.declared.sh.TheConstants.{sh_picture_header_in_slice_header_flag, sh_subpic_id}
use Rattle.vx_fields.specs.declared.names.sh.TheConstants.{NUM_SUBPICS, SUBPIC, NUM_SLICES}
use Rattle.vx_layout.specs.declared.numbers.Numbers.{Numbers}
use Rattle.vx_layout.specs.Layouts.{slices_in, slice_at}
use Rattle.vx_layout.specs.Scan.{entries}
use Rattle.vx_rpl.specs.declared.entry.RplTable.{RplTable}
use Rattle.vx_ph.specs.Header.{header_form}
use Rattle.vx_sh.specs.declared.context.Context.{Context}
use Rattle.vx_sh.specs.declared.tables.TheConstants.{HEADER_INSIDE, SUBPIC_ID, KNOWN_SUBPIC}
use Rattle.vx_sh.specs.Slice.{rest_form}

-- ---- the subpicture (7.4.8)

-- The place of an id among the ids of the subpictures, or the place after the last one if it is none of them (CurrSubpicIdx,
-- 7.4.8).
abbrev pub index_of : ℕ → List ℕ → ℕ
index_of id [] = 0
index_of id (n ∷ more) = cond (n == id) 0 (index_of id more + 1)

-- The slices of subpicture k (NumSlicesInSubpic).
abbrev pub num_slices_in_subpic : Numbers → ℕ → ℕ
num_slices_in_subpic layout k = cond (nat_lt k (length layout.subpics)) (length (slices_in layout k)) 0

-- The subpicture that has the id, and how many slices it has (7.4.8, CurrSubpicIdx).
unfoldable pub located : List ℕ → Numbers → List ℕ → List ℕ
located ids layout s =
    slice_set
    (slice_set (slice_set s NUM_SUBPICS (length ids)) SUBPIC (index_of (slice_index s sh_subpic_id) ids))
    NUM_SLICES (num_slices_in_subpic layout (index_of (slice_index s sh_subpic_id) ids))

-- The id, with which the subpicture is known (7.3.7).
unfoldable pub subpic_id_form : List ℕ → Numbers → List ℕ → Form (List ℕ)
subpic_id_form ids layout s = form_of SUBPIC_ID s >>= λ t. done (located ids layout t)

-- It is refused if no subpicture has it (7.4.8).
unfoldable pub subpic_form : List ℕ → Numbers → List ℕ → Form (List ℕ)
subpic_form ids layout s = subpic_id_form ids layout s >>= form_of KNOWN_SUBPIC

-- ---- entry points (7.4.8)

-- For slice m of subpicture k (7.4.8, NumEntryPoints): none if the SPS says that slice headers don't name them.
unfoldable pub points_at : Numbers → (has_points sync : Bool) → ℕ → ℕ → ℕ
points_at layout has_points sync k m =
    cond (has_points && nat_lt m (num_slices_in_subpic layout k)) (entries layout.columns layout.rows (slice_at layout k m) sync) 0

-- Those of the subpicture and the SPS of a scope, by address (NumEntryPoints, 7.4.8).
abbrev pub points_of : Numbers → List ℕ → ℕ → ℕ
points_of layout s = points_at layout (is_set (slice_index s sps_entry_point_offsets_present_flag))
    (is_set (slice_index s sps_entropy_coding_sync_enabled_flag)) (slice_index s SUBPIC)

-- ---- the whole (7.3.7)

-- After the id (7.3.7).
abbrev pub there : RplTable → Numbers → List ℕ → Form (List ℕ)
there table layout s = rest_form table (points_of layout s) s

-- After the picture header (7.3.7).
unfoldable pub behind_header : RplTable → List ℕ → Numbers → List ℕ → Form (List ℕ)
behind_header table ids layout s = subpic_form ids layout s >>= there table layout

-- The picture header, if it is inside: it uses the numbers of the sets, and leaves those of the slice unchanged (7.3.7).
abbrev pub header_inside : RplTable → List ℕ → List ℕ → Form (List ℕ)
header_inside table sets =
    present (When (Plain (Latest sh_picture_header_in_slice_header_flag))) (λ s. header_form table sets >>= λ t. done s)

-- What a slice header is read and written under: the SPS's structures of lists, the numbers of the sets, these with the numbers of
-- the picture header and of the slice, the subpictures' ids, and the layout (our own).
pub record At : Type 0 where
  pub table : RplTable
  pub sets : List ℕ
  pub slice : List ℕ
  pub ids : List ℕ
  pub layout : Numbers

abbrev pub at_of : Context → List ℕ → At
at_of n slice = record { table = n.table.now; sets = n.sets.now; slice = slice; ids = n.ids.now; layout = n.layout.now }

-- slice_header( ), with its alignment (7.3.7).
unfoldable pub slice_form : At → Form (List ℕ)
slice_form n = (form_of HEADER_INSIDE n.slice >>= header_inside n.table n.sets) >>= behind_header n.table n.ids n.layout

-- Without a picture header inside.
unfoldable pub apart_form : RplTable → List ℕ → Numbers → List ℕ → Form (List ℕ)
apart_form table ids layout s = form_of HEADER_INSIDE s >>= behind_header table ids layout
