-- The form of a slice header after the id of its subpicture (H.266 7.3.7). The contract of `code_rest` relies on it.
use Rattle.std.specs.Prelude.{ℕ, List, [], ◌∷◌, ◌++◌, slice_index, slice_set}
use Rattle.vx_table.specs.declared.rows.Term.TheVariants.{Latest}
use Rattle.vx_table.specs.declared.rows.Formula.TheVariants.{Plain}
use Rattle.vx_table.specs.declared.rows.Presence.TheVariants.{When}
use Rattle.vx_table.specs.Forms.{Form, done, ◌>>=◌, present, form_of}
use Rattle.vx_table.specs.Parts.{Section, always, provided, sections_form}
use Rattle.vx_fields.specs.declared.sh.TheConstants.{sh_slice_address}
use Rattle.vx_fields.specs.declared.names.sh.TheConstants.{NUM_ENTRY_POINTS, HAS_ALF, HAS_LISTS, HAS_WEIGHTS}
use Rattle.vx_rpl.specs.declared.entry.RplTable.{RplTable}
use Rattle.vx_rpl.specs.Lists.{lists_form, weights_form}
use Rattle.vx_ph.specs.declared.tables.TheConstants.{ALF}
use Rattle.vx_sh.specs.declared.tables.TheConstants.{ADDRESS, TYPE, FILTER_HERE, LMCS_AND_SCALING, LISTS_HERE, ACTIVE, INTER, QP}
use Rattle.vx_sh.specs.declared.tables.TheConstants.{CHROMA_QP_AND_FILTERS, END, ALIGNMENT}

-- The scope in which NumEntryPoints is that of the slice at the address, by the number at each address (NumEntryPoints, 7.4.8).
unfoldable pub with_entry_points : (ℕ → ℕ) → List ℕ → List ℕ
with_entry_points points s = slice_set s NUM_ENTRY_POINTS (points (slice_index s sh_slice_address))

-- The address, with which the number of entry points is known (7.3.7).
unfoldable pub address_form : (ℕ → ℕ) → List ℕ → Form (List ℕ)
address_form points s = form_of ADDRESS s >>= λ t. done (with_entry_points points t)

-- What the slice uses of the picture's adaptation sets: the filter if it is here, LMCS and scaling lists (7.3.7).
abbrev pub own : List Section
own = always FILTER_HERE ∷ provided (Plain (Latest HAS_ALF)) ALF ∷ always LMCS_AND_SCALING ∷ []

-- Between the address and the lists (7.3.7).
abbrev pub before_lists : List Section
before_lists = always TYPE ∷ (own ++ (always LISTS_HERE ∷ []))

-- The lists, if they are here (7.3.7, 7.3.9).
abbrev pub lists_here : RplTable → List ℕ → Form (List ℕ)
lists_here table = present (When (Plain (Latest HAS_LISTS))) (lists_form table)

-- Between lists and weights (7.3.7).
abbrev pub between : List Section
between = always ACTIVE ∷ always INTER ∷ []

-- Prediction weights, if they are here (7.3.7, 7.3.8).
abbrev pub weights_here : List ℕ → Form (List ℕ)
weights_here = present (When (Plain (Latest HAS_WEIGHTS))) weights_form

-- The QP of the slice (7.3.7).
abbrev pub qp : List Section
qp = always QP ∷ []

-- After the weights (7.3.7).
abbrev pub behind_weights : List Section
behind_weights = qp ++ (always CHROMA_QP_AND_FILTERS ∷ always END ∷ always ALIGNMENT ∷ [])

-- From the address to the lists (7.3.7).
unfoldable pub front_form : (ℕ → ℕ) → List ℕ → Form (List ℕ)
front_form points s = address_form points s >>= sections_form before_lists

-- All before the weights (7.3.7).
unfoldable pub sh_before_weights : RplTable → (ℕ → ℕ) → List ℕ → Form (List ℕ)
sh_before_weights table points s = (front_form points s >>= lists_here table) >>= sections_form between

-- slice_header( ) after sh_subpic_id, with its alignment, with the SPS's structures of lists and the number of entry points at each
-- address, at a scope that has the numbers of the sets and the picture header in force (7.3.7).
unfoldable pub rest_form : RplTable → (ℕ → ℕ) → List ℕ → Form (List ℕ)
rest_form table points s = (sh_before_weights table points s >>= weights_here) >>= sections_form behind_weights
