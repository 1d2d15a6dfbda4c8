-- The numbers of the sets in force, on which headers depend. Contracts of all readers and writers of headers rely on it.
use Rattle.std.specs.Prelude.{◌≡◌, ◌≢◌, ◌≤◌, ◌<◌, ℕ, List, All, slice_set}
use Rattle.vx_bits.specs.declared.list.Item.{Item}
use Rattle.vx_table.specs.Scope.{fresh, loaded, joined}
use Rattle.vx_table.specs.Depends.{Agree}
use Rattle.vx_table.specs.Loaded.{number}
use Rattle.vx_fields.specs.declared.pps.TheConstants.{pps_pic_parameter_set_id}
use Rattle.vx_fields.specs.declared.names.ph.TheConstants.{EXTRA_PH_BITS}
use Rattle.vx_rpl.specs.declared.entry.RplTable.{RplTable}
use Rattle.vx_rpl.specs.Resolved.{table_of}
use Rattle.vx_sps.specs.Set.{extra_ph_bits_of, is_weighted}

-- The numbers of an SPS, which are below the first field of a PPS, those of a PPS from there on, and the number of extra bits
-- (our own).
unfoldable pub both_sets : List ℕ → List ℕ → ℕ → List ℕ
both_sets sps pps extra = slice_set (joined pps_pic_parameter_set_id sps pps) EXTRA_PH_BITS extra

-- The scope of the sets in force: the SPS's numbers, the PPS's, and how many extra bits there are (7.4.3.4, NumExtraPhBits).
unfoldable pub in_force : List Item → List Item → List ℕ
in_force sps pps = both_sets (loaded fresh sps) (loaded fresh pps) (extra_ph_bits_of sps)

-- The SPS's structures of reference picture lists (7.3.2.4).
abbrev pub structures : List Item → RplTable
structures sps = table_of (is_weighted sps) sps

-- Sets that agree on some fields have scopes that agree on them. An SPS counts for the fields below the first of a PPS, and a PPS
-- for those from there on; the number of extra bits must be the same.
abbrev pub SetsAgree : Type 0
SetsAgree = (fields : List ℕ) (sps other_sps pps other_pps : List Item)
    → All (λ n. n < pps_pic_parameter_set_id → number sps n ≡ number other_sps n) fields
    → All (λ n. pps_pic_parameter_set_id ≤ n → n ≢ EXTRA_PH_BITS → number pps n ≡ number other_pps n) fields
    → extra_ph_bits_of sps ≡ extra_ph_bits_of other_sps
    → Agree fields (in_force sps pps) (in_force other_sps other_pps)
