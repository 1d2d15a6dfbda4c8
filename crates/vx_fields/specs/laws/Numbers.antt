-- The numbers of all fields and names.
use Rattle.std.specs.Prelude.{◌≢◌, ℕ, ◌<◌, List, ◌++◌, All}
use Rattle.std.specs.List.{AllPairs}
use Rattle.vx_fields.specs.declared.vps.TheConstants as vps
use Rattle.vx_fields.specs.declared.ptl.TheConstants as ptl
use Rattle.vx_fields.specs.declared.dpb.TheConstants as dpb
use Rattle.vx_fields.specs.declared.timing.TheConstants as timing
use Rattle.vx_fields.specs.declared.sps.TheConstants as sps
use Rattle.vx_fields.specs.declared.rpl.TheConstants as rpl
use Rattle.vx_fields.specs.declared.weights.TheConstants as weights
use Rattle.vx_fields.specs.declared.pps.TheConstants as pps
use Rattle.vx_fields.specs.declared.aps.TheConstants as aps
use Rattle.vx_fields.specs.declared.ph.TheConstants as ph
use Rattle.vx_fields.specs.declared.alf.TheConstants as alf
use Rattle.vx_fields.specs.declared.sh.TheConstants as sh
use Rattle.vx_fields.specs.declared.names.ptl.TheConstants as names_ptl
use Rattle.vx_fields.specs.declared.names.rpl.TheConstants as names_rpl
use Rattle.vx_fields.specs.declared.names.sps.TheConstants as names_sps
use Rattle.vx_fields.specs.declared.names.pps.TheConstants as names_pps
use Rattle.vx_fields.specs.declared.names.ph.TheConstants as names_ph
use Rattle.vx_fields.specs.declared.names.sh.TheConstants as names_sh

-- The fields, in the order of their numbers.
abbrev pub numbered_fields : List ℕ
numbered_fields = vps.ALL ++ (ptl.ALL ++ (dpb.ALL ++ (timing.ALL ++ (sps.ALL ++ (rpl.ALL ++ (weights.ALL
    ++ (pps.ALL ++ (aps.ALL ++ (ph.ALL ++ (alf.ALL ++ sh.ALL))))))))))

-- Names for numbers that tables compute.
abbrev pub names : List ℕ
names = names_ptl.ALL ++ (names_rpl.ALL ++ (names_sps.ALL ++ (names_pps.ALL ++ (names_ph.ALL ++ names_sh.ALL))))

-- No number is given twice.
abbrev pub NumbersAreDistinct : Type 0
NumbersAreDistinct = AllPairs (λ m n. m ≢ n) (numbered_fields ++ names)

-- Each is below the size of a scope.
abbrev pub NumbersFitAScope : Type 0
NumbersFitAScope = All (λ n. n < 1024) (numbered_fields ++ names)
