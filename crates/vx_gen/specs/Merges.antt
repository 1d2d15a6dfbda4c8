-- What is written of a merge of generated streams is read again. Our own.
use Rattle.std.specs.Prelude.{◌≡◌, ℕ, ◌≤◌, List, length, map}
use Rattle.std.specs.List.{range_with_len}
use Rattle.vx_annexb.specs.Laws.{written}
use Rattle.vx_pic.specs.H266.{AreOfH266}
use Rattle.vx_pic.specs.Resident.{planned_of, units_written}
use Rattle.vx_pic.specs.Rules.{Readers}
use Rattle.vx_pic.specs.Written.{Plan}
use Rattle.vx_again.specs.Whole.{IsReadAsMerge}
use Rattle.vx_gen.specs.Rounds.{AreGeneratedRounds, corners, planned}

-- If all rounds are written, then the bytes are read as the merge of the pictures of the streams, and each region can be extracted.
abbrev pub GeneratedAreMerged : Type 0
GeneratedAreMerged = (R : Readers) (seed pictures sources : ℕ) (done : List Plan) → AreOfH266 R → 1 ≤ sources → sources ≤ 16
    → 1 ≤ pictures → pictures ≤ 1000 → length done ≡ pictures → AreGeneratedRounds seed pictures sources done
    → IsReadAsMerge R (corners sources) (map (planned seed pictures) (range_with_len 0 sources)) (written (units_written done)) (planned_of done)
