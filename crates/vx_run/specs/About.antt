-- The texts of `--help` and `--version`, byte for byte. Our own. The contracts of `help`, `version` and `run` rely on them.
use Rattle.std.specs.Prelude.{ℕ, List, [], ◌∷◌, codes, Ok, Err}
use Rattle.std.specs.List.{concat}
use Rattle.vx_run.specs.declared.stop.Stop.TheVariants.{WriteFault}
use Rattle.vx_run.specs.Change.{Change, Gains, GainsFront}
use Rattle.vx_run.specs.Conclusion.{Outcome}

-- The commands, the statuses, and the rules by their letters and numbers.
unfoldable pub help_text : List ℕ
help_text = concat
    (codes "goosequince: merges and extracts subpictures of VVC streams (H.266, Annex B)\n"
    ∷ codes "\n"
    ∷ codes "  show [--fields] [--inputs] FILE\n"
    ∷ codes "             lists the NAL units of a byte stream as lines of JSON: the length of\n"
    ∷ codes "             each unit, the place of its first byte, its TemporalId and its type;\n"
    ∷ codes "             then a line of the parameter set that it is, or of the picture that\n"
    ∷ codes "             it completes; with --inputs also a line of each slice of the picture,\n"
    ∷ codes "             with its decoding input; with --fields also each field of a set or\n"
    ∷ codes "             header, by its name and in the order of the bits\n"
    ∷ codes "  extract [--tid T] [--level N] INDEX FILE\n"
    ∷ codes "             writes one subpicture, by its index from 0, of each picture as a\n"
    ∷ codes "             byte stream of its own; with --tid only pictures with a TemporalId\n"
    ∷ codes "             up to T, with --level N as general_level_idc\n"
    ∷ codes "  check extract [--tid T] INDEX FILE\n"
    ∷ codes "             says whether extract can do this, and for how many pictures\n"
    ∷ codes "  merge [--level N] X,Y=FILE ..\n"
    ∷ codes "             merges up to 64 byte streams into one, each as a subpicture with its\n"
    ∷ codes "             upper left corner at luma sample X, Y; with --level N as\n"
    ∷ codes "             general_level_idc, otherwise the highest of the files, which is\n"
    ∷ codes "             mostly too low for all of them\n"
    ∷ codes "  play [--level N] X,Y=FILE ..\n"
    ∷ codes "             the same for up to 64 regions and 256 files: files with the same X,Y\n"
    ∷ codes "             are played one after another in one region, with an end of sequence\n"
    ∷ codes "             wherever a file begins after others\n"
    ∷ codes "  check merge X,Y=FILE ..\n"
    ∷ codes "             says whether merge can do this, and for how many pictures\n"
    ∷ codes "  verify merge OUT X,Y=FILE ..\n"
    ∷ codes "             says whether OUT, made by any tool and at any level, is the merge of\n"
    ∷ codes "             these files, with equal decoding inputs in each picture, and for how\n"
    ∷ codes "             many pictures\n"
    ∷ codes "  trial SEED SOURCES PICTURES\n"
    ∷ codes "             a self-test: makes 1 to 16 streams of 1 to 1000 pictures from a\n"
    ∷ codes "             number, merges them side by side, extracts each region again, and\n"
    ∷ codes "             prints the numbers of pictures, slices and bytes, and a sum over\n"
    ∷ codes "             all bytes\n"
    ∷ codes "  --help     prints this text\n"
    ∷ codes "  --version  prints the name and the version of the program\n"
    ∷ codes "  --explain WORD\n"
    ∷ codes "             says what a rule such as M8 means and how to fix it, or what the\n"
    ∷ codes "             field of a number such as 606 is\n"
    ∷ codes "\n"
    ∷ codes "The exit status is 0 if all is done. Otherwise a line on standard error says\n"
    ∷ codes "why:\n"
    ∷ codes "\n"
    ∷ codes "  1  a rule is broken, or verify found a difference\n"
    ∷ codes "  2  the arguments are not understood\n"
    ∷ codes "  3  a read or a write failed\n"
    ∷ codes "  4  out of memory\n"
    ∷ codes "\n"
    ∷ codes "The letters of the rules:\n"
    ∷ codes "\n"
    ∷ codes "  F  framing: F1 a byte outside a unit is neither zero nor start code, F2 a byte\n"
    ∷ codes "     stands where emulation prevention rules it out, F3 a unit's header can't be\n"
    ∷ codes "     read\n"
    ∷ codes "  Y  syntax: a field of a set or header can't be read; the line has the field,\n"
    ∷ codes "     the bit where it begins, and the reason\n"
    ∷ codes "  P  not supported: P1 a layer above 0, P2 to P14 what a set turns on, P15 the\n"
    ∷ codes "     id of an adaptation parameter set\n"
    ∷ codes "  S  structure: S1 a set hasn't come, S2 to S15 a unit, or the end, doesn't fit\n"
    ∷ codes "     the units before it\n"
    ∷ codes "  L  limits: L1 a unit has more than 2^23 bytes, L2 a picture more than 2^25, L3\n"
    ∷ codes "     a source more than 2^40, each also of what a merge would write; L4 more than\n"
    ∷ codes "     64 sources or regions, L5 to L10 more than the levels of H.266, or this\n"
    ∷ codes "     program, allow, L11 more than 256 files\n"
    ∷ codes "  E  extraction: E1 there is no picture, E2 a picture has no such subpicture, E3\n"
    ∷ codes "     the subpicture isn't treated as a picture, E4 in-loop filters cross its\n"
    ∷ codes "     borders, E5 an IRAP or GDR picture has a TemporalId above T\n"
    ∷ codes "  M  merging: M1 a source has several subpictures, M2, M7, M8 a field of its SPS,\n"
    ∷ codes "     PPS or picture header differs, M3 to M5 regions or tiles don't fit, M6 its\n"
    ∷ codes "     picture is of another kind, M9 to M13, M16 what its slices use differs or is\n"
    ∷ codes "     too much, M14 it ended before another, M15 its picture can't follow an end\n"
    ∷ codes "     of sequence, where a file begins after others\n"
    ∷ codes "  C  comparing, with OUT as file 0: C1 the number of subpictures differs, C2 a\n"
    ∷ codes "     subpicture stands elsewhere, C3 the number of slices differs, C4 a decoding\n"
    ∷ codes "     input differs, in its part and field, C5 a file ended before another\n"
    ∷ [])

-- The name and the version.
unfoldable pub version_text : List ℕ
version_text = codes "goosequince 0.2.0\n"

-- The text was written, or a prefix of it if a write failed; nothing else stopped it.
abbrev pub Writes : {K : Type 0} → List ℕ → Change K → Outcome → Type 0
Writes text out (Ok _) = Gains out text
Writes text out (Err WriteFault) = GainsFront out text
Writes text out (Err _) = ⊥
