use Rattle.vx_table.proofs.Rewrites.{copied_rewrites, replaced_rewrites, mixed_rewrites, given_goes, absent_rewrites, present_rewrites, nothing_rewrites, rewrites_together}
use Rattle.vx_table.proofs.laws_rewritten.parts_rewrite.Goals as goal

pub returns : goal.returns
returns c = record { copied = copied_rewrites; replaced = replaced_rewrites; mixed = mixed_rewrites; given = given_goes; absent = absent_rewrites; present = present_rewrites; nothing = nothing_rewrites; together = rewrites_together }
