use Rattle.std.proofs.Common.{refl, sym, ◌∙◌}
use Rattle.vx_table.specs.inner.Names.{listed}
use Rattle.vx_table.proofs.Testing.{chain-none, chain-field, chain-name, chain-block, behind-valued, behind-gap, block-when, block-repeat}
use Rattle.vx_table.proofs.depends.+claims.Goals as goal

pub behind_name-returns-then-among : goal.behind_name-returns-then-among
unfolding listed
behind_name-returns-then-among t c = rw (sym c.among.ensures ∙ c.if-among.true) c.rows_depend.ensures

pub block_depends-returns-in-When : goal.block_depends-returns-in-When
block_depends-returns-in-When t c =
    let there = sym c.hides_block.ensures ∙ c.if-hides_block.false in
    let knows = sym c.knows_presence.ensures ∙ c.if-not-knows_presence.false in
    c.rows_depend.ensures ∙ sym (block-when (listed c.args.shown.now) (listed c.args.known.now) c.args.block.now c.in-When.is there knows)

pub block_depends-returns-in-Repeat : goal.block_depends-returns-in-Repeat
block_depends-returns-in-Repeat t c =
    let there = sym c.hides_block.ensures ∙ c.if-hides_block.false in
    let knows = sym c.knows_presence.ensures ∙ c.if-not-knows_presence.false in
    c.behind_name.ensures ∙ sym (block-repeat (listed c.args.shown.now) (listed c.args.known.now) c.args.block.now c.in-Repeat.is there knows)

pub rows_depend-returns-in_default : goal.rows_depend-returns-in_default
rows_depend-returns-in_default t c = c.parts_depend.ensures ∙ sym (chain-none _ _ _ _ (rw c.in_default.is at c.split_first.ensures.cases))

pub rows_depend-returns-then-not-field_depends :
    goal.rows_depend-returns-then-not-field_depends
rows_depend-returns-then-not-field_depends t c =
    rw (c.in-Some.ensures.cases.0, c.in-Field.is, chain-field, ← c.field_depends.ensures, c.if-not-field_depends.true) refl

pub rows_depend-returns-then-has_value : goal.rows_depend-returns-then-has_value
rows_depend-returns-then-has_value t c =
    let behind = behind-valued (listed c.args.shown.now) (listed c.args.known.now) c.in-Field.cell (sym c.has_value.ensures ∙ c.if-has_value.true) in
    rw (c.in-Some.ensures.cases.0, c.in-Field.is, chain-field, ← c.field_depends.ensures, c.if-not-field_depends.false, behind) c.behind_name.ensures

pub rows_depend-returns-else-has_value : goal.rows_depend-returns-else-has_value
rows_depend-returns-else-has_value t c =
    let behind = behind-gap (listed c.args.shown.now) (listed c.args.known.now) c.in-Field.cell (sym c.has_value.ensures ∙ c.if-has_value.false) in
    rw (c.in-Some.ensures.cases.0, c.in-Field.is, chain-field, ← c.field_depends.ensures, c.if-not-field_depends.false, behind) c.rows_depend.ensures

pub rows_depend-returns-then-block_depends :
    goal.rows_depend-returns-then-block_depends
rows_depend-returns-then-block_depends t c =
    rw (c.in-Some.ensures.cases.0, c.in-Block.is, chain-block, ← c.split_block.ensures.block, ← c.split_block.ensures.behind, ← c.block_depends.ensures, c.if-block_depends.true) c.rows_depend-then-block_depends.ensures

pub rows_depend-returns-else-block_depends :
    goal.rows_depend-returns-else-block_depends
rows_depend-returns-else-block_depends t c =
    rw (c.in-Some.ensures.cases.0, c.in-Block.is, chain-block, ← c.split_block.ensures.block, ← c.split_block.ensures.behind, ← c.block_depends.ensures, c.if-block_depends.false) refl

pub rows_depend-returns-then-name_depends :
    goal.rows_depend-returns-then-name_depends
rows_depend-returns-then-name_depends t c =
    rw (c.in-Some.ensures.cases.0, c.in-Name.is, chain-name, ← c.name_depends.ensures, c.if-name_depends.true) c.behind_name-then-name_depends.ensures

pub rows_depend-returns-else-name_depends :
    goal.rows_depend-returns-else-name_depends
rows_depend-returns-else-name_depends t c =
    rw (c.in-Some.ensures.cases.0, c.in-Name.is, chain-name, ← c.name_depends.ensures, c.if-name_depends.false) refl
