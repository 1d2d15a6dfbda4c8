use Rattle.vx_pic.specs.Rules.{Readers}
use Rattle.vx_pic.specs.H266.{AreOfH266}
use Rattle.vx_assemble.proofs.Answers.{few_slices, few_subpics, gives_layout, layout_made, layout_numbers}
use Rattle.vx_assemble.proofs.readers.layout_of.Goals as goal

pub returns-clause-answer : goal.returns-clause-answer
returns-clause-answer c = λ (R : Readers) (are : AreOfH266 R).
    gives_layout c.args.sps.now c.args.pps.now (R.layout c.args.sps.now c.args.pps.now) c.picture_layout.result (are.layout c.args.sps.now c.args.pps.now) c.picture_layout.ensures.answer

pub returns-clause-numbers : goal.returns-clause-numbers
returns-clause-numbers c = layout_numbers c.args.sps.now c.args.pps.now c.picture_layout.result c.picture_layout.ensures.answer

pub returns-clause-few : goal.returns-clause-few
returns-clause-few c = few_slices c.picture_layout.result c.picture_layout.ensures.limits

pub returns-clause-few_subpics : goal.returns-clause-few_subpics
returns-clause-few_subpics c = few_subpics c.picture_layout.result c.picture_layout.ensures.limits

pub returns-clause-make : goal.returns-clause-make
returns-clause-make c = layout_made c.args.sps.now c.args.pps.now c.picture_layout.result c.picture_layout.ensures.answer
