use Rattle.std.proofs.Common.{[], ap, ◌∙◌}
use Rattle.sml_tree.specs.Derived.{short}
use Rattle.general_decs.specs.Values.{makes_if}
use Rattle.general_decs.proofs.Making.{held-if, makes-is}
use Rattle.general_decs.proofs.values.infix_makes.Goals as goal

pub may_make-requires : goal.may_make-requires
may_make-requires c = held-if c.args.state.now c.args.context.now c.requires.context [] c.args.vid c.find.result c.find.ensures

pub returns : goal.returns
returns c W k A t =
    c.may_make.ensures ∙ ap (makes_if c.args.state.now c.args.context.now) c.find.ensures
    ∙ makes-is c.args.state.now c.args.context.now W A c.requires.context k t (short c.args.vid)
