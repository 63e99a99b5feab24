use Rattle.std.proofs.Common.{ap, ◌∙◌}
use Rattle.sml_tree.specs.TreeOf.{long_vid_of}
use Rattle.general_decs.specs.Values.{makes_if}
use Rattle.general_decs.proofs.Making.{makes-is}
use Rattle.general_decs.proofs.values.long_makes.Goals as goal

pub returns : goal.returns
returns c W k A t =
    c.may_make.ensures ∙ ap (makes_if c.args.state.now c.args.context.now) c.find.ensures
    ∙ makes-is c.args.state.now c.args.context.now W A c.requires.context k t (long_vid_of c.args.long.now)
