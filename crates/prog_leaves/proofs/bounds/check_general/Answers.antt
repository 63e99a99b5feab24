use Rattle.std.proofs.Common.{true, ◌&&◌, if◌then◌else◌, sym, ap, ◌∙◌}
use Rattle.ir_poly.specs.Prog.{is_value}
use Rattle.prog_tree.specs.Readings.{reading}
use Rattle.prog_tree.specs.TreeOf.{tree_of}
use Rattle.prog_pats.proofs.of_prog_parts.Truths.{two}
use Rattle.prog_leaves.specs.Right.{bound_right}
use Rattle.prog_leaves.proofs.bounds.check_general.Goals as goal

pub returns : goal.returns
returns c = two c.both.ensures (c.is_value-value.ensures (reading c.args.tables.now)) c.in_ok-bound.ensures
    ∙ ap (λ g. if g then is_value (tree_of (reading c.args.tables.now) c.args.bind.now.1.exp) && bound_right c.args.tables.now c.args.environment.now c.args.bind.now else true) (sym c.if-not-bind.false)
