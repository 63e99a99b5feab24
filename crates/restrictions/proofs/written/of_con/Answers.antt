use Rattle.std.proofs.Common.{ap, ◌++◌}
use Rattle.sml_tree.specs.Derived.{expand_some}
use Rattle.sml_tree.specs.TreeOf.{some_ty_of}
use Rattle.restrictions.specs.Written.{some_marks, unless_mark}
use Rattle.restrictions.proofs.Abbreviated.{notes-both}
use Rattle.restrictions.proofs.Standing.{if-ok}
use Rattle.restrictions.proofs.written.of_con.Goals as goal

pub returns : goal.returns
returns c =
    if-ok c.mark_unless.result
    (λ u k bs r.
    notes-both c.args.marks.now.items _ _ _ _ _ (c.in_ok-of_some_written.ensures bs r) k
    (ap (λ b. some_marks (expand_some bs (some_ty_of c.args.con.now.of_ty)) ++ unless_mark b c.args.con.now.place) c.may_construct.ensures))
    c.mark_unless.ensures
