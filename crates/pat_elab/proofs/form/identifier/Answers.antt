use Rattle.std.proofs.Common.{refl, sym, ◌∙◌}
use Rattle.sml_tree.specs.TreeOf.{long_vid_of}
use Rattle.pat_elab.proofs.Matching.{identifier_is, binds-short}
use Rattle.pat_elab.proofs.form.identifier.Goals as goal

pub returns-then-is_bound_by : goal.returns-then-is_bound_by
returns-then-is_bound_by c =
    identifier_is c.args.state.now c.bind_variable.new.state c.args.context.now c.args.place (long_vid_of c.args.long.now) c.args.bound.now.items c.bind_variable.new.bound.items c.in_ok-variable.variable _
    (binds-short c.args.context.now c.args.long.now.qualifiers.items c.args.long.now.vid (sym c.is_bound_by.ensures ∙ c.if-is_bound_by.true)) c.in_ok-variable.ensures.is refl refl
