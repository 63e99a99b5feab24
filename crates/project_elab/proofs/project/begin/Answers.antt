use Rattle.std.proofs.Common.{◌++◌, map, ap, ◌∙◌}
use Rattle.sml_tree.specs.TreeOf.{dec_of, decs_of}
use Rattle.project_elab.proofs.Sources.{begun}
use Rattle.project_elab.proofs.project.begin.Goals as goal

pub returns : goal.returns
returns c =
    let h = c.in_ok-context.ensures in
    begun c.in_ok-state.state (record { state = c.standard_context.new.state; context = c.in_ok-context.context; body = c.standard_context.new.made; nodes = c.decs_nodes.result })
    (decs_of (map dec_of c.args.prelude.now)) h.0 c.in_ok-state.ensures.constructors (h.1 ∙ ap (λ l. l ++ h.0) c.new-body.ensures.items) c.decs_nodes.ensures h.2
