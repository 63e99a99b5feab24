use Rattle.std.proofs.Common.{Some, sym, ap, ◌∙◌}
use Rattle.std.specs.Prelude.{option_map}
use Rattle.elab_context.specs.of_elab_steps.World.{type_of}
use Rattle.elab_context.proofs.of_elab_steps.Growing.{grows_on, comes_before}
use Rattle.pat_elab.proofs.matched.exception_before.Goals as goal

pub returns-clause-grows : goal.returns-clause-grows
returns-clause-grows c = grows_on c.args.state.now c.unify.new.state c.packets.new.state c.in_ok-unify.ensures.grows c.in_ok-packets.ensures.grows

pub returns-clause-argument : goal.returns-clause-argument
returns-clause-argument c W w =
    ap (option_map (type_of W)) c.in-Some.is ∙ ap Some (sym (c.in_ok-unify.ensures.equal W (comes_before c.unify.new.state c.packets.new.state W c.in_ok-packets.ensures.grows w)))
