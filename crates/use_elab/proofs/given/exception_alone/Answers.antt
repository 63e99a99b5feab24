use Rattle.std.proofs.Common.{ap, subst, sym, ◌∙◌}
use Rattle.std.specs.Prelude.{option_map}
use Rattle.core_rules.specs.Elaborated.{exception_type}
use Rattle.ty_basis.specs.Types.{function_type}
use Rattle.elab_context.specs.Telling.{IsHeldIf}
use Rattle.elab_context.specs.of_elab_steps.World.{type_of}
use Rattle.elab_context.proofs.of_elab_steps.Growing.{type_later, grows_on, comes_before}
use Rattle.use_elab.proofs.given.exception_alone.Goals as goal

pub functions-requires-clause-from : goal.functions-requires-clause-from
functions-requires-clause-from c =
    type_later c.args.state.now c.packets.new.state c.in-Some.ty c.in_ok-packet.ensures.grows (subst (IsHeldIf c.args.state.now) c.in-Some.is c.requires)

pub returns-clause-has : goal.returns-clause-has
returns-clause-has c W w =
    c.in_ok-function.ensures.has W w ∙ ap (function_type (type_of W c.in-Some.ty)) (c.in_ok-packet.ensures.has W (comes_before c.packets.new.state c.functions.new.state W c.in_ok-function.ensures.grows w))
    ∙ ap (λ o. exception_type (option_map (type_of W) o)) (sym c.in-Some.is)

pub returns-clause-grows : goal.returns-clause-grows
returns-clause-grows c = grows_on c.args.state.now c.packets.new.state c.functions.new.state c.in_ok-packet.ensures.grows c.in_ok-function.ensures.grows
