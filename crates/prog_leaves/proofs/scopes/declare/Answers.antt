use Rattle.std.proofs.Common.{◌++◌, refl, ap, ◌∙◌}
use Rattle.ir_poly.specs.Types.{are_new}
use Rattle.prog_known.specs.Environments.{parameters_in}
use Rattle.prog_pats.proofs.of_prog_parts.Truths.{as-decided}
use Rattle.prog_leaves.proofs.Inside.{environment-by, extends-either}
use Rattle.prog_leaves.proofs.scopes.declare.Goals as goal

pub returns-clause-new : goal.returns-clause-new
returns-clause-new c = as-decided c.in_ok-new.new (are_new c.parameters.result.now (parameters_in c.args.environment.now)) c.in_ok-new.ensures.new
    ∙ ap (λ l. are_new l (parameters_in c.args.environment.now)) c.parameters.ensures

pub returns-clause-declared : goal.returns-clause-declared
returns-clause-declared c = λ e. c.in_ok-new.ensures.declared e ∙ ap (λ l. l ++ parameters_in c.args.environment.now) c.parameters.ensures

pub returns-clause-extends : goal.returns-clause-extends
returns-clause-extends c = extends-either c.args.environment.now (record { parameters = c.declare_all.new.scope; variables = c.args.environment.now.variables }) c.parameters.result.now c.in_ok-new.new
    (λ e. c.in_ok-new.ensures.declared e) (λ e. c.in_ok-new.ensures.kept e) refl

pub returns-clause-kept : goal.returns-clause-kept
returns-clause-kept c = λ e. environment-by (record { parameters = c.declare_all.new.scope; variables = c.args.environment.now.variables }) c.args.environment.now (c.in_ok-new.ensures.kept e) refl
