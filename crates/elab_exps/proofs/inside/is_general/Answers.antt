use Rattle.std.proofs.Common.{sym, subst, ◌∙◌}
use Rattle.std.proofs.lemmas.Bool.{and_parts}
use Rattle.sml_tree.specs.TreeOf.{exp_of}
use Rattle.general_decs.specs.Values.{IsNonExpansiveAs}
use Rattle.elab_exps.proofs.inside.is_general.Goals as goal

pub returns : goal.returns
returns c e =
    let p = and_parts c.is_non_expansive.result c.is_value.result (sym c.both.ensures ∙ e) in
    record {
      source = subst (IsNonExpansiveAs c.args.state.now c.args.context.now (exp_of c.args.exp.now)) p.0 c.is_non_expansive.ensures;
      program = λ R. sym (c.is_value.ensures R) ∙ p.1;
    }
