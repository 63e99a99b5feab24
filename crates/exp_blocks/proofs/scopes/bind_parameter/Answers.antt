use Rattle.std.proofs.Common.{◌∷◌, refl, ap₂, ◌∙◌}
use Rattle.exp_steps.specs.of_match_types.declared.work.ValueType.TheVariants.{Source}
use Rattle.exp_blocks.proofs.Growing.{grows-on, grows-by, grows-equal, stands-named}
use Rattle.exp_blocks.proofs.scopes.bind_parameter.Goals as goal

pub returns : goal.returns
returns c =
    let p = c.in_ok-parameter.ensures in
    record {
      grows = grows-on _ _ _ (grows-by _ _ p.keeps) (grows-equal c.new_parameter.new.work _ refl refl refl refl refl refl);
      scope = p.keeps.scope;
      names = c.in_ok-bind.ensures ∙ ap₂ (λ y l. (c.args.named.variable, y) ∷ l) p.variable p.keeps.names;
      next = p.next;
      variable = p.variable;
      type = stands-named c.new_parameter.new.work _ c.in_ok-parameter.parameter.ty (Source c.args.named.ty) (grows-equal c.new_parameter.new.work _ refl refl refl refl refl refl) refl p.ty;
    }
