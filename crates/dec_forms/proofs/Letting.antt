-- `let`.
use Rattle.std.proofs.Common.{◌≡◌, ℕ, List, map, Vec, Box, Global, sym, ap, ap₂, subst, ◌∙◌}
use Rattle.mlc_base.specs.declared.place.Place.{Place}
use Rattle.ty_solve.specs.declared.limit.Limit.{Limit}
use Rattle.sml_tree.specs.BareTree as bare
use Rattle.sml_tree.specs.TreeOf as source
use Rattle.core_rules.specs.Choices.{both}
use Rattle.ir_poly.specs.Prog as prog
use Rattle.prog_tree.specs.TreeOf.{dec_of, decs_of, tree_of}
use Rattle.prog_tree.specs.declared.tree.Dec.{Dec}
use Rattle.prog_tree.specs.declared.tree.Exp.{Exp}
use Rattle.prog_tree.specs.declared.tree.Exp.TheVariants as tree
use Rattle.prog_tree.proofs.ExpOf.{tree_of-Let}
use Rattle.elab_typed.specs.Numbers.{type_as}
use Rattle.elab_typed.specs.Elaborates.{ExpElab, let_elab}
use Rattle.elab_typed.specs.Instances.{as_typed}
use Rattle.closed_types.specs.of_elab_state.declared.state.State.{State}
use Rattle.closed_types.specs.of_elab_steps.Growing.{HasType, Grows, Always, IsWithin}
use Rattle.closed_types.specs.of_elab_steps.World.{type_of}
use Rattle.closed_types.proofs.of_elab_steps.Growing.{grows_on, type_later, comes_before}
use Rattle.exp_forms.specs.of_elab_context.Entries.{limit_of}
use Rattle.exp_forms.specs.of_elab_context.Telling.{IsContext}
use Rattle.exp_forms.specs.of_elab_context.declared.context.Context.{Context}
use Rattle.exp_forms.specs.of_use_elab.Elaborated.{ElaboratesExp, IsExp}
use Rattle.exp_forms.specs.of_use_elab.declared.typed.TypedExp.{TypedExp}
use Rattle.exp_forms.proofs.Calling.{new-names, new-parameters, written-as}
use Rattle.dec_forms.specs.Decs.{IsDecs}
use Rattle.dec_forms.proofs.Sequencing.{choices_of, decs-do}

pub let_is : (S M N F U T : State) (C D : Context) (p : Place) (ds : List bare.Dec) (e : bare.Exp) (decs : Vec Dec Global) (body r : TypedExp) (l : Limit) (ty written : ℕ)
    (boxed : Box Exp Global) → IsContext N C → IsDecs S C ds M D decs.items → IsExp M D e N body → l ≡ limit_of C → Grows N F → HasType F ty
    → Always F (λ W. IsWithin W l ty) → Grows F U → Always U (λ W. type_of W body.ty ≡ type_of W ty) → Grows U T
    → Always T (λ W. W.reading.type written ≡ type_as (W.naming C.naming) (type_of W ty)) → boxed.value ≡ body.exp → r.exp ≡ tree.Let written decs boxed → r.ty ≡ ty
    → IsExp S C (bare.let_in p (source.decs_of ds) e) T r
let_is S M N F U T C D p ds e decs body r l ty written boxed ic h i el gf hf w gu same gt wr v ex q =
    let ft = grows_on F U T gu gt in
    let nt = grows_on N F T gf ft in
    let mt = grows_on M N T i.grows nt in
    record {
      grows = grows_on S M T h.grows mt;
      is = subst (HasType T) (sym q) (type_later F T ty ft hf);
      gives = λ W c A t.
          let R = W.reading in
          let a = h.gives W (comes_before M T W mt c) A t in
          let u = type_of W ty in
          let is : type_of W body.ty ≡ u = same W (comes_before U T W gt c) in
          let b = i.gives W (comes_before N T W nt c) a.around a.tells in
          let wi = w W (comes_before F T W ft c) in
          let names = new-names C W A l ty t el wi in
          let x = tree_of R body.exp in
          let node = prog.let_exp (as_typed A u) (decs_of (map (dec_of R) decs.items)) x in
          let tree-is : tree_of R r.exp ≡ node =
          ap (tree_of R) ex ∙ tree_of-Let R written decs boxed ∙ ap₂ (λ y z. prog.let_exp y (decs_of (map (dec_of R) decs.items)) (tree_of R z)) (wr W c ∙ written-as C W A u t) v in
          subst (λ z. ElaboratesExp W A S.next (bare.let_in p (source.decs_of ds) e) z (type_of W r.ty)) (sym tree-is)
          (subst (λ k. ElaboratesExp W A S.next (bare.let_in p (source.decs_of ds) e) node (type_of W k)) (sym q)
          (record {
            choices = both (choices_of a.choices) b.choices;
            elab = λ j le.
                let f = a.elab j le in
                let d = decs-do f.elab in
                let last : ExpElab W.table a.around f.next e x u b.choices = subst (λ z. ExpElab W.table a.around f.next e x z b.choices) is (b.elab f.next f.most) in
                subst (λ z. ExpElab W.table A j (bare.let_in p (source.decs_of ds) e) (prog.let_exp (as_typed A u) z x) u (both (choices_of a.choices) b.choices)) a.whole
                (let_elab p d.elab (subst (λ B. ExpElab W.table B f.next e x u b.choices) (sym d.is) last) names);
            names = names;
            parameters = new-parameters N C W A l ty ic t el wi;
          }));
    }
