-- A function before its arguments.
use Rattle.std.proofs.Common.{◌≡◌, ℕ, true, List, [], ◌∷◌, ◌++◌, map, Box, Global, refl, sym, ap, ap₂, subst, ◌∙◌}
use Rattle.std.proofs.lemmas.List.{map-append}
use Rattle.mlc_base.specs.declared.place.Place.{Place}
use Rattle.ty_core.specs.Types.{Typ}
use Rattle.ty_basis.specs.Types.{function_type}
use Rattle.ty_solve.specs.declared.limit.Limit.{Limit}
use Rattle.sml_tree.specs.BareTree as bare
use Rattle.core_rules.specs.Objects.{Over}
use Rattle.core_rules.specs.Choices.{both}
use Rattle.ir_poly.specs.Prog as prog
use Rattle.ir_poly.specs.Types.{over}
use Rattle.core_elab.specs.Resolves.{IsCalled}
use Rattle.prog_tree.specs.TreeOf.{apply_by, argument_of, tree_of}
use Rattle.prog_tree.specs.declared.tree.Exp.{Exp}
use Rattle.prog_tree.specs.declared.tree.Exp.TheVariants as tree
use Rattle.prog_tree.proofs.ExpOf.{tree_of-Apply}
use Rattle.elab_typed.specs.Numbers.{type_as}
use Rattle.elab_typed.specs.Contexts.{Around}
use Rattle.elab_typed.specs.Elaborates.{app_elab}
use Rattle.elab_typed.specs.Instances.{as_typed}
use Rattle.pat_elab.specs.of_elab_state.declared.state.State.{State}
use Rattle.pat_elab.specs.of_elab_steps.Growing.{HasType, Grows, Always, IsWithin}
use Rattle.pat_elab.specs.of_elab_steps.World.{World, type_of}
use Rattle.pat_elab.proofs.of_elab_steps.Growing.{grows_on, type_later, comes_before}
use Rattle.pat_elab.specs.of_elab_context.Entries.{limit_of}
use Rattle.pat_elab.specs.of_elab_context.Telling.{Tells, IsContext}
use Rattle.pat_elab.specs.of_elab_context.declared.context.Context.{Context}
use Rattle.use_elab.specs.Elaborated.{ElaboratesExp, IsExp}
use Rattle.use_elab.specs.declared.typed.TypedExp.{TypedExp}
use Rattle.exp_forms.specs.Calls.{IsCall}
use Rattle.exp_forms.specs.declared.made.Called.{Called}
use Rattle.exp_forms.proofs.Joining.{fewer}

-- a new type in a context
pub new-names : (C : Context) (W : World) (A : Around) (l : Limit) (k : ℕ) → Tells C W A → l ≡ limit_of C → IsWithin W l k → Over A.names (type_of W k)
new-names C W A l k t e w = subst (λ n. Over n (type_of W k)) (ap (λ (z : Limit). z.names) e ∙ sym t.names) w.names

pub new-parameters : (S : State) (C : Context) (W : World) (A : Around) (l : Limit) (k : ℕ) → IsContext S C → Tells C W A → l ≡ limit_of C → IsWithin W l k
    → over A.parameters (type_of W k) ≡ true
new-parameters S C W A l k i t e w =
    let v = subst (λ z. IsWithin W z k) e w in subst (λ qs. over qs (type_of W k) ≡ true) (sym t.parameters) (v.parameters i.deep)

pub written-as : (C : Context) (W : World) (A : Around) (u : Typ) → Tells C W A → type_as (W.naming C.naming) u ≡ type_as A.number u
written-as C W A u t = ap (λ (num : ℕ → ℕ). type_as num u) (sym t.number)

pub call_starts : (S T : State) (C : Context) (place : Place) (e : bare.Exp) (r : TypedExp) (made : Called) → IsExp S C e T r → made.function.value ≡ r.exp → made.arguments.items ≡ []
    → made.ty ≡ r.ty → IsCall S C place e T made
call_starts S T C place e r made h f as_ q = record {
  grows = h.grows;
  is = subst (HasType T) (sym q) h.is;
  gives = λ W c A t.
      subst (λ x. ElaboratesExp W A S.next e (apply_by W.reading.type place (tree_of W.reading x) (map (argument_of W.reading) made.arguments.items)) (type_of W made.ty)) (sym f)
      (subst (λ l. ElaboratesExp W A S.next e (apply_by W.reading.type place (tree_of W.reading r.exp) (map (argument_of W.reading) l)) (type_of W made.ty)) (sym as_)
      (subst (λ k. ElaboratesExp W A S.next e (tree_of W.reading r.exp) (type_of W k)) (sym q) (h.gives W c A t)));
}

apply-snoc : (g : ℕ → Typ) (place : Place) (f : prog.Exp) (as_ : List (ℕ × prog.Exp)) (a : ℕ × prog.Exp)
    → apply_by g place f (as_ ++ a ∷ []) ≡ prog.app_exp place (g a.0) (apply_by g place f as_) a.1
apply-snoc g place f [] a = refl
apply-snoc g place f (b ∷ as_) a = apply-snoc g place (prog.app_exp place (g b.0) f b.1) as_ a

pub call_goes_on : (S M N F G U T : State) (C : Context) (place : Place) (f a : bare.Exp) (old new : Called) (one : TypedExp) (l : Limit) (ty function written : ℕ) → IsContext N C
    → l ≡ limit_of C → IsCalled f → IsCall S C place f M old → IsExp M C a N one → Grows N F → HasType F ty → Always F (λ W. IsWithin W l ty) → Grows F G
    → Always G (λ W. type_of W function ≡ function_type (type_of W one.ty) (type_of W ty)) → Grows G U → Always U (λ W. type_of W old.ty ≡ type_of W function)
    → Grows U T → Always T (λ W. W.reading.type written ≡ type_as (W.naming C.naming) (type_of W ty)) → new.function ≡ old.function
    → new.arguments.items ≡ old.arguments.items ++ (written, one.exp) ∷ [] → new.ty ≡ ty → IsCall S C place (bare.app place f a) T new
call_goes_on S M N F G U T C place f a old new one l ty function written i el called h k gf hf w gg has gu same gt wr ef ea et =
    let ut = gt in
    let gt' = grows_on G U T gu gt in
    let ft = grows_on F G T gg gt' in
    let nt = grows_on N F T gf ft in
    let mt = grows_on M N T k.grows nt in
    record {
      grows = grows_on S M T h.grows mt;
      is = subst (HasType T) (sym et) (type_later F T ty ft hf);
      gives = λ W c A t.
          let wi = w W (comes_before F T W ft c) in
          let cu = comes_before U T W ut c in
          let d = h.gives W (comes_before M T W mt c) A t in
          let b = fewer W A S.next M.next a (tree_of W.reading one.exp) (type_of W one.ty) h.grows.next (k.gives W (comes_before N T W nt c) A t) in
          let before = apply_by W.reading.type place (tree_of W.reading old.function.value) (map (argument_of W.reading) old.arguments.items) in
          let is : type_of W old.ty ≡ function_type (type_of W one.ty) (type_of W ty) = same W cu ∙ has W (comes_before G T W gt' c) in
          let node = prog.app_exp place (as_typed A (type_of W ty)) before (tree_of W.reading one.exp) in
          let shape : apply_by W.reading.type place (tree_of W.reading new.function.value) (map (argument_of W.reading) new.arguments.items) ≡ node =
          ap₂ (λ (x : Box Exp Global) (y : List (ℕ × Exp)). apply_by W.reading.type place (tree_of W.reading x.value) (map (argument_of W.reading) y)) ef ea
          ∙ ap (apply_by W.reading.type place (tree_of W.reading old.function.value)) (map-append (argument_of W.reading) old.arguments.items ((written, one.exp) ∷ []))
          ∙ apply-snoc W.reading.type place (tree_of W.reading old.function.value) (map (argument_of W.reading) old.arguments.items) (written, tree_of W.reading one.exp)
          ∙ ap (λ u. prog.app_exp place u before (tree_of W.reading one.exp)) (wr W c ∙ written-as C W A (type_of W ty) t) in
          subst (λ x. ElaboratesExp W A S.next (bare.app place f a) x (type_of W new.ty)) (sym shape)
          (subst (λ z. ElaboratesExp W A S.next (bare.app place f a) node (type_of W z)) (sym et)
          (record {
            choices = both d.choices b.choices;
            elab = λ j le.
                app_elab place called (subst (λ u. Rattle.elab_typed.specs.Elaborates.ExpElab W.table A j f before u d.choices) is (d.elab j le)) (b.elab j le);
            names = new-names C W A l ty t el wi;
            parameters = new-parameters N C W A l ty i t el wi;
          }));
    }

pub call_ends : (S T : State) (C : Context) (place : Place) (e : bare.Exp) (made : Called) (r : TypedExp) → IsCall S C place e T made → r.exp ≡ tree.Apply place made.function made.arguments
    → r.ty ≡ made.ty → IsExp S C e T r
call_ends S T C place e made r h x q = record {
  grows = h.grows;
  is = subst (HasType T) (sym q) h.is;
  gives = λ W c A t.
      subst (λ z. ElaboratesExp W A S.next e z (type_of W r.ty)) (sym (ap (tree_of W.reading) x ∙ tree_of-Apply W.reading place made.function made.arguments))
      (subst (λ k. ElaboratesExp W A S.next e (apply_by W.reading.type place (tree_of W.reading made.function.value) (map (argument_of W.reading) made.arguments.items)) (type_of W k)) (sym q)
      (h.gives W c A t));
}
