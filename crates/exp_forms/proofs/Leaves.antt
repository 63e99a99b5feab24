-- Constants, `raise`, and types that are written.
use Rattle.std.proofs.Common.{◌≡◌, ◌≤◌, ℕ, true, Box, Global, refl, sym, ap, ap₂, subst, ◌∙◌, arith}
use Rattle.std.proofs.lemmas.Bool.{lt-ltb}
use Rattle.mlc_base.specs.declared.place.Place.{Place}
use Rattle.ty_basis.specs.Types.{exn_type}
use Rattle.ty_solve.specs.declared.limit.Limit.{Limit}
use Rattle.sml_tree.specs.Terminal.{Constant, int, word, char, string}
use Rattle.sml_tree.specs.BareTree as bare
use Rattle.core_rules.specs.Match.{constant_of as literal_of}
use Rattle.core_rules.specs.Objects.{Over}
use Rattle.core_rules.specs.Choices.{no_choice}
use Rattle.core_rules.specs.Typing.{constant_type}
use Rattle.ir_poly.specs.Prog as prog
use Rattle.ir_poly.specs.Types.{over}
use Rattle.ir_tables.specs.Tables.{literal_at}
use Rattle.ir_tables.specs.declared.tables.Constant.{Constant as ProgramConstant}
use Rattle.prog_tree.specs.TreeOf.{Reading, DecTree, RuleTree, atom_of, node_dec, node_exp, node_function, node_rule, tree_of}
use Rattle.prog_tree.specs.declared.tree.Atom.TheVariants as atom
use Rattle.prog_tree.specs.declared.tree.Exp.{Exp, Exp-F, fold-roll-Exp}
use Rattle.prog_tree.specs.declared.tree.Exp.TheVariants as tree
use Rattle.elab_typed.specs.Numbers.{type_as}
use Rattle.elab_typed.specs.Elaborates.{ExpElab, constant_exp_elab, raise_elab, typed_exp_elab}
use Rattle.elab_typed.specs.Instances.{as_typed}
use Rattle.pat_elab.specs.of_elab_state.declared.state.State.{State}
use Rattle.pat_elab.specs.of_elab_steps.Growing.{HasType, Grows, Always, IsWithin}
use Rattle.pat_elab.specs.of_elab_steps.World.{type_of}
use Rattle.pat_elab.proofs.of_elab_steps.Growing.{grows_on, type_later, comes_before}
use Rattle.pat_elab.specs.of_elab_context.Entries.{limit_of}
use Rattle.pat_elab.specs.of_elab_context.Telling.{IsContext}
use Rattle.pat_elab.specs.of_elab_context.declared.context.Context.{Context}
use Rattle.pat_elab.specs.Elaborated.{IsAnnotated}
use Rattle.use_elab.specs.Elaborated.{ElaboratesExp, IsExp}
use Rattle.use_elab.specs.declared.typed.TypedExp.{TypedExp}
use Rattle.exp_forms.proofs.Calling.{new-names, new-parameters, written-as}

-- constants

base-names : (n : ℕ) → 4 ≤ n → (c : Constant) → Over n (constant_type c)
base-names n le (int z) = (lt-ltb 0 n (omega (arith, le)), tt)
base-names n le (word k) = (lt-ltb 1 n (omega (arith, le)), tt)
base-names n le (char k) = (lt-ltb 2 n (omega (arith, le)), tt)
base-names n le (string s) = (lt-ltb 3 n (omega (arith, le)), tt)

base-parameters : (qs : _) (c : Constant) → over qs (constant_type c) ≡ true
base-parameters qs (int z) = refl
base-parameters qs (word k) = refl
base-parameters qs (char k) = refl
base-parameters qs (string s) = refl

pub constant_is : (S M N T : State) (C : Context) (place : Place) (k : Constant) (d : ProgramConstant) (ty : ℕ) (r : TypedExp) → IsContext S C → Grows S M → HasType M ty
    → Always M (λ W. type_of W ty ≡ constant_type k) → Grows M N → Always N (λ W. literal_at W.reading.strings d ≡ literal_of k) → Grows N T → r.ty ≡ ty
    → Always T (λ W. tree_of W.reading r.exp ≡ atom_of W.reading (atom.Constant d) (type_as (W.naming C.naming) (type_of W ty))) → IsExp S C (bare.constant_exp place k) T r
constant_is S M N T C place k d ty r i g h w g' l g'' q tree-is =
    let mt = grows_on M N T g' g'' in
    record {
      grows = grows_on S M T g mt;
      is = subst (HasType T) (sym q) (type_later M T ty mt h);
      gives = λ W c A t.
          let same : type_of W ty ≡ constant_type k = w W (comes_before M T W mt c) in
          let le = i.wide in let eq = t.names in let wide : 4 ≤ A.names = omega (arith, le, eq) in
          subst (λ z. ElaboratesExp W A S.next (bare.constant_exp place k) z (type_of W r.ty))
          (sym (tree-is W c ∙ ap₂ prog.constant_exp (l W (comes_before N T W g'' c)) (written-as C W A (type_of W ty) t ∙ ap (as_typed A) same)))
          (subst (ElaboratesExp W A S.next (bare.constant_exp place k) (prog.constant_exp (literal_of k) (as_typed A (constant_type k)))) (sym (ap (type_of W) q ∙ same))
          (record { choices = no_choice; elab = λ j l. constant_exp_elab place k; names = base-names A.names wide k; parameters = base-parameters A.parameters k }));
    }

-- `raise`

tree_of-Raise : (R : Reading) (a : ℕ) (e : Box Exp Global) → tree_of R (tree.Raise a e) ≡ prog.raise_exp (R.type a) (tree_of R e.value)
tree_of-Raise R a e = ap (tree_of R) (sym (tree.rolls-Raise a e)) ∙ fold-roll-Exp DecTree prog.Exp prog.Fun RuleTree (node_dec R) (node_exp R) (node_function R) (node_rule R) (Exp-F.Raise a e)

pub raise_is : (S N P U F T : State) (C : Context) (place : Place) (e : bare.Exp) (packet r : TypedExp) (l : Limit) (exn ty written : ℕ) (boxed : Box Exp Global) → IsContext N C
    → l ≡ limit_of C → IsExp S C e N packet → Grows N P → Always P (λ W. type_of W exn ≡ exn_type) → Grows P U → Always U (λ W. type_of W packet.ty ≡ type_of W exn) → Grows U F
    → HasType F ty → Always F (λ W. IsWithin W l ty) → Grows F T → Always T (λ W. W.reading.type written ≡ type_as (W.naming C.naming) (type_of W ty)) → boxed.value ≡ packet.exp
    → r.exp ≡ tree.Raise written boxed → r.ty ≡ ty → IsExp S C (bare.raise place e) T r
raise_is S N P U F T C place e packet r l exn ty written boxed i el h gp has gu same gf hf w gt wr v ex q =
    let ut = grows_on U F T gf gt in
    let pt = grows_on P U T gu ut in
    let nt = grows_on N P T gp pt in
    record {
      grows = grows_on S N T h.grows nt;
      is = subst (HasType T) (sym q) (type_later F T ty gt hf);
      gives = λ W c A t.
          let d = h.gives W (comes_before N T W nt c) A t in
          let u = type_of W ty in
          let wi = w W (comes_before F T W gt c) in
          let is : type_of W packet.ty ≡ exn_type = same W (comes_before U T W ut c) ∙ has W (comes_before P T W pt c) in
          let names = new-names C W A l ty t el wi in
          subst (λ z. ElaboratesExp W A S.next (bare.raise place e) z (type_of W r.ty))
          (sym (ap (tree_of W.reading) ex ∙ tree_of-Raise W.reading written boxed ∙ ap₂ (λ a x. prog.raise_exp a (tree_of W.reading x)) (wr W c ∙ written-as C W A u t) v))
          (subst (λ k. ElaboratesExp W A S.next (bare.raise place e) (prog.raise_exp (as_typed A u) (tree_of W.reading packet.exp)) (type_of W k)) (sym q)
          (record {
            choices = d.choices;
            elab = λ j le. raise_elab place (subst (λ z. ExpElab W.table A j e (tree_of W.reading packet.exp) z d.choices) is (d.elab j le)) names;
            names = names;
            parameters = new-parameters N C W A l ty i t el wi;
          }));
    }

-- with a type
pub typed_is : (S M T : State) (C : Context) (place : Place) (e : bare.Exp) (ty : bare.Ty) (r : TypedExp) → IsExp S C e M r → IsAnnotated M C ty r.ty T
    → IsExp S C (bare.typed place e ty) T r
typed_is S M T C place e ty r h n = record {
  grows = grows_on S M T h.grows n.grows;
  is = type_later M T r.ty n.grows h.is;
  gives = λ W c A t.
      let d = h.gives W (comes_before M T W n.grows c) A t in
      record { choices = d.choices; elab = λ j le. typed_exp_elab place (d.elab j le) (n.stands W c A t); names = d.names; parameters = d.parameters };
}
