-- Operators between expressions.
use Rattle.std.proofs.Common.{◌≡◌, ◌≤◌, ℕ, true, List, [], ◌∷◌, refl, sym, ap, ap₂, subst, ◌∙◌, arith}
use Rattle.mlc_names.specs.declared.label.Label.TheVariants.{Number}
use Rattle.mlc_base.specs.declared.place.Place.{Place}
use Rattle.ty_core.specs.Types.{Typ}
use Rattle.ty_basis.specs.Types.{function_type, pair_type}
use Rattle.ty_solve.specs.declared.limit.Limit.{Limit}
use Rattle.sml_tree.specs.BareTree as bare
use Rattle.sml_tree.specs.declared.ident.Vid.{Vid}
use Rattle.sml_tree.specs.Derived.{infix_app, short, tuple}
use Rattle.core_rules.specs.Choices.{no_choice, both}
use Rattle.core_rules.specs.Objects.{Over}
use Rattle.ir_poly.specs.Prog as prog
use Rattle.ir_poly.specs.Types.{over}
use Rattle.core_elab.specs.Resolves.{IsCalled, called_vid}
use Rattle.prog_tree.specs.TreeOf.{join, tree_of}
use Rattle.prog_tree.specs.declared.tree.Exp.{Exp}
use Rattle.prog_tree.specs.declared.tree.Join.{Join}
use Rattle.elab_typed.specs.Numbers.{type_as}
use Rattle.elab_typed.specs.Contexts.{Around}
use Rattle.elab_typed.specs.Elaborates.{app_elab, record_elab, a_field_elab, no_fields_elab}
use Rattle.elab_typed.specs.Instances.{as_typed}
use Rattle.pat_elab.specs.of_elab_state.declared.state.State.{State}
use Rattle.pat_elab.specs.of_elab_steps.Growing.{HasType, Grows, Always, IsWithin}
use Rattle.pat_elab.specs.of_elab_steps.World.{World, type_of}
use Rattle.pat_elab.proofs.of_elab_steps.Growing.{grows_on, type_later, comes_before}
use Rattle.pat_elab.specs.of_elab_context.Entries.{limit_of}
use Rattle.pat_elab.specs.of_elab_context.Telling.{IsContext}
use Rattle.pat_elab.specs.of_elab_context.declared.context.Context.{Context}
use Rattle.use_elab.specs.Elaborated.{ElaboratesExp, IsExp}
use Rattle.use_elab.specs.declared.typed.TypedExp.{TypedExp}
use Rattle.exp_forms.proofs.Calling.{new-names, new-parameters, written-as}
use Rattle.exp_forms.proofs.Joining.{fewer}
use Rattle.exp_forms.specs.Chains.{IsJoin, IsJoined}
use Rattle.exp_forms.specs.declared.parts.Joined.{Joined}

pub at-most : (i j k : ℕ) → i ≤ j → j ≤ k → i ≤ k
at-most i j k h l = omega arith

pub itself : (k : ℕ) → k ≤ k
itself k = omega arith

-- two expressions as the program has them in a pair
abbrev pub pair-of : prog.Exp → prog.Exp → prog.Fields
pair-of x y = prog.a_field (Number 1) x (prog.a_field (Number 2) y prog.no_fields)

-- an operator before a pair
pub join-do : (W : World) (A : Around) (k : ℕ) (place : Place) (f a b : bare.Exp) (o x y : prog.Exp) (l r u : Typ) → IsCalled f → Over A.names u → over A.parameters u ≡ true
    → ElaboratesExp W A k f o (function_type (pair_type l r) u) → ElaboratesExp W A k a x l → ElaboratesExp W A k b y r
    → ElaboratesExp W A k (bare.app place f (tuple place (a ∷ b ∷ []))) (prog.app_exp place (as_typed A u) o (prog.fields_exp (as_typed A (pair_type l r)) (pair-of x y))) u
join-do W A k place f a b o x y l r u called names parameters h d e = record {
  choices = both h.choices (both d.choices (both e.choices no_choice));
  elab = λ j le.
      app_elab place called (h.elab j le) (record_elab place (a_field_elab (Number 1) (d.elab j le) (a_field_elab (Number 2) (e.elab j le) no_fields_elab)) refl);
  names = names;
  parameters = parameters;
}

pub join-fewer : (W : World) (A : Around) (j k : ℕ) (f : bare.Exp → bare.Exp → bare.Exp) (g : Join) (o : Exp) (l r t : Typ) → j ≤ k → IsJoin W A k f g o l r t → IsJoin W A j f g o l r t
join-fewer W A j k f g o l r t le h = record { joins = λ i l'. h.joins i (at-most i j k l' le) }

pub joined_is : (S P F G X Y I T : State) (C : Context) (place q : Place) (v : Vid) (left right pair ty function whole two : ℕ) (l : Limit) (op : TypedExp) (d : Joined) → IsContext S C
    → l ≡ limit_of C → HasType S right → Grows S P → Always P (λ W. type_of W pair ≡ pair_type (type_of W left) (type_of W right)) → Grows P F → HasType F ty
    → Always F (λ W. IsWithin W l ty) → Grows F G → Always G (λ W. type_of W function ≡ function_type (type_of W pair) (type_of W ty)) → Grows G X
    → Always X (λ W. W.reading.type whole ≡ type_as (W.naming C.naming) (type_of W ty)) → Grows X Y
    → Always Y (λ W. W.reading.type two ≡ type_as (W.naming C.naming) (type_of W pair)) → IsExp Y C (bare.vid_exp q (short v)) I op → Grows I T
    → Always T (λ W. type_of W op.ty ≡ type_of W function) → d.join ≡ record { place = place; ty = whole; pair = two } → d.operator ≡ op.exp → d.ty ≡ ty
    → IsJoined S C (infix_app place q v) left right d.ty T d
joined_is S P F G X Y I T C place q v left right pair ty function whole two l op d i el hr gp both-is gf hf within gg fun-is gx wx gy wy used gt same ej eo et =
    let yt = grows_on Y I T used.grows gt in
    let xt = grows_on X Y T gy yt in
    let gt' = grows_on G X T gx xt in
    let ft = grows_on F G T gg gt' in
    let pt = grows_on P F T gf ft in
    let st = grows_on S P T gp pt in
    let sy = grows_on S P Y gp (grows_on P F Y gf (grows_on F G Y gg (grows_on G X Y gx gy))) in
    record {
      grows = st;
      right_is = type_later S T right st hr;
      whole_is = subst (HasType T) (sym et) (type_later F T ty ft hf);
      gives = λ W c A t.
          let u = type_of W ty in
          let lt = type_of W left in
          let rt = type_of W right in
          let wi = within W (comes_before F T W ft c) in
          let pairs : type_of W pair ≡ pair_type lt rt = both-is W (comes_before P T W pt c) in
          let is : type_of W op.ty ≡ function_type (pair_type lt rt) u = same W c ∙ fun-is W (comes_before G T W gt' c) ∙ ap (λ z. function_type z u) pairs in
          let name = bare.vid_exp q (short v) in
          let used-here = fewer W A S.next Y.next name (tree_of W.reading op.exp) (type_of W op.ty) sy.next (used.gives W (comes_before I T W gt c) A t) in
          let operator = subst (ElaboratesExp W A S.next name (tree_of W.reading op.exp)) is used-here in
          record {
            joins = λ j le a b x y da db.
                let made = join-do W A j place name a b (tree_of W.reading op.exp) x y lt rt u (called_vid q (short v)) (new-names C W A l ty t el wi) (new-parameters S C W A l ty i t el wi)
                (fewer W A j S.next name (tree_of W.reading op.exp) (function_type (pair_type lt rt) u) le operator) da db in
                let shape : join W.reading.type d.join (tree_of W.reading d.operator) x y
                ≡ prog.app_exp place (as_typed A u) (tree_of W.reading op.exp) (prog.fields_exp (as_typed A (pair_type lt rt)) (pair-of x y))
                = ap₂ (λ (g : Join) (o : Exp). join W.reading.type g (tree_of W.reading o) x y) ej eo
                ∙ ap₂ (λ m n. prog.app_exp place m (tree_of W.reading op.exp) (prog.fields_exp n (pair-of x y))) (wx W (comes_before X T W xt c) ∙ written-as C W A u t)
                (wy W (comes_before Y T W yt c) ∙ written-as C W A (type_of W pair) t ∙ ap (as_typed A) pairs) in
                subst (λ z. ElaboratesExp W A j (infix_app place q v a b) z (type_of W d.ty)) (sym shape)
                (subst (λ k. ElaboratesExp W A j (infix_app place q v a b) (prog.app_exp place (as_typed A u) (tree_of W.reading op.exp) (prog.fields_exp (as_typed A (pair_type lt rt)) (pair-of x y))) (type_of W k)) (sym et)
                made);
          };
    }

pub joined_new : (S M N T : State) (C : Context) (f : bare.Exp → bare.Exp → bare.Exp) (left right whole : ℕ) (d : Joined) → Grows S M → HasType S whole → IsJoined M C f left right d.ty N d
    → Grows N T → Always T (λ W. type_of W whole ≡ type_of W d.ty) → IsJoined S C f left right whole T d
joined_new S M N T C f left right whole d g h k g' same =
    let mt = grows_on M N T k.grows g' in
    let st = grows_on S M T g mt in record {
      grows = st;
      right_is = type_later N T right g' k.right_is;
      whole_is = type_later S T whole st h;
      gives = λ W c A t.
          subst (IsJoin W A S.next f d.join d.operator (type_of W left) (type_of W right)) (sym (same W c))
          (join-fewer W A S.next M.next f d.join d.operator (type_of W left) (type_of W right) (type_of W d.ty) g.next (k.gives W (comes_before N T W g' c) A t));
    }

pub operator_is : (S T : State) (C : Context) (place : Place) (v : Vid) (qs : List ℕ) (r : TypedExp) → qs ≡ [] → IsExp S C (bare.vid_exp place (record { qualifiers = qs; vid = v })) T r
    → IsExp S C (bare.vid_exp place (short v)) T r
operator_is S T C place v qs r e h = subst (λ q. IsExp S C (bare.vid_exp place (record { qualifiers = q; vid = v })) T r) e h

-- several steps

pub grows_3 : (S T U V : State) → Grows S T → Grows T U → Grows U V → Grows S V
grows_3 S T U V f g h = grows_on S U V (grows_on S T U f g) h

pub grows_4 : (S T U V X : State) → Grows S T → Grows T U → Grows U V → Grows V X → Grows S X
grows_4 S T U V X f g h i = grows_on S V X (grows_3 S T U V f g h) i
