-- The constructors that derived forms name.
use Rattle.std.proofs.Common.{◌≡◌, ◌⊎◌, inl, inr, ◌≤◌, ℕ, true, List, [], ◌∷◌, Some, None, refl, sym, ap, subst, ◌∙◌, ◌&&◌, arith}
use Rattle.std.proofs.lemmas.Bool.{lt-ltb}
use Rattle.mlc_base.specs.declared.place.Place.{Place}
use Rattle.ty_core.specs.Types.{Typ, con, more, none, name}
use Rattle.ty_basis.specs.Types.{bool_name, bool_type, list_name, list_type, pair_type, function_type}
use Rattle.sml_tree.specs.BareTree as bare
use Rattle.sml_tree.specs.declared.ident.BuiltIn.{BuiltIn}
use Rattle.sml_tree.specs.declared.ident.BuiltIn.TheVariants.{True, False, Nil, Cons}
use Rattle.core_rules.specs.Objects.{Over}
use Rattle.core_rules.specs.Choices.{no_choice}
use Rattle.ir_poly.specs.Prog as prog
use Rattle.ir_poly.specs.Types.{over, constructor_of}
use Rattle.ir_poly.specs.TestsChecked.{HasConstructor}
use Rattle.core_elab.specs.Scopes.{built_number}
use Rattle.prog_tree.specs.TreeOf.{pat_of, before}
use Rattle.prog_tree.specs.declared.tree.Head.TheVariants as head
use Rattle.prog_tree.specs.declared.tree.Pat.TheVariants as tree
use Rattle.elab_context.specs.of_elab_typed.Numbers.{type_as}
use Rattle.elab_context.specs.of_elab_typed.Contexts.{Around}
use Rattle.elab_context.specs.of_elab_typed.Elaborates.{built_elab, built_con_elab, built_value}
use Rattle.elab_context.specs.of_elab_typed.Instances.{IsGivenAt, as_typed}
use Rattle.elab_context.proofs.of_elab_typed.Names.{over-as, name-kept, of_name-kept}
use Rattle.elab_context.specs.of_elab_state.declared.state.State.{State}
use Rattle.elab_context.specs.of_elab_steps.Growing.{HasType, Grows, Always, IsWithin}
use Rattle.elab_context.specs.of_elab_steps.World.{World, type_of, Comes}
use Rattle.elab_context.proofs.of_elab_steps.Growing.{grows_on, type_later, comes_before}
use Rattle.elab_context.specs.Entries.{limit_of}
use Rattle.elab_context.specs.Telling.{Tells, IsContext}
use Rattle.elab_context.specs.declared.context.Context.{Context}
use Rattle.pat_elab.proofs.Leaves.{no-more, within-names, within-parameters}
use Rattle.pat_elab.proofs.Trees.{pat_of-Constructor}
use Rattle.pat_elab.specs.Elaborated.{Elaborates, IsPat}
use Rattle.pat_elab.specs.declared.bound.BoundVariable.{BoundVariable}
use Rattle.pat_elab.specs.declared.bound.TypedPat.{TypedPat}
use Rattle.pat_elab.proofs.Matching.{as-written}
use Rattle.pat_elab.specs.Matched.{IsHead, IsHeaded}
use Rattle.pat_elab.specs.declared.headed.Headed.{Headed}

-- a pattern that binds nothing
leaf_is : (S T : State) (C : Context) (a : bare.Pat) (bs : List BoundVariable) (r : TypedPat) → Grows S T → HasType T r.ty → T.next ≡ S.next
    → ((W : World) → Comes T W → (A : Around) → Tells C W A → Elaborates W A S.next a (pat_of W.reading r.pat) (type_of W r.ty) [] S.next) → IsPat S C a T bs bs r
leaf_is S T C a bs r g h n m = record {
  added = [];
  bound = no-more bs;
  grows = g;
  is = h;
  have = tt;
  gives = λ W c A t. subst (Elaborates W A S.next a (pat_of W.reading r.pat) (type_of W r.ty) []) (sym n) (m W c A t);
}

wide-names : (S : State) (C : Context) (W : World) (A : Around) → IsContext S C → Tells C W A → 8 ≤ A.names
wide-names S C W A i t = let le = i.wide in let same = t.names in omega (arith, le, same)

-- truth values

bool-given : (A : Around) (b : BuiltIn) → (b ≡ True) ⊎ (b ≡ False) → 8 ≤ A.names → IsGivenAt A (built_value b) [] bool_type no_choice
bool-given A True h le = record { allowed = tt; over = (lt-ltb 6 A.names (omega (arith, le)), tt); is = λ s. refl; chosen = refl }
bool-given A False h le = record { allowed = tt; over = (lt-ltb 6 A.names (omega (arith, le)), tt); is = λ s. refl; chosen = refl }
bool-given A Nil (inl e) le = absurd (cc)
bool-given A Nil (inr e) le = absurd (cc)
bool-given A Cons (inl e) le = absurd (cc)
bool-given A Cons (inr e) le = absurd (cc)

bool-row : (C : Context) (W : World) (A : Around) (b : BuiltIn) → (b ≡ True) ⊎ (b ≡ False) → Tells C W A → HasConstructor W.table (built_number b) (as_typed A bool_type) None
bool-row C W A True h t = record {
  datatype = bool_name;
  arguments = [];
  row = constructor_of bool_name (built_number True) None;
  found = t.built bool_name (built_number True) (constructor_of bool_name (built_number True) None) refl;
  same = refl;
  type = of_name-kept bool_name t.initial refl;
  argument = refl;
}
bool-row C W A False h t = record {
  datatype = bool_name;
  arguments = [];
  row = constructor_of bool_name (built_number False) None;
  found = t.built bool_name (built_number False) (constructor_of bool_name (built_number False) None) refl;
  same = refl;
  type = of_name-kept bool_name t.initial refl;
  argument = refl;
}
bool-row C W A Nil (inl e) t = absurd (cc)
bool-row C W A Nil (inr e) t = absurd (cc)
bool-row C W A Cons (inl e) t = absurd (cc)
bool-row C W A Cons (inr e) t = absurd (cc)

pub truth_is : (S T : State) (C : Context) (place : Place) (b : BuiltIn) (bs : List BoundVariable) (r : TypedPat) → IsContext S C → (b ≡ True) ⊎ (b ≡ False) → Grows S T → HasType T r.ty
    → Always T (λ W. type_of W r.ty ≡ bool_type) → T.next ≡ S.next → r.pat ≡ tree.Constructor (built_number b) → IsPat S C (bare.built_pat place b) T bs bs r
truth_is S T C place b bs r i h g is w n p = leaf_is S T C (bare.built_pat place b) bs r g is n (λ W c A t.
    let le = wide-names S C W A i t in
    let given = bool-given A b h le in
    subst (λ q. Elaborates W A S.next (bare.built_pat place b) q (type_of W r.ty) [] S.next) (sym (ap (pat_of W.reading) p ∙ pat_of-Constructor W.reading (built_number b)))
    (subst (λ u. Elaborates W A S.next (bare.built_pat place b) (prog.con_pat (built_number b)) u [] S.next) (sym (w W c))
    (record {
      choices = no_choice;
      elab = built_elab place b [] given (bool-row C W A b h t);
      names = given.over;
      parameters = refl;
    })))

-- lists

module _ (C : Context) (W : World) (A : Around) (t : Tells C W A) (u : Typ) (le : 8 ≤ A.names) (o : Over A.names u) where
  list-over : Over A.names (list_type u)
  list-over = (lt-ltb 7 A.names (omega (arith, le)), (o, tt))

  nil-given : IsGivenAt A (built_value Nil) (u ∷ []) (list_type u) no_choice
  nil-given = record { allowed = (tt, tt); over = list-over; is = λ s. refl; chosen = refl }

  cons-given : IsGivenAt A (built_value Cons) (u ∷ []) (function_type (pair_type u (list_type u)) (list_type u)) no_choice
  cons-given = record { allowed = (tt, tt); over = (tt, ((tt, (o, (list-over, tt))), (list-over, tt))); is = λ s. refl; chosen = refl }

  list-as : as_typed A (list_type u) ≡ list_type (as_typed A u)
  list-as = ap (λ y. con (name y) (more (as_typed A u) none)) (name-kept list_name t.initial refl)

  nil-row : HasConstructor W.table (built_number Nil) (as_typed A (list_type u)) None
  nil-row = record {
    datatype = list_name;
    arguments = as_typed A u ∷ [];
    row = constructor_of list_name (built_number Nil) None;
    found = t.built list_name (built_number Nil) (constructor_of list_name (built_number Nil) None) refl;
    same = refl;
    type = list-as;
    argument = refl;
  }

  cons-row : HasConstructor W.table (built_number Cons) (as_typed A (list_type u)) (Some (as_typed A (pair_type u (list_type u))))
  cons-row = record {
    datatype = list_name;
    arguments = as_typed A u ∷ [];
    row = constructor_of list_name (built_number Cons) (Some (pair_type (Rattle.ty_core.specs.Types.var 0) (list_type (Rattle.ty_core.specs.Types.var 0))));
    found = t.built list_name (built_number Cons) (constructor_of list_name (built_number Cons) (Some (pair_type (Rattle.ty_core.specs.Types.var 0) (list_type (Rattle.ty_core.specs.Types.var 0))))) refl;
    same = refl;
    type = list-as;
    argument = ap (λ z. Some (pair_type (as_typed A u) z)) (sym list-as);
  }

pub nil_at : (S : State) (C : Context) (W : World) (A : Around) (place : Place) (k : ℕ) (u : Typ) → IsContext S C → Tells C W A → Over A.names u → over A.parameters u ≡ true
    → Elaborates W A k (bare.built_pat place Nil) (prog.con_pat (built_number Nil)) (list_type u) [] k
nil_at S C W A place k u i t o p =
    let le = wide-names S C W A i t in record {
      choices = no_choice;
      elab = built_elab place Nil (u ∷ []) (nil-given C W A t u le o) (nil-row C W A t u le o);
      names = list-over C W A t u le o;
      parameters = ap (λ b. b && true) p;
    }

pub empty_is : (S M T : State) (C : Context) (place : Place) (bs : List BoundVariable) (element ty : ℕ) (r : TypedPat) → IsContext S C → Grows S M → Always M (λ W. IsWithin W (limit_of C) element)
    → M.next ≡ S.next → Grows M T → HasType T ty → Always T (λ W. type_of W ty ≡ list_type (type_of W element)) → T.next ≡ M.next → r.pat ≡ tree.Constructor (built_number Nil) → r.ty ≡ ty
    → IsPat S C (bare.built_pat place Nil) T bs bs r
empty_is S M T C place bs element ty r i g in_limit n g' is w n' p e = leaf_is S T C (bare.built_pat place Nil) bs r (grows_on S M T g g') (subst (HasType T) (sym e) is) (n' ∙ n) (λ W c A t.
    let inside = in_limit W (comes_before M T W g' c) in
    subst (λ q. Elaborates W A S.next (bare.built_pat place Nil) q (type_of W r.ty) [] S.next) (sym (ap (pat_of W.reading) p ∙ pat_of-Constructor W.reading (built_number Nil)))
    (subst (λ k. Elaborates W A S.next (bare.built_pat place Nil) (prog.con_pat (built_number Nil)) (type_of W k) [] S.next) (sym e)
    (subst (λ u. Elaborates W A S.next (bare.built_pat place Nil) (prog.con_pat (built_number Nil)) u [] S.next) (sym (w W c))
    (nil_at S C W A place S.next (type_of W element) i t (within-names C W A element t inside) (within-parameters S C W A element i t inside)))))

-- :: before a pair of an element and a list of such
pub cons_heads : (S : State) (C : Context) (W : World) (A : Around) (place : Place) (u v : Typ) (h : Headed) → IsContext S C → Tells C W A → Over A.names u → over A.parameters u ≡ true
    → v ≡ pair_type u (list_type u) → h.head ≡ head.Constructor (built_number Cons) → W.reading.type h.written ≡ as_typed A v → type_of W h.ty ≡ list_type u
    → IsHead W A (bare.built_con_pat place Cons) v h
cons_heads S C W A place u v h i t o p q eh ew et = record {
  heads = λ k j a b bs e.
      let le = wide-names S C W A i t in
      let d : Elaborates W A k a b (pair_type u (list_type u)) bs j = subst (λ z. Elaborates W A k a b z bs j) q e in
      let source = bare.built_con_pat place Cons a in
      let typed = as_typed A (pair_type u (list_type u)) in
      subst (λ z. Elaborates W A k source (before z (W.reading.type h.written) b) (type_of W h.ty) bs j) (sym eh)
      (subst (λ z. Elaborates W A k source (prog.con_of_pat (built_number Cons) z b) (type_of W h.ty) bs j) (sym (ew ∙ ap (as_typed A) q))
      (subst (λ z. Elaborates W A k source (prog.con_of_pat (built_number Cons) typed b) z bs j) (sym et)
      (record {
        choices = d.choices;
        elab = built_con_elab place Cons (u ∷ []) (cons-given C W A t u le o) (cons-row C W A t u le o) (over-as A.number A.parameters (pair_type u (list_type u)) ∙ d.parameters) d.elab;
        names = list-over C W A t u le o;
        parameters = ap (λ b. b && true) p;
      })));
}

pub cons_headed : (S L M N P T : State) (C : Context) (place : Place) (argument element pair : ℕ) (h : Headed) → IsContext S C → Grows S L → Always L (λ W. IsWithin W (limit_of C) element) → L.next ≡ S.next
    → Grows L M → HasType M h.ty → Always M (λ W. type_of W h.ty ≡ list_type (type_of W element)) → M.next ≡ L.next
    → Grows M N → Always N (λ W. type_of W pair ≡ pair_type (type_of W element) (type_of W h.ty)) → N.next ≡ M.next
    → Grows N P → Always P (λ W. type_of W argument ≡ type_of W pair) → P.next ≡ N.next
    → Grows P T → Always T (λ W. W.reading.type h.written ≡ type_as (W.naming C.naming) (type_of W argument)) → T.next ≡ P.next
    → h.head ≡ head.Constructor (built_number Cons) → IsHeaded S C (bare.built_con_pat place Cons) argument T h
cons_headed S L M N P T C place argument element pair h i gl inside nl gm is list nm gn both nn gp same np gt written nt eh =
    let pt = grows_on N P T gp gt in let mt = grows_on M N T gn pt in let lt = grows_on L M T gm mt in record {
      grows = grows_on S L T gl lt;
      next = nt ∙ np ∙ nn ∙ nm ∙ nl;
      is = type_later M T h.ty mt is;
      gives = λ W c A t.
          let cp = comes_before P T W gt c in
          let cn = comes_before N P W gp cp in
          let cm = comes_before M N W gn cn in
          let within = inside W (comes_before L M W gm cm) in
          let elements = list W cm in
          cons_heads S C W A place (type_of W element) (type_of W argument) h i t (within-names C W A element t within) (within-parameters S C W A element i t within)
          (same W cp ∙ both W cn ∙ ap (pair_type (type_of W element)) elements) eh (as-written C W A h.written (type_of W argument) t (written W c)) elements;
    }
