-- The constructors that derived forms name.
use Rattle.std.proofs.Common.{◌≡◌, ◌⊎◌, inl, inr, ◌≤◌, ℕ, true, List, [], ◌∷◌, Some, None, refl, sym, ap, ap₂, subst, ◌∙◌, ◌&&◌, arith}
use Rattle.std.proofs.lemmas.Bool.{lt-ltb}
use Rattle.mlc_base.specs.declared.place.Place.{Place}
use Rattle.ty_core.specs.Types.{Typ, var, con, more, none, name}
use Rattle.ty_basis.specs.Types.{bool_name, bool_type, list_name, list_type, pair_type, function_type}
use Rattle.ty_solve.specs.declared.limit.Limit.{Limit}
use Rattle.sml_tree.specs.BareTree as bare
use Rattle.sml_tree.specs.declared.ident.BuiltIn.{BuiltIn}
use Rattle.sml_tree.specs.declared.ident.BuiltIn.TheVariants.{True, False, Nil, Cons}
use Rattle.core_rules.specs.Objects.{Over}
use Rattle.core_rules.specs.Choices.{no_choice}
use Rattle.ir_poly.specs.Prog as prog
use Rattle.ir_poly.specs.Types.{over, constructor_of}
use Rattle.core_elab.specs.Scopes.{built_number}
use Rattle.prog_tree.specs.TreeOf.{tree_of, use_of}
use Rattle.prog_tree.specs.declared.tree.Used.TheVariants as used
use Rattle.elab_typed.specs.Numbers.{type_as}
use Rattle.elab_typed.specs.Contexts.{Around}
use Rattle.elab_typed.specs.Elaborates.{built_exp_elab, built_value}
use Rattle.elab_typed.specs.Instances.{IsGivenAt, ConHas, as_typed}
use Rattle.elab_typed.proofs.Names.{over-as, name-kept, of_name-kept}
use Rattle.pat_elab.specs.of_elab_state.declared.state.State.{State}
use Rattle.pat_elab.specs.of_elab_steps.Growing.{HasType, Grows, Always, IsWithin}
use Rattle.pat_elab.specs.of_elab_steps.World.{World, type_of, Comes}
use Rattle.pat_elab.proofs.of_elab_steps.Growing.{grows_on, type_later, comes_before}
use Rattle.pat_elab.specs.of_elab_context.Entries.{limit_of}
use Rattle.pat_elab.specs.of_elab_context.Telling.{Tells, IsContext}
use Rattle.pat_elab.specs.of_elab_context.declared.context.Context.{Context}
use Rattle.use_elab.specs.Elaborated.{ElaboratesExp, IsExp}
use Rattle.use_elab.specs.declared.typed.TypedExp.{TypedExp}
use Rattle.exp_forms.proofs.Calling.{new-names, new-parameters, written-as}
use Rattle.exp_forms.specs.Constructed.{AreListTypes}
use Rattle.exp_forms.specs.declared.parts.ListTypes.{ListTypes}

wide-names : (S : State) (C : Context) (W : World) (A : Around) → IsContext S C → Tells C W A → 8 ≤ A.names
wide-names S C W A i t = let le = i.wide in let same = t.names in omega (arith, le, same)

-- truth values

bool-given : (A : Around) (b : BuiltIn) → (b ≡ True) ⊎ (b ≡ False) → 8 ≤ A.names → IsGivenAt A (built_value b) [] bool_type no_choice
bool-given A True h le = record { allowed = tt; over = (lt-ltb 6 A.names (omega (arith, le)), tt); is = λ s. refl; chosen = refl }
bool-given A False h le = record { allowed = tt; over = (lt-ltb 6 A.names (omega (arith, le)), tt); is = λ s. refl; chosen = refl }
bool-given A Nil (inl e) le = absurd (cc)
bool-given A Nil (inr e) le = absurd (cc)
bool-given A Cons (inl e) le = absurd (cc)
bool-given A Cons (inr e) le = absurd (cc)

bool-has : (C : Context) (W : World) (A : Around) (b : BuiltIn) → (b ≡ True) ⊎ (b ≡ False) → Tells C W A → ConHas W.table A (built_number b) bool_name [] (as_typed A bool_type)
bool-has C W A True h t = record {
  row = constructor_of bool_name (built_number True) None;
  found = t.built bool_name (built_number True) (constructor_of bool_name (built_number True) None) refl;
  same = refl;
  over = refl;
  is = of_name-kept bool_name t.initial refl;
}
bool-has C W A False h t = record {
  row = constructor_of bool_name (built_number False) None;
  found = t.built bool_name (built_number False) (constructor_of bool_name (built_number False) None) refl;
  same = refl;
  over = refl;
  is = of_name-kept bool_name t.initial refl;
}
bool-has C W A Nil (inl e) t = absurd (cc)
bool-has C W A Nil (inr e) t = absurd (cc)
bool-has C W A Cons (inl e) t = absurd (cc)
bool-has C W A Cons (inr e) t = absurd (cc)

pub truth_is : (S M T : State) (C : Context) (b : BuiltIn) (n ty : ℕ) (ts : List ℕ) (r : TypedExp) → IsContext S C → (b ≡ True) ⊎ (b ≡ False) → n ≡ built_number b → Grows S M → HasType M ty
    → Always M (λ W. type_of W ty ≡ bool_type) → ts ≡ [] → Grows M T → r.ty ≡ ty
    → Always T (λ W. tree_of W.reading r.exp ≡ use_of W.reading (used.Constructor n bool_name) ts (type_as (W.naming C.naming) (type_of W ty)))
    → (place : Place) → IsExp S C (bare.built_exp place b) T r
truth_is S M T C b n ty ts r i h en g is has nothing g' q tree place = record {
  grows = grows_on S M T g g';
  is = subst (HasType T) (sym q) (type_later M T ty g' is);
  gives = λ W c A t.
      let le = wide-names S C W A i t in
      let given = bool-given A b h le in
      let same : type_of W ty ≡ bool_type = has W (comes_before M T W g' c) in
      let node = prog.con_exp (built_number b) bool_name [] (as_typed A bool_type) in
      subst (λ z. ElaboratesExp W A S.next (bare.built_exp place b) z (type_of W r.ty))
      (sym (tree W c ∙ ap (λ k. use_of W.reading (used.Constructor k bool_name) ts (type_as (W.naming C.naming) (type_of W ty))) en
      ∙ ap₂ (λ l u. use_of W.reading (used.Constructor (built_number b) bool_name) l u) nothing (written-as C W A (type_of W ty) t ∙ ap (as_typed A) same)))
      (subst (ElaboratesExp W A S.next (bare.built_exp place b) node) (sym (ap (type_of W) q ∙ same))
      (record {
        choices = no_choice;
        elab = λ j l. built_exp_elab place b [] bool_name [] given (bool-has C W A b h t);
        names = given.over;
        parameters = refl;
      }));
}

-- lists

abbrev pub cons_type : Typ → Typ
cons_type u = function_type (pair_type u (list_type u)) (list_type u)

module _ (C : Context) (W : World) (A : Around) (t : Tells C W A) (u : Typ) (le : 8 ≤ A.names) (o : Over A.names u) (p : over A.parameters u ≡ true) where
  list-over : Over A.names (list_type u)
  list-over = (lt-ltb 7 A.names (omega (arith, le)), (o, tt))

  nil-given : IsGivenAt A (built_value Nil) (u ∷ []) (list_type u) no_choice
  nil-given = record { allowed = (tt, tt); over = list-over; is = λ s. refl; chosen = refl }

  cons-given : IsGivenAt A (built_value Cons) (u ∷ []) (cons_type u) no_choice
  cons-given = record { allowed = (tt, tt); over = (tt, ((tt, (o, (list-over, tt))), (list-over, tt))); is = λ s. refl; chosen = refl }

  list-as : as_typed A (list_type u) ≡ list_type (as_typed A u)
  list-as = ap (λ y. con (name y) (more (as_typed A u) none)) (name-kept list_name t.initial refl)

  element-over : over A.parameters (as_typed A u) ≡ true
  element-over = over-as A.number A.parameters u ∙ p

  nil-has : ConHas W.table A (built_number Nil) list_name (as_typed A u ∷ []) (as_typed A (list_type u))
  nil-has = record {
    row = constructor_of list_name (built_number Nil) None;
    found = t.built list_name (built_number Nil) (constructor_of list_name (built_number Nil) None) refl;
    same = refl;
    over = ap (λ b. b && true) element-over;
    is = list-as;
  }

  cons-has : ConHas W.table A (built_number Cons) list_name (as_typed A u ∷ []) (as_typed A (cons_type u))
  cons-has = record {
    row = constructor_of list_name (built_number Cons) (Some (pair_type (var 0) (list_type (var 0))));
    found = t.built list_name (built_number Cons) (constructor_of list_name (built_number Cons) (Some (pair_type (var 0) (list_type (var 0))))) refl;
    same = refl;
    over = ap (λ b. b && true) element-over;
    is = ap (λ z. function_type (pair_type (as_typed A u) z) z) list-as;
  }

-- at a type of elements
module _ (S : State) (C : Context) (W : World) (A : Around) (u : Typ) (i : IsContext S C) (t : Tells C W A) (o : Over A.names u) (p : over A.parameters u ≡ true) where
  pub list-names : Over A.names (list_type u)
  list-names = list-over C W A t u (wide-names S C W A i t) o p

  pub list-parameters : over A.parameters (list_type u) ≡ true
  list-parameters = ap (λ b. b && true) p

  pub nil_at : (place : Place) (k : ℕ)
      → ElaboratesExp W A k (bare.built_exp place Nil) (prog.con_exp (built_number Nil) list_name (as_typed A u ∷ []) (as_typed A (list_type u))) (list_type u)
  nil_at place k =
      let le = wide-names S C W A i t in record {
        choices = no_choice;
        elab = λ j l. built_exp_elab place Nil (u ∷ []) list_name (as_typed A u ∷ []) (nil-given C W A t u le o p) (nil-has C W A t u le o p);
        names = list-names;
        parameters = list-parameters;
      }

  pub cons_at : (place : Place) (k : ℕ)
      → ElaboratesExp W A k (bare.built_exp place Cons) (prog.con_exp (built_number Cons) list_name (as_typed A u ∷ []) (as_typed A (cons_type u))) (cons_type u)
  cons_at place k =
      let le = wide-names S C W A i t in record {
        choices = no_choice;
        elab = λ j l. built_exp_elab place Cons (u ∷ []) list_name (as_typed A u ∷ []) (cons-given C W A t u le o p) (cons-has C W A t u le o p);
        names = (tt, ((tt, (o, (list-names, tt))), (list-names, tt)));
        parameters = ap₂ (λ a b. (a && (b && true)) && (b && true)) p list-parameters;
      }

pub list_types_are : (S E L P T : State) (C : Context) (l : Limit) (m : ListTypes) → l ≡ limit_of C → Grows S E → HasType E m.element → Always E (λ W. IsWithin W l m.element)
    → Grows E L → HasType L m.list → Always L (λ W. type_of W m.list ≡ list_type (type_of W m.element)) → Grows L P → HasType P m.pair
    → Always P (λ W. type_of W m.pair ≡ pair_type (type_of W m.element) (type_of W m.list)) → Grows P T → HasType T m.function
    → Always T (λ W. type_of W m.function ≡ function_type (type_of W m.pair) (type_of W m.list)) → AreListTypes S C T m
list_types_are S E L P T C l m el ge he within gl hl lists gp hp pairs gt ht functions =
    let lt = grows_on L P T gp gt in
    let et = grows_on E L T gl lt in record {
      grows = grows_on S E T ge et;
      element = type_later E T m.element et he;
      list = type_later L T m.list lt hl;
      pair = type_later P T m.pair gt hp;
      function = ht;
      within = λ W c. subst (λ z. IsWithin W z m.element) el (within W (comes_before E T W et c));
      lists = λ W c. lists W (comes_before L T W lt c);
      pairs = λ W c. both W c;
      functions = λ W c. functions W c ∙ ap₂ function_type (both W c) (lists W (comes_before L T W lt c));
    }
  where
    both : (W : World) → Comes T W → type_of W m.pair ≡ pair_type (type_of W m.element) (list_type (type_of W m.element))
    both W c =
        let lt = grows_on L P T gp gt in
        pairs W (comes_before P T W gt c) ∙ ap (pair_type (type_of W m.element)) (lists W (comes_before L T W lt c))

-- a tree at a type of elements
pub element_tree : (M N : State) (C : Context) (b : BuiltIn) (n element ty written : ℕ) (ts : List ℕ) (r : TypedExp) → n ≡ built_number b → ts ≡ written ∷ [] → Grows M N
    → Always M (λ W. W.reading.type written ≡ type_as (W.naming C.naming) (type_of W element))
    → Always N (λ W. tree_of W.reading r.exp ≡ use_of W.reading (used.Constructor n list_name) ts (type_as (W.naming C.naming) (type_of W ty)))
    → Always N (λ W. tree_of W.reading r.exp ≡ prog.con_exp (built_number b) list_name (type_as (W.naming C.naming) (type_of W element) ∷ []) (type_as (W.naming C.naming) (type_of W ty)))
element_tree M N C b n element ty written ts r en e g w tree W c =
    tree W c ∙ ap₂ (λ k l. use_of W.reading (used.Constructor k list_name) l (type_as (W.naming C.naming) (type_of W ty))) en e
    ∙ ap (λ z. prog.con_exp (built_number b) list_name (z ∷ []) (type_as (W.naming C.naming) (type_of W ty))) (w W (comes_before M N W g c))

module _ (S L T : State) (C : Context) (m : ListTypes) (r : TypedExp) (i : IsContext S C) (h : AreListTypes S C L m) (g : Grows L T) where
  pub nil_is : r.ty ≡ m.list
      → Always T (λ W. tree_of W.reading r.exp ≡ prog.con_exp (built_number Nil) list_name (type_as (W.naming C.naming) (type_of W m.element) ∷ []) (type_as (W.naming C.naming) (type_of W m.list)))
      → (place : Place) → IsExp S C (bare.built_exp place Nil) T r
  nil_is q tree place = record {
    grows = grows_on S L T h.grows g;
    is = subst (HasType T) (sym q) (type_later L T m.list g h.list);
    gives = λ W c A t.
        let cl = comes_before L T W g c in
        let u = type_of W m.element in
        let is : type_of W m.list ≡ list_type u = h.lists W cl in
        let within = h.within W cl in
        let node = prog.con_exp (built_number Nil) list_name (as_typed A u ∷ []) (as_typed A (list_type u)) in
        subst (λ z. ElaboratesExp W A S.next (bare.built_exp place Nil) z (type_of W r.ty))
        (sym (tree W c ∙ ap₂ (λ a b. prog.con_exp (built_number Nil) list_name (a ∷ []) b) (written-as C W A u t) (written-as C W A (type_of W m.list) t ∙ ap (as_typed A) is)))
        (subst (ElaboratesExp W A S.next (bare.built_exp place Nil) node) (sym (ap (type_of W) q ∙ is))
        (nil_at S C W A u i t (new-names C W A (limit_of C) m.element t refl within) (new-parameters S C W A (limit_of C) m.element i t refl within) place S.next));
  }

  pub cons_is : r.ty ≡ m.function
      → Always T (λ W. tree_of W.reading r.exp ≡ prog.con_exp (built_number Cons) list_name (type_as (W.naming C.naming) (type_of W m.element) ∷ []) (type_as (W.naming C.naming) (type_of W m.function)))
      → (place : Place) → IsExp S C (bare.built_exp place Cons) T r
  cons_is q tree place = record {
    grows = grows_on S L T h.grows g;
    is = subst (HasType T) (sym q) (type_later L T m.function g h.function);
    gives = λ W c A t.
        let cl = comes_before L T W g c in
        let u = type_of W m.element in
        let is : type_of W m.function ≡ cons_type u = h.functions W cl in
        let within = h.within W cl in
        let node = prog.con_exp (built_number Cons) list_name (as_typed A u ∷ []) (as_typed A (cons_type u)) in
        subst (λ z. ElaboratesExp W A S.next (bare.built_exp place Cons) z (type_of W r.ty))
        (sym (tree W c ∙ ap₂ (λ a b. prog.con_exp (built_number Cons) list_name (a ∷ []) b) (written-as C W A u t) (written-as C W A (type_of W m.function) t ∙ ap (as_typed A) is)))
        (subst (ElaboratesExp W A S.next (bare.built_exp place Cons) node) (sym (ap (type_of W) q ∙ is))
        (cons_at S C W A u i t (new-names C W A (limit_of C) m.element t refl within) (new-parameters S C W A (limit_of C) m.element i t refl within) place S.next));
  }
