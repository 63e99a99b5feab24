-- Lists of expressions.
use Rattle.std.proofs.Common.{◌≡◌, ℕ, List, [], ◌∷◌, ◌++◌, map, length, slice_index_or, Vec, Box, Global, refl, sym, ap, ap₂, subst, ◌∙◌, arith}
use Rattle.std.specs.Prelude.{remove}
use Rattle.mlc_base.specs.declared.place.Place.{Place}
use Rattle.ty_basis.specs.Types.{list_name, list_type, pair_type}
use Rattle.sml_tree.specs.BareTree as bare
use Rattle.sml_tree.specs.declared.ident.BuiltIn.{BuiltIn}
use Rattle.sml_tree.specs.declared.ident.BuiltIn.TheVariants.{Cons, Nil}
use Rattle.sml_tree.specs.Derived.{list_of}
use Rattle.ir_poly.specs.Prog as prog
use Rattle.core_elab.specs.Resolves.{called_built}
use Rattle.core_elab.specs.Scopes.{built_number}
use Rattle.prog_tree.specs.TreeOf.{Reading, join, join_of, right_joins, tree_of}
use Rattle.prog_tree.specs.declared.tree.Exp.{Exp}
use Rattle.prog_tree.specs.declared.tree.Exp.TheVariants as tree
use Rattle.prog_tree.specs.declared.tree.Join.{Join}
use Rattle.prog_tree.specs.declared.tree.Side.TheVariants as side
use Rattle.prog_tree.specs.declared.tree.Used.TheVariants as used
use Rattle.prog_tree.proofs.ExpOf.{tree_of-Infix}
use Rattle.elab_typed.specs.Contexts.{Around}
use Rattle.elab_typed.specs.Instances.{as_typed}
use Rattle.elab_typed.specs.Numbers.{type_as}
use Rattle.pat_elab.specs.of_elab_state.declared.state.State.{State}
use Rattle.pat_elab.specs.of_elab_steps.Growing.{HasType, Grows, Always}
use Rattle.pat_elab.specs.of_elab_steps.World.{World, type_of}
use Rattle.pat_elab.proofs.of_elab_steps.Growing.{grows_on, grows_same, type_later, comes_before}
use Rattle.pat_elab.specs.of_elab_context.Entries.{limit_of}
use Rattle.pat_elab.specs.of_elab_context.Telling.{IsContext}
use Rattle.pat_elab.specs.of_elab_context.declared.context.Context.{Context}
use Rattle.use_elab.proofs.Trees.{tree_of-Use}
use Rattle.use_elab.specs.Elaborated.{ElaboratesExp, IsExp}
use Rattle.use_elab.specs.declared.typed.TypedExp.{TypedExp}
use Rattle.exp_forms.proofs.Calling.{new-names, new-parameters, written-as}
use Rattle.exp_forms.proofs.Joining.{fewer}
use Rattle.exp_forms.specs.Chains.{IsJoin}
use Rattle.exp_forms.specs.Constructed.{AreListTypes}
use Rattle.exp_forms.specs.Lists.{cons_exp, cons_of, nil_of, AreListed, IsListed, Elements, no_elements, an_element, AreElements}
use Rattle.exp_forms.specs.declared.parts.ListTypes.{ListTypes}
use Rattle.exp_forms.specs.declared.parts.Listed.{Listed}
use Rattle.exp_forms.proofs.Building.{cons_type, cons_at, nil_at, list-names, list-parameters}
use Rattle.exp_forms.proofs.JoiningChains.{itself, join-do, pair-of}

-- the types of a list

pub listed_is : (S L X Y Z T : State) (C : Context) (place : Place) (m : ListTypes) (l : Listed) → IsContext S C → AreListTypes S C L m → Grows L X
    → Always X (λ W. W.reading.type l.at ≡ type_as (W.naming C.naming) (type_of W m.element)) → Grows X Y
    → Always Y (λ W. W.reading.type l.operator ≡ type_as (W.naming C.naming) (type_of W m.function)) → Grows Y Z
    → Always Z (λ W. W.reading.type l.join.ty ≡ type_as (W.naming C.naming) (type_of W m.list)) → Grows Z T
    → Always T (λ W. W.reading.type l.join.pair ≡ type_as (W.naming C.naming) (type_of W m.pair)) → l.join.place ≡ place → l.element ≡ m.element → l.ty ≡ m.list
    → IsListed S C place T l
listed_is S L X Y Z T C place m l i h gx wx gy wy gz wz gt wt ep ee et =
    let yt = grows_on Y Z T gz gt in
    let xt = grows_on X Y T gy yt in
    let lt = grows_on L X T gx xt in record {
      at = ep;
      grows = grows_on S L T h.grows lt;
      element = subst (HasType T) (sym ee) (type_later L T m.element lt h.element);
      is = subst (HasType T) (sym et) (type_later L T m.list lt h.list);
      gives = λ W c A t.
          let R = W.reading in
          let cl = comes_before L T W lt c in
          let u = type_of W m.element in
          let within = h.within W cl in
          let names = new-names C W A (limit_of C) m.element t refl within in
          let parameters = new-parameters S C W A (limit_of C) m.element i t refl within in
          let list : type_of W l.ty ≡ list_type u = ap (type_of W) et ∙ h.lists W cl in
          let at : R.type l.at ≡ as_typed A u = wx W (comes_before X T W xt c) ∙ written-as C W A u t in
          let operator : R.type l.operator ≡ as_typed A (cons_type u) = wy W (comes_before Y T W yt c) ∙ written-as C W A (type_of W m.function) t ∙ ap (as_typed A) (h.functions W cl) in
          let whole : R.type l.join.ty ≡ as_typed A (list_type u) = wz W (comes_before Z T W gt c) ∙ written-as C W A (type_of W m.list) t ∙ ap (as_typed A) (h.lists W cl) in
          let both : R.type l.join.pair ≡ as_typed A (pair_type u (list_type u)) = wt W c ∙ written-as C W A (type_of W m.pair) t ∙ ap (as_typed A) (h.pairs W cl) in
          let p = l.join.place in
          let consed : cons_of R l ≡ prog.con_exp (built_number Cons) list_name (as_typed A u ∷ []) (as_typed A (cons_type u)) = ap₂ (λ a b. prog.con_exp (built_number Cons) list_name (a ∷ []) b) at operator in
          let ended : nil_of R l ≡ prog.con_exp (built_number Nil) list_name (as_typed A u ∷ []) (as_typed A (list_type u)) = ap₂ (λ a b. prog.con_exp (built_number Nil) list_name (a ∷ []) b) at whole in
          record {
            joins = λ k o e.
                subst (λ z. IsJoin W A k (cons_exp p) l.join o z (type_of W l.ty) (type_of W l.ty)) (sym (ap (type_of W) ee))
                (subst (λ z. IsJoin W A k (cons_exp p) l.join o u z z) (sym list)
                (record {
                  joins = λ j le a b x y da db.
                      subst (λ z. ElaboratesExp W A j (cons_exp p a b) z (list_type u))
                      (sym (ap₂ (λ m n. prog.app_exp p m n (prog.fields_exp (R.type l.join.pair) (pair-of x y))) whole (e ∙ consed)
                      ∙ ap (λ m. prog.app_exp p (as_typed A (list_type u)) (prog.con_exp (built_number Cons) list_name (as_typed A u ∷ []) (as_typed A (cons_type u))) (prog.fields_exp m (pair-of x y))) both))
                      (join-do W A j p (bare.built_exp p Cons) a b (prog.con_exp (built_number Cons) list_name (as_typed A u ∷ []) (as_typed A (cons_type u))) x y u (list_type u) (list_type u)
                      (called_built p Cons) (list-names S C W A u i t names parameters) (list-parameters S C W A u i t names parameters) (cons_at S C W A u i t names parameters p j) da db);
                }));
            nil = λ k.
                subst (λ z. ElaboratesExp W A k (bare.built_exp p Nil) z (type_of W l.ty)) (sym ended)
                (subst (ElaboratesExp W A k (bare.built_exp p Nil) (prog.con_exp (built_number Nil) list_name (as_typed A u ∷ []) (as_typed A (list_type u)))) (sym list)
                (nil_at S C W A u i t names parameters p k));
          };
    }

-- the constructors as they are written

pub written_tree : (R : Reading) (b : BuiltIn) (at : Vec ℕ Global) (one ty n : ℕ) → at.items ≡ one ∷ [] → n ≡ built_number b
    → tree_of R (tree.Use (used.Constructor n list_name) at ty) ≡ prog.con_exp (built_number b) list_name (R.type one ∷ []) (R.type ty)
written_tree R b at one ty n e q =
    tree_of-Use R (used.Constructor n list_name) at ty ∙ ap₂ (λ k (l : List ℕ). prog.con_exp k list_name (map R.type l) (R.type ty)) q e

-- elements one after the other

elements-snoc : {W : World} {A : Around} {l : Listed} {k : ℕ} {es : List bare.Exp} {gs : List (Join × Exp × Exp)} {e : bare.Exp} (g : Join × Exp × Exp) → Elements W A l k es gs → g.0 ≡ l.join
    → tree_of W.reading g.1 ≡ cons_of W.reading l → ElaboratesExp W A k e (tree_of W.reading g.2) (type_of W l.element) → Elements W A l k (es ++ e ∷ []) (gs ++ g ∷ [])
elements-snoc g no_elements j o x = an_element j o x no_elements
elements-snoc g (an_element i n y rest) j o x = an_element i n y (elements-snoc g rest j o x)

pub none_are : (S : State) (C : Context) (l : Listed) (gs : List (Join × Exp × Exp)) → gs ≡ [] → AreElements S C l [] S gs
none_are S C l gs e = record { grows = grows_same S; gives = λ W c A t. subst (Elements W A l S.next []) (sym e) no_elements }

pub one_added : (S M N T : State) (C : Context) (l : Listed) (es : List bare.Exp) (e : bare.Exp) (one : TypedExp) (operator : Exp) (gs hs : List (Join × Exp × Exp)) → Grows N T
    → Always T (λ W. type_of W one.ty ≡ type_of W l.element) → ((R : Reading) → tree_of R operator ≡ cons_of R l) → hs ≡ gs ++ (l.join, operator, one.exp) ∷ []
    → AreElements S C l es M gs → IsExp M C e N one → AreElements S C l (es ++ e ∷ []) T hs
one_added S M N T C l es e one operator gs hs g same o q h i =
    let mt = grows_on M N T i.grows g in record {
      grows = grows_on S M T h.grows mt;
      gives = λ W c A t.
          let d = fewer W A S.next M.next e (tree_of W.reading one.exp) (type_of W one.ty) h.grows.next (i.gives W (comes_before N T W g c) A t) in
          let x = subst (ElaboratesExp W A S.next e (tree_of W.reading one.exp)) (same W c) d in
          subst (Elements W A l S.next (es ++ e ∷ [])) (sym q) (elements-snoc (l.join, operator, one.exp) (h.gives W (comes_before M T W mt c) A t) refl (o W.reading) x);
    }

-- the whole list, where e is its end
module _ (W : World) (A : Around) (l : Listed) (k : ℕ) (e : Join × Exp × Exp) (m : AreListed W A l) (ej : e.0 ≡ l.join) (eo : tree_of W.reading e.1 ≡ cons_of W.reading l)
    (ez : tree_of W.reading e.2 ≡ nil_of W.reading l) where
  -- what joins an element to the rest
  one-join : (g : Join × Exp × Exp) (a b : bare.Exp) (x y : prog.Exp) → g.0 ≡ l.join → tree_of W.reading g.1 ≡ cons_of W.reading l → ElaboratesExp W A k a x (type_of W l.element)
      → ElaboratesExp W A k b y (type_of W l.ty)
      → ElaboratesExp W A k (cons_exp l.join.place a b) (join W.reading.type g.0 (tree_of W.reading g.1) x y) (type_of W l.ty)
  one-join g a b x y gj go da db =
      subst (λ z. ElaboratesExp W A k (cons_exp l.join.place a b) (join W.reading.type z (tree_of W.reading g.1) x y) (type_of W l.ty)) (sym gj)
      ((m.joins k g.1 go).joins k (itself k) a b x y da db)

  list-do : {a : bare.Exp} {es : List bare.Exp} {x : prog.Exp} {gs : List (Join × Exp × Exp)} → ElaboratesExp W A k a x (type_of W l.element) → Elements W A l k es gs
      → ElaboratesExp W A k (list_of l.join.place (a ∷ es)) (right_joins W.reading.type x (map (join_of W.reading) (gs ++ e ∷ []))) (type_of W l.ty)
  list-do {a = a} {x = x} d no_elements =
      one-join e a (bare.built_exp l.join.place Nil) x (tree_of W.reading e.2) ej eo d
      (subst (λ z. ElaboratesExp W A k (bare.built_exp l.join.place Nil) z (type_of W l.ty)) (sym ez) (m.nil k))
  list-do {a = a} {x = x} d (an_element {e = b} {es = es} {g = g} {gs = gs} gj go y rest) =
      one-join g a (list_of l.join.place (b ∷ es)) x (right_joins W.reading.type (tree_of W.reading g.2) (map (join_of W.reading) (gs ++ e ∷ []))) gj go d (list-do {a = b} {x = tree_of W.reading g.2} y rest)

  list-all : {es : List bare.Exp} {gs : List (Join × Exp × Exp)} (first : Join × Exp × Exp) (rest : List (Join × Exp × Exp)) → Elements W A l k es gs → (gs ≡ [] → ⊥) → gs ++ e ∷ [] ≡ first ∷ rest
      → ElaboratesExp W A k (list_of l.join.place es) (right_joins W.reading.type (tree_of W.reading first.2) (map (join_of W.reading) rest)) (type_of W l.ty)
  list-all first rest no_elements n q = absurd (n refl)
  list-all first rest (an_element {e = a} {es = es} {g = g} {gs = gs} gj go x more) n q =
      let same : g ≡ first = cc in
      let behind : gs ++ e ∷ [] ≡ rest = cc in
      subst (λ z. ElaboratesExp W A k (list_of l.join.place (a ∷ es)) (right_joins W.reading.type (tree_of W.reading z.2) (map (join_of W.reading) rest)) (type_of W l.ty)) same
      (subst (λ z. ElaboratesExp W A k (list_of l.join.place (a ∷ es)) (right_joins W.reading.type (tree_of W.reading g.2) (map (join_of W.reading) z)) (type_of W l.ty)) behind (list-do x more))

list-none : (W : World) (A : Around) (l : Listed) (k : ℕ) → AreListed W A l → {es : List bare.Exp} {gs : List (Join × Exp × Exp)} → Elements W A l k es gs → gs ≡ []
    → ElaboratesExp W A k (list_of l.join.place es) (nil_of W.reading l) (type_of W l.ty)
list-none W A l k m no_elements q = m.nil k
list-none W A l k m (an_element gj go x more) q = absurd (cc)

pub list_none : (S L T : State) (C : Context) (place : Place) (es : List bare.Exp) (l : Listed) (gs : List (Join × Exp × Exp)) (r : TypedExp) → gs ≡ []
    → ((R : Reading) → tree_of R r.exp ≡ nil_of R l) → r.ty ≡ l.ty → IsListed S C place L l → AreElements L C l es T gs → IsExp S C (list_of place es) T r
list_none S L T C place es l gs r q z et h i = record {
  grows = grows_on S L T h.grows i.grows;
  is = subst (HasType T) (sym et) (type_later L T l.ty i.grows h.is);
  gives = λ W c A t.
      subst (λ p. ElaboratesExp W A S.next (list_of p es) (tree_of W.reading r.exp) (type_of W r.ty)) h.at
      (subst (λ x. ElaboratesExp W A S.next (list_of l.join.place es) x (type_of W r.ty)) (sym (z W.reading))
      (subst (λ k. ElaboratesExp W A S.next (list_of l.join.place es) (nil_of W.reading l) (type_of W k)) (sym et)
      (fewer W A S.next L.next (list_of l.join.place es) (nil_of W.reading l) (type_of W l.ty) h.grows.next
      (list-none W A l L.next (h.gives W (comes_before L T W i.grows c) A t) (i.gives W c A t) q))));
}

pub list_is : (S L T : State) (C : Context) (place : Place) (es : List bare.Exp) (l : Listed) (gs : List (Join × Exp × Exp)) (e first : Join × Exp × Exp) (rest : Vec (Join × Exp × Exp) Global)
    (boxed : Box Exp Global) (r : TypedExp) → (gs ≡ [] → ⊥) → e.0 ≡ l.join → ((R : Reading) → tree_of R e.1 ≡ cons_of R l) → ((R : Reading) → tree_of R e.2 ≡ nil_of R l)
    → gs ++ e ∷ [] ≡ first ∷ rest.items → boxed.value ≡ first.2 → r.exp ≡ tree.Infix side.Right boxed rest → r.ty ≡ l.ty → IsListed S C place L l → AreElements L C l es T gs
    → IsExp S C (list_of place es) T r
list_is S L T C place es l gs e first rest boxed r n ej eo ez q v ex et h i = record {
  grows = grows_on S L T h.grows i.grows;
  is = subst (HasType T) (sym et) (type_later L T l.ty i.grows h.is);
  gives = λ W c A t.
      let R = W.reading in
      let chain = list_of l.join.place es in
      let x = right_joins R.type (tree_of R first.2) (map (join_of R) rest.items) in
      let done = list-all W A l L.next e (h.gives W (comes_before L T W i.grows c) A t) ej (eo R) (ez R) first rest.items (i.gives W c A t) n q in
      subst (λ p. ElaboratesExp W A S.next (list_of p es) (tree_of R r.exp) (type_of W r.ty)) h.at
      (subst (λ z. ElaboratesExp W A S.next chain z (type_of W r.ty))
      (sym (ap (tree_of R) ex ∙ tree_of-Infix R side.Right boxed rest ∙ ap (λ z. right_joins R.type (tree_of R z) (map (join_of R) rest.items)) v))
      (subst (λ k. ElaboratesExp W A S.next chain x (type_of W k)) (sym et) (fewer W A S.next L.next chain x (type_of W l.ty) h.grows.next done)));
}

-- what the code's tests and edits of a list say

pub empty-list : {A : Type 0} (n : ℕ) (gs : List A) → n ≡ 0 → n ≡ length gs → gs ≡ []
empty-list n [] e q = refl
empty-list n (g ∷ gs) e q = absurd (omega (arith, e, q))

pub full-list : {A : Type 0} (n : ℕ) (gs : List A) → (n ≡ 0 → ⊥) → n ≡ length gs → gs ≡ [] → ⊥
full-list n gs e q z = e (q ∙ ap length z)

pub first-removed : {A : Type 0} (e first : A) (all gs rest : List A) → all ≡ gs ++ e ∷ [] → first ≡ slice_index_or all 0 first → rest ≡ remove all 0 → gs ++ e ∷ [] ≡ first ∷ rest
first-removed e first all [] rest a f r = ap₂ (λ x l. x ∷ l) (sym (f ∙ ap (λ l. slice_index_or l 0 first) a)) (sym (r ∙ ap (λ l. remove l 0) a))
first-removed e first all (g ∷ gs) rest a f r = ap₂ (λ x l. x ∷ l) (sym (f ∙ ap (λ l. slice_index_or l 0 first) a)) (sym (r ∙ ap (λ l. remove l 0) a))
