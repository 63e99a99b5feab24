-- Expressions one after the other.
use Rattle.std.proofs.Common.{◌≡◌, ◌≤◌, ℕ, true, Bool, ◌&&◌, List, [], ◌∷◌, ◌++◌, map, refl, sym, ap, ap₂, subst, arith}
use Rattle.std.proofs.lemmas.List.{map-append}
use Rattle.ty_core.specs.Types.{Typ, typs_of}
use Rattle.sml_tree.specs.BareTree as bare
use Rattle.core_rules.specs.Objects.{Over, AllOver}
use Rattle.core_rules.specs.Choices.{Choices}
use Rattle.ir_poly.specs.Prog as prog
use Rattle.ir_poly.specs.Types.{over, all_over, Constructor}
use Rattle.prog_tree.specs.TreeOf.{tree_of}
use Rattle.prog_tree.specs.declared.tree.Exp.{Exp}
use Rattle.elab_typed.specs.Contexts.{Around}
use Rattle.elab_typed.specs.Elaborates.{ExpElab}
use Rattle.pat_elab.specs.of_elab_state.declared.state.State.{State}
use Rattle.pat_elab.specs.of_elab_steps.Growing.{Grows, Always}
use Rattle.pat_elab.specs.of_elab_steps.World.{World, type_of}
use Rattle.pat_elab.proofs.of_elab_steps.Growing.{grows_same, grows_on, type_later, comes_before}
use Rattle.use_elab.specs.Fresh.{images_of}
use Rattle.use_elab.proofs.Making.{types_later, types-snoc}
use Rattle.pat_elab.specs.of_elab_context.declared.context.Context.{Context}
use Rattle.use_elab.specs.Elaborated.{ElaboratesExp, IsExp}
use Rattle.use_elab.specs.declared.typed.TypedExp.{TypedExp}
use Rattle.exp_forms.specs.Parts.{ExpsElab, no_exps, an_exp, ElaboratesAll, AreExps, AreExpsOf, AllAre}

at-most : (i j k : ℕ) → i ≤ j → j ≤ k → i ≤ k
at-most i j k h l = omega arith

-- an expression stays elaborated where fewer variables are in scope
pub fewer : (W : World) (A : Around) (j k : ℕ) (e : bare.Exp) (x : prog.Exp) (t : Typ) → j ≤ k → ElaboratesExp W A k e x t → ElaboratesExp W A j e x t
fewer W A j k e x t le h = record { choices = h.choices; elab = λ i l. h.elab i (at-most i j k l le); names = h.names; parameters = h.parameters }

exps-snoc : {table : List Constructor} {A : Around} {k : ℕ} {es : List bare.Exp} {xs : List prog.Exp} {ts : List Typ} {cs : List Choices} {e : bare.Exp} {x : prog.Exp} {t : Typ} {c : Choices}
    → ExpsElab table A k es xs ts cs → ExpElab table A k e x t c → ExpsElab table A k (es ++ e ∷ []) (xs ++ x ∷ []) (ts ++ t ∷ []) (cs ++ c ∷ [])
exps-snoc no_exps f = an_exp f no_exps
exps-snoc (an_exp g h) f = an_exp g (exps-snoc h f)

names-snoc : (n : ℕ) (ts : List Typ) (t : Typ) → AllOver n (typs_of ts) → Over n t → AllOver n (typs_of (ts ++ t ∷ []))
names-snoc n [] t h o = (o, tt)
names-snoc n (u ∷ ts) t h o = (h.0, names-snoc n ts t h.1 o)

parameters-snoc : (qs : _) (ts : List Typ) (t : Typ) → all_over qs (typs_of ts) ≡ true → over qs t ≡ true → all_over qs (typs_of (ts ++ t ∷ [])) ≡ true
parameters-snoc qs [] t h o = ap (λ (b : Bool). b && true) o
parameters-snoc qs (u ∷ ts) t h o =
    let p = Rattle.std.proofs.lemmas.Bool.and_parts (over qs u) (all_over qs (typs_of ts)) h in ap₂ (λ a b. a && b) p.0 (parameters-snoc qs ts t p.1 o)

pub none_are : (S : State) (C : Context) (xs : List Exp) → xs ≡ [] → AreExps S C [] S xs []
none_are S C xs q = subst (λ l. AreExps S C [] S l []) (sym q) (record {
  grows = grows_same S;
  are = tt;
  gives = λ W c A t. record { choices = []; elab = λ j le. no_exps; names = tt; parameters = refl };
})

pub later_are : (S M T : State) (C : Context) (es : List bare.Exp) (xs : List Exp) (ks : List ℕ) → AreExps S C es M xs ks → Grows M T → AreExps S C es T xs ks
later_are S M T C es xs ks h g = record {
  grows = grows_on S M T h.grows g;
  are = types_later M T g ks h.are;
  gives = λ W c A t. h.gives W (comes_before M T W g c) A t;
}

pub more_are : (S M T : State) (C : Context) (es : List bare.Exp) (e : bare.Exp) (xs ys : List Exp) (ks : List ℕ) (r : TypedExp) → AreExps S C es M xs ks → IsExp M C e T r
    → ys ≡ xs ++ r.exp ∷ [] → AreExps S C (es ++ e ∷ []) T ys (ks ++ r.ty ∷ [])
more_are S M T C es e xs ys ks r h i q = subst (λ l. AreExps S C (es ++ e ∷ []) T l (ks ++ r.ty ∷ [])) (sym q) (record {
  grows = grows_on S M T h.grows i.grows;
  are = types-snoc T ks r.ty (types_later M T i.grows ks h.are) i.is;
  gives = λ W c A t.
      let a = h.gives W (comes_before M T W i.grows c) A t in
      let b = fewer W A S.next M.next e (tree_of W.reading r.exp) (type_of W r.ty) h.grows.next (i.gives W c A t) in
      subst (λ l. ElaboratesAll W A S.next (es ++ e ∷ []) l (images_of W (ks ++ r.ty ∷ []))) (sym (map-append (tree_of W.reading) xs (r.exp ∷ [])))
      (subst (ElaboratesAll W A S.next (es ++ e ∷ []) (map (tree_of W.reading) xs ++ tree_of W.reading r.exp ∷ [])) (sym (map-append (type_of W) ks (r.ty ∷ [])))
      (record {
        choices = a.choices ++ b.choices ∷ [];
        elab = λ j le.
            exps-snoc (a.elab j le) (b.elab j le);
        names = names-snoc A.names (images_of W ks) (type_of W r.ty) a.names b.names;
        parameters = parameters-snoc A.parameters (images_of W ks) (type_of W r.ty) a.parameters b.parameters;
      }));
})

-- an expression that was elaborated, when more is said
pub exp_later : (S M T : State) (C : Context) (e : bare.Exp) (r : TypedExp) → IsExp S C e M r → Grows M T → IsExp S C e T r
exp_later S M T C e r h g = record {
  grows = grows_on S M T h.grows g;
  is = type_later M T r.ty g h.is;
  gives = λ W c A t. h.gives W (comes_before M T W g c) A t;
}

-- those of one type

all-snoc : (t : Typ) (us : List Typ) (u : Typ) → AllAre t us → u ≡ t → AllAre t (us ++ u ∷ [])
all-snoc t [] u h e = (e, tt)
all-snoc t (v ∷ us) u h e = (h.0, all-snoc t us u h.1 e)

pub none_are_of : (S : State) (C : Context) (xs : List Exp) (t : Typ) → xs ≡ [] → AreExpsOf S C [] S xs t
none_are_of S C xs t q = record { types = []; parts = none_are S C xs q; same = λ W c. tt }

pub more_are_of : (S M N T : State) (C : Context) (es : List bare.Exp) (e : bare.Exp) (xs ys : List Exp) (t : Typ) (r : TypedExp) → AreExpsOf S C es M xs t → IsExp M C e N r → Grows N T
    → Always T (λ W. type_of W r.ty ≡ t) → ys ≡ xs ++ r.exp ∷ [] → AreExpsOf S C (es ++ e ∷ []) T ys t
more_are_of S M N T C es e xs ys t r h i g is q = record {
  types = h.types ++ r.ty ∷ [];
  parts = more_are S M T C es e xs ys h.types r h.parts (exp_later M N T C e r i g) q;
  same = λ W c.
      subst (AllAre t) (sym (map-append (type_of W) h.types (r.ty ∷ [])))
      (all-snoc t (images_of W h.types) (type_of W r.ty) (h.same W (comes_before M T W (grows_on M N T i.grows g) c)) (is W c));
}
