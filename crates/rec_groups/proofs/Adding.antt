-- One function more in its group.
use Rattle.std.proofs.Common.{◌≡◌, ◌≤◌, ◌+◌, ◌<◌, ◌-◌, ℕ, Bool, true, List, [], ◌∷◌, ◌++◌, map, length, drop, get_or, Vec, Global, refl, sym, ap, ap₂, subst, ◌∙◌, arith}
use Rattle.std.specs.Prelude.{reverse}
use Rattle.std.proofs.lemmas.List.{append_assoc, map-append, reverse-append}
use Rattle.mlc_base.specs.declared.place.Place.{Place}
use Rattle.ty_core.specs.Types.{Typ}
use Rattle.ty_basis.specs.Types.{function_type}
use Rattle.sml_tree.specs.BareTree as bare
use Rattle.sml_tree.specs.TreeOf.{RuleOf, rules_of}
use Rattle.core_rules.specs.Choices.{Choices}
use Rattle.ir_poly.specs.Prog as prog
use Rattle.prog_tree.specs.TreeOf.{fun_of, function_of, rule_of}
use Rattle.prog_tree.specs.TreeOf as tree
use Rattle.prog_tree.specs.declared.tree.Function.{Function}
use Rattle.prog_tree.specs.declared.tree.Function.TheVariants as functions
use Rattle.prog_tree.specs.declared.tree.Parameter.{Parameter}
use Rattle.prog_tree.proofs.ExpOf.{function_of-ByRules}
use Rattle.elab_typed.specs.Contexts.{Around}
use Rattle.elab_typed.specs.Elaborates.{FunElab, by_rules_elab}
use Rattle.elab_typed.specs.Instances.{as_typed}
use Rattle.elab_typed.specs.Numbers.{type_as}
use Rattle.elab_typed.proofs.Names.{over-as}
use Rattle.elab_types.proofs.Lists.{drop-next}
use Rattle.elab_state.specs.declared.state.State.{State}
use Rattle.elab_steps.specs.Growing.{Always, Grows, HasType}
use Rattle.elab_steps.specs.World.{World, type_of}
use Rattle.elab_steps.proofs.Growing.{always_later, comes_before, grows_on, type_later}
use Rattle.elab_context.specs.Telling.{IsInUse}
use Rattle.elab_context.specs.declared.context.Context.{Context}
use Rattle.dec_forms.specs.of_pat_elab.declared.bound.BoundVariable.{BoundVariable}
use Rattle.dec_forms.specs.of_exp_forms.Functions.{ElaboratesFunction, IsFunction}
use Rattle.dec_forms.specs.of_exp_forms.Rules.{AreRules}
use Rattle.dec_forms.specs.of_exp_forms.declared.functions_made.FunctionMade.{FunctionMade}
use Rattle.dec_forms.specs.of_exp_forms.declared.rules_made.RulesMade.{RulesMade}
use Rattle.dec_forms.proofs.of_exp_forms.Calling.{written-as}
use Rattle.dec_forms.proofs.of_exp_forms.JoiningRules.{choices_of, rules-do}
use Rattle.rec_groups.specs.Functions.{AreFunctions, AreWritten, EachFunction, ElaborateFunctions, IsWritten, no_function, one_function}
use Rattle.rec_groups.specs.Heads.{IsAnnotatedHead, IsHeadIn, numbers_of}
use Rattle.rec_groups.specs.declared.head.Head.{Head}

-- a function by rules
pub rules_function : (S N P T : State) (C : Context) (place : Place) (rs : List RuleOf) (made : RulesMade) (ty domain range : ℕ) (none : Vec Parameter Global) (r : FunctionMade)
    → AreRules S C rs N made → Grows N P → HasType P ty → Always P (λ W. type_of W ty ≡ function_type (type_of W made.domain) (type_of W made.range)) → Grows P T
    → Always T (λ W. W.reading.type domain ≡ type_as (W.naming C.naming) (type_of W made.domain))
    → Always T (λ W. W.reading.type range ≡ type_as (W.naming C.naming) (type_of W made.range)) → none.items ≡ []
    → r.function ≡ functions.ByRules none place domain range made.rules → r.ty ≡ ty → IsFunction S C (rules_of rs) T r
rules_function S N P T C place rs made ty domain range none r h gp is has gt wd wr nothing ex q =
    let nt = grows_on N P T gp gt in
    record {
      grows = grows_on S N T h.grows nt;
      is = subst (HasType T) (sym q) (type_later P T ty gt is);
      gives = λ W c A t.
          let R = W.reading in
          let a = h.gives W (comes_before N T W nt c) A t in
          let d = type_of W made.domain in
          let u = type_of W made.range in
          let rules = tree.rules_of (map (rule_of R) made.rules.items) in
          let shape : function_of R r.function ≡ prog.by_rules place (as_typed A d) (as_typed A u) rules =
          ap (function_of R) ex ∙ function_of-ByRules R none place domain range made.rules
          ∙ ap (λ (l : List Parameter). tree.after_parameters R l (prog.by_rules place (R.type domain) (R.type range) rules)) nothing
          ∙ ap₂ (λ x y. prog.by_rules place x y rules) (wd W c ∙ written-as C W A d t) (wr W c ∙ written-as C W A u t) in
          subst (λ z. ElaboratesFunction W A S.next (rules_of rs) z (type_of W r.ty)) (sym shape) (record {
            domain = d;
            range = u;
            is = ap (type_of W) q ∙ has W (comes_before P T W gt c);
            choices = choices_of a.choices;
            elab = λ j le. by_rules_elab place (over-as A.number A.parameters d ∙ a.domain.parameters) (rules-do (a.elab j le));
            domain_used = a.domain;
            range_used = a.range;
          });
    }

-- later

written-later : (E : Context) (S T : State) (rs : List RuleOf) (fs : List (Vec ℕ Global × ℕ × Function)) (hs : List Head) → Grows S T → AreWritten E S rs fs hs → AreWritten E T rs fs hs
written-later E S T [] [] [] g k = tt
written-later E S T [] [] (h ∷ hs) g k = k
written-later E S T [] (f ∷ fs) hs g k = k
written-later E S T (r ∷ rs) [] hs g k = k
written-later E S T (r ∷ rs) (f ∷ fs) [] g k = k
written-later E S T (r ∷ rs) (f ∷ fs) (h ∷ hs) g k = (
  record {
    at = k.0.at;
    rules = k.0.rules;
    is = k.0.is;
    numbers = k.0.numbers;
    type = always_later S T (λ W. W.reading.type f.1 ≡ type_as (W.naming E.naming) (type_of W h.ty)) g k.0.type;
  },
  written-later E S T rs fs hs g k.1,
)

written-snoc : (E : Context) (T : State) (rs : List RuleOf) (fs : List (Vec ℕ Global × ℕ × Function)) (hs : List Head) (r : RuleOf) (f : Vec ℕ Global × ℕ × Function) (h : Head)
    → AreWritten E T rs fs hs → IsWritten E T r f h → AreWritten E T (rs ++ r ∷ []) (fs ++ f ∷ []) (hs ++ h ∷ [])
written-snoc E T [] [] [] r f h k w = (w, tt)
written-snoc E T [] [] (x ∷ hs) r f h k w = absurd k
written-snoc E T [] (y ∷ fs) hs r f h k w = absurd k
written-snoc E T (z ∷ rs) [] hs r f h k w = absurd k
written-snoc E T (z ∷ rs) (y ∷ fs) [] r f h k w = absurd k
written-snoc E T (z ∷ rs) (y ∷ fs) (x ∷ hs) r f h k w = (k.0, written-snoc E T rs fs hs r f h k.1 w)

module _ (W : World) (A : Around) (k : ℕ) where
  each-snoc : {rs : List RuleOf} {fs : List (Vec ℕ Global × ℕ × prog.Fun)} {hs : List Head} {cs : List Choices} (r : RuleOf) {q : Place} {rules : bare.Rules} (f : Vec ℕ Global × ℕ × prog.Fun) (h : Head)
      {t u : Typ} {c : Choices} → EachFunction W A k rs fs hs cs → r.exp ≡ bare.fn q rules → IsHeadIn A r.pat (type_of W h.ty) → type_of W h.ty ≡ function_type t u → IsInUse A t → IsInUse A u
      → FunElab W.table A k rules f.2 t u c → EachFunction W A k (rs ++ r ∷ []) (fs ++ f ∷ []) (hs ++ h ∷ []) (cs ++ c ∷ [])
  each-snoc r f h no_function e i ty a b x = one_function e i ty a b x no_function
  each-snoc r f h (one_function e' i' ty' a' b' x' fs) e i ty a b x = one_function e' i' ty' a' b' x' (each-snoc r f h fs e i ty a b x)

-- one more
pub function_added : (S N M V P T : State) (E : Context) (rs : List RuleOf) (r : RuleOf) (q : Place) (rules : bare.Rules) (fs new : List (Vec ℕ Global × ℕ × Function)) (hs : List Head) (h : Head)
    (made : FunctionMade) (numbers : Vec ℕ Global) (ty : ℕ) → AreFunctions S E rs N fs hs → IsAnnotatedHead N E r.pat h.ty M → r.exp ≡ bare.fn q rules → IsFunction M E rules V made → Grows V P
    → Always P (λ W. type_of W made.ty ≡ type_of W h.ty) → Grows P T → Always T (λ W. W.reading.type ty ≡ type_as (W.naming E.naming) (type_of W h.ty))
    → numbers.items ≡ numbers_of (reverse h.variables.items) → new ≡ fs ++ (numbers, ty, made.function) ∷ [] → AreFunctions S E (rs ++ r ∷ []) T new (hs ++ h ∷ [])
function_added S N M V P T E rs r q rules fs new hs h made numbers ty before head e made-is gp same gt written ns is =
    let vt = grows_on V P T gp gt in
    let mt = grows_on M V T made-is.grows vt in
    let nt = grows_on N M T head.grows mt in
    let one : Vec ℕ Global × ℕ × Function = (numbers, ty, made.function) in
    subst (λ l. AreFunctions S E (rs ++ r ∷ []) T l (hs ++ h ∷ [])) (sym is) (record {
      grows = grows_on S N T before.grows nt;
      written =
          written-snoc E T rs fs hs r one h (written-later E N T rs fs hs nt before.written) (record { at = q; rules = rules; is = e; numbers = ns; type = written });
      gives = λ W c A t.
          let b = before.gives W (comes_before N T W nt c) A t in
          let x = made-is.gives W (comes_before V T W vt c) A t in
          let le : S.next ≤ M.next = let a = before.grows.next in let d = head.grows.next in omega (arith, a, d) in
          subst (λ l. ElaborateFunctions W A S.next (rs ++ r ∷ []) l (hs ++ h ∷ [])) (sym (map-append (fun_of W.reading) fs (one ∷ []))) (record {
            choices = b.choices ++ x.choices ∷ [];
            elab = λ j lt.
                each-snoc W A j r (fun_of W.reading one) h (b.elab j lt) e (head.gives W (comes_before M T W mt c) A t) (sym (same W (comes_before P T W gt c)) ∙ x.is) x.domain_used x.range_used
                (x.elab j (omega (arith, lt, le)));
          });
    })

-- the variables of a head, from the last one to the first

back-next : {A : Type 0} (xs : List A) (i : ℕ) (x : A) → i < length xs → x ≡ get_or xs i x → reverse (drop i xs) ≡ reverse (drop (i + 1) xs) ++ x ∷ []
back-next xs i x lt e = ap reverse (drop-next xs i x lt e) ∙ reverse-append (x ∷ []) (drop (i + 1) xs)

pub record BindSoFar (vs : List BoundVariable) (i : ℕ) (ns : List ℕ) (old now : List BoundVariable) (fs gs : List Bool) : Type 0 where
  pub most : i ≤ length vs
  pub numbers : ns ≡ numbers_of (reverse (drop i vs))
  pub bound : now ≡ old ++ reverse (drop i vs)
  pub flags : gs ≡ fs ++ map (λ b. true) (reverse (drop i vs))

append-nil : {A : Type 0} (xs : List A) → xs ++ [] ≡ xs
append-nil [] = refl
append-nil (x ∷ xs) = ap (λ l. x ∷ l) (append-nil xs)

all-dropped : {A : Type 0} (xs : List A) → drop (length xs) xs ≡ []
all-dropped [] = refl
all-dropped (x ∷ xs) = all-dropped xs

none-left : {A : Type 0} (xs : List A) (i : ℕ) → i ≡ length xs → drop i xs ≡ []
none-left xs i e = ap (λ n. drop n xs) e ∙ all-dropped xs

pub bind-begins : (vs : List BoundVariable) (i : ℕ) (ns : List ℕ) (bs : List BoundVariable) (fs : List Bool) → i ≡ length vs → ns ≡ [] → BindSoFar vs i ns bs bs fs fs
bind-begins vs i ns bs fs e n =
    let d = none-left vs i e in
    record {
      most = omega (arith, e);
      numbers = n ∙ sym (ap (λ l. numbers_of (reverse l)) d);
      bound = sym (ap (λ l. bs ++ reverse l) d ∙ append-nil bs);
      flags = sym (ap (λ l. fs ++ map (λ b. true) (reverse l)) d ∙ append-nil fs);
    }

pub bind-goes : (vs : List BoundVariable) (i : ℕ) (b : BoundVariable) (ns ns' : List ℕ) (old now new : List BoundVariable) (fs gs hs : List Bool) → BindSoFar vs i ns old now fs gs → 0 < i
    → b ≡ get_or vs (i - 1) b → ns' ≡ ns ++ b.number ∷ [] → new ≡ now ++ b ∷ [] → hs ≡ gs ++ true ∷ [] → BindSoFar vs (i - 1) ns' old new fs hs
bind-goes vs i b ns ns' old now new fs gs hs h pos e en eb ef =
    let m = h.most in
    let up : (i - 1) + 1 ≡ i = omega (arith, pos) in
    let r : reverse (drop (i - 1) vs) ≡ reverse (drop i vs) ++ b ∷ [] =
    back-next vs (i - 1) b (omega (arith, m, pos)) e ∙ ap (λ n. reverse (drop n vs) ++ b ∷ []) up in
    record {
      most = omega (arith, m);
      numbers =
          en ∙ ap (λ l. l ++ b.number ∷ []) h.numbers ∙ sym (ap numbers_of r ∙ map-append (λ (b : BoundVariable). b.number) (reverse (drop i vs)) (b ∷ []));
      bound =
          eb ∙ ap (λ l. l ++ b ∷ []) h.bound ∙ append_assoc old (reverse (drop i vs)) (b ∷ []) ∙ sym (ap (λ l. old ++ l) r);
      flags =
          ef ∙ ap (λ l. l ++ true ∷ []) h.flags ∙ append_assoc fs (map (λ b. true) (reverse (drop i vs))) (true ∷ [])
          ∙ sym (ap (λ l. fs ++ l) (ap (map (λ (b : BoundVariable). true)) r ∙ map-append (λ (b : BoundVariable). true) (reverse (drop i vs)) (b ∷ [])));
    }

pub bind-ends : (vs : List BoundVariable) (i : ℕ) (ns : List ℕ) (old now : List BoundVariable) (fs gs : List Bool) → BindSoFar vs i ns old now fs gs → i ≤ 0 → BindSoFar vs 0 ns old now fs gs
bind-ends vs i ns old now fs gs h le = let z : i ≡ 0 = omega (arith, le) in subst (λ n. BindSoFar vs n ns old now fs gs) z h

-- none
pub no_functions : (S : State) (E : Context) → AreFunctions S E [] S [] []
no_functions S E = record {
  grows = Rattle.elab_steps.proofs.Growing.grows_same S;
  written = tt;
  gives = λ W c A t. record { choices = []; elab = λ j le. no_function };
}

-- what was said stays
pub functions_later : (S N T : State) (E : Context) (rs : List RuleOf) (fs : List (Vec ℕ Global × ℕ × Function)) (hs : List Head) → AreFunctions S E rs N fs hs → Grows N T
    → AreFunctions S E rs T fs hs
functions_later S N T E rs fs hs h g = record {
  grows = grows_on S N T h.grows g;
  written = written-later E N T rs fs hs g h.written;
  gives = λ W c A t. h.gives W (comes_before N T W g c) A t;
}
