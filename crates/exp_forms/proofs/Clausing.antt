-- The clauses of `fun`.
use Rattle.std.proofs.Common.{◌≡◌, ◌<◌, ◌≤◌, ◌+◌, ℕ, zero, suc, List, [], ◌∷◌, ◌++◌, map, length, refl, sym, ap, subst, ◌∙◌, arith}
use Rattle.std.specs.List.{AllByRecursion}
use Rattle.mlc_names.specs.declared.label.Label.{Label}
use Rattle.mlc_names.specs.declared.label.Label.TheVariants.{Number}
use Rattle.mlc_base.specs.declared.place.Place.{Place}
use Rattle.label_rows.specs.declared.sort.Field.{Field}
use Rattle.sml_tree.specs.BareTree as bare
use Rattle.sml_tree.specs.Derived.{Clause, clause_rules, first_pats, fn_for, fresh_exp, fresh_for, fresh_pat, fun_of, numbered, one_or_tuple, short, tuple}
use Rattle.sml_tree.specs.TreeOf as source
use Rattle.sml_tree.specs.declared.ident.Vid.TheVariants.{Fresh}
use Rattle.prog_tree.specs.declared.tree.Parameter.{Parameter}
use Rattle.pat_elab.specs.of_elab_state.declared.state.State.{State}
use Rattle.pat_elab.specs.of_elab_steps.Growing.{HasType, AreTypes}
use Rattle.pat_elab.specs.of_elab_context.Telling.{IsContext}
use Rattle.pat_elab.specs.of_elab_context.declared.context.Context.{Context}
use Rattle.use_elab.specs.Elaborated.{IsExp}
use Rattle.use_elab.specs.declared.typed.TypedExp.{TypedExp}
use Rattle.exp_forms.specs.Parts.{with_labels, AreFields}
use Rattle.exp_forms.specs.declared.made.FieldsMade.{FieldsMade}
use Rattle.exp_forms.specs.Clauses.{fresh_from, fresh_exps, labels_from, body_of, rule_of}
use Rattle.exp_forms.specs.Functions.{taking, rules_of, IsFunction}
use Rattle.exp_forms.specs.Parameters.{Takes, AreEntered, IsEntered}
use Rattle.exp_forms.specs.declared.functions_made.Entered.{Entered}
use Rattle.exp_forms.specs.declared.functions_made.FunctionMade.{FunctionMade}

fn_for-is : (p : Place) (k : ℕ) (as_ : List bare.Pat) (e : bare.Exp) → fn_for p k as_ e ≡ taking (fresh_from p k (length as_)) e
fn_for-is p k [] e = refl
fn_for-is p k (a ∷ as_) e = ap (λ z. bare.fn p (bare.rule p (fresh_pat p k) z bare.no_rules)) (fn_for-is p (suc k) as_ e)

pub fresh_for-is : (p : Place) (k : ℕ) (as_ : List bare.Pat) → fresh_for p k as_ ≡ fresh_exps p k (length as_)
fresh_for-is p k [] = refl
fresh_for-is p k (a ∷ as_) = ap (λ l. fresh_exp p k ∷ l) (fresh_for-is p (suc k) as_)

-- the derived form of a function
pub fun-is : (p : Place) (cs : List Clause) → fun_of p cs ≡ taking (fresh_from p 1 (length (first_pats cs))) (body_of p cs)
fun-is p cs = fn_for-is p 1 (first_pats cs) (body_of p cs)

-- its rules, where it has a parameter
pub fun-rules : (p : Place) (n : ℕ) (e : bare.Exp) → 0 < n → taking (fresh_from p 1 n) e ≡ bare.fn p (rules_of (fresh_from p 1 n) e)
fun-rules p zero e lt = absurd (omega arith)
fun-rules p (suc n) e lt = refl

pub clause_rules-are : (cs : List Clause) → clause_rules cs ≡ source.rules_of (map rule_of cs)
clause_rules-are [] = refl
clause_rules-are (c ∷ cs) = ap (bare.rule c.place (Rattle.sml_tree.specs.Derived.one_or_tuple_pat c.place c.pats) c.body) (clause_rules-are cs)

-- one more

from-snoc : (p : Place) (k n : ℕ) → fresh_from p k (suc n) ≡ fresh_from p k n ++ record { at = p; place = p; pat = fresh_pat p (k + n) } ∷ []
from-snoc p k zero = let e : k ≡ k + 0 = omega arith in ap (λ j. record { at = p; place = p; pat = fresh_pat p j } ∷ []) e
from-snoc p k (suc n) =
    let e : suc k + n ≡ k + suc n = omega arith in
    ap (λ l. record { at = p; place = p; pat = fresh_pat p k } ∷ l)
    (from-snoc p (suc k) n ∙ ap (λ j. fresh_from p (suc k) n ++ record { at = p; place = p; pat = fresh_pat p j } ∷ []) e)

pub from-next : (p : Place) (i : ℕ) → fresh_from p 1 (i + 1) ≡ fresh_from p 1 i ++ record { at = p; place = p; pat = fresh_pat p (i + 1) } ∷ []
from-next p i =
    let up : i + 1 ≡ suc i = omega arith in
    let e : 1 + i ≡ i + 1 = omega arith in
    ap (fresh_from p 1) up ∙ from-snoc p 1 i ∙ ap (λ j. fresh_from p 1 i ++ record { at = p; place = p; pat = fresh_pat p j } ∷ []) e

exps-snoc : (p : Place) (k n : ℕ) → fresh_exps p k (suc n) ≡ fresh_exps p k n ++ fresh_exp p (k + n) ∷ []
exps-snoc p k zero = let e : k ≡ k + 0 = omega arith in ap (λ j. fresh_exp p j ∷ []) e
exps-snoc p k (suc n) =
    let e : suc k + n ≡ k + suc n = omega arith in
    ap (λ l. fresh_exp p k ∷ l) (exps-snoc p (suc k) n ∙ ap (λ j. fresh_exps p (suc k) n ++ fresh_exp p j ∷ []) e)

pub exps-next : (p : Place) (i : ℕ) → fresh_exps p 1 (i + 1) ≡ fresh_exps p 1 i ++ fresh_exp p (i + 1) ∷ []
exps-next p i =
    let up : i + 1 ≡ suc i = omega arith in
    let e : 1 + i ≡ i + 1 = omega arith in
    ap (fresh_exps p 1) up ∙ exps-snoc p 1 i ∙ ap (λ j. fresh_exps p 1 i ++ fresh_exp p j ∷ []) e

labels-snoc : (k n : ℕ) → labels_from k (suc n) ≡ labels_from k n ++ Number (k + n) ∷ []
labels-snoc k zero = let e : k ≡ k + 0 = omega arith in ap (λ j. Number j ∷ []) e
labels-snoc k (suc n) =
    let e : suc k + n ≡ k + suc n = omega arith in ap (λ l. Number k ∷ l) (labels-snoc (suc k) n ∙ ap (λ j. labels_from (suc k) n ++ Number j ∷ []) e)

pub labels-next : (i : ℕ) → labels_from 1 (i + 1) ≡ labels_from 1 i ++ Number (i + 1) ∷ []
labels-next i =
    let up : i + 1 ≡ suc i = omega arith in
    let e : 1 + i ≡ i + 1 = omega arith in
    ap (labels_from 1) up ∙ labels-snoc 1 i ∙ ap (λ j. labels_from 1 i ++ Number j ∷ []) e

numbered-is : (p : Place) (k n : ℕ) → with_labels (labels_from k n) (fresh_exps p k n) ≡ numbered k (fresh_exps p k n)
numbered-is p k zero = refl
numbered-is p k (suc n) = ap (bare.exp_field (Number k) (fresh_exp p k)) (numbered-is p (suc k) n)

pub fresh_is : (S T : State) (C : Context) (place : Place) (n : ℕ) (qs : List ℕ) (r : TypedExp) → qs ≡ [] → IsExp S C (bare.vid_exp place (record { qualifiers = qs; vid = Fresh n })) T r
    → IsExp S C (fresh_exp place n) T r
fresh_is S T C place n qs r e h = subst (λ q. IsExp S C (bare.vid_exp place (record { qualifiers = q; vid = Fresh n })) T r) e h

-- so many parameters came into scope
pub record SoFar (S : State) (C : Context) (p : Place) (n : ℕ) (T : State) (D : Context) (made : Entered) : Type 0 where
  pub context : IsContext T D
  pub entered : AreEntered S C (fresh_from p 1 n) T D (made.before.items ++ made.last ∷ []) made.types.items

pub so_far_next : (S M T : State) (C D E : Context) (p : Place) (i : ℕ) (old new : Entered) (q : Parameter) (ty : ℕ) → SoFar S C p i M D old → IsContext T E
    → IsEntered M D (fresh_pat p (i + 1)) T E q ty
    → ((S' M' T' : State) (C' D' E' : Context) (as_ : List Takes) (a : Takes) → AreEntered S' C' as_ M' D' (old.before.items ++ old.last ∷ []) old.types.items → IsEntered M' D' a.pat T' E' q ty
    → AreEntered S' C' (as_ ++ a ∷ []) T' E' (new.before.items ++ new.last ∷ []) new.types.items) → SoFar S C p (i + 1) T E new
so_far_next S M T C D E p i old new q ty h ic is add = record {
  context = ic;
  entered =
      subst (λ l. AreEntered S C l T E (new.before.items ++ new.last ∷ []) new.types.items) (sym (from-next p i))
      (add S M T C D E (fresh_from p 1 i) (record { at = p; place = p; pat = fresh_pat p (i + 1) }) h.entered is);
}

-- so many fields of the tuple
pub record FieldsSoFar (S : State) (C : Context) (p : Place) (n : ℕ) (T : State) (made : FieldsMade) : Type 0 where
  pub context : IsContext T C
  pub fields : AreFields S C (labels_from 1 n) (fresh_exps p 1 n) T made

pub fields_next : (S M T : State) (C : Context) (p : Place) (i : ℕ) (old new : FieldsMade) (r : TypedExp) → FieldsSoFar S C p i M old → IsContext T C → IsExp M C (fresh_exp p (i + 1)) T r
    → ((S' M' T' : State) (C' : Context) (ls : List Label) (es : List bare.Exp) (e : bare.Exp) → AreFields S' C' ls es M' old → IsExp M' C' e T' r
    → AreFields S' C' (ls ++ Number (i + 1) ∷ []) (es ++ e ∷ []) T' new) → FieldsSoFar S C p (i + 1) T new
fields_next S M T C p i old new r h ic is add = record {
  context = ic;
  fields =
      subst (λ l. AreFields S C l (fresh_exps p 1 (i + 1)) T new) (sym (labels-next i))
      (subst (λ l. AreFields S C (labels_from 1 i ++ Number (i + 1) ∷ []) l T new) (sym (exps-next p i))
      (add S M T C (labels_from 1 i) (fresh_exps p 1 i) (fresh_exp p (i + 1)) h.fields is));
}

-- what the clauses are about

pub one_taken : (S T : State) (C : Context) (p : Place) (r : TypedExp) (n : ℕ) (as_ : List bare.Pat) → IsExp S C (fresh_exp p 1) T r → n ≡ 1 → length as_ ≡ n
    → IsExp S C (one_or_tuple p (fresh_for p 1 as_)) T r
one_taken S T C p r n as_ h e q = subst (λ l. IsExp S C (one_or_tuple p l) T r) (sym (fresh_for-is p 1 as_ ∙ ap (fresh_exps p 1) (q ∙ e))) h

tuple-of : (p : Place) (n : ℕ) → (n ≡ 1 → ⊥) → one_or_tuple p (fresh_exps p 1 n) ≡ tuple p (fresh_exps p 1 n)
tuple-of p zero e = refl
tuple-of p (suc zero) e = absurd (e refl)
tuple-of p (suc (suc n)) e = refl

pub all_taken : (S T : State) (C : Context) (p : Place) (r : TypedExp) (n : ℕ) (as_ : List bare.Pat) → (n ≡ 1 → ⊥) → length as_ ≡ n
    → IsExp S C (bare.fields_exp p (with_labels (labels_from 1 n) (fresh_exps p 1 n))) T r → IsExp S C (one_or_tuple p (fresh_for p 1 as_)) T r
all_taken S T C p r n as_ e q h =
    subst (λ z. IsExp S C z T r)
    (ap (bare.fields_exp p) (numbered-is p 1 n) ∙ sym (ap (one_or_tuple p) (fresh_for-is p 1 as_ ∙ ap (fresh_exps p 1) q) ∙ tuple-of p n e)) h

pub all-types : (S : State) (fs : List Field) → AreTypes S (map (λ f. f.part) fs) → AllByRecursion (λ f. HasType S f.part) fs
all-types S [] h = tt
all-types S (f ∷ fs) h = (h.0, all-types S fs h.1)

-- the function of all clauses

no-parameters : {S M : State} {C D : Context} {ps : List Parameter} {ts : List ℕ} → AreEntered S C [] M D ps ts → ps ≡ []
no-parameters Rattle.exp_forms.specs.Parameters.none_entered = refl

not-none : (before : List Parameter) (x : Parameter) → before ++ x ∷ [] ≡ [] → ⊥
not-none [] x e = cc
not-none (b ∷ before) x e = cc

some : (n : ℕ) → (n ≡ 0 → ⊥) → 0 < n
some zero e = absurd (e refl)
some (suc n) e = omega arith

same-rules : (p : Place) (rs qs : bare.Rules) → bare.fn p rs ≡ bare.fn p qs → rs ≡ qs
same-rules p rs qs e = cc

pub clauses_are : (S M T : State) (C D : Context) (p : Place) (cs : List Clause) (rs : bare.Rules) (before : List Parameter) (x : Parameter) (types : List ℕ) (made : FunctionMade)
    → AreEntered S C (fresh_from p 1 (length (first_pats cs))) M D (before ++ x ∷ []) types → fun_of p cs ≡ bare.fn p rs
    → IsFunction S C (rules_of (fresh_from p 1 (length (first_pats cs))) (body_of p cs)) T made → IsFunction S C rs T made
clauses_are S M T C D p cs rs before x types made h e f =
    let n = length (first_pats cs) in
    let lt = some n (λ z. not-none before x (no-parameters (subst (λ k. AreEntered S C (fresh_from p 1 k) M D (before ++ x ∷ []) types) z h))) in
    subst (λ z. IsFunction S C z T made) (sym (same-rules p rs (rules_of (fresh_from p 1 n) (body_of p cs)) (sym e ∙ fun-is p cs ∙ fun-rules p n (body_of p cs) lt))) f

pub ends : (i n : ℕ) → i ≤ n → n ≤ i → i ≡ n
ends i n a b = omega (arith, a, b)
