-- The expression of a node, from those of its parts. D is what the context is then: C, as it was.
use Rattle.std.proofs.Common.{◌≡◌, ◌<◌, ◌≤◌, ◌+◌, ◌-◌, ◌==◌, ℕ, Bool, true, false, List, [], ◌∷◌, ◌++◌, length, get_or, map, take, Vec, Box, Global, refl, sym, ap, ap₂, subst, ◌∙◌, arith}
use Rattle.std.proofs.lemmas.Bool.{eqb-false, eqb-true}
use Rattle.mlc_base.specs.declared.place.Place.{Place}
use Rattle.sml_tree.specs.BareTree as bare
use Rattle.sml_tree.specs.Derived.{app_of, sequence_of}
use Rattle.sml_tree.specs.TreeOf.{exp_of, ty_of}
use Rattle.sml_tree.specs.declared.tree.Exp.{Exp}
use Rattle.sml_tree.specs.declared.tree.Exp.TheVariants as node
use Rattle.sml_tree.specs.declared.tree.Ty.{Ty}
use Rattle.prog_tree.specs.declared.tree.Exp.{Exp as Made}
use Rattle.core_elab.specs.Resolves.{IsCalled}
use Rattle.elab_state.specs.declared.state.State.{State}
use Rattle.elab_context.specs.declared.context.Context.{Context}
use Rattle.use_elab.specs.Elaborated.{IsExp}
use Rattle.use_elab.specs.declared.typed.TypedExp.{TypedExp}
use Rattle.scope_decs.specs.of_exp_forms.Calls.{IsCall}
use Rattle.scope_decs.specs.of_exp_forms.Parts.{AreExps, before_last}
use Rattle.scope_decs.specs.of_exp_forms.declared.made.Called.{Called}
use Rattle.scope_decs.proofs.of_exp_forms.Nodes.{source-Apply, source-Raise, source-Sequence, source-Typed}
use Rattle.elab_exps.proofs.Loops.{ExpsSoFar, exp_in, exps_begin, exps_more, sequence_end}

pub of_source : (S T : State) (C : Context) (r : TypedExp) (p q : Exp) (a : bare.Exp) → p ≡ q → exp_of q ≡ a → IsExp S C a T r → IsExp S C (exp_of p) T r
of_source S T C r p q a e s h = subst (λ z. IsExp S C z T r) (sym (ap exp_of e ∙ s)) h

pub apply_is : (S M T : State) (C D : Context) (e : Exp) (place : Place) (a : Box Exp Global) (es : Vec Exp Global) (x : Exp) (xs : List Exp) (function : TypedExp) (begun made : Called)
    (r : TypedExp) → e ≡ node.Apply place a es → x ≡ a.value → xs ≡ es.items → D ≡ C → IsCalled (exp_of x) → IsExp S C (exp_of x) M function
    → ((S T : State) (C : Context) (place : Place) (e : bare.Exp) → IsExp S C e T function → IsCall S C place e T begun)
    → ((R : State) (f : bare.Exp) → IsCalled f → IsCall R D place f M begun → IsCall R D place (app_of place f (map exp_of xs)) T made)
    → ((S T : State) (C : Context) (e : bare.Exp) → IsCall S C place e T made → IsExp S C e T r) → IsExp S C (exp_of e) T r
apply_is S M T C D e place a es x xs function begun made r is ex exs q called h start calls finish =
    let whole = app_of place (exp_of x) (map exp_of xs) in
    let k = calls S (exp_of x) called (start S M D place (exp_of x) (exp_in S M D C (exp_of x) function (sym q) h)) in
    of_source S T C r e (node.Apply place a es) whole is
    (source-Apply place a es ∙ ap₂ (λ (y : Exp) (ys : List Exp). app_of place (exp_of y) (map exp_of ys)) (sym ex) (sym exs)) (exp_in S T C D whole r q (finish S T D whole k))

pub typed_is : (S M T : State) (C D : Context) (e : Exp) (place : Place) (a : Box Exp Global) (ty : Ty) (x : Exp) (inner r : TypedExp) → e ≡ node.Typed place a ty → x ≡ a.value → D ≡ C
    → IsExp S C (exp_of x) M inner → ((S : State) (p : Place) (e : bare.Exp) → IsExp S D e M inner → IsExp S D (bare.typed p e (ty_of ty)) T r) → IsExp S C (exp_of e) T r
typed_is S M T C D e place a ty x inner r is ex q h made =
    let whole = bare.typed place (exp_of x) (ty_of ty) in
    of_source S T C r e (node.Typed place a ty) whole is (source-Typed place a ty ∙ ap (λ (y : Exp). bare.typed place (exp_of y) (ty_of ty)) (sym ex))
    (exp_in S T C D whole r q (made S place (exp_of x) (exp_in S M D C (exp_of x) inner (sym q) h)))

pub raise_is : (S M T : State) (C D : Context) (e : Exp) (place : Place) (a : Box Exp Global) (x : Exp) (packet r : TypedExp) → e ≡ node.Raise place a → x ≡ a.value → D ≡ C
    → IsExp S C (exp_of x) M packet → ((S : State) (p : Place) (e : bare.Exp) → IsExp S D e M packet → IsExp S D (bare.raise p e) T r) → IsExp S C (exp_of e) T r
raise_is S M T C D e place a x packet r is ex q h made =
    let whole = bare.raise place (exp_of x) in
    of_source S T C r e (node.Raise place a) whole is (source-Raise place a ∙ ap (λ (y : Exp). bare.raise place (exp_of y)) (sym ex))
    (exp_in S T C D whole r q (made S place (exp_of x) (exp_in S M D C (exp_of x) packet (sym q) h)))

-- an expression alone in a sequence

none-of : {A : Type 0} (xs : List A) → (length xs == 0) ≡ true → xs ≡ []
none-of [] e = refl
none-of (x ∷ xs) e = let n = eqb-true (length (x ∷ xs)) 0 e in absurd (omega (arith, n))

-- a list that has elements
pub some-before : {A : Type 0} (xs : List A) (b : Bool) → b ≡ (length xs == 0) → b ≡ false → length xs - 1 < length xs
some-before xs b e q = omega (arith, eqb-false (length xs) 0 (sym e ∙ q))

pub one-more : {A : Type 0} (xs : List A) (b : Bool) → b ≡ (length xs == 0) → b ≡ false → length xs ≡ length xs - 1 + 1
one-more xs b e q = omega (arith, eqb-false (length xs) 0 (sym e ∙ q))

sequence-node : (e : Exp) (place : Place) (a : Box Exp Global) (es : Vec Exp Global) (x : Exp) (xs : List Exp) → e ≡ node.Sequence place a es → x ≡ a.value → xs ≡ es.items
    → exp_of e ≡ sequence_of place (exp_of x) (map exp_of xs)
sequence-node e place a es x xs is ex exs =
    ap exp_of is ∙ source-Sequence place a es ∙ ap₂ (λ (y : Exp) (ys : List Exp). sequence_of place (exp_of y) (map exp_of ys)) (sym ex) (sym exs)

pub sequence_alone : (S T : State) (C : Context) (e : Exp) (place : Place) (a : Box Exp Global) (es : Vec Exp Global) (x : Exp) (xs : List Exp) (r : TypedExp) → e ≡ node.Sequence place a es
    → x ≡ a.value → xs ≡ es.items → (length xs == 0) ≡ true → IsExp S C (exp_of x) T r → IsExp S C (exp_of e) T r
sequence_alone S T C e place a es x xs r is ex exs none h =
    subst (λ z. IsExp S C z T r) (sym (sequence-node e place a es x xs is ex exs ∙ ap (λ (ys : List Exp). sequence_of place (exp_of x) (map exp_of ys)) (none-of xs none))) h

-- a sequence, of which so many expressions behind the first are elaborated
pub record SequenceSoFar (S : State) (C : Context) (e : Exp) (place : Place) (rest : List Exp) (end i : ℕ) (T : State) (D : Context) (xs : List Made) : Type 0 where
  pub first : bare.Exp
  pub whole : exp_of e ≡ sequence_of place first (map exp_of rest)
  pub most : i ≤ end
  pub parts : ExpsSoFar S C (first ∷ map exp_of (take i rest)) T D xs

pub sequence_begins : (S T : State) (C D : Context) (e : Exp) (place : Place) (a : Box Exp Global) (es : Vec Exp Global) (x : Exp) (xs : List Exp) (end : ℕ) (one : TypedExp) (old new : List Made)
    → e ≡ node.Sequence place a es → x ≡ a.value → xs ≡ es.items → old ≡ [] → D ≡ C → IsExp S C (exp_of x) T one
    → ((S M T : State) (C : Context) (es : List bare.Exp) (e : bare.Exp) (types : List ℕ) → AreExps S C es M old types → IsExp M C e T one → AreExps S C (es ++ e ∷ []) T new (types ++ one.ty ∷ []))
    → SequenceSoFar S C e place xs end 0 T D new
sequence_begins S T C D e place a es x xs end one old new is ex exs none q h add = record {
  first = exp_of x;
  whole = sequence-node e place a es x xs is ex exs;
  most = omega arith;
  parts = exps_begin S T C D (exp_of x) one old new none q h add;
}

pub sequence_more : (S M T : State) (C D E : Context) (e : Exp) (place : Place) (xs : List Exp) (end i : ℕ) (x : Exp) (one : TypedExp) (old new : List Made) → length xs ≡ end + 1 → i < end
    → x ≡ get_or xs i x → SequenceSoFar S C e place xs end i M D old → E ≡ D → IsExp M D (exp_of x) T one
    → ((S M T : State) (C : Context) (es : List bare.Exp) (e : bare.Exp) (types : List ℕ) → AreExps S C es M old types → IsExp M C e T one → AreExps S C (es ++ e ∷ []) T new (types ++ one.ty ∷ []))
    → SequenceSoFar S C e place xs end (i + 1) T E new
sequence_more S M T C D E e place xs end i x one old new n lt is h q k add = record {
  first = h.first;
  whole = h.whole;
  most = omega (arith, lt);
  parts = exps_more S M T C D E h.first xs i x one old new (omega (arith, n, lt)) is h.parts q k add;
}

pub sequence_done : (S M N T : State) (C D E : Context) (e : Exp) (place : Place) (xs : List Exp) (end i : ℕ) (x : Exp) (before : List Made) (last r : TypedExp) → length xs ≡ end + 1 → end ≤ i
    → x ≡ get_or xs end x → SequenceSoFar S C e place xs end i M D before → E ≡ D → IsExp M D (exp_of x) N last
    → ((S M : State) (p : Place) (es : List bare.Exp) (e : bare.Exp) (types : List ℕ) → AreExps S E es M before types → IsExp M E e N last → IsExp S E (before_last p es e) T r)
    → IsExp S C (exp_of e) T r
sequence_done S M N T C D E e place xs end i x before last r n le is h q k made =
    let m = h.most in
    let s : i ≡ end = omega (arith, m, le) in
    let parts = subst (λ j. ExpsSoFar S C (h.first ∷ map exp_of (take j xs)) M D before) s h.parts in
    subst (λ z. IsExp S C z T r) (sym h.whole) (sequence_end S M N T C D E place h.first xs end x before last r n is parts q k made)
