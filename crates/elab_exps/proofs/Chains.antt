-- Loops along the operands of a chain.
use Rattle.std.proofs.Common.{◌≡◌, ◌<◌, ◌≤◌, ◌+◌, ℕ, Bool, true, false, List, [], ◌∷◌, ◌++◌, map, take, length, get_or, Vec, Box, Global, refl, sym, ap, ap₂, subst, ◌∙◌, arith}
use Rattle.std.specs.List.{AllByRecursion}
use Rattle.mlc_base.specs.declared.place.Place.{Place}
use Rattle.ty_basis.specs.Types.{bool_type}
use Rattle.sml_tree.specs.BareTree as bare
use Rattle.sml_tree.specs.Derived.{Operand, chain_of, join, left_chain, right_chain}
use Rattle.sml_tree.specs.TreeOf.{exp_of, part_of}
use Rattle.sml_tree.specs.declared.tree.Exp.{Exp}
use Rattle.sml_tree.specs.declared.tree.Exp.TheVariants as node
use Rattle.sml_tree.specs.declared.tree.Joint.{Joint}
use Rattle.sml_tree.specs.declared.tree.Joint.TheVariants.{Infix}
use Rattle.sml_tree.specs.declared.tree.Part.{Part}
use Rattle.prog_tree.specs.declared.tree.Exp.{Exp as Made}
use Rattle.elab_types.proofs.Lists.{all-map, next-map-at}
use Rattle.elab_state.specs.declared.state.State.{State}
use Rattle.elab_context.specs.declared.context.Context.{Context}
use Rattle.use_elab.specs.Elaborated.{IsExp}
use Rattle.use_elab.specs.declared.typed.TypedExp.{TypedExp}
use Rattle.scope_decs.specs.of_exp_forms.Chains.{IsLeft, IsRight, Operands}
use Rattle.scope_decs.specs.of_exp_forms.Choices.{AreJoined, none_joined, one_joined}
use Rattle.scope_decs.specs.of_exp_forms.Joints.{joint_of}
use Rattle.scope_decs.specs.of_exp_forms.Choices as choice
use Rattle.scope_decs.specs.of_exp_forms.Parts.{AreExpsOf}
use Rattle.scope_decs.specs.of_exp_forms.declared.parts.LeftChain.{LeftChain}
use Rattle.scope_decs.specs.of_exp_forms.declared.parts.Operator.{Operator}
use Rattle.scope_decs.specs.of_exp_forms.declared.parts.RightChain.{RightChain}
use Rattle.scope_decs.proofs.of_exp_forms.Joining.{none_are}
use Rattle.scope_decs.proofs.of_exp_forms.Nodes.{part-is, source-Chain}
use Rattle.elab_exps.proofs.Loops.{exp_in, same-at}

-- the operand of a part
operand-at : (ps : List Part) (i : ℕ) (d e : Part) → i < length ps → (part_of (get_or ps i e)).operand ≡ exp_of (get_or ps i d).exp
operand-at ps i d e lt = ap (λ o. o.operand) (part-is (get_or ps i e)) ∙ ap (λ (p : Part). exp_of p.exp) (same-at ps i e d lt)

joint-at : (ps : List Part) (i : ℕ) (d e : Part) (o : Operator) → i < length ps → d ≡ get_or ps i d → d.joint ≡ Infix o.place o.vid → (part_of (get_or ps i e)).joint ≡ Infix o.place o.vid
joint-at ps i d e o lt is h = ap (λ o. o.joint) (part-is (get_or ps i e)) ∙ ap (λ (p : Part). p.joint) (same-at ps i e d lt ∙ sym is) ∙ h

-- to the left

pub record LeftSoFar (S : State) (C : Context) (place : Place) (a : bare.Exp) (os : Operands) (T : State) (D : Context) (m : LeftChain) : Type 0 where
  pub same : D ≡ C
  pub left : IsLeft S C place a os T m

pub left_begins : (S T : State) (C D : Context) (place : Place) (a : bare.Exp) (one : TypedExp) (m : LeftChain) → D ≡ C → IsExp S C a T one
    → ((S T : State) (C : Context) (place : Place) (a : bare.Exp) → IsExp S C a T one → IsLeft S C place a [] T m) → LeftSoFar S C place a [] T D m
left_begins S T C D place a one m q h made = record { same = q; left = made S T C place a h }

pub left_more : (S M N T : State) (C D E : Context) (place : Place) (a : bare.Exp) (ps : List Part) (i : ℕ) (d e : Part) (o : Operator) (one : TypedExp) (old new : LeftChain) → i < length ps
    → d ≡ get_or ps i d → d.joint ≡ Infix o.place o.vid → LeftSoFar S C place a (map part_of (take i ps)) M D old → E ≡ D → IsExp M D (exp_of (get_or ps i e).exp) N one
    → ((S M : State) (a : bare.Exp) (os : Operands) (p : Operand Joint bare.Exp) → p.joint ≡ Infix o.place o.vid → IsLeft S E place a os M old → IsExp M E p.operand N one
    → IsLeft S E place a (os ++ p ∷ []) T new) → LeftSoFar S C place a (map part_of (take (i + 1) ps)) T E new
left_more S M N T C D E place a ps i d e o one old new lt is j h q x add =
    let p = part_of (get_or ps i d) in
    let operand = subst (λ z. IsExp M D z N one) (sym (operand-at ps i e d lt)) x in
    let whole = add S M a (map part_of (take i ps)) p (joint-at ps i d d o lt is j) (subst (λ F. IsLeft S F place a (map part_of (take i ps)) M old) (sym (q ∙ h.same)) h.left)
    (exp_in M N E D p.operand one (sym q) operand) in
    record {
      same = q ∙ h.same;
      left = subst (λ os. IsLeft S C place a os T new) (sym (next-map-at part_of ps i d lt))
          (subst (λ F. IsLeft S F place a (map part_of (take i ps) ++ p ∷ []) T new) (q ∙ h.same) whole);
    }

pub left_end : (S T : State) (C D : Context) (place : Place) (a : bare.Exp) (ps : List Part) (i : ℕ) (m : LeftChain) (r : TypedExp) → length ps ≤ i
    → LeftSoFar S C place a (map part_of (take i ps)) T D m
    → ((S T : State) (C : Context) (place : Place) (a : bare.Exp) (os : Operands) → IsLeft S C place a os T m → IsExp S C (left_chain join place a os) T r)
    → IsExp S C (left_chain join place a (map part_of ps)) T r
left_end S T C D place a ps i m r le h made = made S T C place a (map part_of ps) (subst (λ os. IsLeft S C place a os T m) (all-map part_of ps i le) h.left)

-- to the right

pub record RightSoFar (S : State) (C : Context) (place : Place) (a : bare.Exp) (os : Operands) (T : State) (D : Context) (m : RightChain) : Type 0 where
  pub same : D ≡ C
  pub right : IsRight S C place a os T m

pub right_begins : (S M T : State) (C D : Context) (place : Place) (a : bare.Exp) (one : TypedExp) (m : RightChain) → D ≡ C → IsExp S C a M one
    → ((S : State) (a : bare.Exp) → IsExp S D a M one → IsRight S D place a [] T m) → RightSoFar S C place a [] T D m
right_begins S M T C D place a one m q h made = record { same = q; right = subst (λ F. IsRight S F place a [] T m) q (made S a (exp_in S M D C a one (sym q) h)) }

pub right_more : (S M N T : State) (C D E : Context) (whole : Place) (a : bare.Exp) (ps : List Part) (i : ℕ) (d e f : Part) (o : Operator) (one : TypedExp) (old new : RightChain)
    → i < length ps → d ≡ get_or ps i d → d.joint ≡ Infix o.place o.vid → RightSoFar S C whole a (map part_of (take i ps)) M D old → E ≡ D → IsExp M D (exp_of (get_or ps i e).exp) N one
    → ((S M : State) (whole : Place) (a : bare.Exp) (os : Operands) (p : Operand Joint bare.Exp) → p.joint ≡ Infix o.place o.vid → p.place ≡ (get_or ps i f).place → IsRight S E whole a os M old
    → IsExp M E p.operand N one → IsRight S E whole a (os ++ p ∷ []) T new) → RightSoFar S C whole a (map part_of (take (i + 1) ps)) T E new
right_more S M N T C D E whole a ps i d e f o one old new lt is j h q x add =
    let p = part_of (get_or ps i d) in
    let operand = subst (λ z. IsExp M D z N one) (sym (operand-at ps i e d lt)) x in
    let at : p.place ≡ (get_or ps i f).place = ap (λ o. o.place) (part-is (get_or ps i d)) ∙ ap (λ (p : Part). p.place) (same-at ps i d f lt) in
    let made = add S M whole a (map part_of (take i ps)) p (joint-at ps i d d o lt is j) at
    (subst (λ F. IsRight S F whole a (map part_of (take i ps)) M old) (sym (q ∙ h.same)) h.right) (exp_in M N E D p.operand one (sym q) operand) in
    record {
      same = q ∙ h.same;
      right = subst (λ os. IsRight S C whole a os T new) (sym (next-map-at part_of ps i d lt))
          (subst (λ F. IsRight S F whole a (map part_of (take i ps) ++ p ∷ []) T new) (q ∙ h.same) made);
    }

pub right_end : (S M T : State) (C D : Context) (place : Place) (a : bare.Exp) (ps : List Part) (i : ℕ) (m : RightChain) (r : TypedExp) → length ps ≤ i
    → RightSoFar S C place a (map part_of (take i ps)) M D m
    → ((S : State) (C : Context) (p : Place) (a : bare.Exp) (os : Operands) → IsRight S C p a os M m → IsExp S C (right_chain join p a os) T r)
    → IsExp S C (right_chain join place a (map part_of ps)) T r
right_end S M T C D place a ps i m r le h made = made S C place a (map part_of ps) (subst (λ os. IsRight S C place a os M m) (all-map part_of ps i le) h.right)

-- operands of `andalso` or `orelse`

pub record TestsSoFar (S : State) (C : Context) (es : List bare.Exp) (T : State) (D : Context) (xs : List Made) : Type 0 where
  pub same : D ≡ C
  pub are : AreExpsOf S C es T xs bool_type

-- those before the last, with the places where they begin
abbrev pub begun : Place → bare.Exp → Operands → List (Place × bare.Exp)
begun p a [] = (p, a) ∷ []
begun p a (o ∷ os) = (p, a) ∷ begun o.place o.operand os

begun-are : (p : Place) (a : bare.Exp) (os : Operands) → map (λ b. b.1) (begun p a os) ≡ a ∷ map (λ o. o.operand) os
begun-are p a [] = refl
begun-are p a (o ∷ os) = ap (λ l. a ∷ l) (begun-are o.place o.operand os)

joint-is : (all : Bool) → joint_of all ≡ choice.joint_of all
joint-is true = refl
joint-is false = refl

joined-are : (all : Bool) (p : Place) (a : bare.Exp) (os : Operands) (o : Operand Joint bare.Exp) → AllByRecursion (λ o. o.joint ≡ joint_of all) (os ++ o ∷ [])
    → AreJoined all p a (os ++ o ∷ []) (begun p a os) o.place o.operand
joined-are all p a [] o h = one_joined (h.0 ∙ joint-is all) none_joined
joined-are all p a (b ∷ os) o h = one_joined (h.0 ∙ joint-is all) (joined-are all b.place b.operand os o h.1)

pub tests_more : (S M N T : State) (C D E : Context) (a : bare.Exp) (ps : List Part) (i : ℕ) (d : Part) (one : TypedExp) (old new : List Made) → i < length ps
    → TestsSoFar S C (a ∷ map (λ (p : Part). exp_of p.exp) (take i ps)) M D old → E ≡ D → IsExp M D (exp_of (get_or ps i d).exp) N one
    → ((S M : State) (C : Context) (es : List bare.Exp) (e : bare.Exp) → AreExpsOf S C es M old bool_type → IsExp M C e N one → AreExpsOf S C (es ++ e ∷ []) T new bool_type)
    → TestsSoFar S C (a ∷ map (λ (p : Part). exp_of p.exp) (take (i + 1) ps)) T E new
tests_more S M N T C D E a ps i d one old new lt h q x add = record {
  same = q ∙ h.same;
  are = subst (λ es. AreExpsOf S C (a ∷ es) T new bool_type) (sym (next-map-at (λ (p : Part). exp_of p.exp) ps i d lt))
      (add S M C (a ∷ map (λ (p : Part). exp_of p.exp) (take i ps)) (exp_of (get_or ps i d).exp) h.are (exp_in M N C D (exp_of (get_or ps i d).exp) one h.same x));
}

operands-are : (ps : List Part) → map (λ (p : Part). exp_of p.exp) ps ≡ map (λ o. o.operand) (map part_of ps)
operands-are [] = refl
operands-are (p ∷ ps) = ap₂ (λ e es. e ∷ es) (sym (ap (λ o. o.operand) (part-is p))) (operands-are ps)

pub tests_end : (S M N T : State) (C D E : Context) (all : Bool) (place : Place) (a : bare.Exp) (ps : List Part) (i : ℕ) (d : Part) (before : List Made) (last r : TypedExp)
    → length ps ≡ i + 1 → AllByRecursion (λ o. o.joint ≡ joint_of all) (map part_of ps) → TestsSoFar S C (a ∷ map (λ (p : Part). exp_of p.exp) (take i ps)) M D before → E ≡ D
    → IsExp M D (exp_of (get_or ps i d).exp) N last
    → ((S M : State) (p q : Place) (a e : bare.Exp) (os : Operands) (es : List (Place × bare.Exp)) → AreJoined all p a os es q e → AreExpsOf S E (map (λ b. b.1) es) M before bool_type
    → IsExp M E e N last → IsExp S E (right_chain join p a os) T r) → IsExp S C (right_chain join place a (map part_of ps)) T r
tests_end S M N T C D E all place a ps i d before last r n joined h q x made =
    let os = map part_of (take i ps) in
    let o = part_of (get_or ps i d) in
    let whole : map part_of ps ≡ os ++ o ∷ [] = sym (all-map part_of ps (i + 1) (omega (arith, n))) ∙ next-map-at part_of ps i d (omega (arith, n)) in
    let each = joined-are all place a os o (subst (AllByRecursion (λ o. o.joint ≡ joint_of all)) whole joined) in
    let are = subst (λ es. AreExpsOf S C es M before bool_type) (ap (λ l. a ∷ l) (operands-are (take i ps)) ∙ sym (begun-are place a os)) h.are in
    let operand = subst (λ z. IsExp M D z N last) (sym (operand-at ps i d d (omega (arith, n)))) x in
    let give = made S M place o.place a o.operand (os ++ o ∷ []) (begun place a os) each
    (subst (λ F. AreExpsOf S F (map (λ b. b.1) (begun place a os)) M before bool_type) (sym (q ∙ h.same)) are) (exp_in M N E D o.operand last (sym q) operand) in
    subst (λ os. IsExp S C (right_chain join place a os) T r) (sym whole) (exp_in S T C E (right_chain join place a (os ++ o ∷ [])) r (q ∙ h.same) give)

-- the whole chain, of which so many operands behind the first are elaborated

pub record LeftPart (S : State) (C : Context) (e : Exp) (place : Place) (ps : List Part) (i : ℕ) (T : State) (D : Context) (m : LeftChain) : Type 0 where
  pub first : bare.Exp
  pub whole : exp_of e ≡ left_chain join place first (map part_of ps)
  pub so_far : LeftSoFar S C place first (map part_of (take i ps)) T D m

pub record RightPart (S : State) (C : Context) (e : Exp) (ps : List Part) (i : ℕ) (T : State) (D : Context) (m : RightChain) : Type 0 where
  pub place : Place
  pub first : bare.Exp
  pub whole : exp_of e ≡ right_chain join place first (map part_of ps)
  pub so_far : RightSoFar S C place first (map part_of (take i ps)) T D m

pub record TestsPart (S : State) (C : Context) (e : Exp) (ps : List Part) (end i : ℕ) (T : State) (D : Context) (xs : List Made) : Type 0 where
  pub place : Place
  pub first : bare.Exp
  pub whole : exp_of e ≡ right_chain join place first (map part_of ps)
  pub most : i ≤ end
  pub so_far : TestsSoFar S C (first ∷ map (λ (p : Part). exp_of p.exp) (take i ps)) T D xs

module _ (e : Exp) (place : Place) (right : Bool) (a : Box Exp Global) (vs : Vec Part Global) (x : Exp) (ps : List Part) (is : e ≡ node.Chain place right a vs) (ex : x ≡ a.value) (eps : ps ≡ vs.items) where
  chain-node : (b : Bool) → right ≡ b → exp_of e ≡ chain_of join b place (exp_of x) (map part_of ps)
  chain-node b eb =
      ap exp_of is ∙ source-Chain place right a vs ∙ ap₂ (λ c os. chain_of join c place (exp_of a.value) os) eb (ap (map part_of) (sym eps))
      ∙ ap (λ (y : Exp). chain_of join b place (exp_of y) (map part_of ps)) (sym ex)

  pub left_first : (S T : State) (C D : Context) (one : TypedExp) (m : LeftChain) → right ≡ false → D ≡ C → IsExp S C (exp_of x) T one
      → ((S T : State) (C : Context) (place : Place) (a : bare.Exp) → IsExp S C a T one → IsLeft S C place a [] T m) → LeftPart S C e place ps 0 T D m
  left_first S T C D one m b q h made = record { first = exp_of x; whole = chain-node false b; so_far = left_begins S T C D place (exp_of x) one m q h made }

  pub right_first : (S M T : State) (C D : Context) (one : TypedExp) (m : RightChain) → right ≡ true → D ≡ C → IsExp S C (exp_of x) M one
      → ((S : State) (a : bare.Exp) → IsExp S D a M one → IsRight S D place a [] T m) → RightPart S C e ps 0 T D m
  right_first S M T C D one m b q h made = record { place = place; first = exp_of x; whole = chain-node true b; so_far = right_begins S M T C D place (exp_of x) one m q h made }

  pub tests_first : (S M T : State) (C D : Context) (end : ℕ) (one : TypedExp) (old new : List Made) → right ≡ true → old ≡ [] → D ≡ C → IsExp S C (exp_of x) M one
      → ((S M' : State) (C : Context) (es : List bare.Exp) (e : bare.Exp) → AreExpsOf S C es M' old bool_type → IsExp M' C e M one → AreExpsOf S C (es ++ e ∷ []) T new bool_type)
      → TestsPart S C e ps end 0 T D new
  tests_first S M T C D end one old new b none q h add = record {
    place = place;
    first = exp_of x;
    whole = chain-node true b;
    most = omega arith;
    so_far = record { same = q; are = add S S C [] (exp_of x) (record { types = []; parts = none_are S C old none; same = λ W c. tt }) h };
  }

pub left_next : (S M N T : State) (C D E : Context) (w : Exp) (place : Place) (ps : List Part) (i : ℕ) (d e : Part) (o : Operator) (one : TypedExp) (old new : LeftChain) → i < length ps
    → d ≡ get_or ps i d → d.joint ≡ Infix o.place o.vid → LeftPart S C w place ps i M D old → E ≡ D → IsExp M D (exp_of (get_or ps i e).exp) N one
    → ((S M : State) (a : bare.Exp) (os : Operands) (p : Operand Joint bare.Exp) → p.joint ≡ Infix o.place o.vid → IsLeft S E place a os M old → IsExp M E p.operand N one
    → IsLeft S E place a (os ++ p ∷ []) T new) → LeftPart S C w place ps (i + 1) T E new
left_next S M N T C D E w place ps i d e o one old new lt is j h q x add =
    record { first = h.first; whole = h.whole; so_far = left_more S M N T C D E place h.first ps i d e o one old new lt is j h.so_far q x add }

pub left_done : (S T : State) (C D : Context) (w : Exp) (place : Place) (ps : List Part) (i : ℕ) (m : LeftChain) (r : TypedExp) → length ps ≤ i → LeftPart S C w place ps i T D m
    → ((S T : State) (C : Context) (place : Place) (a : bare.Exp) (os : Operands) → IsLeft S C place a os T m → IsExp S C (left_chain join place a os) T r) → IsExp S C (exp_of w) T r
left_done S T C D w place ps i m r le h made = subst (λ z. IsExp S C z T r) (sym h.whole) (left_end S T C D place h.first ps i m r le h.so_far made)

pub right_next : (S M N T : State) (C D E : Context) (w : Exp) (ps : List Part) (i : ℕ) (d e f : Part) (at : Place) (o : Operator) (one : TypedExp) (old new : RightChain)
    → i < length ps → d ≡ get_or ps i d → d.joint ≡ Infix o.place o.vid → at ≡ (get_or ps i f).place → RightPart S C w ps i M D old → E ≡ D
    → IsExp M D (exp_of (get_or ps i e).exp) N one
    → ((S M : State) (whole : Place) (a : bare.Exp) (os : Operands) (p : Operand Joint bare.Exp) → p.joint ≡ Infix o.place o.vid → p.place ≡ at → IsRight S E whole a os M old
    → IsExp M E p.operand N one → IsRight S E whole a (os ++ p ∷ []) T new) → RightPart S C w ps (i + 1) T E new
right_next S M N T C D E w ps i d e f at o one old new lt is j ea h q x add =
    record {
      place = h.place;
      first = h.first;
      whole = h.whole;
      so_far = right_more S M N T C D E h.place h.first ps i d e f o one old new lt is j h.so_far q x (λ S M whole a os p k l. add S M whole a os p k (l ∙ sym ea));
    }

pub right_done : (S M T : State) (C D : Context) (w : Exp) (ps : List Part) (i : ℕ) (m : RightChain) (r : TypedExp) → length ps ≤ i → RightPart S C w ps i M D m
    → ((S : State) (C : Context) (p : Place) (a : bare.Exp) (os : Operands) → IsRight S C p a os M m → IsExp S C (right_chain join p a os) T r) → IsExp S C (exp_of w) T r
right_done S M T C D w ps i m r le h made = subst (λ z. IsExp S C z T r) (sym h.whole) (right_end S M T C D h.place h.first ps i m r le h.so_far made)

pub tests_next : (S M N T : State) (C D E : Context) (w : Exp) (ps : List Part) (end i : ℕ) (d : Part) (one : TypedExp) (old new : List Made) → length ps ≡ end + 1 → i < end
    → TestsPart S C w ps end i M D old → E ≡ D → IsExp M D (exp_of (get_or ps i d).exp) N one
    → ((S M : State) (C : Context) (es : List bare.Exp) (e : bare.Exp) → AreExpsOf S C es M old bool_type → IsExp M C e N one → AreExpsOf S C (es ++ e ∷ []) T new bool_type)
    → TestsPart S C w ps end (i + 1) T E new
tests_next S M N T C D E w ps end i d one old new n lt h q x add = record {
  place = h.place;
  first = h.first;
  whole = h.whole;
  most = omega (arith, lt);
  so_far = tests_more S M N T C D E h.first ps i d one old new (omega (arith, n, lt)) h.so_far q x add;
}

pub tests_done : (S M N T : State) (C D E : Context) (w : Exp) (all : Bool) (ps : List Part) (end i : ℕ) (d : Part) (before : List Made) (last r : TypedExp)
    → length ps ≡ end + 1 → end ≤ i → AllByRecursion (λ o. o.joint ≡ joint_of all) (map part_of ps) → TestsPart S C w ps end i M D before → E ≡ D
    → IsExp M D (exp_of (get_or ps end d).exp) N last
    → ((S M : State) (p q : Place) (a e : bare.Exp) (os : Operands) (es : List (Place × bare.Exp)) → AreJoined all p a os es q e → AreExpsOf S E (map (λ b. b.1) es) M before bool_type
    → IsExp M E e N last → IsExp S E (right_chain join p a os) T r) → IsExp S C (exp_of w) T r
tests_done S M N T C D E w all ps end i d before last r n le joined h q x made =
    let m = h.most in
    let s : i ≡ end = omega (arith, m, le) in
    let so_far = subst (λ j. TestsSoFar S C (h.first ∷ map (λ (p : Part). exp_of p.exp) (take j ps)) M D before) s h.so_far in
    subst (λ z. IsExp S C z T r) (sym h.whole) (tests_end S M N T C D E all h.place h.first ps end d before last r n joined so_far q x made)
