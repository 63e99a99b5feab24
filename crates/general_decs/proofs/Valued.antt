-- Which nodes of the code's tree are non-expansive.
use Rattle.std.proofs.Common.{◌≡◌, ℕ, suc, ◌≤◌, Bool, true, false, ◌&&◌, List, [], ◌∷◌, map, length, nat_eq, get_or, refl, sym, ap, ap₂, ◌∙◌, arith}
use Rattle.std.proofs.lemmas.Bool.{eqb-true}
use Rattle.mlc_base.specs.declared.place.Place.{Place}
use Rattle.sml_tree.specs.BareTree as bare
use Rattle.sml_tree.specs.Derived.{Operand, app_of, chain_of, join, left_chain, list_of, numbered, right_chain, sequence_of}
use Rattle.sml_tree.specs.TreeOf.{ExpFieldOf, exp_field_of, exp_fields_of, exp_of, part_of}
use Rattle.sml_tree.specs.declared.tree.Exp.{Exp}
use Rattle.sml_tree.specs.declared.tree.ExpField.{ExpField}
use Rattle.sml_tree.specs.declared.tree.Joint.{Joint}
use Rattle.sml_tree.specs.declared.tree.Joint.TheVariants as joint
use Rattle.sml_tree.specs.declared.tree.Part.{Part}
use Rattle.core_rules.specs.Objects.{Env}
use Rattle.core_rules.specs.Typing.{all_non_expansive, is_conexp, is_non_expansive}
use Rattle.prog_known.specs.Lists.{all_hold}
use Rattle.rec_groups.proofs.of_exp_forms.Nodes.{field-is, part-is}
use Rattle.general_decs.specs.Values.{applied_is, exp_is, field_is, is_nil, joint_makes, part_is}

and-true : (a : Bool) → (a && true) ≡ a
and-true true = refl
and-true false = refl

pub two : {r a b x y : Bool} → r ≡ (a && b) → a ≡ x → b ≡ y → r ≡ (x && y)
two h p q = h ∙ ap₂ (λ u v. u && v) p q

pub nil-none : {A : Type 0} (xs : List A) (b : Bool) → b ≡ nat_eq (length xs) 0 → b ≡ is_nil xs
nil-none [] b e = e
nil-none (x ∷ xs) true e = absurd (let k : suc (length xs) ≡ 0 = eqb-true (suc (length xs)) 0 (sym e) in omega (arith, k))
nil-none (x ∷ xs) false e = refl

module _ (E : Env) where
  -- one operand
  pub one-applied : (alone made : Bool) (as_ : List Exp) (a : Exp) → length as_ ≤ 1 → false ≡ nat_eq (length as_) 0 → a ≡ get_or as_ 0 a → (made && exp_is E a) ≡ applied_is E alone made as_
  one-applied alone made [] a le e q = cc
  one-applied alone made (b ∷ []) a le e q = ap (λ x. made && exp_is E x) q
  one-applied alone made (b ∷ d ∷ as_) a le e q = absurd (omega (arith, le))

  pub fields-are : (fs : List ExpField) → all_hold (field_is E) fs ≡ all_non_expansive E (exp_fields_of (map exp_field_of fs))
  fields-are [] = refl
  fields-are (f ∷ fs) = ap₂ (λ a b. a && b) (ap (λ (g : ExpFieldOf). is_non_expansive E g.exp) (sym (field-is f))) (fields-are fs)

  pub numbered-are : (k : ℕ) (es : List Exp) → all_hold (exp_is E) es ≡ all_non_expansive E (numbered k (map exp_of es))
  numbered-are k [] = refl
  numbered-are k (e ∷ es) = ap (λ b. exp_is E e && b) (numbered-are (suc k) es)

  pub elements-are : (p : Place) (es : List Exp) → all_hold (exp_is E) es ≡ is_non_expansive E (list_of p (map exp_of es))
  elements-are p [] = refl
  elements-are p (e ∷ es) = ap (λ b. exp_is E e && b) (elements-are p es ∙ sym (and-true (is_non_expansive E (list_of p (map exp_of es)))))

  pub sequence-is : (p : Place) (e : bare.Exp) (es : List Exp) → (is_nil es && is_non_expansive E e) ≡ is_non_expansive E (sequence_of p e (map exp_of es))
  sequence-is p e [] = refl
  sequence-is p e (f ∷ es) = refl

  -- a construction of something takes no further operands
  never-applied : (p : Place) (f a : bare.Exp) (as_ : List Exp) → is_conexp E f ≡ false → is_non_expansive E (app_of p (bare.app p f a) (map exp_of as_)) ≡ false
  never-applied p f a [] e = ap (λ b. b && is_non_expansive E a) e
  never-applied p f a (b ∷ as_) e = never-applied p (bare.app p f a) (exp_of b) as_ refl

  pub applied-are : (p : Place) (f : bare.Exp) (as_ : List Exp) → applied_is E (is_non_expansive E f) (is_conexp E f) as_ ≡ is_non_expansive E (app_of p f (map exp_of as_))
  applied-are p f [] = refl
  applied-are p f (a ∷ []) = refl
  applied-are p f (a ∷ b ∷ as_) = sym (never-applied p (bare.app p f (exp_of a)) (exp_of b) as_ refl)

  -- chains

  joined-is : (j : Joint) (p : Place) (a b : bare.Exp) → is_non_expansive E (join j p a b) ≡ (joint_makes E j && (is_non_expansive E a && is_non_expansive E b))
  joined-is joint.AndAlso p a b = refl
  joined-is joint.OrElse p a b = refl
  joined-is (joint.Infix q v) p a b = ap (λ c. joint_makes E (joint.Infix q v) && (is_non_expansive E a && c)) (and-true (is_non_expansive E b))

  turned : (a b c d : Bool) → (a && ((b && c) && d)) ≡ ((b && (a && c)) && d)
  turned true true c d = refl
  turned true false c d = refl
  turned false true c d = refl
  turned false false c d = refl

  turned-right : (a b c d : Bool) → (a && ((b && c) && d)) ≡ (b && (a && (c && d)))
  turned-right true true c d = refl
  turned-right true false c d = refl
  turned-right false true c d = refl
  turned-right false false c d = refl

  left-are : (p : Place) (a : bare.Exp) (os : List Part) → (is_non_expansive E a && all_hold (part_is E) os) ≡ is_non_expansive E (left_chain join p a (map part_of os))
  left-are p a [] = and-true (is_non_expansive E a)
  left-are p a (o ∷ os) =
      turned (is_non_expansive E a) (joint_makes E o.joint) (exp_is E o.exp) (all_hold (part_is E) os)
      ∙ ap (λ b. b && all_hold (part_is E) os) (sym (joined-is o.joint p a (exp_of o.exp)))
      ∙ left-are p (join o.joint p a (exp_of o.exp)) os
      ∙ ap (λ (z : Operand Joint bare.Exp). is_non_expansive E (left_chain join p (join z.joint p a z.operand) (map part_of os))) (sym (part-is o))

  right-are : (p : Place) (a : bare.Exp) (os : List Part) → (is_non_expansive E a && all_hold (part_is E) os) ≡ is_non_expansive E (right_chain join p a (map part_of os))
  right-are p a [] = and-true (is_non_expansive E a)
  right-are p a (o ∷ os) =
      turned-right (is_non_expansive E a) (joint_makes E o.joint) (exp_is E o.exp) (all_hold (part_is E) os)
      ∙ ap (λ b. joint_makes E o.joint && (is_non_expansive E a && b)) (right-are o.place (exp_of o.exp) os)
      ∙ sym (joined-is o.joint p a (right_chain join o.place (exp_of o.exp) (map part_of os)))
      ∙ ap (λ (z : Operand Joint bare.Exp). is_non_expansive E (join z.joint p a (right_chain join z.place z.operand (map part_of os)))) (sym (part-is o))

  pub chain-are : (r : Bool) (p : Place) (a : bare.Exp) (os : List Part) → (is_non_expansive E a && all_hold (part_is E) os) ≡ is_non_expansive E (chain_of join r p a (map part_of os))
  chain-are true p a os = right-are p a os
  chain-are false p a os = left-are p a os

  -- constructors

  pub list-makes : (p : Place) (es : List Exp) → is_nil es ≡ is_conexp E (list_of p (map exp_of es))
  list-makes p [] = refl
  list-makes p (e ∷ es) = refl

  pub sequence-makes : (p : Place) (e : bare.Exp) (es : List Exp) → (is_nil es && is_conexp E e) ≡ is_conexp E (sequence_of p e (map exp_of es))
  sequence-makes p e [] = refl
  sequence-makes p e (f ∷ es) = refl

  never-makes : (p : Place) (f a : bare.Exp) (as_ : List Exp) → is_conexp E (app_of p (bare.app p f a) (map exp_of as_)) ≡ false
  never-makes p f a [] = refl
  never-makes p f a (b ∷ as_) = never-makes p (bare.app p f a) (exp_of b) as_

  pub applied-makes : (p : Place) (f : bare.Exp) (as_ : List Exp) → (is_nil as_ && is_conexp E f) ≡ is_conexp E (app_of p f (map exp_of as_))
  applied-makes p f [] = refl
  applied-makes p f (a ∷ as_) = sym (never-makes p f (exp_of a) as_)

  join-never : (j : Joint) (p : Place) (a b : bare.Exp) → is_conexp E (join j p a b) ≡ false
  join-never joint.AndAlso p a b = refl
  join-never joint.OrElse p a b = refl
  join-never (joint.Infix q v) p a b = refl

  left-never : (p : Place) (a : bare.Exp) (os : List Part) → is_conexp E a ≡ false → is_conexp E (left_chain join p a (map part_of os)) ≡ false
  left-never p a [] e = e
  left-never p a (o ∷ os) e = left-never p (join (part_of o).joint p a (part_of o).operand) os (join-never (part_of o).joint p a (part_of o).operand)

  pub chain-makes : (r : Bool) (p : Place) (a : bare.Exp) (os : List Part) → (is_nil os && is_conexp E a) ≡ is_conexp E (chain_of join r p a (map part_of os))
  chain-makes true p a [] = refl
  chain-makes true p a (o ∷ os) = sym (join-never (part_of o).joint p a (right_chain join (part_of o).place (part_of o).operand (map part_of os)))
  chain-makes false p a [] = refl
  chain-makes false p a (o ∷ os) = sym (left-never p (join (part_of o).joint p a (part_of o).operand) os (join-never (part_of o).joint p a (part_of o).operand))
