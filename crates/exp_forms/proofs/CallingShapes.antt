-- Operators that are no `fn`.
use Rattle.std.proofs.Common.{◌≡◌, ◌<◌, ℕ, Bool, true, false, List, [], ◌∷◌, map, length, nat_lt, sym, ap, subst, ◌∙◌, arith}
use Rattle.std.proofs.lemmas.Bool.{ltb-true}
use Rattle.mlc_base.specs.declared.place.Place.{Place}
use Rattle.sml_tree.specs.BareTree as bare
use Rattle.sml_tree.specs.Derived.{Operand, app_of, chain_of, join, left_chain, list_of, sequence_of}
use Rattle.sml_tree.specs.TreeOf.{exp_of}
use Rattle.sml_tree.specs.declared.tree.Exp.{Exp}
use Rattle.sml_tree.specs.declared.tree.Joint.{Joint}
use Rattle.sml_tree.specs.declared.tree.Joint.TheVariants.{AndAlso, OrElse, Infix}
use Rattle.core_elab.specs.Resolves.{IsCalled, called_app, called_built}

pub list-called : (p : Place) (es : List bare.Exp) → IsCalled (list_of p es)
list-called p [] = called_built p _
list-called p (e ∷ es) = called_app p _ _

pub sequence-called : (p : Place) (e : bare.Exp) (es : List bare.Exp) → 0 < length es → IsCalled (sequence_of p e es)
sequence-called p e [] lt = absurd (omega (arith, lt))
sequence-called p e (f ∷ fs) lt = called_app p _ _

app-called : (p : Place) (e : bare.Exp) (es : List bare.Exp) → IsCalled e → IsCalled (app_of p e es)
app-called p e [] c = c
app-called p e (a ∷ as_) c = app-called p (bare.app p e a) as_ (called_app p e a)

pub applied-called : (p : Place) (e : bare.Exp) (es : List bare.Exp) → 0 < length es → IsCalled (app_of p e es)
applied-called p e [] lt = absurd (omega (arith, lt))
applied-called p e (a ∷ as_) lt = app-called p (bare.app p e a) as_ (called_app p e a)

join-called : (j : Joint) (p : Place) (a b : bare.Exp) → IsCalled (join j p a b)
join-called AndAlso p a b = called_app p _ _
join-called OrElse p a b = called_app p _ _
join-called (Infix q v) p a b = called_app p _ _

left-called : (p : Place) (e : bare.Exp) (os : List (Operand Joint bare.Exp)) → IsCalled e → IsCalled (left_chain (λ j. join j) p e os)
left-called p e [] c = c
left-called p e (o ∷ os) c = left-called p (join o.joint p e o.operand) os (join-called o.joint p e o.operand)

pub chain-called : (r : Bool) (p : Place) (e : bare.Exp) (os : List (Operand Joint bare.Exp)) → 0 < length os → IsCalled (chain_of (λ j. join j) r p e os)
chain-called true p e [] lt = absurd (omega (arith, lt))
chain-called true p e (o ∷ os) lt = join-called o.joint p e _
chain-called false p e [] lt = absurd (omega (arith, lt))
chain-called false p e (o ∷ os) lt = left-called p (join o.joint p e o.operand) os (join-called o.joint p e o.operand)

-- how many there are
pub some-mapped : {A B : Type 0} (f : A → B) (xs : List A) → 0 < length xs → 0 < length (map f xs)
some-mapped f [] lt = lt
some-mapped f (x ∷ xs) lt = omega arith

-- at a node
pub called-at : (e f : Exp) (b : bare.Exp) → e ≡ f → exp_of f ≡ b → IsCalled b → IsCalled (exp_of e)
called-at e f b p q h = subst IsCalled (sym (ap exp_of p ∙ q)) h

-- where there are operands
pub some-there : {A B : Type 0} (f : A → B) (xs : List A) (n : ℕ) → n ≡ length xs → nat_lt 0 n ≡ true → 0 < length (map f xs)
some-there f xs n e h = some-mapped f xs (let lt = ltb-true 0 n h in omega (arith, e, lt))
