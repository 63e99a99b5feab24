-- What holds of all operands of a chain holds of the chain.
use Rattle.std.proofs.Common.{List, [], ◌∷◌, ◌++◌, Bool, true, false}
use Rattle.std.specs.List.{AllByRecursion}
use Rattle.mlc_base.specs.declared.place.Place.{Place}
use Rattle.sml_tree.specs.Derived.{Operand, left_chain, right_chain, chain_of}

pub each-append : {X : Type 0} (Q : X → Type 0) (xs ys : List X) → AllByRecursion Q xs → AllByRecursion Q ys → AllByRecursion Q (xs ++ ys)
each-append Q [] ys h k = k
each-append Q (x ∷ xs) ys h k = (h.0, each-append Q xs ys h.1 k)

-- an operand at a place that meets P, of which Q holds, after a joint of which R does
abbrev pub IsGoodOperand : {J A : Type 0} → (Place → Type 0) → (J → Type 0) → (A → Type 0) → Operand J A → Type 0
IsGoodOperand P R Q b = P b.place × R b.joint × Q b.operand

module _ {J A : Type 0} (P : Place → Type 0) (R : J → Type 0) (Q : A → Type 0) (join : J → Place → A → A → A) (joins : (j : J) (p : Place) (a b : A) → P p → R j → Q a → Q b → Q (join j p a b)) where
  left-good : (p : Place) (a : A) (bs : List (Operand J A)) → P p → Q a → AllByRecursion (IsGoodOperand P R Q) bs → Q (left_chain join p a bs)
  left-good p a [] h g k = g
  left-good p a (b ∷ bs) h g k = left-good p (join b.joint p a b.operand) bs h (joins b.joint p a b.operand h k.0.1 g k.0.2) k.1

  right-good : (p : Place) (a : A) (bs : List (Operand J A)) → P p → Q a → AllByRecursion (IsGoodOperand P R Q) bs → Q (right_chain join p a bs)
  right-good p a [] h g k = g
  right-good p a (b ∷ bs) h g k = joins b.joint p a (right_chain join b.place b.operand bs) h k.0.1 g (right-good b.place b.operand bs k.0.0 k.0.2 k.1)

  pub chain-good : (r : Bool) (p : Place) (a : A) (bs : List (Operand J A)) → P p → Q a → AllByRecursion (IsGoodOperand P R Q) bs → Q (chain_of join r p a bs)
  chain-good true p a bs h g k = right-good p a bs h g k
  chain-good false p a bs h g k = left-good p a bs h g k
