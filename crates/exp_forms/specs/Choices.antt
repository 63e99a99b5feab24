-- Chains of `andalso`, and of `orelse`.
use Rattle.std.specs.Prelude.{◌≡◌, Bool, true, false, List, [], ◌∷◌}
use Rattle.mlc_base.specs.declared.place.Place.{Place}
use Rattle.sml_tree.specs.BareTree as bare
use Rattle.sml_tree.specs.Derived.{Operand}
use Rattle.sml_tree.specs.declared.tree.Joint.{Joint}
use Rattle.sml_tree.specs.declared.tree.Joint.TheVariants.{AndAlso, OrElse}

abbrev pub joint_of : Bool → Joint
joint_of true = AndAlso
joint_of false = OrElse

-- Operands to the right of one, all joined so. Those before the last stand with the places where they begin; the last one begins at the place q.
pub data AreJoined (all : Bool) : Place → bare.Exp → List (Operand Joint bare.Exp) → List (Place × bare.Exp) → Place → bare.Exp → Type 0 where
  none_joined : {p : Place} {e : bare.Exp} → AreJoined all p e [] [] p e
  one_joined : {p q : Place} {a e : bare.Exp} {o : Operand Joint bare.Exp} {os : List (Operand Joint bare.Exp)} {es : List (Place × bare.Exp)}
      → o.joint ≡ joint_of all → AreJoined all o.place o.operand os es q e → AreJoined all p a (o ∷ os) ((p, a) ∷ es) q e
