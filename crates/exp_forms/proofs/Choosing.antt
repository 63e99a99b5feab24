-- Chains of `andalso`, and of `orelse`.
use Rattle.std.proofs.Common.{◌≡◌, Bool, true, false, List, [], ◌∷◌, ◌++◌, refl, sym, ap, ◌∙◌}
use Rattle.mlc_base.specs.declared.place.Place.{Place}
use Rattle.sml_tree.specs.BareTree as bare
use Rattle.sml_tree.specs.Derived.{Operand, right_chain, and_of, or_of}
use Rattle.sml_tree.specs.Derived as source
use Rattle.sml_tree.specs.declared.tree.Joint.{Joint}
use Rattle.exp_forms.specs.Parts.{tests_of}
use Rattle.exp_forms.specs.Choices.{joint_of, AreJoined, none_joined, one_joined}

one-more : (all : Bool) (j : Joint) (p : Place) (a b : bare.Exp) (es : List (Place × bare.Exp)) (e : bare.Exp) → j ≡ joint_of all → b ≡ tests_of all es e
    → source.join j p a b ≡ tests_of all ((p, a) ∷ es) e
one-more true j p a b es e q h = ap (λ k. source.join k p a b) q ∙ ap (and_of p a) h
one-more false j p a b es e q h = ap (λ k. source.join k p a b) q ∙ ap (or_of p a) h

pub choices-are : {all : Bool} {p q : Place} {a e : bare.Exp} {os : List (Operand Joint bare.Exp)} {es : List (Place × bare.Exp)} → AreJoined all p a os es q e
    → tests_of all es e ≡ right_chain source.join p a os
choices-are none_joined = refl
choices-are {all = all} {p = p} {a = a} (one_joined {e = e} {o = o} {os = os} {es = es} j h) =
    sym (one-more all o.joint p a (right_chain source.join o.place o.operand os) es e j (sym (choices-are h)))

-- one operand more
pub joined-snoc : {all : Bool} {p q : Place} {a e : bare.Exp} {os : List (Operand Joint bare.Exp)} {es : List (Place × bare.Exp)} (o : Operand Joint bare.Exp) → AreJoined all p a os es q e
    → o.joint ≡ joint_of all → AreJoined all p a (os ++ o ∷ []) (es ++ (q, e) ∷ []) o.place o.operand
joined-snoc o none_joined j = one_joined j none_joined
joined-snoc o (one_joined k h) j = one_joined k (joined-snoc o h j)
