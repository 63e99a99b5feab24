-- From what the code comes to in a pattern, to the pattern.
use Rattle.std.proofs.Common.{◌≡◌, ◌<◌, ◌≤◌, ℕ, zero, suc, nat_lt, Bool, true, List, [], ◌∷◌, length, Vec, Box, Global, Option, Some, None, inl, inr, sym, subst, arith}
use Rattle.std.specs.List.{Contains}
use Rattle.mlc_base.specs.declared.place.Place.{Place}
use Rattle.sml_tree.specs.Derived.{short}
use Rattle.sml_tree.specs.declared.ident.Vid.{Vid}
use Rattle.sml_tree.specs.declared.tree.Pat.{Pat}
use Rattle.sml_tree.specs.declared.tree.Pat.TheVariants as pats
use Rattle.sml_tree.specs.declared.tree.PatPart.{PatPart}
use Rattle.sml_tree.specs.declared.tree.Ty.{Ty}
use Rattle.core_rules.specs.Unbound.{Unbound, all_in, unless_alone, unless_bound, value_at}
use Rattle.core_rules.specs.Values.{Env, long_value_in}
use Rattle.core_rules.proofs.Fitting.{not-false}
use Rattle.name_scopes.specs.Nodes.{pat_phrase, ty_phrase}
use Rattle.name_scopes.specs.Parts.{InPatParts, some_ty_phrases}
use Rattle.name_scopes.specs.Placed.{AnyAt, At, FoundAt}
use Rattle.name_scopes.specs.declared.sought.Sought.{Sought}
use Rattle.name_scopes.proofs.Among.{any-here}
use Rattle.name_scopes.proofs.Anywhere.{any-cases, any-first, any-none}
use Rattle.name_scopes.proofs.PatNodes.{pat-As-ty, pat-Chain-own, pat-Chain-parts}

-- an identifier with qualifiers isn't bound by the pattern
pub qualified-at : (p : Sought) (qs : List ℕ) (us : List Unbound) → 0 < length qs → At p us → At p (unless_alone qs us)
qualified-at p [] us lt h = absurd (omega (arith, lt))
qualified-at p (q ∷ qs) us lt h = h

pub none-above : {C : Type 0} (n : ℕ) → n ≤ 0 → nat_lt 0 n ≡ true → C
none-above zero le e = not-false (sym e)
none-above (suc n) le e = absurd (omega (arith, le))

pub some-ty-at : (p : Sought) (e : Env) (o : Option Ty) (t : Ty) → o ≡ Some t → FoundAt p e (ty_phrase t) → AnyAt p (all_in e (some_ty_phrases o))
some-ty-at p e o t s h = subst (λ z. AnyAt p (all_in e (some_ty_phrases z))) (sym s) (any-first p _ [] h)

pub pat-As-some : (p : Sought) (e : Env) (x : Pat) (q : Place) (v : Vid) (t : Option Ty) (a : Box Pat Global) → x ≡ pats.As q v t a
    → AnyAt p (all_in e (some_ty_phrases t)) → FoundAt p e (pat_phrase x)
pat-As-some p e x q v None a s h = any-none p h
pat-As-some p e x q v (Some t) a s h = elim (any-cases p _ [] h) [ inl f ↦ pat-As-ty p e x q v t a s f | inr r ↦ any-none p r ]

pub in-joint : (p : Sought) (e : Env) (os : List PatPart) (o : PatPart) → Contains os o
    → At p (unless_bound (long_value_in e (short o.vid)) (value_at o.vid_place (short o.vid))) → InPatParts p e os
in-joint p e os o c h = record { part = o; is = c; at = inl h }

pub in-operand : (p : Sought) (e : Env) (os : List PatPart) (o : PatPart) → Contains os o → FoundAt p e (pat_phrase o.pat) → InPatParts p e os
in-operand p e os o c h = record { part = o; is = c; at = inr h }

pub pat-Chain-in : (p : Sought) (e : Env) (x : Pat) (q : Place) (r : Bool) (a : Box Pat Global) (os : Vec PatPart Global) → x ≡ pats.Chain q r a os
    → InPatParts p e os.items → FoundAt p e (pat_phrase x)
pat-Chain-in p e x q r a os s h = elim h.at [
  | inl o ↦ pat-Chain-own p e x q r a os h.part s h.is o
  | inr o ↦ pat-Chain-parts p e x q r a os s (any-here p e (λ o. pat_phrase o.pat) os.items h.part h.is o)
]
