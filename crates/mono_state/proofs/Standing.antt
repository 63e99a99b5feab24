-- Types stand for parameters.
use Rattle.std.proofs.Common.{◌≡◌, ◌⊎◌, inl, inr, ◌<◌, ◌≤◌, ℕ, zero, suc, Bool, true, false, List, [], ◌∷◌, ◌++◌, length, drop, min, get_or, subst, Some, nat_eq, if◌then◌else◌, refl, sym, ap, ◌∙◌, arith}
use Rattle.std.specs.Map.{lookup}
use Rattle.std.proofs.lemmas.Bool.{eqb-true, eq-eqb, false≢true}
use Rattle.ty_core.specs.Types.{Typ}
use Rattle.ty_core.specs.declared.scheme.Quantified.{Quantified}
use Rattle.ty_table.specs.TypeAt.{type_at, AllBelow}
use Rattle.ir_poly.specs.Types.{changed}
use Rattle.mono_close.specs.Closing.{standing, or_unit, AreHeld}
use Rattle.mono_names.specs.Named.{types_named}
use Rattle.mlc_runs.specs.Passes.{greatest_expansion}
use Rattle.mono_close.proofs.Tables.{below-longer, length-longer, held-longer}
use Rattle.needed_scopes.specs.Reads.{scopes_of, AreKept}
use Rattle.mono_state.specs.Seen.{held_of, Longer}
use Rattle.mono_state.specs.Going.{slots_for, IsHeld, ScopesHeld, OwnHeld, IsOpen, IsRight}
use Rattle.mono_state.specs.declared.copier.Copier.{Copier}
use Rattle.mono_state.proofs.Growing.{got-or, got-longer, still-scopes, still-own}
use Rattle.std.proofs.lemmas.Bool.{cases_order}

pub eq-turned : (a b : ℕ) → nat_eq a b ≡ nat_eq b a
eq-turned a b = go (nat_eq a b) refl (nat_eq b a) refl
  where
    go : (x : Bool) → nat_eq a b ≡ x → (y : Bool) → nat_eq b a ≡ y → x ≡ y
    go true e true f = refl
    go false e false f = refl
    go true e false f = absurd (false≢true (sym f ∙ eq-eqb b a (sym (eqb-true a b e))))
    go false e true f = absurd (false≢true (sym e ∙ eq-eqb a b (sym (eqb-true b a f))))

pub stands-at : (us : List Typ) (ps : List Quantified) (ns : List ℕ) (slots : List (ℕ × ℕ)) (v : ℕ) → standing us (slots_for ps ns ++ slots) v ≡ changed ps (types_named us ns) (standing us slots) v
stands-at us [] ns slots v = refl
stands-at us (q ∷ qs) [] slots v = refl
stands-at us (q ∷ qs) (n ∷ ns) slots v = go (nat_eq v q.variable) (nat_eq q.variable v) (eq-turned v q.variable) (stands-at us qs ns slots v)
  where
    go : (b c : Bool) → b ≡ c → standing us (slots_for qs ns ++ slots) v ≡ changed qs (types_named us ns) (standing us slots) v
        → or_unit us (if b then Some n else lookup (nat_eq v) (slots_for qs ns ++ slots)) ≡ (if c then type_at us n else changed qs (types_named us ns) (standing us slots) v)
    go true true e h = refl
    go false false e h = h
    go true false e h = absurd (cc)
    go false true e h = absurd (cc)

-- as functions
pub stands : (us : List Typ) (ps : List Quantified) (ns : List ℕ) (slots : List (ℕ × ℕ)) → standing us (slots_for ps ns ++ slots) ≡ changed ps (types_named us ns) (standing us slots)
stands us ps ns slots = λ i v. stands-at us ps ns slots v i

pub held-slots : (n : ℕ) (ps : List Quantified) (ns : List ℕ) (slots : List (ℕ × ℕ)) → AllBelow n ns → AreHeld n slots → AreHeld n (slots_for ps ns ++ slots)
held-slots n [] ns slots b h = h
held-slots n (q ∷ qs) [] slots b h = h
held-slots n (q ∷ qs) (m ∷ ns) slots b h = (b.0, held-slots n qs ns slots b.1 h)

-- from the last parameter to the first
pub none-stand : (ps : List Quantified) (ns : List ℕ) (n : ℕ) → (length ps ≤ n) ⊎ (length ns ≤ n) → slots_for (drop n ps) (drop n ns) ≡ []
none-stand [] ns zero e = refl
none-stand [] ns (suc n) e = refl
none-stand (q ∷ ps) [] zero e = refl
none-stand (q ∷ ps) (m ∷ ns) zero (inl e) = absurd (omega (arith, e))
none-stand (q ∷ ps) (m ∷ ns) zero (inr e) = absurd (omega (arith, e))
none-stand (q ∷ ps) [] (suc n) e = at-end (drop n ps)
  where
    at-end : (ps : List Quantified) → slots_for ps [] ≡ []
    at-end [] = refl
    at-end (q ∷ ps) = refl
none-stand (q ∷ ps) (m ∷ ns) (suc n) (inl e) = none-stand ps ns n (inl (omega (arith, e)))
none-stand (q ∷ ps) (m ∷ ns) (suc n) (inr e) = none-stand ps ns n (inr (omega (arith, e)))

pub stands-begin : (ps : List Quantified) (ns : List ℕ) (slots : List (ℕ × ℕ)) (n : ℕ) → n ≡ min (length ps) (length ns)
    → (slots ≡ slots_for (drop n ps) (drop n ns) ++ slots) × (n ≤ length ps) × (n ≤ length ns)
stands-begin ps ns slots n e = (ap (λ l. l ++ slots) (sym (none-stand ps ns n (either (cases_order (length ps) (length ns))))), omega (arith, e), omega (arith, e))
  where
    either : (length ps ≡ length ns) ⊎ ((length ps < length ns) ⊎ (length ns < length ps)) → (length ps ≤ n) ⊎ (length ns ≤ n)
    either (inl h) = inl (omega (arith, e, h))
    either (inr (inl h)) = inl (omega (arith, e, h))
    either (inr (inr h)) = inr (omega (arith, e, h))

-- the walk can go on
pub stands-open : (old new : Copier) (ps : List Quantified) (list : ℕ) → IsOpen old → IsHeld (held_of old) list → new.slots ≡ slots_for ps (get_or old.lists list []) ++ old.slots
    → Longer (held_of old) (held_of new) → new.scopes ≡ old.scopes → new.own ≡ old.own → new.nodes ≡ old.nodes → IsOpen new
stands-open old new ps list o h e g s t f = record {
  scopes = subst AreKept (sym s) o.scopes;
  within = subst (λ z. ScopesHeld (held_of new) (scopes_of z)) (sym s) (still-scopes g (scopes_of old.scopes) o.within);
  slots = subst (AreHeld (length new.closed)) (sym e)
      (held-slots (length new.closed) ps (get_or old.lists list []) old.slots
      (subst (AllBelow (length new.closed)) (sym (got-or old.lists list [] h.numbers h.there))
      (below-longer (length old.closed) (length new.closed) h.numbers (length-longer old.closed new.closed g.types) h.below))
      (held-longer (length old.closed) (length new.closed) old.slots (length-longer old.closed new.closed g.types) o.slots));
  own = subst (OwnHeld (held_of new)) (sym t) (still-own g old.own o.own);
  nothing = got-longer old.lists new.lists 0 [] g.lists o.nothing;
  few = subst (λ z. z ≤ greatest_expansion) (sym f) o.few;
}

pub nothing-known : (sources : List Typ) (c : Copier) → c.known.entries ≡ [] → IsRight sources c
nothing-known sources c e k n f = absurd (no-entry c.known.entries e k n f)
  where
    no-entry : (es : List (ℕ × ℕ)) → es ≡ [] → (k n : ℕ) → lookup (nat_eq k) es ≡ Some n → ⊥
    no-entry es e k n f = let p : lookup (nat_eq k) [] ≡ Some n = subst (λ l. lookup (nat_eq k) l ≡ Some n) e f in cc
