-- Look-ups behind qualifiers: what structures have is variables.
use Rattle.std.proofs.Common.{◌≡◌, ◌<◌, ℕ, false, List, [], ◌∷◌, length, Option, Some, None, refl, sym, ap, subst, arith}
use Rattle.std.specs.Prelude.{is_some, option_and_then}
use Rattle.sml_tree.specs.declared.ident.Vid.{Vid}
use Rattle.core_rules.specs.Fits.{IsOfValues}
use Rattle.core_rules.specs.Initial.{Entry, dynamic_values}
use Rattle.core_rules.specs.Values.{Env, along, structure_in, tycon_in, value_in}
use Rattle.name_scopes.specs.Covering.{Covers, StructureFits, entries_of}
use Rattle.name_scopes.specs.Scopes.{structure_found}
use Rattle.name_scopes.specs.declared.bound.Bound.{Bound}
use Rattle.name_scopes.specs.declared.bound.Members.{Members}

-- the environment of a structure

no-tycons : (rs : List Entry) (x : ℕ) → tycon_in (dynamic_values rs) x ≡ None
no-tycons [] x = refl
no-tycons (r ∷ rs) x = no-tycons rs x

no-structures : (rs : List Entry) (x : ℕ) → structure_in (dynamic_values rs) x ≡ None
no-structures [] x = refl
no-structures (r ∷ rs) x = no-structures rs x

pub rows-plain : (rs : List Entry) → IsOfValues (dynamic_values rs)
rows-plain rs = record { tycons = no-tycons rs; structures = no-structures rs }

pub structure-plain : (o : Option Members) (d : Env) → StructureFits o (Some d) → IsOfValues d
structure-plain None d h = absurd h
structure-plain (Some s) d h = subst IsOfValues (sym h) (rows-plain (entries_of s))

-- a path of two structures or more leads nowhere
along-none : (bs : List Bound) (e : Env) (q r : ℕ) (qs : List ℕ) → Covers bs e → along e (q ∷ r ∷ qs) ≡ None
along-none bs e q r qs c = by (structure_found bs q) (structure_in e q) (c.structures q)
  where
    by : (o : Option Members) (p : Option Env) → StructureFits o p → option_and_then (λ d. along d (r ∷ qs)) p ≡ None
    by o None h = refl
    by o (Some d) h = let k = structure-plain o d h in ap (option_and_then (λ d. along d qs)) (k.structures r)

-- nor does a path of one have type constructors or structures
pub long-tycon-none : (bs : List Bound) (e : Env) (qs : List ℕ) (x : ℕ) → Covers bs e → 0 < length qs → option_and_then (λ d. tycon_in d x) (along e qs) ≡ None
long-tycon-none bs e [] x c lt = absurd (omega (arith, lt))
long-tycon-none bs e (q ∷ []) x c lt = by (structure_found bs q) (structure_in e q) (c.structures q)
  where
    by : (o : Option Members) (p : Option Env) → StructureFits o p → option_and_then (λ d. tycon_in d x) (option_and_then (λ d. along d []) p) ≡ None
    by o None h = refl
    by o (Some d) h = let k = structure-plain o d h in k.tycons x
long-tycon-none bs e (q ∷ r ∷ qs) x c lt = ap (option_and_then (λ d. tycon_in d x)) (along-none bs e q r qs c)

pub long-structure-none : (bs : List Bound) (e : Env) (qs : List ℕ) (x : ℕ) → Covers bs e → 0 < length qs → option_and_then (λ d. structure_in d x) (along e qs) ≡ None
long-structure-none bs e [] x c lt = absurd (omega (arith, lt))
long-structure-none bs e (q ∷ []) x c lt = by (structure_found bs q) (structure_in e q) (c.structures q)
  where
    by : (o : Option Members) (p : Option Env) → StructureFits o p → option_and_then (λ d. structure_in d x) (option_and_then (λ d. along d []) p) ≡ None
    by o None h = refl
    by o (Some d) h = let k = structure-plain o d h in k.structures x
long-structure-none bs e (q ∷ r ∷ qs) x c lt = ap (option_and_then (λ d. structure_in d x)) (along-none bs e q r qs c)

pub long-value-none : (bs : List Bound) (e : Env) (qs : List ℕ) (x : Vid) → Covers bs e → 1 < length qs → option_and_then (λ d. value_in d x) (along e qs) ≡ None
long-value-none bs e [] x c lt = absurd (omega (arith, lt))
long-value-none bs e (q ∷ []) x c lt = absurd (omega (arith, lt))
long-value-none bs e (q ∷ r ∷ qs) x c lt = ap (option_and_then (λ d. value_in d x)) (along-none bs e q r qs c)

pub structure-unbound : (o : Option Members) (p : Option Env) → StructureFits o p → is_some o ≡ false → p ≡ None
structure-unbound None None h e = refl
structure-unbound None (Some d) h e = absurd h
structure-unbound (Some s) p h e = absurd (cc)
