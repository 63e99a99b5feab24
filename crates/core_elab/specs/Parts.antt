-- A program resolves a project: sources, and the standard basis with its prelude, which is evaluated where it first stands.
use Rattle.std.specs.Prelude.{ℕ, List, [], ◌∷◌, Option, Some, None}
use Rattle.core_rules.specs.of_sml_tree.BareTree.{Decs}
use Rattle.core_rules.specs.Project.{Part, standard_basis, source}
use Rattle.ir_poly.specs.Prog as prog
use Rattle.core_elab.specs.Scopes.{Scope, empty, plus_scope, initial_scope, prelude_scope}
use Rattle.core_elab.specs.Resolves.{DecsTo, joined}

module _ (prelude : Decs) where
  -- under a scope, from a number on; the scope of the standard basis is known once it was there
  pub data PartsTo : Scope → ℕ → Option Scope → List Part → prog.Decs → Type 0 where
    no_parts_to : {s : Scope} {k : ℕ} {b : Option Scope} → PartsTo s k b [] prog.no_decs
    source_to : {s : Scope} {k : ℕ} {b : Option Scope} {run : Decs} {parts : List Part} {ds es : prog.Decs} {r : Scope} {j : ℕ} → DecsTo s k run ds r j
        → PartsTo (plus_scope s r) j b parts es → PartsTo s k b (source run ∷ parts) (joined ds es)
    first_basis_to : {s : Scope} {k : ℕ} {parts : List Part} {ds es : prog.Decs} {r : Scope} {j : ℕ} → DecsTo prelude_scope k prelude ds r j
        → PartsTo (plus_scope s (plus_scope initial_scope r)) j (Some (plus_scope initial_scope r)) parts es
        → PartsTo s k None (standard_basis ∷ parts) (joined ds es)
    later_basis_to : {s b : Scope} {k : ℕ} {parts : List Part} {es : prog.Decs} → PartsTo (plus_scope s b) k (Some b) parts es
        → PartsTo s k (Some b) (standard_basis ∷ parts) es

  abbrev pub ProjectTo : List Part → prog.Decs → Type 0
  ProjectTo parts es = PartsTo empty 0 None parts es
