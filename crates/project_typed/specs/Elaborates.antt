-- What a project elaborates to: its sources and the prelude, one after the other, each in what is around it where it stands.
use Rattle.std.specs.Prelude.{ℕ, List, [], ◌∷◌, Option, Some, None}
use Rattle.sml_tree.specs.BareTree.{Decs}
use Rattle.core_rules.specs.Choices.{Choices}
use Rattle.core_rules.specs.Objects.{no_env}
use Rattle.core_rules.specs.Initial.{Members, empty_context, static_env, initial_members, prelude_members}
use Rattle.core_rules.specs.Project.{Part, standard_basis, source}
use Rattle.ir_poly.specs.Prog as prog
use Rattle.ir_poly.specs.Types.{Constructor}
use Rattle.ir_poly.specs.TestsChecked.{Knowns}
use Rattle.core_elab.specs.Scopes.{Scope, empty, plus_scope, basis_scope}
use Rattle.core_elab.specs.Resolves.{joined}
use Rattle.elab_typed.specs.Contexts.{Around, KeptEnv, after, kept_env, plus_kept}
use Rattle.elab_typed.specs.Elaborates.{DecsElab}

-- where nothing is in scope
abbrev pub nothing_around : Around
nothing_around = record {
  names = empty_context.names;
  number = λ k. k;
  tyvars = [];
  env = kept_env no_env;
  scope = empty;
  known = [];
  parameters = [];
}

-- a basis with these structures in place of what is in scope; type names and the program's variables stay
abbrev pub basis_around : Members → Around → Around
basis_around ms A = record A { tyvars = []; env = kept_env (static_env ms); scope = basis_scope ms; parameters = [] }

-- what the standard basis brings into scope
pub record Standard : Type 0 where
  pub env : KeptEnv
  pub scope : Scope

-- the initial basis, and over it what the prelude brings
abbrev pub standard_with : KeptEnv → Scope → Standard
standard_with e r = record { env = plus_kept (kept_env (static_env initial_members)) e; scope = plus_scope (basis_scope initial_members) r }

module _ (table : List Constructor) (prelude : Decs) where
  -- parts, with what is around what follows and the next number; the standard basis is known once it was there
  pub data PartsElab : Around → ℕ → Option Standard → List Part → prog.Decs → Around → ℕ → Type 0 where
    no_part_elab : {A : Around} {k : ℕ} {b : Option Standard} → PartsElab A k b [] prog.no_decs A k
    source_elab : {A B : Around} {k j i : ℕ} {b : Option Standard} {run : Decs} {parts : List Part} {ds es : prog.Decs} {made : ℕ} {number : ℕ → ℕ}
        {e : KeptEnv} {r : Scope} {G : Knowns} {c : Choices} → DecsElab table A k run ds made number e r G c j
        → PartsElab (after A made number e r G) j b parts es B i → PartsElab A k b (source run ∷ parts) (joined ds es) B i
    first_basis_elab : {A B : Around} {k j i : ℕ} {parts : List Part} {ds es : prog.Decs} {made : ℕ} {number : ℕ → ℕ} {e : KeptEnv} {r : Scope} {G : Knowns}
        {c : Choices} → DecsElab table (basis_around prelude_members A) k prelude ds made number e r G c j
        → PartsElab (after A made number (standard_with e r).env (standard_with e r).scope G) j (Some (standard_with e r)) parts es B i
        → PartsElab A k None (standard_basis ∷ parts) (joined ds es) B i
    later_basis_elab : {A B : Around} {k i : ℕ} {b : Standard} {parts : List Part} {es : prog.Decs}
        → PartsElab (after A 0 A.number b.env b.scope A.known) k (Some b) parts es B i → PartsElab A k (Some b) (standard_basis ∷ parts) es B i

  abbrev pub ProjectElab : List Part → prog.Decs → Around → ℕ → Type 0
  ProjectElab parts es B k = PartsElab nothing_around 0 None parts es B k
