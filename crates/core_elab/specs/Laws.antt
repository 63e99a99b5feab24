-- What is claimed of the elaboration of declarations: the same meaning.
use Rattle.std.specs.Prelude.{◌≡◌, ℕ, List, map}
use Rattle.core_rules.specs.of_sml_tree.BareTree.{Decs}
use Rattle.core_rules.specs.Eval.{identifier}
use Rattle.core_rules.specs.Initial.{exceptions}
use Rattle.core_rules.specs.Meaning.{meaning}
use Rattle.core_rules.specs.Project.{Part, project_meaning}
use Rattle.ir_poly.specs.Prog as prog
use Rattle.ir_poly.specs.ProgMeaning.{run}
use Rattle.core_elab.specs.Scopes.{Scope, initial_scope}
use Rattle.core_elab.specs.Resolves.{DecsTo}
use Rattle.core_elab.specs.Parts.{ProjectTo}

-- the identifiers of the exceptions of the initial basis, in the order of their names
abbrev pub initial_identifiers : List ℕ
initial_identifiers = map (λ r. identifier r.vid) exceptions

-- a program that resolves declarations does what they do at every number of turns: output, end and places of turns
abbrev pub MeaningKept : Type 0
MeaningKept = (ds : Decs) (es : prog.Decs) (r : Scope) (k : ℕ) → DecsTo initial_scope 0 ds es r k → (m : ℕ) → run initial_identifiers es m ≡ meaning ds m

-- the same of projects with any prelude
abbrev pub ProjectKept : Type 0
ProjectKept = (prelude : Decs) (parts : List Part) (es : prog.Decs) → ProjectTo prelude parts es → (m : ℕ)
    → run initial_identifiers es m ≡ project_meaning prelude parts m
