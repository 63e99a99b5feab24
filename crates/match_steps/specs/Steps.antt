-- Steps in terms of the trees that they make in front of others.
use Rattle.std.specs.Prelude.{◌≡◌, List, map}
use Rattle.ir_poly.specs.Tests.{Tests}
use Rattle.plain_tree.specs.TreeOf.{onto, step_of}
use Rattle.plain_tree.specs.declared.tree.Step.{Step}
use Rattle.match_types.specs.Views.{View, reading, Sees}
use Rattle.match_types.specs.declared.work.Work.{Work}

-- steps in front of others
abbrev pub stand : View → List Step → Tests → Tests
stand v ss rest = onto (map (step_of (reading v)) ss) rest

-- f was to come behind the steps before; now g is to come behind the steps after
pub record Leads (w : Work) (before after : List Step) (f g : View → Tests → Tests) : Type 0 where
  pub leads : (v : View) → Sees w v → (rest : Tests) → stand v after (g v rest) ≡ stand v before (f v rest)

abbrev pub nothing : View → Tests → Tests
nothing v rest = rest

-- the steps of f were put behind those before
abbrev pub Puts : Work → List Step → List Step → (View → Tests → Tests) → Type 0
Puts w before after f = Leads w before after f nothing
