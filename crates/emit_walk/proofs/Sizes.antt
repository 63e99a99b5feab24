-- Steps are less deep than a body that they begin: what a call of the walk comes to is less.
use Rattle.std.proofs.Common.{◌≡◌, List, ◌<◌, Vec, Box, Global, ap, arith}
use denote.Param.Weighed.{most}
use Rattle.ssa_tree.specs.declared.tree.Body.{Body, size-Body}
use Rattle.ssa_tree.specs.declared.tree.Body.TheVariants as body
use Rattle.ssa_tree.specs.declared.tree.Body.TheViews.{sized-Steps}
use Rattle.ssa_tree.specs.declared.tree.Step.{Step, size-Step}

pub steps-fall : (b : Body) (ss : Vec Step Global) (rr : Box Body Global) (xs : List Step) → b ≡ body.Steps ss rr → xs ≡ ss.items → most size-Step xs < size-Body b
steps-fall b ss rr xs is hx = omega (arith, sized-Steps ss rr, ap size-Body is, ap (most size-Step) hx)
