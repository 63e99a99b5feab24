-- From where nothing is in scope.
use Rattle.std.proofs.Common.{refl}
use Rattle.core_elab.proofs.Initial.{project-kept}
use Rattle.elab_typed.specs.Contexts.{generic}
use Rattle.project_typed.specs.Laws.{ProjectsAreRight}
use Rattle.project_typed.proofs.Resolving.{parts-to}
use Rattle.project_typed.proofs.Checking.{parts-checked}
use Rattle.project_typed.proofs.Typing.{parts-typed}

pub projects-right : ProjectsAreRight
projects-right table prelude parts es B k h = record {
  after = B.known;
  checked = parts-checked h refl (λ n l. refl);
  context = generic B;
  typed = parts-typed h refl;
  same = project-kept prelude parts es (parts-to h);
}
