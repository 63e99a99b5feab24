use Rattle.first_values.proofs.Lemmas.{runs-are-parts}
use Rattle.first_values.proofs.law.runs_are_parts.Goals as goal

pub returns : goal.returns
returns c = runs-are-parts
