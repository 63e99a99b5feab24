-- The identifier of the exception that an operation makes.
use Rattle.std.specs.Prelude.{ℕ, List, [], ◌∷◌}
use Rattle.first_values.specs.Operations.{Plain, exception}

abbrev pub made_by : Plain → List ℕ
made_by (exception identifier) = identifier ∷ []
made_by p = []
