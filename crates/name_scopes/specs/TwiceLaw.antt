-- What has a typing binds nothing twice, and nothing that may not be bound.
use Rattle.std.specs.Prelude.{◌≡◌, ℕ, Bool, []}
use Rattle.sml_tree.specs.BareTree.{Decs}
use Rattle.core_rules.specs.Choices.{Choices}
use Rattle.core_rules.specs.Fits.{Fits}
use Rattle.core_rules.specs.Objects as static
use Rattle.core_rules.specs.Objects.{Context}
use Rattle.core_rules.specs.Typing.{DecsHave}
use Rattle.core_rules.specs.Values.{Env}
use Rattle.name_scopes.specs.Twice.{twice_in}

abbrev pub TwiceHasNoTyping : Type 0
TwiceHasNoTyping = (m : ℕ → Bool) (c : Context) (ds : Decs) (made : ℕ) (e : static.Env) (k : Choices) (d : Env) →
    Fits c.env d → DecsHave m c ds made e k → twice_in d ds ≡ []
