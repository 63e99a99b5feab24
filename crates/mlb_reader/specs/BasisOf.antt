-- The fixities of the standard basis as the code puts them in force.
use Rattle.std.specs.Prelude.{ℕ, List, map, Some}
use Rattle.sml_tree.specs.declared.fixity.Infix.{Infix}
use Rattle.sml_tree.specs.declared.fixity.Directive.{Directive}
use Rattle.sml_tree.specs.declared.ident.Vid.TheVariants.{Named}

-- these words are infix so
abbrev pub directives_of : Infix → List ℕ → List Directive
directives_of status words = map (λ word. record { vid = Named word; status = Some status }) words
