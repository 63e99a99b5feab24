-- Fixities (the Definition, section 2.6).
use Rattle.std.specs.Prelude.{ℕ, Bool, true, false, List, [], ◌∷◌, Option, None, map, reverse, nat_eq, if◌then◌else◌}
use Rattle.sml_tree.specs.declared.fixity.Infix.{Infix}
use Rattle.sml_tree.specs.declared.fixity.Directive.{Directive}
use Rattle.sml_tree.specs.declared.ident.Vid.{Vid}
use Rattle.sml_tree.specs.declared.ident.Vid.TheVariants.{Named, Equals, Fresh}

-- the directives that are in force, the newest first
abbrev pub Fixity : Type 0
Fixity = List Directive

abbrev pub is_vid : Vid → Vid → Bool
is_vid (Named x) (Named y) = nat_eq x y
is_vid (Fresh x) (Fresh y) = nat_eq x y
is_vid Equals Equals = true
is_vid v w = false

-- how the identifier binds, or None where it isn't infix
abbrev pub fix_of : Vid → Fixity → Option Infix
fix_of v [] = None
fix_of v (d ∷ ds) = if is_vid v d.vid then d.status else fix_of v ds

-- the directives of one declaration, the newest first
abbrev pub directives_for : Option Infix → List ℕ → List Directive
directives_for status xs = reverse (map (λ x. record { vid = Named x; status = status }) xs)
