-- The fixities of the standard basis. [Basis Library, top-level environment]
use Rattle.std.specs.Prelude.{ℕ, true, false, List, [], ◌∷◌, map, Some}
use Rattle.mlc_names.specs.StandardWords.{word_cons, word_plus, word_minus, word_times, word_div, word_mod, word_less_than, word_at_most, word_greater_than, word_at_least, word_assign, word_divide, word_not_equal, word_append, word_concatenate, word_compose, word_before}
use Rattle.sml_tree.specs.declared.fixity.Infix.{Infix}
use Rattle.sml_tree.specs.declared.ident.Vid.TheVariants.{Named, Equals}
use Rattle.sml_tree.specs.Fixity.{Fixity}

abbrev pub infix_left : ℕ → Infix
infix_left precedence = record { precedence = precedence; right = false }

abbrev pub infix_right : ℕ → Infix
infix_right precedence = record { precedence = precedence; right = true }

-- of all identifiers but `=`, which is no name
abbrev pub fixity_rows : List (Infix × ℕ)
fixity_rows =
    (infix_left 7, word_times) ∷ (infix_left 7, word_divide) ∷ (infix_left 7, word_div) ∷ (infix_left 7, word_mod)
    ∷ (infix_left 6, word_plus) ∷ (infix_left 6, word_minus) ∷ (infix_left 6, word_concatenate)
    ∷ (infix_right 5, word_cons) ∷ (infix_right 5, word_append)
    ∷ (infix_left 4, word_not_equal) ∷ (infix_left 4, word_greater_than) ∷ (infix_left 4, word_at_least) ∷ (infix_left 4, word_less_than)
    ∷ (infix_left 4, word_at_most)
    ∷ (infix_left 3, word_assign) ∷ (infix_left 3, word_compose)
    ∷ (infix_left 0, word_before) ∷ []

abbrev pub standard_fixities : Fixity
standard_fixities =
    record { vid = Equals; status = Some (infix_left 4) }
    ∷ map (λ row. record { vid = Named row.1; status = Some row.0 }) fixity_rows
