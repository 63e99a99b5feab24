-- Texts that are in no declaration, by computation.
use Rattle.std.proofs.Common.{◌≡◌, ℕ, List, [], ◌∷◌, refl, true}
use Rattle.std.specs.Prelude.{pos}
use Rattle.mlc_names.specs.declared.token.Reserved.TheVariants as res
use Rattle.sml_tree.specs.Fixity.{Fixity}
use Rattle.sml_tree.specs.Terminal.{Terminal, reserved, number, alpha}
use Rattle.sml_grammar.specs.Answer.{bad, many}
use Rattle.sml_grammar.specs.Types.{read_ty}
use Rattle.sml_grammar.specs.Patterns.{read_pats}
use Rattle.sml_tree.specs.ReadTree.{Decs}
use Rattle.sml_tree.specs.Grammar.{Declares}
use Rattle.sml_grammar.specs.Expressions.{readers, read_all}
use Rattle.sml_grammar.proofs.LawComplete.{bad-sound}

abbrev name_f : ℕ
name_f = 1

abbrev name_g : ℕ
name_g = 2

abbrev name_x : ℕ
name_x = 3

abbrev name_y : ℕ
name_y = 4

abbrev no_fixities : Fixity
no_fixities = []

-- val x = ;
abbrev pub text_no_expression : List Terminal
text_no_expression = reserved 0 res.Val ∷ alpha 4 name_x ∷ reserved 6 res.Equals ∷ reserved 8 res.Semicolon ∷ []

pub no_expression-bad : read_all 10 no_fixities text_no_expression ≡ bad
unfolding many readers read_ty read_pats
no_expression-bad = refl

-- fun f 0 = 1 | g 1 = 2
abbrev pub text_two_names : List Terminal
text_two_names = reserved 0 res.Fun ∷ alpha 4 name_f ∷ number 6 (pos 0) true ∷ reserved 8 res.Equals ∷ number 10 (pos 1) true ∷ reserved 12 res.Bar ∷ alpha 14 name_g ∷ number 16 (pos 1) true ∷ reserved 18 res.Equals ∷ number 20 (pos 2) true ∷ []

pub two_names-bad : read_all 10 no_fixities text_two_names ≡ bad
unfolding many readers read_ty read_pats
two_names-bad = refl

-- fun f x = 1 | f x y = 2
abbrev pub text_two_counts : List Terminal
text_two_counts = reserved 0 res.Fun ∷ alpha 4 name_f ∷ alpha 6 name_x ∷ reserved 8 res.Equals ∷ number 10 (pos 1) true ∷ reserved 12 res.Bar ∷ alpha 14 name_f ∷ alpha 16 name_x ∷ alpha 18 name_y ∷ reserved 20 res.Equals ∷ number 22 (pos 2) true ∷ []

pub two_counts-bad : read_all 10 no_fixities text_two_counts ≡ bad
unfolding many readers read_ty read_pats
two_counts-bad = refl

-- a text that is bad has no tree of any depth

pub no_expression : {ds : Decs} → Declares no_fixities text_no_expression ds [] → ⊥
no_expression {ds} d = bad-sound 10 no_fixities text_no_expression ds no_expression-bad d

pub two_names : {ds : Decs} → Declares no_fixities text_two_names ds [] → ⊥
two_names {ds} d = bad-sound 10 no_fixities text_two_names ds two_names-bad d

pub two_counts : {ds : Decs} → Declares no_fixities text_two_counts ds [] → ⊥
two_counts {ds} d = bad-sound 10 no_fixities text_two_counts ds two_counts-bad d
