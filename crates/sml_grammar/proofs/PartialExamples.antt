-- Partial trees of some texts.
use Rattle.std.proofs.Common.{◌≡◌, ℕ, zero, suc, List, [], ◌∷◌, false, refl}
use Rattle.mlc_names.specs.declared.token.Reserved.TheVariants as res
use Rattle.sml_tree.specs.Fixity.{Fixity}
use Rattle.sml_tree.specs.Terminal.{Terminal, reserved, alpha, type_var, alpha_vid}
use Rattle.sml_tree.specs.Grammar.{plain_long, of_pat_vid, of_atpat}
use Rattle.sml_grammar.specs.Answer.{bad, many}
use Rattle.sml_grammar.specs.Types.{read_ty}
use Rattle.sml_grammar.specs.Patterns.{read_pats}
use Rattle.sml_grammar.specs.Expressions.{readers, read_all}
use Rattle.sml_grammar.specs.Begins.{with_paren, with_atom, BeginTyvars}
use Rattle.sml_grammar.specs.Partial.{Opens, begun, in_atom, in_paren, OpensDecs, in_dec, in_val, no_tyvar_here, in_bind}
use Rattle.sml_grammar.proofs.LawComplete.{deep-complete}

abbrev name_x : ℕ
name_x = 3

abbrev no_fixities : Fixity
no_fixities = []

-- Each opening bracket is one deeper.

abbrev brackets : ℕ → List Terminal
brackets zero = []
brackets (suc n) = reserved 0 res.LeftParen ∷ brackets n

brackets-open : (f : Fixity) (n : ℕ) → Opens f 0 (brackets (suc n)) (suc n)
brackets-open f zero = begun (with_atom (with_paren 0))
brackets-open f (suc n) = in_atom (in_paren 0 (brackets-open f n))

no-tyvars : (p x : ℕ) (o : List Terminal) → BeginTyvars (alpha p x ∷ o) → ⊥
no-tyvars p x o b = elim b [ ]

-- val x = ((( ..
abbrev pub text_brackets : ℕ → List Terminal
text_brackets n = reserved 0 res.Val ∷ alpha 4 name_x ∷ reserved 6 res.Equals ∷ brackets n

brackets-deep : (n : ℕ) → OpensDecs no_fixities (text_brackets (suc n)) (suc n)
brackets-deep n =
    in_dec (in_val 0 (no_tyvar_here (no-tyvars 4 name_x (reserved 6 res.Equals ∷ brackets (suc n)))) (in_bind 6 (of_atpat (of_pat_vid (plain_long (alpha_vid 4 name_x) refl))) (brackets-open no_fixities n)))

pub too_deep : OpensDecs no_fixities (text_brackets 401) 401
too_deep = brackets-deep 400

-- Where no depth is too small for the reader to find something wrong, there is no partial tree.

nothing-opens : (f : Fixity) (i : List Terminal) (n : ℕ) → read_all n f i ≡ bad → OpensDecs f i (suc n) → ⊥
nothing-opens f i n h o = let e = deep-complete n f i o in absurd (cc)

-- `val x = ;`: nothing is deeper than the pattern
abbrev text_no_expression : List Terminal
text_no_expression = reserved 0 res.Val ∷ alpha 4 name_x ∷ reserved 6 res.Equals ∷ reserved 8 res.Semicolon ∷ []

no_expression-bad : (n : ℕ) → read_all (suc n) no_fixities text_no_expression ≡ bad
unfolding many readers read_ty read_pats
no_expression-bad n = refl

pub no_expression : (n : ℕ) → OpensDecs no_fixities text_no_expression (suc (suc n)) → ⊥
no_expression n o = nothing-opens no_fixities text_no_expression (suc n) (no_expression-bad n) o

-- `fun x`: the name of a function isn't a pattern
abbrev text_only_name : List Terminal
text_only_name = reserved 0 res.Fun ∷ alpha 4 name_x ∷ []

only_name-bad : (n : ℕ) → read_all n no_fixities text_only_name ≡ bad
unfolding many readers read_ty read_pats
only_name-bad zero = refl
only_name-bad (suc n) = refl

pub only_name : (n : ℕ) → OpensDecs no_fixities text_only_name (suc n) → ⊥
only_name n o = nothing-opens no_fixities text_only_name n (only_name-bad n) o

-- `val ('a`: the bracket is that of type variables
abbrev text_tyvar : List Terminal
text_tyvar = reserved 0 res.Val ∷ reserved 4 res.LeftParen ∷ type_var 5 (record { name = name_x; equality = false }) ∷ []

tyvar-bad : (n : ℕ) → read_all n no_fixities text_tyvar ≡ bad
unfolding many readers read_ty read_pats
tyvar-bad zero = refl
tyvar-bad (suc n) = refl

pub only_tyvar : (n : ℕ) → OpensDecs no_fixities text_tyvar (suc n) → ⊥
only_tyvar n o = nothing-opens no_fixities text_tyvar n (tyvar-bad n) o
