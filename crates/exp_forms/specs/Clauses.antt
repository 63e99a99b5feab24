-- The clauses of `fun`, as the derived form has them.
use Rattle.std.specs.Prelude.{ℕ, zero, suc, List, [], ◌∷◌}
use Rattle.mlc_names.specs.declared.label.Label.{Label}
use Rattle.mlc_names.specs.declared.label.Label.TheVariants.{Number}
use Rattle.mlc_base.specs.declared.place.Place.{Place}
use Rattle.sml_tree.specs.BareTree as bare
use Rattle.sml_tree.specs.Derived.{Clause, case_of, clause_rules, first_pats, fresh_exp, fresh_for, fresh_pat, one_or_tuple, one_or_tuple_pat}
use Rattle.sml_tree.specs.TreeOf.{RuleOf}
use Rattle.exp_forms.specs.Parameters.{Takes}

-- n fresh identifiers, numbered from k on: as parameters, as expressions, and labels with their numbers
abbrev pub fresh_from : Place → ℕ → ℕ → List Takes
fresh_from p k zero = []
fresh_from p k (suc n) = record { at = p; place = p; pat = fresh_pat p k } ∷ fresh_from p (suc k) n

abbrev pub fresh_exps : Place → ℕ → ℕ → List bare.Exp
fresh_exps p k zero = []
fresh_exps p k (suc n) = fresh_exp p k ∷ fresh_exps p (suc k) n

abbrev pub labels_from : ℕ → ℕ → List Label
labels_from k zero = []
labels_from k (suc n) = Number k ∷ labels_from (suc k) n

-- what the clauses are about: the fresh identifier, or all of them
abbrev pub taken_by : Place → List Clause → bare.Exp
taken_by p cs = one_or_tuple p (fresh_for p 1 (first_pats cs))

-- the body behind the parameters
abbrev pub body_of : Place → List Clause → bare.Exp
body_of p cs = case_of p (taken_by p cs) (clause_rules cs)

-- the rule of a clause
abbrev pub rule_of : Clause → RuleOf
rule_of c = record { place = c.place; pat = one_or_tuple_pat c.place c.pats; exp = c.body }
