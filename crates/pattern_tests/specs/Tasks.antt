-- What is to be done with patterns from a number on, and what was done.
use Rattle.std.specs.Prelude.{◌≡◌, ℕ}
use Rattle.ir_poly.specs.Prog as t
use Rattle.ir_poly.specs.Tests.{Tests}
use Rattle.match_compile.specs.Compile.{Spots, no_spots, past_pat, spots, tests}
use Rattle.prog_tree.specs.TreeOf.{Reading, pat_of}
use Rattle.prog_tree.specs.declared.tree.Pat.{Pat}
use Rattle.match_steps.specs.of_match_types.Views.{View, value_type, Keeps}
use Rattle.match_steps.specs.of_match_types.declared.work.ValueType.{ValueType}
use Rattle.match_steps.specs.Steps.{Leads}
use Rattle.match_steps.specs.of_match_types.declared.work.Work.{Work}
use Rattle.pattern_tests.specs.Spots.{spots_onto}
use Rattle.pattern_tests.specs.declared.made.Made.{Made}

-- the number after it, the variables that it finds in front of others, and the tests that it makes in front of others
pub record Task : Type 0 where
  pub past : View → (n : ℕ) → ℕ
  pub found : View → (n : ℕ) → Spots → Spots
  pub made : View → (n : ℕ) → Tests → Tests

abbrev pub finished : Task
finished = record { past = λ v n. n; found = λ v n us. us; made = λ v n rest. rest }

-- one and then the other
abbrev pub both : Task → Task → Task
both f g = record {
  past = λ v n. g.past v (f.past v n);
  found = λ v n us. g.found v (f.past v n) (f.found v n us);
  made = λ v n rest. f.made v n (g.made v (f.past v n) rest);
}

-- f was to be done; now g is left
pub record Done (old new : Work) (before after : Made) (f g : Task) : Type 0 where
  pub keeps : Keeps old new
  pub next : (v : View) → g.past v new.next ≡ f.past v old.next
  pub found : (v : View) → g.found v new.next (spots_onto v after.spots.items no_spots) ≡ f.found v old.next (spots_onto v before.spots.items no_spots)
  pub leads : Leads new before.steps.items after.steps.items (λ v rest. f.made v old.next rest) (λ v rest. g.made v new.next rest)

-- the tests of the atom a, of the source's type u, against a pattern
abbrev pub pat_task : (Reading → t.Pat) → (u : ValueType) (a : ℕ) → Task
pat_task p u a = record {
  past = λ v n. past_pat (p v.source) n;
  found = λ v n us. spots (p v.source) (value_type v u) n a us;
  made = λ v n rest. tests v.scope v.names (p v.source) (value_type v u) n a rest;
}

abbrev pub pattern : Pat → Reading → t.Pat
pattern p R = pat_of R p

abbrev pub tests_of : Pat → (u : ValueType) (n a : ℕ) → View → Tests → Tests
tests_of p u n a v rest = tests v.scope v.names (pat_of v.source p) (value_type v u) n a rest
