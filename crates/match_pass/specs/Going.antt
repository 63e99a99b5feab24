-- What rules, chains and declarations become, as far as they have been gone through.
use Rattle.std.specs.Prelude.{◌≡◌, ℕ, suc, Bool, true, List, [], ◌∷◌, ◌++◌, map}
use Rattle.ty_core.specs.Types.{Typ}
use Rattle.ir_plain.specs.Tree.{ret, block, first}
use Rattle.ir_poly.specs.Prog as t
use Rattle.ir_poly.specs.Tests.{Tests}
use Rattle.match_compile.specs.Compile.{rules, past_rules, links, past_chain, decs, decs_named, past_decs, function, past_fun, Otherwise, otherwise, making, value_at, tests, spots, spots_named, no_spots, past_pat, fits_all, atom, put}
use Rattle.match_names.specs.Bindings.{names_of}
use Rattle.plain_tree.specs.TreeOf as plain
use Rattle.plain_tree.specs.declared.tree.Exp.{Exp}
use Rattle.plain_tree.specs.declared.tree.Step.{Step}
use Rattle.prog_tree.specs.TreeOf.{Reading, pat_of, tree_of}
use Rattle.prog_tree.specs.declared.tree.Pat.{Pat}
use Rattle.prog_tree.specs.declared.tree.Rule.{Rule}
use Rattle.general_bindings.specs.of_match_types.Views.{View, reading, Sees, Keeps, value_type}
use Rattle.general_bindings.specs.of_match_types.declared.work.ValueType.{ValueType}
use Rattle.general_bindings.specs.of_match_types.declared.work.Work.{Work}
use Rattle.general_bindings.specs.of_match_steps.Steps.{Leads, Puts, stand}
use Rattle.general_bindings.specs.of_exp_blocks.Giving.{Grows, Ends, Gives, GivesFun}
use Rattle.general_bindings.specs.of_exp_blocks.declared.blocks.Lambda.{Lambda}

-- rules for the value of type m in the variable a, with results of the source's type u
pub record GivesRules (old new : Work) (rs : Reading → t.Rules) (m : ValueType) (u a : ℕ) (o : Otherwise) (made : Exp) : Type 0 where
  pub keeps : Keeps old new
  pub next : (v : View) → Sees new v → new.next ≡ past_rules (rs v.source) old.next
  pub gives : Gives new made (λ v. rules v.scope v.names (rs v.source) (value_type v m) (v.source.type u) old.next a o)

-- attempts were made, and rs are the rules that are left of all
pub record Attempts (old now : Work) (all rs : Reading → t.Rules) (m : ValueType) (u a : ℕ) (o : Otherwise) (made : List Exp) : Type 0 where
  pub keeps : Keeps old now
  pub next : (v : View) → Sees now v → past_rules (rs v.source) now.next ≡ past_rules (all v.source) old.next
  pub gives : (v : View) → Sees now v → plain.firsts (map (plain.tree_of (reading v)) made) (rules v.scope v.names (rs v.source) (value_type v m) (v.source.type u) now.next a o)
      ≡ rules v.scope v.names (all v.source) (value_type v m) (v.source.type u) old.next a o

-- a function
pub record GivesFunction (old new : Work) (f : Reading → t.Fun) (made : Lambda) : Type 0 where
  pub keeps : Keeps old new
  pub next : (v : View) → Sees new v → new.next ≡ past_fun (f v.source) old.next
  pub gives : GivesFun new made (λ v. function v.scope v.names (f v.source) old.next)

-- operands that go on with the truth value b were tested, and ds is what is left of the chain cs
pub record Linked (old now : Work) (before after : List Step) (b : Bool) (cs ds : Reading → t.Chain) : Type 0 where
  pub keeps : Keeps old now
  pub next : (v : View) → Sees now v → past_chain (ds v.source) now.next ≡ past_chain (cs v.source) old.next
  pub leads : Leads now before after (λ v rest. links v.scope v.names (cs v.source) b old.next) (λ v rest. links v.scope v.names (ds v.source) b now.next)

-- declarations were made, and es are those that are left of ds
pub record Declares (old now : Work) (before after : List Step) (ds es : Reading → t.Decs) : Type 0 where
  pub grows : Grows old now
  pub scope : now.scope ≡ old.scope
  pub ends : Ends old.names now.names
  pub names : (v : View) → Sees now v → decs_named (es v.source) now.next (names_of now.names) ≡ decs_named (ds v.source) old.next (names_of old.names)
  pub next : (v : View) → Sees now v → past_decs (es v.source) now.next ≡ past_decs (ds v.source) old.next
  pub leads : Leads now before after (λ v rest. decs v.scope (names_of old.names) (ds v.source) old.next rest) (λ v rest. decs v.scope (names_of now.names) (es v.source) now.next rest)

-- the expression of a rule whose pattern any value fits, with the value in the variable x
pub record MakesRule (old new : Work) (before after : List Step) (r : Rule) (x a : ℕ) : Type 0 where
  pub keeps : Keeps old new
  pub next : new.next ≡ suc a
  pub is : (v : View) → Sees new v → fits_all (pat_of v.source r.pat) ≡ true → value_at (tree_of v.source r.exp) old.next ≡ a
  pub puts : (v : View) → Sees new v → (m : Typ) → fits_all (pat_of v.source r.pat) ≡ true → (rest : Tests)
      → stand v after rest ≡ stand v before (making v.scope (spots_named (spots (pat_of v.source r.pat) m old.next x no_spots) v.names) (tree_of v.source r.exp) old.next rest)

-- the tests of a pattern for the value of type m in the variable x were put, and its variables are bound
pub record Matched (old new : Work) (before after : List Step) (p : Pat) (m : ValueType) (x : ℕ) : Type 0 where
  pub grows : Grows old new
  pub scope : new.scope ≡ old.scope
  pub ends : Ends old.names new.names
  pub next : (v : View) → new.next ≡ past_pat (pat_of v.source p) old.next
  pub names : (v : View) → names_of new.names ≡ spots_named (spots (pat_of v.source p) (value_type v m) old.next x no_spots) (names_of old.names)
  pub puts : Puts new before after (λ v rest. tests v.scope (names_of old.names) (pat_of v.source p) (value_type v m) old.next x rest)

-- the tests of a rule for the value of type m in the variable x, and then its expression, from the number n on, before others
abbrev pub rule_before : Rule → ValueType → (x n : ℕ) → View → Tests → Tests
rule_before r m x n v rest =
    let p = pat_of v.source r.pat in
    tests v.scope v.names p (value_type v m) n x
    (making v.scope (spots_named (spots p (value_type v m) n x no_spots) v.names) (tree_of v.source r.exp) (past_pat p n) rest)

-- they were put, and the value is in the variable a
pub record MakesTested (old new : Work) (before after : List Step) (r : Rule) (m : ValueType) (x a : ℕ) : Type 0 where
  pub keeps : Keeps old new
  pub is : (v : View) → Sees new v → value_at (tree_of v.source r.exp) (past_pat (pat_of v.source r.pat) old.next) ≡ a
  pub next : new.next ≡ suc a
  pub puts : Puts new before after (rule_before r m x old.next)

-- they end with the value
abbrev pub rule_tests : Rule → ValueType → (x n : ℕ) → View → Tests
rule_tests r m x n v = rule_before r m x n v (ret (atom (value_at (tree_of v.source r.exp) (past_pat (pat_of v.source r.pat) n))))

-- one attempt more was made: a rule
pub record Attempted (old new : Work) (r : Rule) (m : ValueType) (x : ℕ) (before after : List Exp) : Type 0 where
  pub keeps : Keeps old new
  pub next : (v : View) → Sees new v → new.next ≡ suc (value_at (tree_of v.source r.exp) (past_pat (pat_of v.source r.pat) old.next))
  pub gives : (v : View) → Sees new v
      → map (plain.tree_of (reading v)) after ≡ map (plain.tree_of (reading v)) before ++ rule_tests r m x old.next v ∷ []

-- declarations were made, and e in their scope, whose value is in the variable a
pub record MakesScoped (old new : Work) (before after : List Step) (ds : Reading → t.Decs) (e : Reading → t.Exp) (a : ℕ) : Type 0 where
  pub keeps : Keeps old new
  pub is : (v : View) → Sees new v → value_at (e v.source) (past_decs (ds v.source) old.next) ≡ a
  pub next : new.next ≡ suc a
  pub puts : Puts new before after (λ v rest. decs v.scope v.names (ds v.source) old.next
      (making v.scope (decs_named (ds v.source) old.next v.names) (e v.source) (past_decs (ds v.source) old.next) rest))

-- a chain was made, up to its last operand, whose value is in the variable a
pub record MakesChain (old new : Work) (before after : List Step) (b : Bool) (cs : Reading → t.Chain) (a : ℕ) : Type 0 where
  pub keeps : Keeps old new
  pub is : (v : View) → Sees new v → past_chain (cs v.source) old.next ≡ suc a
  pub next : new.next ≡ suc a
  pub ends : (v : View) → Sees new v → stand v after (ret (atom a)) ≡ stand v before (links v.scope v.names (cs v.source) b old.next)

-- what steps are that end with the value x, wherever the work is seen
abbrev pub Ending : Work → List Step → (x : ℕ) → (View → Tests) → Type 0
Ending w inner x g = (v : View) → Sees w v → stand v inner (ret (atom x)) ≡ g v

-- A block of the source's type u was put into the new variable a: g, and where it misses what is raised in place of a value of type t, of the variable x.
pub record Chosen (old new : Work) (before after : List Step) (u : ℕ) (t : ValueType) (x : ℕ) (o : Otherwise) (g : View → Tests) (a : ℕ) : Type 0 where
  pub keeps : Keeps old new
  pub is : a ≡ suc old.next
  pub next : new.next ≡ suc a
  pub puts : Puts new before after (λ v rest. put v.scope (suc old.next) (v.source.type u) (block (first (g v) (otherwise v.scope old.next (value_type v t) x o))) rest)
