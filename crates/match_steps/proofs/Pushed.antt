-- Steps that are put behind others.
use Rattle.std.proofs.Common.{◌≡◌, ℕ, List, [], ◌∷◌, ◌++◌, map, Vec, Global, refl, sym, ap, ap₂, ◌∙◌}
use Rattle.std.proofs.lemmas.List.{map-append}
use Rattle.ir_plain.specs.Kind.{Kind}
use Rattle.ir_plain.specs.Tree as t
use Rattle.ir_poly.specs.Tests.{poly, inst, Tests}
use Rattle.ty_table.specs.TypeAt.{type_at}
use Rattle.ir_tables.specs.Tables.{parameters_at}
use Rattle.match_compile.specs.Compile.{atom, put, excepted}
use Rattle.plain_tree.specs.TreeOf as plain
use Rattle.plain_tree.specs.TreeOf.{Reading, StepTree, ArmTree, FunctionTree, onto, case_of, operation_of, exception_of, arms_of, arm_of, step_of, let_of, test_step, name_step, node_exp, node_step, node_arm, node_function}
use Rattle.plain_tree.specs.declared.tree.Binding.{Binding}
use Rattle.plain_tree.specs.declared.tree.Case.{Case}
use Rattle.plain_tree.specs.declared.tree.Exception.{Exception}
use Rattle.plain_tree.specs.declared.tree.Operation.{Operation}
use Rattle.plain_tree.specs.declared.tree.Arm.{Arm}
use Rattle.plain_tree.specs.declared.tree.Step.{Step, Step-F, fold-roll-Step}
use Rattle.plain_tree.specs.declared.tree.Step.TheVariants.{Let, Name, Test, rolls-Let, rolls-Name, rolls-Test}
use Rattle.match_names.specs.Bindings.{names_of}
use Rattle.prog_tree.specs.TreeOf.{exc_of}
use Rattle.prog_tree.specs.declared.tree.Exception as named
use Rattle.match_types.specs.Views.{View, reading, value_type, Sees, Keeps, Stands, in_view, Binds}
use Rattle.match_types.specs.declared.work.ValueType.{ValueType}
use Rattle.match_steps.specs.Steps.{stand, Leads, Puts}
use Rattle.match_steps.specs.Made.{testing, naming}
use Rattle.match_types.specs.declared.work.Work.{Work}
use Rattle.match_types.proofs.Seeing.{sees-before}

module _ {F : Kind} (R : Reading F) where
  pub step_of-Let : (b : Binding) (o : Operation) → step_of R (Let b o) ≡ let_of R b (operation_of R o)
  step_of-Let b o =
      ap (step_of R) (sym (rolls-Let b o)) ∙ fold-roll-Step (t.Exp F) (StepTree F) (ArmTree F) (FunctionTree F) (node_exp R) (node_step R) (node_arm R) (node_function R) (Step-F.Let b o)

  pub step_of-Name : (x : ℕ) (y : Exception) → step_of R (Name x y) ≡ name_step (R.binder x) (exception_of R y)
  step_of-Name x y =
      ap (step_of R) (sym (rolls-Name x y)) ∙ fold-roll-Step (t.Exp F) (StepTree F) (ArmTree F) (FunctionTree F) (node_exp R) (node_step R) (node_arm R) (node_function R) (Step-F.Name x y)

  pub step_of-Test : (a u : ℕ) (c : Case) (others : Vec Arm Global) → step_of R (Test a u c others) ≡ test_step (R.atom a) (R.type u) (case_of R c) (arms_of (map (arm_of R) others.items))
  step_of-Test a u c others =
      ap (step_of R) (sym (rolls-Test a u c others)) ∙ fold-roll-Step (t.Exp F) (StepTree F) (ArmTree F) (FunctionTree F) (node_exp R) (node_step R) (node_arm R) (node_function R) (Step-F.Test a u c others)

onto-append : (xs ys : List (StepTree poly)) (e : Tests) → onto (xs ++ ys) e ≡ onto xs (onto ys e)
onto-append [] ys e = refl
onto-append (x ∷ xs) ys e = ap (plain.put x) (onto-append xs ys e)

stand-pushed : (v : View) (before : List Step) (s : Step) (rest : Tests) → stand v (before ++ s ∷ []) rest ≡ stand v before (plain.put (step_of (reading v) s) rest)
stand-pushed v before s rest =
    ap (λ l. onto l rest) (map-append (step_of (reading v)) before (s ∷ [])) ∙ onto-append (map (step_of (reading v)) before) (step_of (reading v) s ∷ []) rest

-- one step more
pub pushed : (w : Work) (before after : List Step) (s : Step) (f : View → Tests → Tests) → after ≡ before ++ s ∷ []
    → ((v : View) → Sees w v → (rest : Tests) → plain.put (step_of (reading v) s) rest ≡ f v rest) → Puts w before after f
pushed w before after s f e h = record { leads = λ v sees rest. ap (λ l. stand v l rest) e ∙ stand-pushed v before s rest ∙ ap (stand v before) (h v sees rest) }

-- one after the other
pub then-leads : (w1 w2 : Work) (a b c : List Step) (f g h : View → Tests → Tests) → Keeps w1 w2 → Leads w1 a b f g → Leads w2 b c g h → Leads w2 a c f h
then-leads w1 w2 a b c f g h k p q = record { leads = λ v sees rest. q.leads v sees rest ∙ p.leads v (sees-before w1 w2 v k sees) rest }

-- in front of what is to come
pub leads-under : (w : Work) (a b : List Step) (f g : View → Tests → Tests) → Puts w a b f → Leads w a b (λ v rest. f v (g v rest)) g
leads-under w a b f g p = record { leads = λ v sees rest. p.leads v sees (g v rest) }

-- the same said otherwise
pub leads-as : (w : Work) (a b : List Step) (f f' g g' : View → Tests → Tests) → Leads w a b f g → ((v : View) (rest : Tests) → f v rest ≡ f' v rest)
    → ((v : View) (rest : Tests) → g v rest ≡ g' v rest) → Leads w a b f' g'
leads-as w a b f f' g g' p h k = record { leads = λ v sees rest. ap (stand v b) (sym (k v rest)) ∙ p.leads v sees rest ∙ ap (stand v a) (h v rest) }

pub leads-nowhere : (w : Work) (a : List Step) (f : View → Tests → Tests) → Leads w a a f f
leads-nowhere w a f = record { leads = λ v sees rest. refl }

pub test-pushed : (w : Work) (before after : List Step) (u : ValueType) (a k : ℕ) (c : Case) (others : Vec Arm Global) → others.items ≡ [] → after ≡ before ++ Test a k c others ∷ [] → Stands w k (in_view u)
    → Puts w before after (testing u a c)
test-pushed w before after u a k c others none e is = pushed w before after (Test a k c others) (testing u a c) e (λ v sees rest.
    ap (λ s. plain.put s rest) (step_of-Test (reading v) a k c others)
    ∙ ap₂ (λ y as_. t.switch (inst a []) y (t.arm (case_of (reading v) c) rest (arms_of (map (arm_of (reading v)) as_)))) (is v sees) none)

pub let-pushed : (w : Work) (before after : List Step) (n : ℕ) (u : ValueType) (b : Binding) (o : Operation) (g : View → t.Op poly) → Binds w n u b → after ≡ before ++ Let b o ∷ []
    → ((v : View) → Sees w v → operation_of (reading v) o ≡ g v) → Puts w before after (λ v rest. put v.scope n (value_type v u) (g v) rest)
let-pushed w before after n u b o g binds e is = pushed w before after (Let b o) (λ v rest. put v.scope n (value_type v u) (g v) rest) e (λ v sees rest.
    ap (λ s. plain.put s rest) (step_of-Let (reading v) b o)
    ∙ ap (λ x. t.let_in x (parameters_at v.parameters b.parameters) (type_at v.types b.ty) (operation_of (reading v) o) rest) binds.variable
    ∙ ap (λ ps. t.let_in n ps (type_at v.types b.ty) (operation_of (reading v) o) rest) (binds.parameters v sees)
    ∙ ap₂ (λ y p. t.let_in n [] y p rest) (binds.type v sees) (is v sees))

pub name-pushed : (w : Work) (before after : List Step) (n : ℕ) (y : Exception) (x : named.Exception) → after ≡ before ++ Name n y ∷ []
    → ((v : View) → exception_of (reading v) y ≡ excepted (names_of w.names) (exc_of x)) → Puts w before after (naming x n)
name-pushed w before after n y x e is = pushed w before after (Name n y) (naming x n) e (λ v sees rest.
    ap (λ s. plain.put s rest) (step_of-Name (reading v) n y) ∙ ap (λ z. t.name_in n z rest) (is v ∙ ap (λ N. excepted N (exc_of x)) (sym sees.same_names)))

-- two operations
pub two-puts : (w1 w2 : Work) (a b c : List Step) (f g : View → Tests → Tests) → Keeps w1 w2 → Puts w1 a b f → Puts w2 b c g → Puts w2 a c (λ v rest. f v (g v rest))
two-puts w1 w2 a b c f g k p q = record { leads = λ v sees rest. q.leads v sees rest ∙ p.leads v (sees-before w1 w2 v k sees) (g v rest) }

-- the same steps said otherwise
pub puts-as : {w : Work} {a b : List Step} {f : View → Tests → Tests} (g : View → Tests → Tests) → ((v : View) → Sees w v → (rest : Tests) → f v rest ≡ g v rest) → Puts w a b f → Puts w a b g
puts-as {w = w} {a = a} {b = b} g h p = record { leads = λ v sees rest. p.leads v sees rest ∙ ap (stand v a) (h v sees rest) }
