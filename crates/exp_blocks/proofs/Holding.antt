-- Blocks, functions and handlers behind other steps.
use Rattle.std.proofs.Common.{◌≡◌, ℕ, suc, Bool, false, not, nat_eq, length, List, [], ◌∷◌, ◌++◌, map, Vec, Global, sym, ap, ap₂, ◌∙◌}
use Rattle.std.proofs.lemmas.Bool.{false≢true}
use Rattle.ir_plain.specs.Tree as te
use Rattle.ir_poly.specs.Tests.{Tests, poly, inst}
use Rattle.ir_tables.specs.Tables.{parameters_at}
use Rattle.ir_values.specs.Values.{truth_number}
use Rattle.ty_table.specs.TypeAt.{type_at}
use Rattle.match_compile.specs.Compile.{bool_type, grouped}
use Rattle.plain_tree.specs.TreeOf as plain
use Rattle.plain_tree.specs.TreeOf.{step_of, tree_of, let_of, arms_of, arm_of, funs_of, function_of, fun_of}
use Rattle.plain_tree.specs.declared.tree.Arm.{Arm}
use Rattle.plain_tree.specs.declared.tree.Binding.{Binding}
use Rattle.plain_tree.specs.declared.tree.Case.TheVariants as case
use Rattle.plain_tree.specs.declared.tree.Exp.{Exp}
use Rattle.plain_tree.specs.declared.tree.Function.{Function}
use Rattle.plain_tree.specs.declared.tree.Step.{Step}
use Rattle.plain_tree.specs.declared.tree.Step.TheVariants.{Test, Group}
use Rattle.exp_steps.specs.of_match_types.Views.{View, reading, Sees, Keeps, Stands, in_view, Binds}
use Rattle.exp_steps.specs.of_match_types.declared.work.ValueType.{ValueType}
use Rattle.exp_steps.specs.of_match_types.declared.work.ValueType.TheVariants as value
use Rattle.exp_steps.specs.of_match_types.declared.work.Work.{Work}
use Rattle.exp_steps.proofs.of_match_types.Seeing.{sees-before}
use Rattle.exp_steps.specs.of_match_steps.Steps.{Puts}
use Rattle.exp_steps.proofs.of_match_steps.Pushed.{pushed, puts-as, leads-nowhere, step_of-Test}
use Rattle.exp_steps.specs.Making.{Pushed, putting}
use Rattle.exp_steps.proofs.Nodes.{step_of-Group}
use Rattle.exp_blocks.specs.Giving.{Gives, linking}

pub gives-on : (w w1 : Work) (e : Exp) (f : View → Tests) → Keeps w w1 → Gives w e f → Gives w1 e f
gives-on w w1 e f k p = record { gives = λ v s. p.gives v (sees-before w w1 v k s) }

pub gives-as : (w : Work) (e : Exp) (f g : View → Tests) → ((v : View) → Sees w v → f v ≡ g v) → Gives w e f → Gives w e g
gives-as w e f g same p = record { gives = λ v s. p.gives v s ∙ same v s }

-- a step that binds a new variable
bound-pushed : (w : Work) (before after : List Step) (n : ℕ) (u : ValueType) (b : Binding) (s : Step) (o : View → te.Op poly) (g : View → te.Op poly) → Binds w n u b → after ≡ before ++ s ∷ []
    → ((v : View) → step_of (reading v) s ≡ let_of (reading v) b (o v)) → ((v : View) → Sees w v → o v ≡ g v) → Puts w before after (putting u n g)
bound-pushed w before after n u b s o g binds e node is = pushed w before after s (putting u n g) e (λ v sees rest.
    ap (λ x. plain.put x rest) (node v)
    ∙ ap (λ x. te.let_in x (parameters_at v.parameters b.parameters) (type_at v.types b.ty) (o v) rest) binds.variable
    ∙ ap (λ ps. te.let_in n ps (type_at v.types b.ty) (o v) rest) (binds.parameters v sees)
    ∙ ap₂ (λ y p. te.let_in n [] y p rest) (binds.type v sees) (is v sees))

pub bound-made : (w w1 : Work) (before after : List Step) (u : ValueType) (b : Binding) (s : Step) (o g : View → te.Op poly) → Keeps w w1 → w1.next ≡ suc w.next → Binds w1 w.next u b → after ≡ before ++ s ∷ []
    → ((v : View) → step_of (reading v) s ≡ let_of (reading v) b (o v)) → ((v : View) → Sees w v → o v ≡ g v) → Pushed w w1 before after u g b.variable
bound-made w w1 before after u b s o g k next binds e node is = record {
  keeps = k;
  is = binds.variable;
  next = next;
  puts = bound-pushed w1 before after w.next u b s o g binds e node (λ v sees. is v (sees-before w w1 v k sees));
}

pub link-pushed : (w : Work) (before after : List Step) (b : Bool) (i k c : ℕ) (others : Vec Arm Global) → after ≡ before ++ Test i k (case.Constructor c) others ∷ [] → c ≡ truth_number b → Stands w k (in_view value.Bool)
    → ((v : View) → arms_of (map (arm_of (reading v)) others.items) ≡ te.arm (te.is_con (truth_number (not b))) (te.ret (inst i [])) te.no_arms) → Puts w before after (linking b i)
link-pushed w before after b i k c others e is stands arms = pushed w before after (Test i k (case.Constructor c) others) (linking b i) e (λ v sees rest.
    ap (λ s. plain.put s rest) (step_of-Test (reading v) i k (case.Constructor c) others)
    ∙ ap₂ (λ y as_. te.switch (inst i []) y (te.arm (te.is_con c) rest as_)) (stands v sees) (arms v)
    ∙ ap (λ d. te.switch (inst i []) bool_type (te.arm (te.is_con d) rest (te.arm (te.is_con (truth_number (not b))) (te.ret (inst i [])) te.no_arms))) is)

pub group-pushed : (w : Work) (before after : List Step) (ps : ℕ) (f : Function) (fs : Vec Function Global) (gs : List Function) → fs.items ≡ f ∷ gs → after ≡ before ++ Group ps fs ∷ []
    → Puts w before after (λ v rest. grouped (parameters_at v.parameters ps) (funs_of (map (function_of (reading v)) fs.items)) rest)
group-pushed w before after ps f fs gs some e = pushed w before after (Group ps fs) (λ v rest. grouped (parameters_at v.parameters ps) (funs_of (map (function_of (reading v)) fs.items)) rest) e (λ v sees rest.
    ap (λ s. plain.put s rest) (step_of-Group (reading v) ps fs)
    ∙ ap (λ l. te.rec_in (parameters_at v.parameters ps) (funs_of (map (function_of (reading v)) l)) rest) some
    ∙ sym (ap (λ l. grouped (parameters_at v.parameters ps) (funs_of (map (function_of (reading v)) l)) rest) some))

pub group-none : (w : Work) (s : List Step) (ps : ℕ) (fs : List Function) → fs ≡ [] → Puts w s s (λ v rest. grouped (parameters_at v.parameters ps) (funs_of (map (function_of (reading v)) fs)) rest)
group-none w s ps fs none = puts-as (λ v rest. grouped (parameters_at v.parameters ps) (funs_of (map (function_of (reading v)) fs)) rest)
    (λ v sees rest. sym (ap (λ l. grouped (parameters_at v.parameters ps) (funs_of (map (function_of (reading v)) l)) rest) none)) (leads-nowhere w s (λ v rest. rest))

pub group-some : (w : Work) (before after : List Step) (ps : ℕ) (fs : Vec Function Global) (l : List Function) → fs.items ≡ l → nat_eq (length l) 0 ≡ false → after ≡ before ++ Group ps fs ∷ []
    → Puts w before after (λ v rest. grouped (parameters_at v.parameters ps) (funs_of (map (function_of (reading v)) fs.items)) rest)
group-some w before after ps fs [] is some e = absurd (false≢true (sym some))
group-some w before after ps fs (f ∷ gs) is some e = group-pushed w before after ps f fs gs is e
