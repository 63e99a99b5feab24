-- Steps that bind a variable of a type of the table.
use Rattle.std.proofs.Common.{◌≡◌, ℕ, suc, List, [], ◌∷◌, ◌++◌, map, length, Box, Global, sym, ap, ap₂, subst, ◌∙◌}
use Rattle.std.proofs.lemmas.List.{length-map}
use Rattle.mlc_names.specs.declared.label.Label.{Label}
use Rattle.mlc_names.specs.declared.label.Label.TheVariants.{Number}
use Rattle.ty_core.specs.Types.{Typ}
use Rattle.ty_table.specs.TypeAt.{type_at}
use Rattle.ir_plain.specs.Tree as te
use Rattle.ir_poly.specs.Tests.{Tests, poly, inst}
use Rattle.ir_tables.specs.Tables.{parameters_at, parameters_of}
use Rattle.match_compile.specs.Compile.{atom, part, own_types}
use Rattle.plain_tree.specs.TreeOf as plain
use Rattle.plain_tree.specs.TreeOf.{step_of, tree_of, operation_of}
use Rattle.plain_tree.specs.declared.tree.Binding.{Binding}
use Rattle.plain_tree.specs.declared.tree.Exp.{Exp}
use Rattle.plain_tree.specs.declared.tree.Operation.{Operation}
use Rattle.plain_tree.specs.declared.tree.Step.{Step}
use Rattle.plain_tree.specs.declared.tree.Step.TheVariants.{Let, Block}
use Rattle.pattern_tests.specs.of_match_types.Views.{View, reading, Sees, Keeps, Stands, value_type, in_view}
use Rattle.pattern_tests.specs.of_match_types.declared.work.ValueType.{ValueType}
use Rattle.pattern_tests.specs.of_match_types.declared.work.Work.{Work}
use Rattle.pattern_tests.proofs.of_match_types.Seeing.{sees-before, none-past, keeps-on, stands-on}
use Rattle.pattern_tests.specs.of_match_steps.Steps.{Puts, stand}
use Rattle.pattern_tests.proofs.of_match_steps.Pushed.{pushed, step_of-Let}
use Rattle.exp_blocks.specs.of_exp_steps.Making.{Reads}
use Rattle.exp_blocks.proofs.of_exp_steps.Nodes.{step_of-Block}
use Rattle.exp_blocks.specs.Giving.{Gives}
use Rattle.general_bindings.specs.General.{listed, over_scope, placing, general}

-- the number after those of all lists of parameters stands for none
pub no-parameters : (w : Work) (k : ℕ) (v : View) → Sees w v → k ≡ length w.tables.parameters.items → parameters_at v.parameters k ≡ []
no-parameters w k v s e =
    ap₂ parameters_at s.are_parameters (e ∙ sym (length-map w.tables.parameters.items (λ p. p.items))) ∙ none-past (parameters_of w.tables)

pub placed : (w w1 : Work) (before after : List Step) (b : Binding) (o : Operation) (t : View → Typ) (g : View → te.Op poly) → Keeps w w1 → b.variable ≡ w.next → b.parameters ≡ length w1.tables.parameters.items
    → after ≡ before ++ Let b o ∷ [] → Stands w b.ty t → Reads w (λ v. operation_of (reading v) o) g → Puts w1 before after (placing t w.next g)
placed w w1 before after b o t g k variable parameters e stands reads = pushed w1 before after (Let b o) (placing t w.next g) e (λ v sees rest.
    let s = sees-before w w1 v k sees in
    ap (λ x. plain.put x rest) (step_of-Let (reading v) b o)
    ∙ ap₂ (λ x ps. te.let_in x ps (type_at v.types b.ty) (operation_of (reading v) o) rest) variable (no-parameters w1 b.parameters v sees parameters)
    ∙ ap₂ (λ y p. te.let_in w.next [] y p rest) (stands v s) (reads v s))

pub general-placed : (w w1 : Work) (before after : List Step) (b : Binding) (e : Box Exp Global) (body : Exp) (t : View → Typ) (g : View → Tests) → Keeps w w1 → b.variable ≡ w.next
    → after ≡ before ++ Block b e ∷ [] → e.value ≡ body → Stands w b.ty t → Gives w body g → Puts w1 before after (general b.parameters w.next t g)
general-placed w w1 before after b e body t g k variable more is stands gives = pushed w1 before after (Block b e) (general b.parameters w.next t g) more (λ v sees rest.
    let s = sees-before w w1 v k sees in
    ap (λ x. plain.put x rest) (step_of-Block (reading v) b e)
    ∙ ap₂ (λ x y. te.let_in x (parameters_at v.parameters b.parameters) y (te.block (tree_of (reading v) e.value)) rest) variable (stands v s)
    ∙ ap (λ d. te.let_in w.next (parameters_at v.parameters b.parameters) (t v) (te.block d) rest) (ap (tree_of (reading v)) is ∙ gives.gives v s))

-- a field of a record, as a body by itself
pub field-gives : {w0 w1 w2 w3 w4 : Work} {n0 n1 n2 : List Step} {n x : ℕ} {body : Exp} (k r ty number : ℕ) (t : ValueType) (u : View → Typ) (at : List ℕ) (field : ℕ) (label : Label) → n0 ≡ []
    → ((v : View) → Sees w1 v → map (type_at v.types) at ≡ own_types (listed k v)) → w1.next ≡ w0.next → Keeps w0 w1
    → n ≡ w1.next → w2.next ≡ suc w1.next → Keeps w1 w2
    → ((y : View → Typ) (g : View → te.Op poly) → Stands w1 ty y → Reads w1 (λ v. te.use_of (inst r (map (type_at v.types) at))) g → Puts w2 n0 n1 (placing y w1.next g))
    → Stands w3 field (in_view t) → w3.next ≡ w2.next → Keeps w2 w3 → label ≡ Number number
    → x ≡ w3.next → w4.next ≡ suc w3.next → Keeps w3 w4
    → ((y : View → Typ) (g : View → te.Op poly) → Stands w3 field y → Reads w3 (λ v. te.select (type_at v.types ty) label (atom n)) g → Puts w4 n1 n2 (placing y w3.next g))
    → ((v : View) → tree_of (reading v) body ≡ stand v n2 (te.ret (atom x))) → Stands w0 ty (over_scope u)
    → Gives w4 body (λ v. part v.scope (listed k v) (u v) r number (value_type v t) w0.next)
field-gives {w0 = w0} {w1 = w1} {w2 = w2} {w3 = w3} {w4 = w4} {n0 = n0} {n1 = n1} {n2 = n2} {n = n} {x = x} {body = body} k r ty number t u at field label none own next1 keeps1 is2 next2 keeps2 puts2 typed next3 keeps3 named is4 next4 keeps4 puts4 ended stands = record {
  gives = λ v sees.
      let s3 = sees-before w3 w4 v keeps4 sees in
      let s2 = sees-before w2 w3 v keeps3 s3 in
      ended v
      ∙ (puts4 (in_view t) selected typed (λ o so. ap₂ (λ y l. te.select y l (atom n)) (stands o (sees-before w0 w3 o (keeps-on w0 w1 w3 keeps1 (keeps-on w1 w2 w3 keeps2 keeps3)) so)) named)).leads v sees (te.ret (atom x))
      ∙ (puts2 (over_scope u) used (stands-on w0 w1 ty (over_scope u) keeps1 stands) (λ o so. ap (λ ts. te.use_of (inst r ts)) (own o so))).leads v s2 (placing (in_view t) w3.next selected v (te.ret (atom x)))
      ∙ ap (λ l. stand v l (placing (over_scope u) w1.next used v (placing (in_view t) w3.next selected v (te.ret (atom x))))) none
      ∙ ap₂ (λ i j. placing (over_scope u) w1.next used v (placing (in_view t) w3.next (λ o. te.select (over_scope u o) (Number number) (atom i)) v (te.ret (atom j)))) (is2 ∙ next1) (is4 ∙ third)
      ∙ ap₂ (λ i j. placing (over_scope u) i used v (placing (in_view t) j (λ o. te.select (over_scope u o) (Number number) (atom w0.next)) v (te.ret (atom (suc w0.next))))) next1 third;
}
  where
    used : View → te.Op poly
    used o = te.use_of (inst r (own_types (listed k o)))

    selected : View → te.Op poly
    selected o = te.select (over_scope u o) (Number number) (atom n)

    third : w3.next ≡ suc w0.next
    third = next3 ∙ next2 ∙ ap suc next1

-- in a variable whose number is known otherwise
pub general-at : {w : Work} {s m : List Step} (k i j : ℕ) (t : View → Typ) (g : View → Tests) → i ≡ j → Puts w s m (general k i t g) → Puts w s m (general k j t g)
general-at {w = w} {s = s} {m = m} k i j t g e h = subst (λ n. Puts w s m (general k n t g)) e h
