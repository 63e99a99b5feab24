-- The record of a pattern's variables, new variables of a block, and new exceptions.
use Rattle.std.proofs.Common.{◌≡◌, ℕ, suc, List, [], ◌∷◌, ◌++◌, Option, reverse, sym, ap, ap₂, subst, ◌∙◌}
use Rattle.std.specs.Option.{option_map}
use Rattle.ty_core.specs.Types.{Typ}
use Rattle.ty_table.specs.TypeAt.{type_at}
use Rattle.ir_plain.specs.Tree as te
use Rattle.ir_poly.specs.Tests.{Tests}
use Rattle.ir_values.specs.Primitives.{bind_name}
use Rattle.match_compile.specs.Compile.{atom, no_spots, tests, record_type, spots_row, scoped, option_scoped, past_split, split_spots}
use Rattle.match_names.specs.Bindings.{names_of}
use Rattle.plain_tree.specs.TreeOf as plain
use Rattle.plain_tree.specs.TreeOf.{tree_of}
use Rattle.plain_tree.specs.declared.tree.Exp.{Exp}
use Rattle.plain_tree.specs.declared.tree.Step.{Step}
use Rattle.plain_tree.specs.declared.tree.Step.TheVariants as steps
use Rattle.prog_tree.specs.TreeOf.{pat_of}
use Rattle.prog_tree.specs.declared.tree.Pat.{Pat}
use Rattle.pattern_tests.specs.of_match_types.Views.{View, reading, Sees, Keeps, Stands, value_type, in_view}
use Rattle.pattern_tests.specs.of_match_types.declared.work.Work.{Work}
use Rattle.pattern_tests.specs.of_match_types.declared.work.ValueType.{ValueType}
use Rattle.pattern_tests.proofs.of_match_types.Seeing.{keeps-on, sees-before, stands-on}
use Rattle.pattern_tests.specs.of_match_steps.Steps.{Puts, stand}
use Rattle.pattern_tests.proofs.of_match_steps.Pushed.{pushed}
use Rattle.pattern_tests.specs.Spots.{spots_onto}
use Rattle.pattern_tests.specs.Tasks.{tests_of}
use Rattle.pattern_tests.specs.declared.spots.Spot.{Spot}
use Rattle.exp_blocks.proofs.of_exp_steps.Nodes.{step_of-Exception}
use Rattle.exp_blocks.specs.Giving.{Gives, Grows, over}
use Rattle.exp_blocks.proofs.Growing.{grows-on, grows-by, sees-named}
use Rattle.general_bindings.specs.General.{listed, over_scope, placing, general, spots_of, whole, splitting, found, past, recording, separate, made_of}
use Rattle.general_bindings.proofs.Rows.{split-found}

-- one variable
pub alone-puts : {w0 w1 w2 : Work} {inner s m : List Step} {body : Exp} (k value ty : ℕ) (u : ValueType) (f : View → Tests → Tests) → ((v : View) → tree_of (reading v) body ≡ stand v inner (te.ret (atom value)))
    → Stands w1 ty (in_view u) → w1.next ≡ w0.next → Keeps w0 w1 → ((t : View → Typ) (g : View → Tests) → Stands w1 ty t → Gives w1 body g → Puts w2 s m (general k w1.next t g)) → Keeps w1 w2 → Puts w0 [] inner f
    → Puts w2 s m (general k w0.next (in_view u) (λ v. f v (te.ret (atom value))))
alone-puts {w0 = w0} {w1 = w1} {w2 = w2} {s = s} k value ty u f ended stands next kept puts kept2 inner = record {
  leads = λ v sees rest.
      (puts (in_view u) (λ o. f o (te.ret (atom value))) stands (record { gives = λ o so. ended o ∙ inner.leads o (sees-before w0 w1 o kept so) (te.ret (atom value)) })).leads v sees rest
      ∙ ap (λ n. stand v s (general k n (in_view u) (λ o. f o (te.ret (atom value))) v rest)) next;
}

-- the body of a record
pub recording-gives : {w0 w1 w2 w3 w4 : Work} {n0 n1 n2 : List Step} {x : ℕ} {other both : Exp} (body : Exp) (p : Pat) (u : ValueType) (a ty : ℕ) (ss : List Spot) (f : View → Tests → Tests) → ((v : View) → w1.next ≡ past p w0.next v) → Keeps w0 w1
    → ((v : View) → spots_of v ss ≡ found p u w0.next a v) → Puts w1 n0 n1 (tests_of p u w0.next a) → Stands w2 ty (over_scope (whole ss)) → w2.next ≡ w1.next → Keeps w1 w2 → x ≡ w2.next → w3.next ≡ suc w2.next → Keeps w2 w3
    → (Stands w2 ty (over_scope (whole ss)) → Puts w3 n1 n2 (placing (over_scope (whole ss)) w2.next (λ v. te.make_record (over_scope (whole ss) v) (spots_row (spots_of v ss) 1)))) → Keeps w3 w4
    → ((t : View → Typ) → Stands w3 ty t → Gives w4 other (λ v. te.let_in w3.next [] (t v) (te.raise_initial bind_name) (te.ret (atom w3.next))))
    → ((v : View) → tree_of (reading v) body ≡ stand v n2 (te.ret (atom x))) → ((v : View) → tree_of (reading v) both ≡ te.first (tree_of (reading v) body) (tree_of (reading v) other)) → Puts w0 [] n0 f
    → Gives w4 both (recording p u w0.next a f)
recording-gives {w0 = w0} {w1 = w1} {w2 = w2} {w3 = w3} {w4 = w4} {n0 = n0} {n1 = n1} {x = x} body p u a ty ss f next1 keeps1 spotted tested stands next2 keeps2 is3 next3 keeps3 put3 keeps4 raises ended joined inner = record {
  gives = λ v sees.
      let s3 = sees-before w3 w4 v keeps4 sees in
      let s1 = sees-before w1 w3 v (keeps-on w1 w2 w3 keeps2 keeps3) s3 in
      let s0 = sees-before w0 w1 v keeps1 s1 in
      let D = v.scope in
      let P = pat_of v.source p in
      joined v
      ∙ ap₂ te.first
      (ended v ∙ (put3 stands).leads v s3 (te.ret (atom x))
      ∙ tested.leads v s1 (te.let_in w2.next [] (scoped D (record_type (spots_of v ss))) (te.make_record (scoped D (record_type (spots_of v ss))) (spots_row (spots_of v ss) 1)) (te.ret (atom x)))
      ∙ inner.leads v s0 (tests D v.names P (value_type v u) w0.next a (te.let_in w2.next [] (scoped D (record_type (spots_of v ss))) (te.make_record (scoped D (record_type (spots_of v ss))) (spots_row (spots_of v ss) 1)) (te.ret (atom x))))
      ∙ ap (λ us. f v (tests D v.names P (value_type v u) w0.next a (te.let_in w2.next [] (scoped D (record_type us)) (te.make_record (scoped D (record_type us)) (spots_row us 1)) (te.ret (atom x))))) (spotted v)
      ∙ ap₂ (λ i j. let us = found p u w0.next a v in
      f v (tests D v.names P (value_type v u) w0.next a (te.let_in i [] (scoped D (record_type us)) (te.make_record (scoped D (record_type us)) (spots_row us 1)) (te.ret (atom j))))) (next2 ∙ next1 v) (is3 ∙ next2 ∙ next1 v))
      ((raises (over_scope (whole ss)) (stands-on w2 w3 ty (over_scope (whole ss)) keeps3 stands)).gives v sees
      ∙ ap₂ (λ us i. te.let_in i [] (scoped D (record_type us)) (te.raise_initial bind_name) (te.ret (atom i))) (spotted v) (next3 ∙ ap suc (next2 ∙ next1 v)));
}

-- where the lists of variables are given apart
pub recording-given : {w0 w1 w2 w3 w4 : Work} {n0 n1 n2 : List Step} {x : ℕ} {other both : Exp} (body : Exp) (p : Pat) (u : ValueType) (a ty : ℕ) (ss s1 s2 : List Spot) (f : View → Tests → Tests) → s1 ≡ ss → s2 ≡ ss → ((v : View) → w1.next ≡ past p w0.next v)
    → Keeps w0 w1 → ((v : View) → spots_of v ss ≡ found p u w0.next a v) → Puts w1 n0 n1 (tests_of p u w0.next a) → Stands w2 ty (over_scope (whole s1)) → w2.next ≡ w1.next → Keeps w1 w2 → x ≡ w2.next → w3.next ≡ suc w2.next → Keeps w2 w3
    → (Stands w2 ty (over_scope (whole s2)) → Puts w3 n1 n2 (placing (over_scope (whole s2)) w2.next (λ v. te.make_record (over_scope (whole s2) v) (spots_row (spots_of v s2) 1)))) → Keeps w3 w4
    → ((t : View → Typ) → Stands w3 ty t → Gives w4 other (λ v. te.let_in w3.next [] (t v) (te.raise_initial bind_name) (te.ret (atom w3.next))))
    → ((v : View) → tree_of (reading v) body ≡ stand v n2 (te.ret (atom x))) → ((v : View) → tree_of (reading v) both ≡ te.first (tree_of (reading v) body) (tree_of (reading v) other)) → Puts w0 [] n0 f
    → Gives w4 both (recording p u w0.next a f)
recording-given {w0 = w0} {w2 = w2} {w3 = w3} {n1 = n1} {n2 = n2} body p u a ty ss s1 s2 f e1 e2 next1 keeps1 spotted tested stands next2 keeps2 is3 next3 keeps3 put3 keeps4 raises ended joined inner =
    recording-gives body p u a ty ss f next1 keeps1 spotted tested (subst (λ l. Stands w2 ty (over_scope (whole l))) e1 stands) next2 keeps2 is3 next3 keeps3
    (subst (λ l. Stands w2 ty (over_scope (whole l)) → Puts w3 n1 n2 (placing (over_scope (whole l)) w2.next (λ v. te.make_record (over_scope (whole l) v) (spots_row (spots_of v l) 1)))) e2 put3)
    keeps4 raises ended joined inner

-- the record, and then each variable
pub separate-puts : {w1 w2 w3 : Work} {s m l : List Step} {r : ℕ} {body : Exp} (w0 : Work) (k : ℕ) (p : Pat) (u : ValueType) (a ty : ℕ) (ss : List Spot) (f : View → Tests → Tests) → ((v : View) → w1.next ≡ suc (suc (past p w0.next v)))
    → ((v : View) → spots_of v ss ≡ found p u w0.next a v) → Stands w1 ty (over_scope (whole ss)) → Gives w1 body (recording p u w0.next a f) → r ≡ w1.next → w2.next ≡ suc w1.next → Keeps w1 w2
    → ((t : View → Typ) (g : View → Tests) → Stands w1 ty t → Gives w1 body g → Puts w2 s m (general k w1.next t g)) → Keeps w2 w3
    → ((z : View → Typ) → Stands w2 ty (over_scope z) → Puts w3 m l (λ v rest. splitting v.scope (listed k v) (z v) r (spots_of v ss) 1 w2.next rest)) → Puts w3 s l (separate k p u w0.next a f)
separate-puts {w1 = w1} {w2 = w2} {w3 = w3} {s = s} {m = m} {r = r} w0 k p u a ty ss f next1 spotted stands gives is2 next2 keeps2 put2 keeps3 put3 = record {
  leads = λ v sees rest.
      let s2 = sees-before w2 w3 v keeps3 sees in
      let D = v.scope in
      (put3 (whole ss) (stands-on w1 w2 ty (over_scope (whole ss)) keeps2 stands)).leads v sees rest
      ∙ (put2 (over_scope (whole ss)) (recording p u w0.next a f) stands gives).leads v s2 (splitting D (listed k v) (whole ss v) r (spots_of v ss) 1 w2.next rest)
      ∙ ap (λ us. stand v s (te.let_in w1.next (listed k v) (scoped D (record_type us)) (te.block (recording p u w0.next a f v)) (splitting D (listed k v) (record_type us) r us 1 w2.next rest))) (spotted v)
      ∙ ap₂ (λ i j. let us = found p u w0.next a v in
      stand v s (te.let_in w1.next (listed k v) (scoped D (record_type us)) (te.block (recording p u w0.next a f v)) (splitting D (listed k v) (record_type us) i us 1 j rest))) is2 next2
      ∙ ap (λ i. let us = found p u w0.next a v in
      stand v s (te.let_in i (listed k v) (scoped D (record_type us)) (te.block (recording p u w0.next a f v)) (splitting D (listed k v) (record_type us) i us 1 (suc i) rest))) (next1 v);
}

pub separate-next : (w0 w1 w2 w3 : Work) (p : Pat) (u : ValueType) (a : ℕ) (ss : List Spot) → ((v : View) → w1.next ≡ suc (suc (past p w0.next v))) → ((v : View) → spots_of v ss ≡ found p u w0.next a v) → w2.next ≡ suc w1.next
    → ((v : View) → w3.next ≡ past_split (spots_of v ss) w2.next) → (v : View) → w3.next ≡ past_split (found p u w0.next a v) (suc (suc (suc (past p w0.next v))))
separate-next w0 w1 w2 w3 p u a ss next1 spotted next2 next3 v = next3 v ∙ ap₂ past_split (spotted v) (next2 ∙ ap suc (next1 v))

pub separate-spots : (w0 w1 w2 : Work) (p : Pat) (u : ValueType) (a : ℕ) (ss made before after : List Spot) → ((v : View) → w1.next ≡ suc (suc (past p w0.next v))) → ((v : View) → spots_of v ss ≡ found p u w0.next a v) → w2.next ≡ suc w1.next
    → ((v : View) → spots_of v made ≡ split_spots (spots_of v ss) w2.next no_spots) → after ≡ before ++ reverse made → (v : View)
    → spots_onto v after no_spots ≡ split_spots (found p u w0.next a v) (suc (suc (suc (past p w0.next v)))) (spots_onto v before no_spots)
separate-spots w0 w1 w2 p u a ss made before after next1 spotted next2 made_so more v =
    split-found v made before after (found p u w0.next a v) (suc (suc (suc (past p w0.next v)))) (made_so v ∙ ap₂ (λ us i. split_spots us i no_spots) (spotted v) (next2 ∙ ap suc (next1 v))) more

-- new exceptions; the names that are bound after them are of no account
pub exception-puts : {w1 w2 w3 : Work} {s m : List Step} {x : ℕ} (w0 : Work) (i : ℕ) (a b : Option ℕ) → ((v : View) → Sees w1 v → option_map (type_at v.types) b ≡ option_scoped v.scope (option_map v.source.type a)) → w1.next ≡ w0.next
    → x ≡ w1.next → Keeps w1 w2 → Grows w2 w3 → w3.scope ≡ w2.scope → m ≡ s ++ steps.Exception x i b ∷ [] → Puts w3 s m (λ v rest. te.exception_in w0.next i (option_scoped v.scope (option_map v.source.type a)) rest)
exception-puts {w1 = w1} {w2 = w2} {w3 = w3} {s = s} {m = m} {x = x} w0 i a b typed next is kept grown scope more =
    pushed w3 s m (steps.Exception x i b) (λ v rest. te.exception_in w0.next i (option_scoped v.scope (option_map v.source.type a)) rest) more (λ v sees rest.
    ap (λ e. plain.put e rest) (step_of-Exception (reading v) x i b)
    ∙ ap₂ (λ n t. te.exception_in n i t rest) (is ∙ next)
    (typed (over v v.scope (names_of w1.names)) (sees-named w1 w3 v (grows-on w1 w2 w3 (grows-by w1 w2 kept) grown) (scope ∙ kept.scope) sees)))

-- of one variable or of another pattern
pub made-as : {w : Work} {s m : List Step} (sole o : Option ℕ) (k : ℕ) (p : Pat) (u : ValueType) (n a : ℕ) (f : View → Tests → Tests) → sole ≡ o → Puts w s m (made_of o k p u n a f) → Puts w s m (made_of sole k p u n a f)
made-as {w = w} {s = s} {m = m} sole o k p u n a f e h = subst (λ x. Puts w s m (made_of x k p u n a f)) (sym e) h
