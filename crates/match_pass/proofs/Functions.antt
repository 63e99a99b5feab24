-- Functions and rules, whose variables are bound while they are made.
use Rattle.std.proofs.Common.{◌≡◌, ℕ, suc, List, [], sym, ap, ap₂, ◌∙◌}
use Rattle.mlc_base.specs.declared.place.Place.{Place}
use Rattle.ir_plain.specs.Tree as te
use Rattle.ir_poly.specs.Prog as t
use Rattle.ir_values.specs.Primitives.{match_name}
use Rattle.match_compile.specs.Compile.{making, value_at, atom, scoped, function, named, rules, initial, tests, spots, spots_named, no_spots, past_pat, past_rules}
use Rattle.match_names.specs.Bindings.{names_of}
use Rattle.plain_tree.specs.TreeOf as plain
use Rattle.plain_tree.specs.declared.tree.Exp.{Exp}
use Rattle.plain_tree.specs.declared.tree.Parameter.{Parameter}
use Rattle.plain_tree.specs.declared.tree.Step.{Step}
use Rattle.prog_tree.specs.TreeOf.{Reading, tree_of, pat_of, after_parameters}
use Rattle.prog_tree.specs.declared.tree.Parameter as source
use Rattle.prog_tree.specs.declared.tree.Pat.{Pat}
use Rattle.prog_tree.specs.declared.tree.Rule.{Rule}
use Rattle.general_bindings.specs.of_match_types.Views.{View, reading, Sees, Keeps, value_type}
use Rattle.general_bindings.specs.of_match_types.declared.work.Work.{Work}
use Rattle.general_bindings.specs.of_match_types.declared.work.ValueType.{ValueType}
use Rattle.general_bindings.specs.of_match_types.declared.work.ValueType.TheVariants as kind
use Rattle.general_bindings.proofs.of_match_types.Seeing.{sees-before}
use Rattle.general_bindings.specs.of_match_steps.Steps.{stand, Puts}
use Rattle.general_bindings.specs.of_pattern_tests.Spots.{spots_onto, names_onto}
use Rattle.general_bindings.specs.of_pattern_tests.Tasks.{tests_of}
use Rattle.general_bindings.specs.of_pattern_tests.declared.spots.Spot.{Spot}
use Rattle.general_bindings.specs.of_exp_steps.Making.{Makes}
use Rattle.general_bindings.specs.of_exp_blocks.Giving.{Grows, over, parameters_before, lambda_of}
use Rattle.general_bindings.specs.of_exp_blocks.Binding.{Fits}
use Rattle.general_bindings.specs.of_exp_blocks.declared.blocks.Lambda.{Lambda}
use Rattle.general_bindings.proofs.of_exp_blocks.Growing.{grows-on, grows-by, keeps-grown, sees-named, sees-through, ends-same, ends-as}
use Rattle.general_bindings.proofs.of_exp_blocks.Binding.{fun-before}
use Rattle.match_pass.specs.Reading.{named_read, by_rules_read, rules_read}
use Rattle.match_pass.specs.Going.{GivesFunction, GivesRules, Matched, MakesTested, MakesRule}
use Rattle.match_pass.specs.Heads.{Headed, Unnamed}
use Rattle.match_pass.proofs.Regions.{spots-bound, spots-end}

-- a body in the scope of parameters
pub named-gives : {n0 n1 : List Step} {x : ℕ} (w0 w2 w3 w4 : Work) (xs : List source.Parameter) (z : source.Parameter) (e : Reading → t.Exp) (made : List Parameter) (p : Parameter) (l : Lambda) → n0 ≡ []
    → Headed w0 w2 xs z made p → Makes w2 w3 n0 n1 e x → Grows w3 w4 → w4.scope ≡ w3.scope → w4.next ≡ w3.next → w4.names ≡ w0.names
    → ((v : View) → lambda_of v l ≡ plain.fun_of (reading v) made p (stand v n1 (te.ret (atom x)))) → GivesFunction w0 w4 (named_read xs z e) l
named-gives {n0 = n0} {n1 = n1} {x = x} w0 w2 w3 w4 xs z e made p l none h m g scope same names is = record {
  keeps = keeps-grown w0 w4 (grows-on w0 h.work w4 h.before.grows grown) (scope ∙ m.keeps.scope ∙ h.last.scope ∙ h.before.scope) names;
  next = λ v sees. same ∙ m.next ∙ ap suc (sym (value v sees)) ∙ h.before.past v.source (last v);
  gives = record {
    gives = λ v sees.
        is v ∙ fun-before (reading v) made p (stand v n1 (te.ret (atom x)))
        ∙ ap₂ (λ i y. parameters_before (reading v) made (te.last i y (stand v n1 (te.ret (atom x))))) h.last.variable (h.last.type (view2 v) (sees2 v sees))
        ∙ ap (λ d. parameters_before (reading v) made (te.last h.work.next (scoped v.scope (v.source.type z.ty)) d)) (inside v sees)
        ∙ h.before.gives (view1 v) (sees1 v sees) (last v)
        ∙ ap (λ N. function v.scope N (after_parameters v.source xs (last v)) w0.next) (sym (sees.same_names ∙ ap names_of names));
  };
}
  where
    last : View → t.Fun
    last v = t.last z.variable (v.source.type z.ty) (e v.source)

    grown : Grows h.work w4
    grown = grows-on h.work w2 w4 h.last.grows (grows-on w2 w3 w4 (grows-by w2 w3 m.keeps) g)

    view1 : View → View
    view1 v = over v v.scope (names_of h.work.names)

    view2 : View → View
    view2 v = over v v.scope (names_of w2.names)

    sees1 : (v : View) → Sees w4 v → Sees h.work (view1 v)
    sees1 v sees = sees-named h.work w4 v grown (scope ∙ m.keeps.scope ∙ h.last.scope) sees

    sees2 : (v : View) → Sees w4 v → Sees w2 (view2 v)
    sees2 v sees = sees-named w2 w4 v (grows-on w2 w3 w4 (grows-by w2 w3 m.keeps) g) (scope ∙ m.keeps.scope) sees

    sees3 : (v : View) → Sees w4 v → Sees w3 (view2 v)
    sees3 v sees = sees-through w3 w4 v v.scope (names_of w2.names) g sees (ap names_of (sym m.keeps.names)) (λ y. (sees-named w3 w4 v g scope sees).same_scope y)

    value : (v : View) → Sees w4 v → value_at (e v.source) (suc h.work.next) ≡ x
    value v sees = ap (value_at (e v.source)) (sym h.last.next) ∙ m.is (view2 v) (sees3 v sees)

    inside : (v : View) → Sees w4 v → stand v n1 (te.ret (atom x)) ≡ making v.scope (named z.variable h.work.next (names_of h.work.names)) (e v.source) (suc h.work.next) (te.ret (atom (value_at (e v.source) (suc h.work.next))))
    inside v sees =
        m.puts.leads (view2 v) (sees3 v sees) (te.ret (atom x))
        ∙ ap (λ k. stand v k (making v.scope (names_of w2.names) (e v.source) w2.next (te.ret (atom x)))) none
        ∙ ap₂ (λ N i. making v.scope N (e v.source) i (te.ret (atom x))) (ap names_of h.last.names) h.last.next
        ∙ ap (λ j. making v.scope (named z.variable h.work.next (names_of h.work.names)) (e v.source) (suc h.work.next) (te.ret (atom j))) (sym (value v sees))

-- rules for a last argument
pub ruled-gives : (w0 w2 w3 w4 : Work) (xs : List source.Parameter) (place : Place) (a u : ℕ) (rs : List Rule) (made : List Parameter) (p : Parameter) (body : Exp) (l : Lambda)
    → Unnamed w0 w2 xs a made p → GivesRules w2 w3 (rules_read rs) (kind.Source a) u p.variable (initial match_name) body
    → Grows w3 w4 → w4.scope ≡ w3.scope → w4.next ≡ w3.next → w4.names ≡ w0.names → ((v : View) → lambda_of v l ≡ plain.fun_of (reading v) made p (plain.tree_of (reading v) body))
    → GivesFunction w0 w4 (by_rules_read xs place a u rs) l
ruled-gives w0 w2 w3 w4 xs place a u rs made p body l h r g scope same names is = record {
  keeps = keeps-grown w0 w4 (grows-on w0 h.work w4 h.before.grows grown) (scope ∙ r.keeps.scope ∙ h.keeps.scope ∙ h.before.scope) names;
  next = λ v sees. same ∙ r.next (view v) (sees3 v sees) ∙ ap (past_rules (rules_read rs v.source)) h.next ∙ h.before.past v.source (last v);
  gives = record {
    gives = λ v sees.
        is v ∙ fun-before (reading v) made p (plain.tree_of (reading v) body)
        ∙ ap₂ (λ y d. parameters_before (reading v) made (te.last p.variable y d)) (h.type (view v) (sees2 v sees)) (r.gives.gives (view v) (sees3 v sees))
        ∙ ap₂ (λ i n. parameters_before (reading v) made (te.last i (scoped v.scope (v.source.type a)) (rules v.scope (names_of h.work.names) (rules_read rs v.source) (v.source.type a) (v.source.type u) n i (initial match_name)))) h.variable h.next
        ∙ h.before.gives (view v) (sees1 v sees) (last v)
        ∙ ap (λ N. function v.scope N (after_parameters v.source xs (last v)) w0.next) (sym (sees.same_names ∙ ap names_of names));
  };
}
  where
    last : View → t.Fun
    last v = t.by_rules place (v.source.type a) (v.source.type u) (rules_read rs v.source)

    grown : Grows h.work w4
    grown = grows-on h.work w2 w4 (grows-by h.work w2 h.keeps) (grows-on w2 w3 w4 (grows-by w2 w3 r.keeps) g)

    view : View → View
    view v = over v v.scope (names_of h.work.names)

    sees3 : (v : View) → Sees w4 v → Sees w3 (view v)
    sees3 v sees = sees-through w3 w4 v v.scope (names_of h.work.names) g sees (sym (ap names_of (r.keeps.names ∙ h.keeps.names))) (λ y. (sees-named w3 w4 v g scope sees).same_scope y)

    sees2 : (v : View) → Sees w4 v → Sees w2 (view v)
    sees2 v sees = sees-before w2 w3 (view v) r.keeps (sees3 v sees)

    sees1 : (v : View) → Sees w4 v → Sees h.work (view v)
    sees1 v sees = sees-before h.work w2 (view v) h.keeps (sees2 v sees)

-- the tests of a pattern, whose variables are bound
pub matched : {n0 n1 : List Step} (w0 w1 w2 : Work) (p : Pat) (m : ValueType) (a : ℕ) (none found : List Spot) → none ≡ [] → Keeps w0 w1 → ((v : View) → w1.next ≡ past_pat (pat_of v.source p) w0.next)
    → ((v : View) → spots_onto v found no_spots ≡ spots (pat_of v.source p) (value_type v m) w0.next a (spots_onto v none no_spots)) → Puts w1 n0 n1 (tests_of p m w0.next a)
    → Grows w1 w2 → w2.scope ≡ w1.scope → w2.next ≡ w1.next → w2.names ≡ names_onto found w1.names → Matched w0 w2 n0 n1 p m a
matched {n0 = n0} w0 w1 w2 p m a none found empty k past spotted puts g scope same bound = record {
  grows = grows-on w0 w1 w2 (grows-by w0 w1 k) g;
  scope = scope ∙ k.scope;
  ends = ends-as w0.names (names_onto found w1.names) w2.names bound (spots-end found w0.names w1.names (ends-as w0.names w0.names w1.names k.names (ends-same w0.names)));
  next = λ v. same ∙ past v;
  names = λ v. ap names_of bound ∙ spots-bound v found no_spots (names_of w0.names) w1.names (ap names_of k.names) ∙ ap (λ us. spots_named us (names_of w0.names))
      (spotted v ∙ ap (λ l. spots (pat_of v.source p) (value_type v m) w0.next a (spots_onto v l no_spots)) empty);
  puts = record {
    leads = λ v sees rest.
        puts.leads (over v v.scope (names_of w1.names)) (sees-named w1 w2 v g scope sees) rest
        ∙ ap (λ l. stand v n0 (tests v.scope (names_of l) (pat_of v.source p) (value_type v m) w0.next a rest)) k.names;
  };
}

-- the tests of a rule, and then its expression
pub tested-makes : {n0 n1 n2 : List Step} {x : ℕ} (w0 w2 w3 w4 : Work) (r : Rule) (m : ValueType) (a : ℕ) → Matched w0 w2 n0 n1 r.pat m a → Makes w2 w3 n1 n2 (λ R. tree_of R r.exp) x → Grows w3 w4 → w4.scope ≡ w3.scope → w4.next ≡ w3.next
    → w4.names ≡ w0.names → MakesTested w0 w4 n0 n2 r m a x
tested-makes {n0 = n0} {n1 = n1} {n2 = n2} {x = x} w0 w2 w3 w4 r m a k e h back last names = record {
  keeps = keeps-grown w0 w4 (grows-on w0 w2 w4 k.grows (grows-on w2 w3 w4 (grows-by w2 w3 e.keeps) h)) (back ∙ e.keeps.scope ∙ k.scope) names;
  is = λ v sees. ap (value_at (tree_of v.source r.exp)) (sym (k.next v)) ∙ e.is (view v) (sees3 v sees);
  next = last ∙ e.next;
  puts = record {
    leads = λ v sees rest.
        e.puts.leads (view v) (sees3 v sees) rest
        ∙ k.puts.leads (view v) (sees2 v sees) (making v.scope (names_of w2.names) (tree_of v.source r.exp) w2.next rest)
        ∙ ap (λ N. stand v n0 (tests v.scope N (pat_of v.source r.pat) (value_type v m) w0.next a (making v.scope (names_of w2.names) (tree_of v.source r.exp) w2.next rest))) (names0 v sees)
        ∙ ap₂ (λ N i. stand v n0 (tests v.scope v.names (pat_of v.source r.pat) (value_type v m) w0.next a (making v.scope N (tree_of v.source r.exp) i rest))) (names2 v sees) (k.next v);
  };
}
  where
    view : View → View
    view v = over v v.scope (names_of w2.names)

    sees3 : (v : View) → Sees w4 v → Sees w3 (view v)
    sees3 v sees = sees-through w3 w4 v v.scope (names_of w2.names) h sees (sym (ap names_of e.keeps.names)) (λ y. (sees-named w3 w4 v h back sees).same_scope y)

    sees2 : (v : View) → Sees w4 v → Sees w2 (view v)
    sees2 v sees = sees-before w2 w3 (view v) e.keeps (sees3 v sees)

    names0 : (v : View) → Sees w4 v → names_of w0.names ≡ v.names
    names0 v sees = ap names_of (sym names) ∙ sym sees.same_names

    names2 : (v : View) → Sees w4 v → names_of w2.names ≡ spots_named (spots (pat_of v.source r.pat) (value_type v m) w0.next a no_spots) v.names
    names2 v sees = k.names v ∙ ap (spots_named (spots (pat_of v.source r.pat) (value_type v m) w0.next a no_spots)) (names0 v sees)

-- the expression of a rule whose pattern any value fits
pub direct-makes : {s a : List Step} {x : ℕ} (w0 w1 w2 w3 : Work) (r : Rule) (y : ℕ) → Grows w0 w1 → w1.scope ≡ w0.scope → w1.next ≡ w0.next → Fits w0.names w1.names r.pat y → Makes w1 w2 s a (λ R. tree_of R r.exp) x → Grows w2 w3
    → w3.scope ≡ w2.scope → w3.next ≡ w2.next → w3.names ≡ w0.names → MakesRule w0 w3 s a r y x
direct-makes {s = s} {a = a} {x = x} w0 w1 w2 w3 r y g scope same f m h back last names = record {
  keeps = keeps-grown w0 w3 (grows-on w0 w1 w3 g (grows-on w1 w2 w3 (grows-by w1 w2 m.keeps) h)) (back ∙ m.keeps.scope ∙ scope) names;
  next = last ∙ m.next;
  is = λ v sees fits. ap (value_at (tree_of v.source r.exp)) (sym same) ∙ m.is (view v) (sees2 v sees);
  puts = λ v sees z fits rest.
      m.puts.leads (view v) (sees2 v sees) rest
      ∙ ap₂ (λ N i. stand v s (making v.scope N (tree_of v.source r.exp) i rest)) (f.names v.source z w0.next no_spots v.names fits (ap names_of (sym names) ∙ sym sees.same_names)) same;
}
  where
    view : View → View
    view v = over v v.scope (names_of w1.names)

    sees2 : (v : View) → Sees w3 v → Sees w2 (view v)
    sees2 v sees = sees-through w2 w3 v v.scope (names_of w1.names) h sees (sym (ap names_of m.keeps.names)) (λ y. (sees-named w2 w3 v h back sees).same_scope y)
