-- Rules, one after the other, and what they are in.
use Rattle.std.proofs.Common.{◌≡◌, ◌<◌, ◌≤◌, ◌+◌, ℕ, suc, false, if◌then◌else◌, List, [], ◌∷◌, ◌++◌, map, length, drop, slice_index_or, refl, sym, ap, ap₂, ◌∙◌}
use Rattle.mlc_base.specs.declared.place.Place.{Place}
use Rattle.ty_core.specs.Types.{Typ}
use Rattle.ir_plain.specs.Tree as te
use Rattle.ir_poly.specs.Prog as t
use Rattle.ir_poly.specs.Prog.{type_of}
use Rattle.ir_poly.specs.Tests.{Tests}
use Rattle.ir_values.specs.Primitives.{match_name}
use Rattle.match_compile.specs.Compile.{making, value_at, atom, put, rules, past_rules, past_pat, is_direct, otherwise, Otherwise, initial, value_of_rule, making_rule}
use Rattle.plain_tree.specs.TreeOf as plain
use Rattle.plain_tree.specs.declared.tree.Exp.{Exp}
use Rattle.plain_tree.specs.declared.tree.Step.{Step}
use Rattle.prog_tree.specs.TreeOf.{Reading, tree_of, pat_of}
use Rattle.prog_tree.specs.declared.tree.Rule.{Rule}
use Rattle.prog_tree.proofs.ExpOf.{rule_of-parts}
use Rattle.general_bindings.specs.of_match_types.Views.{View, reading, Sees, Keeps, value_type}
use Rattle.general_bindings.specs.of_match_types.declared.work.Work.{Work}
use Rattle.general_bindings.specs.of_match_types.declared.work.ValueType.{ValueType}
use Rattle.general_bindings.specs.of_match_types.declared.work.ValueType.TheVariants as kind
use Rattle.general_bindings.proofs.of_match_types.Seeing.{keeps-same, keeps-on, sees-before}
use Rattle.general_bindings.specs.of_match_steps.Steps.{stand}
use Rattle.general_bindings.proofs.of_match_steps.Pushed.{puts-as, two-puts}
use Rattle.general_bindings.proofs.of_pattern_tests.Chains.{next-drop}
use Rattle.general_bindings.specs.of_exp_steps.Making.{Makes, Pushed, putting}
use Rattle.general_bindings.specs.of_exp_blocks.Giving.{Gives}
use Rattle.match_pass.specs.Reading.{rules_read}
use Rattle.match_pass.specs.Going.{GivesRules, MakesTested, Attempted, Attempts, rule_tests}
use Rattle.match_pass.proofs.Lists.{drop-past}

firsts-more : (es : List Tests) (e d : Tests) → plain.firsts (es ++ e ∷ []) d ≡ plain.firsts es (te.first e d)
firsts-more [] e d = refl
firsts-more (c ∷ es) e d = ap (te.first c) (firsts-more es e d)

rules-next : (R : Reading) (r : Rule) (rs : List Rule) → rules_read (r ∷ rs) R ≡ t.a_rule (pat_of R r.pat) (tree_of R r.exp) (rules_read rs R)
rules-next R r rs = ap (λ x. t.a_rule x.pat x.exp (rules_read rs R)) (rule_of-parts R r)

pub attempts-none : (w : Work) (rs : Reading → t.Rules) (m : ValueType) (u a : ℕ) (o : Otherwise) (made : List Exp) → made ≡ [] → Attempts w w rs rs m u a o made
attempts-none w rs m u a o made none = record {
  keeps = keeps-same w;
  next = λ v sees. refl;
  gives = λ v sees. ap (λ l. plain.firsts (map (plain.tree_of (reading v)) l) (rules v.scope v.names (rs v.source) (value_type v m) (v.source.type u) w.next a o)) none;
}

-- a rule's steps as one attempt more
pub attempt-added : {w0 w1 : Work} {n0 n1 : List Step} {x : ℕ} (r : Rule) (m : ValueType) (a : ℕ) (before after : List Exp) → n0 ≡ [] → MakesTested w0 w1 n0 n1 r m a x
    → ((v : View) → map (plain.tree_of (reading v)) after ≡ map (plain.tree_of (reading v)) before ++ stand v n1 (te.ret (atom x)) ∷ []) → Attempted w0 w1 r m a before after
attempt-added {w0 = w0} {w1 = w1} {n0 = n0} {n1 = n1} {x = x} r m a before after none p more = record {
  keeps = p.keeps;
  next = λ v sees. p.next ∙ ap suc (sym (p.is v sees));
  gives = λ v sees.
      more v
      ∙ ap (λ l. map (plain.tree_of (reading v)) before ++ l ∷ [])
      (ap (λ i. stand v n1 (te.ret (atom i))) (sym (p.is v sees))
      ∙ p.puts.leads v sees (te.ret (atom (value_at (tree_of v.source r.exp) (past_pat (pat_of v.source r.pat) w0.next))))
      ∙ ap (λ l. stand v l (rule_tests r m a w0.next v)) none);
}

pub attempts-step : (old now w1 : Work) (all : Reading → t.Rules) (rs : List Rule) (i : ℕ) (r : Rule) (m : ValueType) (u a : ℕ) (o : Otherwise) (made later : List Exp) → i < length rs → r ≡ slice_index_or rs i r
    → Attempts old now all (rules_read (drop i rs)) m u a o made → Attempted now w1 r m a made later → Attempts old w1 all (rules_read (drop (i + 1) rs)) m u a o later
attempts-step old now w1 all rs i r m u a o made later lt is h p = record {
  keeps = keeps-on old now w1 h.keeps p.keeps;
  next = λ v sees. ap (past_rules (rest v)) (p.next v sees) ∙ sym (ap (λ l. past_rules l now.next) (next v)) ∙ h.next v (sees-before now w1 v p.keeps sees);
  gives = λ v sees.
      ap (λ l. plain.firsts l (rules v.scope v.names (rest v) (value_type v m) (v.source.type u) w1.next a o)) (p.gives v sees)
      ∙ firsts-more (map (plain.tree_of (reading v)) made) (rule_tests r m a now.next v) (rules v.scope v.names (rest v) (value_type v m) (v.source.type u) w1.next a o)
      ∙ ap (λ n. plain.firsts (map (plain.tree_of (reading v)) made) (te.first (rule_tests r m a now.next v) (rules v.scope v.names (rest v) (value_type v m) (v.source.type u) n a o))) (p.next v sees)
      ∙ sym (ap (λ l. plain.firsts (map (plain.tree_of (reading v)) made) (rules v.scope v.names l (value_type v m) (v.source.type u) now.next a o)) (next v))
      ∙ h.gives v (sees-before now w1 v p.keeps sees);
}
  where
    rest : View → t.Rules
    rest v = rules_read (drop (i + 1) rs) v.source

    next : (v : View) → rules_read (drop i rs) v.source ≡ t.a_rule (pat_of v.source r.pat) (tree_of v.source r.exp) (rest v)
    next v = ap (λ l. rules_read l v.source) (next-drop rs i r lt is) ∙ rules-next v.source r (drop (i + 1) rs)

-- what is raised where none applies
pub attempts-end : (old now w1 : Work) (rs : List Rule) (i : ℕ) (m : ValueType) (u a : ℕ) (o : Otherwise) (made : List Exp) (all : Exp) → length rs ≤ i → Attempts old now (rules_read rs) (rules_read (drop i rs)) m u a o made
    → Keeps now w1 → w1.next ≡ suc now.next → Gives w1 all (λ v. plain.firsts (map (plain.tree_of (reading v)) made) (otherwise v.scope now.next (v.source.type u) a o)) → GivesRules old w1 (rules_read rs) m u a o all
attempts-end old now w1 rs i m u a o made all le h k next g = record {
  keeps = keeps-on old now w1 h.keeps k;
  next = λ v sees. next ∙ sym (ap (λ l. past_rules (rules_read l v.source) now.next) none) ∙ h.next v (sees-before now w1 v k sees);
  gives = record {
    gives = λ v sees.
        g.gives v sees
        ∙ sym (ap (λ l. plain.firsts (map (plain.tree_of (reading v)) made) (rules v.scope v.names (rules_read l v.source) (value_type v m) (v.source.type u) now.next a o)) none)
        ∙ h.gives v (sees-before now w1 v k sees);
  };
}
  where
    none : drop i rs ≡ []
    none = drop-past rs i le

-- a match by rules, in a block
pub rules-make : {w0 w1 w2 w3 : Work} {s m a : List Step} {x y : ℕ} (place : Place) (u of : ℕ) (e : Reading → t.Exp) (rs : Reading → t.Rules) (all : Exp) → ((R : Reading) → is_direct (rs R) ≡ false)
    → ((R : Reading) → R.type of ≡ type_of (e R)) → Makes w0 w1 s m e x → GivesRules w1 w2 rs (kind.Source of) u x (initial match_name) all
    → ((g : View → Tests) → Gives w2 all g → Pushed w2 w3 m a (kind.Source u) (λ v. te.block (g v)) y) → Makes w0 w3 s a (λ R. t.case_exp place (R.type u) (e R) (rs R)) y
rules-make {w0 = w0} {w1 = w1} {w2 = w2} {w3 = w3} {s = s} {m = m} {a = a} {x = x} {y = y} place u of e rs all not type p r push = record {
  keeps = keeps-on w0 w1 w3 p.keeps (keeps-on w1 w2 w3 r.keeps q.keeps);
  is = λ v sees. ap (λ b. if b then value_of_rule (rs v.source) (suc (value_at (e v.source) w0.next)) else past_rules (rs v.source) (suc (value_at (e v.source) w0.next))) (not v.source)
      ∙ ap (past_rules (rs v.source)) (sym (number v sees)) ∙ sym (r.next v (sees2 v sees)) ∙ sym q.is;
  next = q.next ∙ ap suc (sym q.is);
  puts = puts-as (λ v rest. making v.scope v.names (t.case_exp place (v.source.type u) (e v.source) (rs v.source)) w0.next rest)
      (λ v sees rest.
      ap₂ (λ i z. making v.scope v.names (e v.source) w0.next (put v.scope i (v.source.type u) (te.block (whole v z (suc x) x)) rest)) (r.next v (sees2 v sees) ∙ ap (past_rules (rs v.source)) p.next) (type v.source)
      ∙ ap (λ i. making v.scope v.names (e v.source) w0.next (put v.scope (past_rules (rs v.source) (suc i)) (v.source.type u) (te.block (whole v (type_of (e v.source)) (suc i) i)) rest)) (sym (value v sees))
      ∙ sym (ap (λ b. making v.scope v.names (e v.source) w0.next (if b then making_rule v.scope v.names (rs v.source) (type_of (e v.source)) (suc (at v)) (at v) rest
      else put v.scope (past_rules (rs v.source) (suc (at v))) (v.source.type u) (te.block (whole v (type_of (e v.source)) (suc (at v)) (at v))) rest)) (not v.source)))
      (two-puts w1 w3 s m a (λ v rest. making v.scope v.names (e v.source) w0.next rest) (putting (kind.Source u) w2.next (λ v. te.block (whole v (v.source.type of) (suc x) x))) (keeps-on w1 w2 w3 r.keeps q.keeps) p.puts q.puts);
}
  where
    at : View → ℕ
    at v = value_at (e v.source) w0.next

    whole : View → Typ → (n i : ℕ) → Tests
    whole v z n i = rules v.scope v.names (rs v.source) z (v.source.type u) n i (initial match_name)

    q : Pushed w2 w3 m a (kind.Source u) (λ v. te.block (whole v (v.source.type of) (suc x) x)) y
    q = push (λ v. whole v (v.source.type of) (suc x) x) (record { gives = λ v sees. r.gives.gives v sees ∙ ap (λ n. whole v (v.source.type of) n x) p.next })

    sees2 : (v : View) → Sees w3 v → Sees w2 v
    sees2 v sees = sees-before w2 w3 v q.keeps sees

    value : (v : View) → Sees w3 v → value_at (e v.source) w0.next ≡ x
    value v sees = p.is v (sees-before w1 w3 v (keeps-on w1 w2 w3 r.keeps q.keeps) sees)

    number : (v : View) → Sees w3 v → w1.next ≡ suc (value_at (e v.source) w0.next)
    number v sees = p.next ∙ ap suc (sym (value v sees))
