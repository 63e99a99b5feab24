-- Expressions whose parts stand in blocks.
use Rattle.std.proofs.Common.{◌≡◌, ℕ, suc, Bool, List, [], sym, ap, ap₂, ◌∙◌}
use Rattle.ir_plain.specs.Tree as te
use Rattle.ir_poly.specs.Prog as t
use Rattle.ir_poly.specs.Tests.{Tests}
use Rattle.ir_poly.specs.Types.{in_scope}
use Rattle.ir_known.specs.Knows.{marks_of}
use Rattle.ir_values.specs.Primitives.{match_name, bind_name}
use Rattle.match_compile.specs.Compile.{making, value_at, atom, put, decs, decs_named, past_decs, links, past_chain, rules, past_rules, otherwise, initial, again, bool_type, exception_type}
use Rattle.match_names.specs.Bindings.{names_of}
use Rattle.plain_tree.specs.declared.tree.Exp.{Exp}
use Rattle.plain_tree.specs.declared.tree.Step.{Step}
use Rattle.prog_tree.specs.TreeOf.{Reading, tree_of}
use Rattle.prog_tree.specs.declared.tree.Exp as source
use Rattle.general_bindings.specs.of_match_types.Views.{View, Sees, Keeps}
use Rattle.general_bindings.specs.of_match_types.declared.work.Work.{Work}
use Rattle.general_bindings.specs.of_match_types.declared.work.ValueType.TheVariants as kind
use Rattle.general_bindings.proofs.of_match_types.Seeing.{keeps-on, sees-before}
use Rattle.general_bindings.specs.of_match_steps.Steps.{stand}
use Rattle.general_bindings.proofs.of_match_steps.Pushed.{puts-as}
use Rattle.general_bindings.specs.of_exp_steps.Making.{Makes, Pushed}
use Rattle.general_bindings.specs.of_exp_blocks.Giving.{Gives, Grows, over}
use Rattle.general_bindings.proofs.of_exp_blocks.Growing.{grows-on, grows-by, keeps-grown, sees-through}
use Rattle.match_pass.specs.Reading.{chain_read}
use Rattle.match_pass.specs.Going.{Declares, Linked, GivesRules, MakesScoped, MakesChain, Ending, Chosen}

-- declarations, and an expression in their scope
pub scoped-makes : {w0 w1 w2 w3 : Work} {n0 n1 n2 : List Step} {x : ℕ} (ds : Reading → t.Decs) (e : Reading → t.Exp) → Declares w0 w1 n0 n1 ds (λ R. t.no_decs) → Makes w1 w2 n1 n2 e x
    → Grows w2 w3 → w3.scope ≡ w2.scope → w3.next ≡ w2.next → w3.names ≡ w0.names → MakesScoped w0 w3 n0 n2 ds e x
scoped-makes {w0 = w0} {w1 = w1} {w2 = w2} {w3 = w3} {n0 = n0} {n1 = n1} {n2 = n2} {x = x} ds e d m g scope same names = record {
  keeps = keeps-grown w0 w3 (grows-on w0 w1 w3 d.grows (grows-on w1 w2 w3 (grows-by w1 w2 m.keeps) g)) (scope ∙ m.keeps.scope ∙ d.scope) names;
  is = λ v sees. ap (value_at (e v.source)) (sym (number1 v sees)) ∙ m.is (view v) (sees2 v sees);
  next = same ∙ m.next;
  puts = record {
    leads = λ v sees rest.
        m.puts.leads (view v) (sees2 v sees) rest
        ∙ d.leads.leads (view v) (sees1 v sees) (making v.scope (names_of w1.names) (e v.source) w1.next rest)
        ∙ ap (λ N. stand v n0 (decs v.scope N (ds v.source) w0.next (making v.scope (names_of w1.names) (e v.source) w1.next rest))) (names0 v sees)
        ∙ ap₂ (λ M i. stand v n0 (decs v.scope v.names (ds v.source) w0.next (making v.scope M (e v.source) i rest))) (names1 v sees) (number1 v sees);
  };
}
  where
    view : View → View
    view v = over v v.scope (names_of w1.names)

    sees2 : (v : View) → Sees w3 v → Sees w2 (view v)
    sees2 v sees = sees-through w2 w3 v v.scope (names_of w1.names) g sees (ap names_of (sym m.keeps.names)) (λ z. sees.same_scope z ∙ ap (λ l. in_scope (marks_of l) z) scope)

    sees1 : (v : View) → Sees w3 v → Sees w1 (view v)
    sees1 v sees = sees-before w1 w2 (view v) m.keeps (sees2 v sees)

    names0 : (v : View) → Sees w3 v → names_of w0.names ≡ v.names
    names0 v sees = sym (sees.same_names ∙ ap names_of names)

    number1 : (v : View) → Sees w3 v → w1.next ≡ past_decs (ds v.source) w0.next
    number1 v sees = d.next (view v) (sees1 v sees)

    names1 : (v : View) → Sees w3 v → names_of w1.names ≡ decs_named (ds v.source) w0.next v.names
    names1 v sees = d.names (view v) (sees1 v sees) ∙ ap (decs_named (ds v.source) w0.next) (names0 v sees)

-- in a block
pub let-makes : {w0 w1 w2 : Work} {n0 n1 s a : List Step} {x y : ℕ} (u : ℕ) (ds : Reading → t.Decs) (e : Reading → t.Exp) → n0 ≡ [] → MakesScoped w0 w1 n0 n1 ds e x
    → ((g : View → Tests) → Ending w1 n1 x g → Chosen w1 w2 s a u (kind.Source u) w0.next (initial bind_name) g y) → Makes w0 w2 s a (λ R. t.let_exp (R.type u) (ds R) (e R)) y
let-makes {w0 = w0} {w1 = w1} {w2 = w2} {n0 = n0} {n1 = n1} {s = s} {a = a} {x = x} {y = y} u ds e none m push = record {
  keeps = keeps-on w0 w1 w2 m.keeps p.keeps;
  is = λ v sees. ap suc (sym (number v (sees-before w1 w2 v p.keeps sees))) ∙ sym p.is;
  next = p.next;
  puts = puts-as (λ v rest. making v.scope v.names (t.let_exp (v.source.type u) (ds v.source) (e v.source)) w0.next rest)
      (λ v sees rest. ap (λ i. put v.scope (suc i) (v.source.type u) (te.block (te.first (inner v) (otherwise v.scope i (v.source.type u) w0.next (initial bind_name)))) rest) (number v (sees-before w1 w2 v p.keeps sees))) p.puts;
}
  where
    at : View → ℕ
    at v = value_at (e v.source) (past_decs (ds v.source) w0.next)

    inner : View → Tests
    inner v = decs v.scope v.names (ds v.source) w0.next (making v.scope (decs_named (ds v.source) w0.next v.names) (e v.source) (past_decs (ds v.source) w0.next) (te.ret (atom (at v))))

    number : (v : View) → Sees w1 v → w1.next ≡ suc (at v)
    number v sees = m.next ∙ ap suc (sym (m.is v sees))

    p : Chosen w1 w2 s a u (kind.Source u) w0.next (initial bind_name) inner y
    p = push inner (λ v sees. ap (λ i. stand v n1 (te.ret (atom i))) (sym (m.is v sees)) ∙ m.puts.leads v sees (te.ret (atom (at v))) ∙ ap (λ l. stand v l (inner v)) none)

-- operands of `andalso` or `orelse`, up to the last
pub chain-ends : {w0 w1 w2 : Work} {n0 n1 n2 : List Step} {x : ℕ} (b : Bool) (es : List source.Exp) (last : source.Exp) → Linked w0 w1 n0 n1 b (chain_read es last) (chain_read [] last) → Makes w1 w2 n1 n2 (λ R. tree_of R last) x
    → MakesChain w0 w2 n0 n2 b (chain_read es last) x
chain-ends {w0 = w0} {w1 = w1} {w2 = w2} {n0 = n0} {n1 = n1} {n2 = n2} {x = x} b es last d m = record {
  keeps = keeps-on w0 w1 w2 d.keeps m.keeps;
  is = λ v sees. sym (d.next v (sees1 v sees)) ∙ ap suc (m.is v sees);
  next = m.next;
  ends = λ v sees.
      m.puts.leads v sees (te.ret (atom x))
      ∙ ap (λ j. stand v n1 (making v.scope v.names (tree_of v.source last) w1.next (te.ret (atom j)))) (sym (m.is v sees))
      ∙ d.leads.leads v (sees1 v sees) (te.ret (atom x));
}
  where
    sees1 : (v : View) → Sees w2 v → Sees w1 v
    sees1 v sees = sees-before w1 w2 v m.keeps sees

-- in a block
pub chain-makes : {w0 w1 w2 : Work} {n0 n1 s a : List Step} {x y : ℕ} (b : Bool) (u : ℕ) (cs : Reading → t.Chain) → n0 ≡ [] → MakesChain w0 w1 n0 n1 b cs x
    → ((g : View → Tests) → Ending w1 n1 x g → Chosen w1 w2 s a u kind.Bool w0.next (initial match_name) g y) → Makes w0 w2 s a (λ R. t.chain_exp b (R.type u) (cs R)) y
chain-makes {w0 = w0} {w1 = w1} {w2 = w2} {n0 = n0} {n1 = n1} {s = s} {a = a} {x = x} {y = y} b u cs none m push = record {
  keeps = keeps-on w0 w1 w2 m.keeps p.keeps;
  is = λ v sees. ap suc (sym (number v (sees-before w1 w2 v p.keeps sees))) ∙ sym p.is;
  next = p.next;
  puts = puts-as (λ v rest. making v.scope v.names (t.chain_exp b (v.source.type u) (cs v.source)) w0.next rest)
      (λ v sees rest. ap (λ i. put v.scope (suc i) (v.source.type u) (te.block (te.first (inner v) (otherwise v.scope i bool_type w0.next (initial match_name)))) rest) (number v (sees-before w1 w2 v p.keeps sees))) p.puts;
}
  where
    inner : View → Tests
    inner v = links v.scope v.names (cs v.source) b w0.next

    number : (v : View) → Sees w1 v → w1.next ≡ past_chain (cs v.source) w0.next
    number v sees = m.next ∙ sym (m.is v sees)

    p : Chosen w1 w2 s a u kind.Bool w0.next (initial match_name) inner y
    p = push inner (λ v sees. m.ends v sees ∙ ap (λ l. stand v l (inner v)) none)

-- a body, and rules for its packet
pub handle-makes : {w0 w1 w2 w3 w4 : Work} {n0 n1 s a : List Step} {x y k : ℕ} (u : ℕ) (e : Reading → t.Exp) (rs : Reading → t.Rules) (handler : Exp) → n0 ≡ [] → Makes w0 w1 n0 n1 e x → Keeps w1 w2 → k ≡ w1.next → w2.next ≡ suc w1.next → GivesRules w2 w3 rs kind.Exception u k again handler
    → ((g h : View → Tests) → Ending w3 n1 x g → Gives w3 handler h → Pushed w3 w4 s a (kind.Source u) (λ v. te.handle (g v) k (h v)) y) → Makes w0 w4 s a (λ R. t.handle_exp (R.type u) (e R) (rs R)) y
handle-makes {w0 = w0} {w1 = w1} {w2 = w2} {w3 = w3} {w4 = w4} {n0 = n0} {n1 = n1} {s = s} {a = a} {x = x} {y = y} {k = k} u e rs handler none m h packet next r push = record {
  keeps = keeps-on w0 w2 w4 (keeps-on w0 w1 w2 m.keeps h) (keeps-on w2 w3 w4 r.keeps p.keeps);
  is = λ v sees. ap (past_rules (rs v.source)) (ap (λ i. suc (suc i)) (value v (sees3 v sees)) ∙ sym number) ∙ sym (r.next v (sees3 v sees)) ∙ sym p.is;
  next = p.next ∙ ap suc (sym p.is);
  puts = puts-as (λ v rest. making v.scope v.names (t.handle_exp (v.source.type u) (e v.source) (rs v.source)) w0.next rest)
      (λ v sees rest.
      ap₂ (λ i n. put v.scope i (v.source.type u) (te.handle (made v x) k (rules v.scope v.names (rs v.source) exception_type (v.source.type u) n k again)) rest) (r.next v (sees3 v sees) ∙ ap (past_rules (rs v.source)) number) number
      ∙ ap (λ i. put v.scope (past_rules (rs v.source) (suc (suc x))) (v.source.type u) (te.handle (made v x) i (rules v.scope v.names (rs v.source) exception_type (v.source.type u) (suc (suc x)) i again)) rest) (packet ∙ m.next)
      ∙ ap (λ i. put v.scope (past_rules (rs v.source) (suc (suc i))) (v.source.type u) (te.handle (made v i) (suc i) (rules v.scope v.names (rs v.source) exception_type (v.source.type u) (suc (suc i)) (suc i) again)) rest)
      (sym (value v (sees3 v sees)))) p.puts;
}
  where
    made : View → ℕ → Tests
    made v j = making v.scope v.names (e v.source) w0.next (te.ret (atom j))

    sees1 : (v : View) → Sees w3 v → Sees w1 v
    sees1 v sees = sees-before w1 w3 v (keeps-on w1 w2 w3 h r.keeps) sees

    p : Pushed w3 w4 s a (kind.Source u) (λ v. te.handle (made v x) k (rules v.scope v.names (rs v.source) exception_type (v.source.type u) w2.next k again)) y
    p = push (λ v. made v x) (λ v. rules v.scope v.names (rs v.source) exception_type (v.source.type u) w2.next k again)
        (λ v sees. m.puts.leads v (sees1 v sees) (te.ret (atom x)) ∙ ap (λ l. stand v l (made v x)) none) r.gives

    sees3 : (v : View) → Sees w4 v → Sees w3 v
    sees3 v sees = sees-before w3 w4 v p.keeps sees

    number : w2.next ≡ suc (suc x)
    number = next ∙ ap suc m.next

    value : (v : View) → Sees w3 v → value_at (e v.source) w0.next ≡ x
    value v sees = m.is v (sees1 v sees)
