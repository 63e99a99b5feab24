-- Functions of parts that are read as others, and functions as values.
use Rattle.std.proofs.Common.{◌≡◌, ◌≢◌, ℕ, suc, true, false, List, [], ◌∷◌, length, slice_index_or, Result, Ok, Err, IfOk, if◌then◌else◌, refl, sym, ap, ap₂, ◌∙◌, arith}
use Rattle.mlc_base.specs.declared.place.Place.{Place}
use Rattle.ir_plain.specs.Tree as te
use Rattle.ir_poly.specs.Prog as t
use Rattle.ir_poly.specs.Prog.{type_of}
use Rattle.ir_poly.specs.Tests.{poly}
use Rattle.match_compile.specs.Compile.{making, value_at, put, function, past_fun, is_direct, past_rules, fits_all, rules, initial, spots, spots_named, no_spots}
use Rattle.ir_values.specs.Primitives.{match_name}
use Rattle.plain_tree.specs.declared.tree.Step.{Step}
use Rattle.prog_tree.specs.TreeOf.{Reading, tree_of, pat_of}
use Rattle.prog_tree.specs.declared.tree.Rule.{Rule}
use Rattle.prog_tree.proofs.ExpOf.{rule_of-parts}
use Rattle.general_bindings.specs.of_match_types.Views.{View, Sees}
use Rattle.general_bindings.specs.of_match_types.declared.work.Work.{Work}
use Rattle.general_bindings.specs.of_match_types.declared.work.ValueType.TheVariants as kind
use Rattle.general_bindings.proofs.of_match_types.Seeing.{keeps-on, sees-before}
use Rattle.general_bindings.specs.of_match_steps.Steps.{stand}
use Rattle.general_bindings.proofs.of_match_steps.Pushed.{puts-as}
use Rattle.general_bindings.specs.of_exp_steps.Making.{Makes, Pushed}
use Rattle.general_bindings.proofs.of_exp_steps.Counting.{makes-as}
use Rattle.general_bindings.specs.of_exp_blocks.Giving.{GivesFun}
use Rattle.general_bindings.specs.of_exp_blocks.declared.blocks.Lambda.{Lambda}
use Rattle.match_pass.specs.Reading.{rules_read}
use Rattle.match_pass.specs.Going.{GivesFunction, MakesRule}

-- an expression that is read as another, where it was made at all
pub made-as : {E : Type 0} (w v : Work) (s m : List Step) (f g : Reading → t.Exp) (r : Result ℕ E) → ((R : Reading) → g R ≡ f R) → IfOk r (λ a. Makes w v s m f a) → IfOk r (λ a. Makes w v s m g a)
made-as w v s m f g (Ok a) e h = makes-as f g e h
made-as w v s m f g (Err x) e h = h

-- a function as a value
pub fn-makes : {w0 w1 w2 : Work} {s a : List Step} {x : ℕ} (u : ℕ) (f : Reading → t.Fun) (made : Lambda) → GivesFunction w0 w1 f made
    → ((g : View → te.Fun poly) → GivesFun w1 made g → Pushed w1 w2 s a (kind.Source u) (λ v. te.fn (g v)) x) → Makes w0 w2 s a (λ R. t.fn_exp (R.type u) (f R)) x
fn-makes {w0 = w0} {w1 = w1} {w2 = w2} {s = s} {a = a} {x = x} u f made g push = record {
  keeps = keeps-on w0 w1 w2 g.keeps p.keeps;
  is = λ v sees. sym (g.next v (sees-before w1 w2 v p.keeps sees)) ∙ sym p.is;
  next = p.next ∙ ap suc (sym p.is);
  puts = puts-as (λ v rest. making v.scope v.names (t.fn_exp (v.source.type u) (f v.source)) w0.next rest)
      (λ v sees rest. ap (λ i. put v.scope i (v.source.type u) (te.fn (function v.scope v.names (f v.source) w0.next)) rest) (g.next v (sees-before w1 w2 v p.keeps sees))) p.puts;
}
  where
    p : Pushed w1 w2 s a (kind.Source u) (λ v. te.fn (function v.scope v.names (f v.source) w0.next)) x
    p = push (λ v. function v.scope v.names (f v.source) w0.next) g.gives

pub function-as : {w v : Work} {made : Lambda} (f g : Reading → t.Fun) → ((R : Reading) → g R ≡ f R) → GivesFunction w v f made → GivesFunction w v g made
function-as {w = w} f g e p = record {
  keeps = p.keeps;
  next = λ o sees. p.next o sees ∙ sym (ap (λ h. past_fun h w.next) (e o.source));
  gives = record { gives = λ o sees. p.gives.gives o sees ∙ sym (ap (λ h. function o.scope o.names h w.next) (e o.source)) };
}

-- A match of one rule that any value fits

direct-is : (R : Reading) (rs : List Rule) (r : Rule) → rs ≡ r ∷ [] → rules_read rs R ≡ t.a_rule (pat_of R r.pat) (tree_of R r.exp) t.no_rules
direct-is R rs r one = ap (λ l. rules_read l R) one ∙ ap (λ x. t.a_rule x.pat x.exp t.no_rules) (rule_of-parts R r)

-- more rules or fewer, or one that not every value fits
pub direct-length : (R : Reading) (rs : List Rule) → length rs ≢ 1 → is_direct (rules_read rs R) ≡ false
direct-length R [] e = refl
direct-length R (r ∷ []) e = absurd (e refl)
direct-length R (r ∷ q ∷ rs) e = refl

pub direct-fits : (R : Reading) (rs : List Rule) (r : Rule) → rs ≡ r ∷ [] → fits_all (pat_of R r.pat) ≡ is_direct (rules_read rs R)
direct-fits R rs r one = sym (ap is_direct (direct-is R rs r one))

pub one-rule : (rs : List Rule) (r : Rule) → length rs ≡ 1 → r ≡ slice_index_or rs 0 r → rs ≡ r ∷ []
one-rule [] r e is = absurd (omega arith)
one-rule (q ∷ []) r e is = ap (λ x. x ∷ []) (sym is)
one-rule (q ∷ p ∷ rs) r e is = absurd (omega arith)

pub direct-case : {w0 w1 w2 : Work} {s m a : List Step} {x y : ℕ} (place : Place) (u : ℕ) (e : Reading → t.Exp) (rs : List Rule) (r : Rule) → rs ≡ r ∷ [] → ((R : Reading) → fits_all (pat_of R r.pat) ≡ true)
    → Makes w0 w1 s m e x → MakesRule w1 w2 m a r x y → Makes w0 w2 s a (λ R. t.case_exp place (R.type u) (e R) (rules_read rs R)) y
direct-case {w0 = w0} {w1 = w1} {w2 = w2} {s = s} {m = m} {a = a} {x = x} {y = y} place u e rs r one fits p q = record {
  keeps = keeps-on w0 w1 w2 p.keeps q.keeps;
  is = λ v sees.
      ap (λ l. value_at (t.case_exp place (v.source.type u) (e v.source) l) w0.next) (direct-is v.source rs r one)
      ∙ ap (λ b. if b then value_at (tree_of v.source r.exp) (suc (at v)) else past_rules (one_read v) (suc (at v))) (fits v.source)
      ∙ ap (value_at (tree_of v.source r.exp)) (number v sees) ∙ q.is v sees (fits v.source);
  next = q.next;
  puts = record {
    leads = λ v sees rest.
        q.puts v sees (type_of (e v.source)) (fits v.source) rest
        ∙ p.puts.leads v (sees-before w1 w2 v q.keeps sees) (making v.scope (spots_named (spots (pat_of v.source r.pat) (type_of (e v.source)) w1.next x no_spots) v.names) (tree_of v.source r.exp) w1.next rest)
        ∙ ap₂ (λ n z. stand v s (making v.scope v.names (e v.source) w0.next (making v.scope (spots_named (spots (pat_of v.source r.pat) (type_of (e v.source)) n z no_spots) v.names) (tree_of v.source r.exp) n rest)))
        (sym (number v sees)) (sym (value v sees))
        ∙ sym (ap (λ b. stand v s (making v.scope v.names (e v.source) w0.next (if b then making v.scope (spots_named (spots (pat_of v.source r.pat) (type_of (e v.source)) (suc (at v)) (at v) no_spots) v.names) (tree_of v.source r.exp) (suc (at v)) rest
        else put v.scope (past_rules (one_read v) (suc (at v))) (v.source.type u) (te.block (rules v.scope v.names (one_read v) (type_of (e v.source)) (v.source.type u) (suc (at v)) (at v) (initial match_name))) rest))) (fits v.source))
        ∙ sym (ap (λ l. stand v s (making v.scope v.names (t.case_exp place (v.source.type u) (e v.source) l) w0.next rest)) (direct-is v.source rs r one));
  };
}
  where
    at : View → ℕ
    at v = value_at (e v.source) w0.next

    one_read : View → t.Rules
    one_read v = t.a_rule (pat_of v.source r.pat) (tree_of v.source r.exp) t.no_rules

    value : (v : View) → Sees w2 v → value_at (e v.source) w0.next ≡ x
    value v sees = p.is v (sees-before w1 w2 v q.keeps sees)

    number : (v : View) → Sees w2 v → suc (value_at (e v.source) w0.next) ≡ w1.next
    number v sees = ap suc (value v sees) ∙ sym p.next
