-- All nodes of a phrase are its own and those that have counts inside it: none is counted twice, and none is left out.
use Rattle.std.specs.Prelude.{◌≡◌, ℕ, suc, ◌+◌, List, [], ◌∷◌, map, sum}
use Rattle.sml_tree.specs.BareTree as bare
use Rattle.sml_tree.specs.Derived.{Operand, clause_rules}
use Rattle.sml_tree.specs.Derived as derived
use Rattle.sml_tree.specs.TreeOf.{ExpFieldOf, RuleOf, dec_of, exp_of, pat_of}
use Rattle.sml_tree.specs.declared.tree.Bind.{Bind-F}
use Rattle.sml_tree.specs.declared.tree.Clause.{Clause-F}
use Rattle.sml_tree.specs.declared.tree.Dec.{Dec, Dec-F, fold-Dec}
use Rattle.sml_tree.specs.declared.tree.Dec.TheFolds.{map-Dec, map-Exp}
use Rattle.sml_tree.specs.declared.tree.Exp.{Exp, Exp-F, fold-Exp}
use Rattle.sml_tree.specs.declared.tree.ExpField.{ExpField-F}
use Rattle.sml_tree.specs.declared.tree.Function.{Function-F}
use Rattle.sml_tree.specs.declared.tree.Joint.{Joint}
use Rattle.sml_tree.specs.declared.tree.Part.{Part-F}
use Rattle.sml_tree.specs.declared.tree.Rule.{Rule-F}
use Rattle.exp_weights.specs.Nodes.{bound_count, dec_count, exp_count, outer_dec_count, rules_count}
use Rattle.exp_weights.specs.Own.{head_count, node_own_dec, node_own_exp, own_of, with_head}

-- a phrase without what has counts inside it, and the sum of those counts
pub record Within (A : Type 0) : Type 0 where
  pub own : A
  pub inside : ℕ

abbrev pub owned : {A : Type 0} → Within A → A
owned w = w.own

abbrev pub total : {A : Type 0} → (Within A → ℕ) → List (Within A) → ℕ
total f [] = 0
total f (w ∷ ws) = f w + total f ws

abbrev pub insides : {A : Type 0} → List (Within A) → ℕ
insides ws = total (λ w. w.inside) ws

-- a rule here is a rule or a binding

abbrev pub DecIn : Type 0
DecIn = Within bare.Dec

abbrev pub ExpIn : Type 0
ExpIn = Within bare.Exp

abbrev pub RuleIn : Type 0
RuleIn = Within RuleOf

abbrev pub ClauseIn : Type 0
ClauseIn = Within derived.Clause

abbrev pub FieldIn : Type 0
FieldIn = Within ExpFieldOf

abbrev pub FunctionIn : Type 0
FunctionIn = Within derived.Function

abbrev pub PartIn : Type 0
PartIn = Within (Operand Joint bare.Exp)

-- a rule or a binding, a clause, and a function with its head: their counts, and those inside them

abbrev pub bound_counts : RuleIn → ℕ
bound_counts b = bound_count b.own.pat b.own.exp + b.inside

abbrev pub clause_counts : ClauseIn → ℕ
clause_counts c = rules_count (clause_rules (c.own ∷ [])) + c.inside

abbrev pub function_counts : FunctionIn → ℕ
function_counts g = head_count g.own + g.inside

abbrev pub inside_dec : Dec-F DecIn ExpIn RuleIn ClauseIn FieldIn FunctionIn PartIn RuleIn → ℕ
inside_dec (Dec-F.Val p as_ bs cs) = total bound_counts bs.items + total bound_counts cs.items
inside_dec (Dec-F.Fun p as_ gs) = total function_counts gs.items
inside_dec (Dec-F.Local p ds es) = insides ds.items + insides es.items
inside_dec (Dec-F.Declarations p ds) = insides ds.items
inside_dec d = 0

abbrev pub inside_exp : Exp-F DecIn ExpIn RuleIn ClauseIn FieldIn FunctionIn PartIn RuleIn → ℕ
inside_exp (Exp-F.Record p fs) = insides fs.items
inside_exp (Exp-F.Tuple p es) = insides es.items
inside_exp (Exp-F.List p es) = insides es.items
inside_exp (Exp-F.Sequence p e es) = e.value.inside + insides es.items
inside_exp (Exp-F.Let p ds e) = insides ds.items + e.value.inside
inside_exp (Exp-F.Apply p e es) = e.value.inside + insides es.items
inside_exp (Exp-F.Chain p r e os) = e.value.inside + insides os.items
inside_exp (Exp-F.Typed p e t) = e.value.inside
inside_exp (Exp-F.Handle p e rs) = e.value.inside + total bound_counts rs.items
inside_exp (Exp-F.Raise p e) = e.value.inside
inside_exp (Exp-F.Fn p rs) = total bound_counts rs.items
inside_exp e = 0

abbrev pub node_within_dec : Dec-F DecIn ExpIn RuleIn ClauseIn FieldIn FunctionIn PartIn RuleIn → DecIn
node_within_dec d = record {
  own =
      node_own_dec
      (map-Dec DecIn ExpIn RuleIn ClauseIn FieldIn FunctionIn PartIn RuleIn bare.Dec bare.Exp RuleOf derived.Clause ExpFieldOf derived.Function
      (Operand Joint bare.Exp) RuleOf owned owned owned owned owned owned owned owned d);
  inside = inside_dec d;
}

abbrev pub node_within_exp : Exp-F DecIn ExpIn RuleIn ClauseIn FieldIn FunctionIn PartIn RuleIn → ExpIn
node_within_exp d = record {
  own =
      node_own_exp
      (map-Exp DecIn ExpIn RuleIn ClauseIn FieldIn FunctionIn PartIn RuleIn bare.Dec bare.Exp RuleOf derived.Clause ExpFieldOf derived.Function
      (Operand Joint bare.Exp) RuleOf owned owned owned owned owned owned owned owned d);
  inside = inside_exp d;
}

abbrev pub node_within_bind : Bind-F DecIn ExpIn RuleIn ClauseIn FieldIn FunctionIn PartIn RuleIn → RuleIn
node_within_bind d = record {
  own = record { place = d.place; pat = pat_of d.pat; exp = d.exp.own };
  inside = d.exp.inside;
}

abbrev pub node_within_clause : Clause-F DecIn ExpIn RuleIn ClauseIn FieldIn FunctionIn PartIn RuleIn → ClauseIn
node_within_clause d = record {
  own = record { place = d.place; pats = map pat_of d.pats.items; body = d.exp.own };
  inside = d.exp.inside;
}

abbrev pub node_within_exp_field : ExpField-F DecIn ExpIn RuleIn ClauseIn FieldIn FunctionIn PartIn RuleIn → FieldIn
node_within_exp_field d = record {
  own = record { label = d.label; exp = d.exp.own };
  inside = d.exp.inside;
}

abbrev pub node_within_function : Function-F DecIn ExpIn RuleIn ClauseIn FieldIn FunctionIn PartIn RuleIn → FunctionIn
node_within_function d = record {
  own = record { place = d.place; vid_place = d.vid_place; vid = d.vid; clauses = map owned d.clauses.items };
  inside = total clause_counts d.clauses.items;
}

abbrev pub node_within_part : Part-F DecIn ExpIn RuleIn ClauseIn FieldIn FunctionIn PartIn RuleIn → PartIn
node_within_part d = record {
  own = record { joint = d.joint; place = d.place; operand = d.exp.own };
  inside = d.exp.inside;
}

abbrev pub node_within_rule : Rule-F DecIn ExpIn RuleIn ClauseIn FieldIn FunctionIn PartIn RuleIn → RuleIn
node_within_rule d = record {
  own = record { place = d.place; pat = pat_of d.pat; exp = d.exp.own };
  inside = d.exp.inside;
}

abbrev pub within : Exp → ExpIn
within =
    fold-Exp DecIn ExpIn RuleIn ClauseIn FieldIn FunctionIn PartIn RuleIn
    node_within_dec node_within_exp node_within_bind node_within_clause node_within_exp_field node_within_function node_within_part node_within_rule

abbrev pub dec_within : Dec → DecIn
dec_within =
    fold-Dec DecIn ExpIn RuleIn ClauseIn FieldIn FunctionIn PartIn RuleIn
    node_within_dec node_within_exp node_within_bind node_within_clause node_within_exp_field node_within_function node_within_part node_within_rule

-- what is counted at the clauses or rules of a function, of so many nodes each, from one of them on
abbrev pub headed : ℕ → ℕ → List ℕ → ℕ
headed head at [] = 0
headed head at (n ∷ ns) = with_head head at n + headed head (suc at) ns

-- An expression's own nodes, and the counts inside it, are its nodes; and so are a declaration itself and the counts inside it. A head is counted once where
-- there is a clause or a rule.
pub record CountsAreWhole : Type 0 where
  pub own : (e : Exp) → (within e).own ≡ own_of e
  pub exps : (e : Exp) → exp_count (exp_of e) ≡ exp_count (own_of e) + (within e).inside
  pub decs : (d : Dec) → dec_count (dec_of d) ≡ outer_dec_count (dec_of d) + (dec_within d).inside
  pub heads : (head n : ℕ) (ns : List ℕ) → headed head 0 (n ∷ ns) ≡ head + sum (n ∷ ns)
