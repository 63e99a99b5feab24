-- The bare tree of each node.
use Rattle.std.proofs.Common.{◌≡◌, Bool, map, Vec, Box, Global, sym, ap, ◌∙◌}
use Rattle.mlc_base.specs.declared.place.Place.{Place}
use Rattle.sml_tree.specs.BareTree as bare
use Rattle.sml_tree.specs.Derived.{Operand, app_of, chain_of, join, list_of, sequence_of, tuple}
use Rattle.sml_tree.specs.Derived as derived
use Rattle.sml_tree.specs.TreeOf.{ExpFieldOf, RuleOf, bind_of, binds_of, constant_of, dec_of, decs_of, exp_field_of, exp_fields_of, exp_of, long_vid_of, part_of, pat_of, rule_of, rules_of, ty_of}
use Rattle.sml_tree.specs.TreeOf.{node_bind, node_clause, node_dec, node_exp, node_exp_field, node_function, node_part, node_rule}
use Rattle.sml_tree.specs.declared.ident.BuiltIn.{BuiltIn as Built}
use Rattle.sml_tree.specs.declared.ident.Constant.{Constant as SourceConstant}
use Rattle.sml_tree.specs.declared.ident.LongVid.{LongVid}
use Rattle.sml_tree.specs.declared.tree.Bind.{Bind, fold_out-Bind}
use Rattle.sml_tree.specs.declared.tree.Dec.{Dec, Dec-F, fold-roll-Dec}
use Rattle.sml_tree.specs.declared.tree.Dec.TheVariants as decs
use Rattle.sml_tree.specs.declared.tree.Exp.{Exp, Exp-F, fold-roll-Exp}
use Rattle.sml_tree.specs.declared.tree.Exp.TheVariants as exps
use Rattle.sml_tree.specs.declared.tree.ExpField.{ExpField, fold_out-ExpField}
use Rattle.sml_tree.specs.declared.tree.Joint.{Joint}
use Rattle.sml_tree.specs.declared.tree.Part.{Part, fold_out-Part}
use Rattle.sml_tree.specs.declared.tree.Rule.{Rule, fold_out-Rule}
use Rattle.sml_tree.specs.declared.tree.Ty.{Ty}
use Rattle.sml_tree.specs.declared.tree.TyvarSeq.{TyvarSeq}

pub source-Constant : (p : Place) (c : SourceConstant) → exp_of (exps.Constant p c) ≡ bare.constant_exp p (constant_of c)
source-Constant p c =
    ap exp_of (sym (exps.rolls-Constant p c))
    ∙ fold-roll-Exp bare.Dec bare.Exp RuleOf derived.Clause ExpFieldOf derived.Function (Operand Joint bare.Exp) RuleOf node_dec node_exp node_bind node_clause node_exp_field node_function node_part node_rule (Exp-F.Constant p c)

pub source-Vid : (p : Place) (x : LongVid) → exp_of (exps.Vid p x) ≡ bare.vid_exp p (long_vid_of x)
source-Vid p x =
    ap exp_of (sym (exps.rolls-Vid p x))
    ∙ fold-roll-Exp bare.Dec bare.Exp RuleOf derived.Clause ExpFieldOf derived.Function (Operand Joint bare.Exp) RuleOf node_dec node_exp node_bind node_clause node_exp_field node_function node_part node_rule (Exp-F.Vid p x)

pub source-BuiltIn : (p : Place) (b : Built) → exp_of (exps.BuiltIn p b) ≡ bare.built_exp p b
source-BuiltIn p b =
    ap exp_of (sym (exps.rolls-BuiltIn p b))
    ∙ fold-roll-Exp bare.Dec bare.Exp RuleOf derived.Clause ExpFieldOf derived.Function (Operand Joint bare.Exp) RuleOf node_dec node_exp node_bind node_clause node_exp_field node_function node_part node_rule (Exp-F.BuiltIn p b)

pub source-Record : (p : Place) (fs : Vec ExpField Global) → exp_of (exps.Record p fs) ≡ bare.fields_exp p (exp_fields_of (map exp_field_of fs.items))
source-Record p fs =
    ap exp_of (sym (exps.rolls-Record p fs))
    ∙ fold-roll-Exp bare.Dec bare.Exp RuleOf derived.Clause ExpFieldOf derived.Function (Operand Joint bare.Exp) RuleOf node_dec node_exp node_bind node_clause node_exp_field node_function node_part node_rule (Exp-F.Record p fs)

pub source-Tuple : (p : Place) (es : Vec Exp Global) → exp_of (exps.Tuple p es) ≡ tuple p (map exp_of es.items)
source-Tuple p es =
    ap exp_of (sym (exps.rolls-Tuple p es))
    ∙ fold-roll-Exp bare.Dec bare.Exp RuleOf derived.Clause ExpFieldOf derived.Function (Operand Joint bare.Exp) RuleOf node_dec node_exp node_bind node_clause node_exp_field node_function node_part node_rule (Exp-F.Tuple p es)

pub source-List : (p : Place) (es : Vec Exp Global) → exp_of (exps.List p es) ≡ list_of p (map exp_of es.items)
source-List p es =
    ap exp_of (sym (exps.rolls-List p es))
    ∙ fold-roll-Exp bare.Dec bare.Exp RuleOf derived.Clause ExpFieldOf derived.Function (Operand Joint bare.Exp) RuleOf node_dec node_exp node_bind node_clause node_exp_field node_function node_part node_rule (Exp-F.List p es)

pub source-Sequence : (p : Place) (e : Box Exp Global) (es : Vec Exp Global) → exp_of (exps.Sequence p e es) ≡ sequence_of p (exp_of e.value) (map exp_of es.items)
source-Sequence p e es =
    ap exp_of (sym (exps.rolls-Sequence p e es))
    ∙ fold-roll-Exp bare.Dec bare.Exp RuleOf derived.Clause ExpFieldOf derived.Function (Operand Joint bare.Exp) RuleOf node_dec node_exp node_bind node_clause node_exp_field node_function node_part node_rule (Exp-F.Sequence p e es)

pub source-Let : (p : Place) (ds : Vec Dec Global) (e : Box Exp Global) → exp_of (exps.Let p ds e) ≡ bare.let_in p (decs_of (map dec_of ds.items)) (exp_of e.value)
source-Let p ds e =
    ap exp_of (sym (exps.rolls-Let p ds e))
    ∙ fold-roll-Exp bare.Dec bare.Exp RuleOf derived.Clause ExpFieldOf derived.Function (Operand Joint bare.Exp) RuleOf node_dec node_exp node_bind node_clause node_exp_field node_function node_part node_rule (Exp-F.Let p ds e)

pub source-Apply : (p : Place) (e : Box Exp Global) (es : Vec Exp Global) → exp_of (exps.Apply p e es) ≡ app_of p (exp_of e.value) (map exp_of es.items)
source-Apply p e es =
    ap exp_of (sym (exps.rolls-Apply p e es))
    ∙ fold-roll-Exp bare.Dec bare.Exp RuleOf derived.Clause ExpFieldOf derived.Function (Operand Joint bare.Exp) RuleOf node_dec node_exp node_bind node_clause node_exp_field node_function node_part node_rule (Exp-F.Apply p e es)

pub source-Chain : (p : Place) (r : Bool) (e : Box Exp Global) (ps : Vec Part Global) → exp_of (exps.Chain p r e ps) ≡ chain_of join r p (exp_of e.value) (map part_of ps.items)
source-Chain p r e ps =
    ap exp_of (sym (exps.rolls-Chain p r e ps))
    ∙ fold-roll-Exp bare.Dec bare.Exp RuleOf derived.Clause ExpFieldOf derived.Function (Operand Joint bare.Exp) RuleOf node_dec node_exp node_bind node_clause node_exp_field node_function node_part node_rule (Exp-F.Chain p r e ps)

pub source-Typed : (p : Place) (e : Box Exp Global) (t : Ty) → exp_of (exps.Typed p e t) ≡ bare.typed p (exp_of e.value) (ty_of t)
source-Typed p e t =
    ap exp_of (sym (exps.rolls-Typed p e t))
    ∙ fold-roll-Exp bare.Dec bare.Exp RuleOf derived.Clause ExpFieldOf derived.Function (Operand Joint bare.Exp) RuleOf node_dec node_exp node_bind node_clause node_exp_field node_function node_part node_rule (Exp-F.Typed p e t)

pub source-Handle : (p : Place) (e : Box Exp Global) (rs : Vec Rule Global) → exp_of (exps.Handle p e rs) ≡ bare.handle p (exp_of e.value) (rules_of (map rule_of rs.items))
source-Handle p e rs =
    ap exp_of (sym (exps.rolls-Handle p e rs))
    ∙ fold-roll-Exp bare.Dec bare.Exp RuleOf derived.Clause ExpFieldOf derived.Function (Operand Joint bare.Exp) RuleOf node_dec node_exp node_bind node_clause node_exp_field node_function node_part node_rule (Exp-F.Handle p e rs)

pub source-Raise : (p : Place) (e : Box Exp Global) → exp_of (exps.Raise p e) ≡ bare.raise p (exp_of e.value)
source-Raise p e =
    ap exp_of (sym (exps.rolls-Raise p e))
    ∙ fold-roll-Exp bare.Dec bare.Exp RuleOf derived.Clause ExpFieldOf derived.Function (Operand Joint bare.Exp) RuleOf node_dec node_exp node_bind node_clause node_exp_field node_function node_part node_rule (Exp-F.Raise p e)

pub source-Fn : (p : Place) (rs : Vec Rule Global) → exp_of (exps.Fn p rs) ≡ bare.fn p (rules_of (map rule_of rs.items))
source-Fn p rs =
    ap exp_of (sym (exps.rolls-Fn p rs))
    ∙ fold-roll-Exp bare.Dec bare.Exp RuleOf derived.Clause ExpFieldOf derived.Function (Operand Joint bare.Exp) RuleOf node_dec node_exp node_bind node_clause node_exp_field node_function node_part node_rule (Exp-F.Fn p rs)

pub source-Val : (p : Place) (as_ : TyvarSeq) (bs cs : Vec Bind Global) → dec_of (decs.Val p as_ bs cs)
    ≡ bare.val_dec p as_.place as_.tyvars.items (binds_of (map bind_of bs.items)) (binds_of (map bind_of cs.items))
source-Val p as_ bs cs =
    ap dec_of (sym (decs.rolls-Val p as_ bs cs))
    ∙ fold-roll-Dec bare.Dec bare.Exp RuleOf derived.Clause ExpFieldOf derived.Function (Operand Joint bare.Exp) RuleOf node_dec node_exp node_bind node_clause node_exp_field node_function node_part node_rule (Dec-F.Val p as_ bs cs)

-- parts of lists

pub field-is : (f : ExpField) → exp_field_of f ≡ record { label = f.label; exp = exp_of f.exp }
field-is = fold_out-ExpField bare.Dec bare.Exp RuleOf derived.Clause ExpFieldOf derived.Function (Operand Joint bare.Exp) RuleOf node_dec node_exp node_bind node_clause node_exp_field node_function node_part node_rule

pub part-is : (o : Part) → part_of o ≡ record { joint = o.joint; place = o.place; operand = exp_of o.exp }
part-is = fold_out-Part bare.Dec bare.Exp RuleOf derived.Clause ExpFieldOf derived.Function (Operand Joint bare.Exp) RuleOf node_dec node_exp node_bind node_clause node_exp_field node_function node_part node_rule

pub rule-is : (r : Rule) → rule_of r ≡ record { place = r.place; pat = pat_of r.pat; exp = exp_of r.exp }
rule-is = fold_out-Rule bare.Dec bare.Exp RuleOf derived.Clause ExpFieldOf derived.Function (Operand Joint bare.Exp) RuleOf node_dec node_exp node_bind node_clause node_exp_field node_function node_part node_rule

pub bind-is : (b : Bind) → bind_of b ≡ record { place = b.place; pat = pat_of b.pat; exp = exp_of b.exp }
bind-is = fold_out-Bind bare.Dec bare.Exp RuleOf derived.Clause ExpFieldOf derived.Function (Operand Joint bare.Exp) RuleOf node_dec node_exp node_bind node_clause node_exp_field node_function node_part node_rule
