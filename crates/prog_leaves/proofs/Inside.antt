-- What is right in scopes that are gone into, and that scopes are left as they were.
use Rattle.std.proofs.Common.{◌≡◌, ℕ, suc, ◌+◌, ◌-◌, ◌≤◌, Bool, true, false, ◌&&◌, List, [], ◌∷◌, ◌++◌, map, length, drop, Vec, Global, refl, sym, ap, ◌∙◌, subst, arith}
use Rattle.ty_core.specs.Types.{Typ}
use Rattle.ty_core.specs.declared.mark.Mark.{Mark}
use Rattle.ty_core.specs.declared.scheme.Quantified.{Quantified}
use Rattle.ty_table.specs.TypeAt.{type_at}
use Rattle.ir_known.specs.Knows.{marks_of, knowns_of}
use Rattle.ir_known.specs.declared.known.Known.{Known}
use Rattle.ir_poly.specs.ProgChecked.{pat_onto, funs_onto}
use Rattle.ir_poly.specs.Types.{over, are_new}
use Rattle.ir_poly.specs.TestsChecked.{Knowns, of_type, own, exn_type}
use Rattle.ir_tables.specs.declared.tables.Tables.{Tables}
use Rattle.ir_tables.specs.Tables.{parameters_of, parameters_at}
use Rattle.prog_known.specs.declared.environment.Environment.{Environment}
use Rattle.prog_known.specs.declared.manner.Manner.TheVariants.{Plain, Own}
use Rattle.prog_known.specs.Environments.{table_in, parameters_in, variables_in}
use Rattle.prog_known.specs.Lists.{run, all_hold}
use Rattle.prog_known.specs.Onto.{Onto, known_by}
use Rattle.prog_check.specs.Same.{same_type}
use Rattle.prog_check.specs.Checking.{check_rules}
use Rattle.prog_tree.specs.Readings.{reading}
use Rattle.prog_tree.specs.TreeOf.{pat_of, rule_of, rules_of, funs_by, fun_of}
use Rattle.prog_tree.specs.declared.tree.Binding.{Binding}
use Rattle.prog_tree.specs.declared.tree.Dec.{Dec}
use Rattle.prog_tree.specs.declared.tree.Exp.{Exp}
use Rattle.prog_tree.specs.declared.tree.Function.{Function}
use Rattle.prog_tree.specs.declared.tree.Parameter.{Parameter}
use Rattle.prog_tree.specs.declared.tree.Rule.{Rule}
use Rattle.prog_pats.specs.of_prog_parts.Expressions as parts
use Rattle.prog_pats.specs.of_prog_parts.Expressions.{type_in, parameter_onto, dec_step}
use Rattle.prog_pats.proofs.of_prog_parts.Checks as checks
use Rattle.prog_pats.specs.Fits.{pat_fits}
use Rattle.prog_leaves.specs.Right.{has_type, is_known, has_known, is_function_type, exp_right, typed_right, rule_right, dropped_right, case_right, handle_right, raise_right, function_right, parameter_right, with_parameters, named_right, by_rules_right, member_right, group_right, plain_right, inner_right, val_right, decs_right, let_right}
use Rattle.prog_leaves.specs.Places.{IsPlace, Extends, Adds}
use Rattle.prog_leaves.specs.declared.scopes.Place.{Place}

-- Leaving

module _ {A : Type 0} where
  far : (a b : List A) → length b ≤ length (a ++ b)
  far [] b = omega arith
  far (x ∷ a) b = let r = far a b in omega (arith, r)

  behind : (a b : List A) → drop (length (a ++ b) - length b) (a ++ b) ≡ b
  behind [] b = let e : length b - length b ≡ 0 = omega arith in ap (λ n. drop n b) e
  behind (x ∷ a) b = let r = far a b in let e : suc (length (a ++ b)) - length b ≡ suc (length (a ++ b) - length b) = omega (arith, r) in ap (λ n. drop n (x ∷ (a ++ b))) e ∙ behind a b

  left-again : (a old now after : List A) (n : ℕ) → after ≡ drop (length now - n) now → now ≡ a ++ old → n ≡ length old → after ≡ old
  left-again a old now after n d g l = d ∙ ap (λ k. drop (length now - k) now) l ∙ ap (λ r. drop (length r - length old) r) g ∙ behind a old

  map-both : {B : Type 0} (f : A → B) (a b : List A) → map f (a ++ b) ≡ map f a ++ map f b
  map-both f [] b = refl
  map-both f (x ∷ a) b = ap (λ l. f x ∷ l) (map-both f a b)

made : List (ℕ × Mark) → List (ℕ × Known) → Environment
made p v = record { parameters = p; variables = v }

pub environment-by : (e f : Environment) → e.parameters ≡ f.parameters → e.variables ≡ f.variables → e ≡ f
unfolding made
environment-by e f p v = same
  where
    same : made e.parameters e.variables ≡ made f.parameters f.variables
    same = ap (λ p. made p e.variables) p ∙ ap (λ v. made f.parameters v) v

pub left : (to : Place) (e now after : Environment) → after.parameters ≡ drop (length now.parameters - to.parameters) now.parameters → after.variables ≡ drop (length now.variables - to.variables) now.variables
    → IsPlace to e → Extends e now → after ≡ e
left to e now after p v i x = environment-by after e
    (left-again x.further_parameters e.parameters now.parameters after.parameters to.parameters p x.parameters i.parameters)
    (left-again x.further_variables e.variables now.variables after.variables to.variables v x.variables i.variables)

pub extends-adds : (t : Tables) (old new : Environment) (f : Knowns → Knowns) → Adds t old new f → Extends old new
extends-adds t old new f a = record { further_parameters = []; further_variables = a.onto.added; parameters = a.parameters; variables = a.onto.grows }

-- parameters by their marks
row : Quantified → ℕ × Mark
row q = (q.variable, q.mark)

rows-back : (r : List (ℕ × Mark)) → map row (marks_of r) ≡ r
unfolding row
rows-back [] = refl
rows-back (x ∷ r) = ap (λ l. x ∷ l) (rows-back r)

pub extends-declared : (old new : Environment) (qs : List Quantified) → parameters_in new ≡ qs ++ parameters_in old → new.variables ≡ old.variables → Extends old new
extends-declared old new qs p v = record {
  further_parameters = map row qs;
  further_variables = [];
  parameters = sym (rows-back new.parameters) ∙ ap (map row) p ∙ map-both row qs (parameters_in old) ∙ ap (λ l. map row qs ++ l) (rows-back old.parameters);
  variables = v;
}

pub extends-same : (old new : Environment) → new ≡ old → Extends old new
extends-same old new e = record { further_parameters = []; further_variables = []; parameters = ap (λ e. e.parameters) e; variables = ap (λ e. e.variables) e }

pub extends-either : (old new : Environment) (qs : List Quantified) (b : Bool) → (b ≡ true → parameters_in new ≡ qs ++ parameters_in old) → (b ≡ false → new.parameters ≡ old.parameters) → new.variables ≡ old.variables → Extends old new
extends-either old new qs true p k v = extends-declared old new qs (p refl) v
extends-either old new qs false p k v = extends-same old new (environment-by new old (k refl) v)

pub adds-kept : (t : Tables) (old new after : Environment) (f : Knowns → Knowns) → after ≡ new → Adds t old new f → Adds t old after f
adds-kept t old new after f e a = subst (λ e. Adds t old e f) (sym e) a

pub extends-kept : (old new after : Environment) → after ≡ new → Extends old new → Extends old after
extends-kept old new after e x = subst (λ e. Extends old e) (sym e) x

pub extends-more : (old mid new : Environment) → Extends old mid → Extends mid new → Extends old new
extends-more old mid new a b = record {
  further_parameters = b.further_parameters ++ a.further_parameters;
  further_variables = b.further_variables ++ a.further_variables;
  parameters = b.parameters ∙ ap (λ l. b.further_parameters ++ l) a.parameters ∙ sym (assoc b.further_parameters a.further_parameters old.parameters);
  variables = b.variables ∙ ap (λ l. b.further_variables ++ l) a.variables ∙ sym (assoc b.further_variables a.further_variables old.variables);
}
  where
    assoc : {A : Type 0} (a b c : List A) → (a ++ b) ++ c ≡ a ++ (b ++ c)
    assoc [] b c = refl
    assoc (x ∷ a) b c = ap (λ l. x ∷ l) (assoc a b c)

-- In scopes

module _ (t : Tables) where
  exp-at : (e : Environment) (D : List Quantified) (G : Knowns) (x : Exp) → parameters_in e ≡ D → variables_in t e ≡ G → exp_right t e x ≡ parts.exp_holds t D G x
  unfolding exp_right
  exp-at e D G x p v = ap (λ D. parts.exp_holds t D (variables_in t e) x) p ∙ ap (λ G. parts.exp_holds t D G x) v

  pub known-at : (old new : Environment) (a : ℕ) → new.parameters ≡ old.parameters → is_known t new a ≡ is_known t old a
  unfolding is_known
  known-at old new a p = ap (λ p. over (marks_of p) (type_at t.types a)) p

  pub let-made : (old new : Environment) (a : ℕ) (ds : List Dec) (x : Exp) → Adds t old new (run (dec_step t) ds) → (decs_right t old ds && typed_right t new x a) ≡ let_right t old a ds x
  unfolding let_right
  let-made old new a ds x o =
      ap (λ b. decs_right t old ds && (b && has_type t x a)) (exp-at new (parameters_in old) (run (dec_step t) ds (variables_in t old)) x (ap marks_of o.parameters) o.onto.is)

  pub rule-made : (old new : Environment) (u w : ℕ) (r : Rule) → Adds t old new (pat_onto (known_by t Plain) (pat_of (reading t) r.pat) (type_at t.types u))
      → (pat_fits t old r.pat u && typed_right t new r.exp w) ≡ rule_right t old u w r
  unfolding rule_right has_type
  rule-made old new u w r o =
      ap (λ b. pat_fits t old r.pat u && (b && has_type t r.exp w))
      (exp-at new (parameters_in old) (pat_onto of_type (pat_of (reading t) r.pat) (type_at t.types u) (variables_in t old)) r.exp (ap marks_of o.parameters) o.onto.is)

  pub case-made : (e : Environment) (a : ℕ) (x : Exp) (rs : List Rule) (u : ℕ) → type_at t.types u ≡ type_in t x → (dropped_right t e x && all_hold (rule_right t e u a) rs) ≡ case_right t e a x rs
  unfolding case_right rule_right
  case-made e a x rs u i = ap (λ u. dropped_right t e x && all_hold (parts.rule_holds t (parameters_in e) (variables_in t e) u (type_at t.types a)) rs) i

  pub handle-made : (e : Environment) (a : ℕ) (x : Exp) (rs : List Rule) (exn : ℕ) → type_at t.types exn ≡ exn_type → (typed_right t e x a && all_hold (rule_right t e exn a) rs) ≡ handle_right t e a x rs
  unfolding handle_right rule_right
  handle-made e a x rs exn i = ap (λ u. typed_right t e x a && all_hold (parts.rule_holds t (parameters_in e) (variables_in t e) u (type_at t.types a)) rs) i

  pub raise-made : (e : Environment) (x : Exp) (exn : ℕ) → type_at t.types exn ≡ exn_type → typed_right t e x exn ≡ raise_right t e x
  unfolding raise_right has_type
  raise-made e x exn i = ap (λ u. exp_right t e x && same_type (type_in t x) u) i

  pub named-made : (old mid new : Environment) (xs : List Parameter) (x : Parameter) (b : Exp) → Adds t old mid (run (parameter_onto t) xs) → Adds t mid new (parameter_onto t x [])
      → (all_hold (parameter_right t old) xs && (parameter_right t mid x && exp_right t new b)) ≡ named_right t old xs x b
  unfolding named_right
  named-made old mid new xs x b o k =
      ap (λ r. all_hold (parameter_right t old) xs && (r && exp_right t new b)) (known-at old mid x.ty o.parameters)
      ∙ ap (λ r. all_hold (parameter_right t old) xs && (parameter_right t old x && r))
      (exp-at new (parameters_in old) ((x.variable, of_type (type_at t.types x.ty)) ∷ with_parameters t old xs) b (ap marks_of (k.parameters ∙ o.parameters))
      (k.onto.is ∙ ap (λ (G : Knowns). (x.variable, of_type (type_at t.types x.ty)) ∷ G) o.onto.is))

  rules-at : (e : Environment) (D : List Quantified) (G : Knowns) (u w : Typ) (rs : List Rule) → parameters_in e ≡ D → variables_in t e ≡ G
      → all_hold (parts.rule_holds t (parameters_in e) (variables_in t e) u w) rs ≡ check_rules (table_in t) D G (rules_of (map (rule_of (reading t)) rs)) u w
  rules-at e D G u w rs p v =
      ap (λ D. all_hold (parts.rule_holds t D (variables_in t e) u w) rs) p ∙ ap (λ G. all_hold (parts.rule_holds t D G u w) rs) v ∙ sym (checks.rules-hold t D G u w rs)

  pub by-rules-made : (old new : Environment) (xs : List Parameter) (a u : ℕ) (rs : List Rule) → Adds t old new (run (parameter_onto t) xs)
      → (all_hold (parameter_right t old) xs && (is_known t new a && all_hold (rule_right t new a u) rs)) ≡ by_rules_right t old xs a u rs
  unfolding by_rules_right rule_right
  by-rules-made old new xs a u rs o =
      ap (λ r. all_hold (parameter_right t old) xs && (r && all_hold (rule_right t new a u) rs)) (known-at old new a o.parameters)
      ∙ ap (λ r. all_hold (parameter_right t old) xs && (is_known t old a && r))
      (rules-at new (parameters_in old) (with_parameters t old xs) (type_at t.types a) (type_at t.types u) rs (ap marks_of o.parameters) o.onto.is)

  pub group-made : (old new : Environment) (fs : List (Vec ℕ Global × ℕ × Function)) → Adds t old new (funs_onto (known_by t Own) (funs_by (type_at t.types) (map (fun_of (reading t)) fs)))
      → all_hold (member_right t new) fs ≡ group_right t old fs
  unfolding group_right function_right is_function_type is_known
  group-made old new fs o =
      ap (λ D. all_hold (parts.member_holds t D (variables_in t new)) fs) (ap marks_of o.parameters) ∙ ap (λ G. all_hold (parts.member_holds t (parameters_in old) G) fs) o.onto.is

  module _ (ps : ℕ) (bs : List (Binding × Rule)) (fs : List (Vec ℕ Global × ℕ × Function)) where
    abbrev qs : List Quantified
    qs = parameters_at (parameters_of t) ps

    abbrev inside : List Quantified → Knowns → Bool → Bool
    inside D G plain = plain && (all_hold (parts.inner_holds t D G) bs && all_hold (parts.member_holds t D (funs_onto own (funs_by (type_at t.types) (map (fun_of (reading t)) fs)) G)) fs)

    val-new : (old new : Environment) → parameters_in new ≡ qs ++ parameters_in old → new.variables ≡ old.variables
        → (all_hold (plain_right t old) bs && (all_hold (inner_right t new) bs && group_right t new fs))
        ≡ ((all_hold (parts.plain_holds t (parameters_in old) (variables_in t old)) bs && all_hold (parts.inner_holds t (qs ++ parameters_in old) (variables_in t old)) bs)
        && all_hold (parts.member_holds t (qs ++ parameters_in old) (funs_onto own (funs_by (type_at t.types) (map (fun_of (reading t)) fs)) (variables_in t old))) fs)
    unfolding group_right exp_right has_type is_known
    val-new old new p v =
        ap (λ D. inside D (variables_in t new) (all_hold (plain_right t old) bs)) p
        ∙ ap (λ l. inside (qs ++ parameters_in old) (knowns_of t.types (parameters_of t) l) (all_hold (plain_right t old) bs)) v
        ∙ sym (checks.and-assoc (all_hold (plain_right t old) bs) (all_hold (parts.inner_holds t (qs ++ parameters_in old) (variables_in t old)) bs)
        (all_hold (parts.member_holds t (qs ++ parameters_in old) (funs_onto own (funs_by (type_at t.types) (map (fun_of (reading t)) fs)) (variables_in t old))) fs))

    -- whether the parameters are new, and what is asked of bindings and functions with them in scope
    pub val-made : (old new : Environment) (b : Bool) → b ≡ are_new qs (parameters_in old) → (b ≡ true → parameters_in new ≡ qs ++ parameters_in old) → new.variables ≡ old.variables
        → (b && (all_hold (plain_right t old) bs && (all_hold (inner_right t new) bs && group_right t new fs))) ≡ val_right t old ps bs fs
    unfolding val_right
    val-made old new true n p v = val-new old new (p refl) v
        ∙ ap (λ b. b && ((all_hold (parts.plain_holds t (parameters_in old) (variables_in t old)) bs && all_hold (parts.inner_holds t (qs ++ parameters_in old) (variables_in t old)) bs)
        && all_hold (parts.member_holds t (qs ++ parameters_in old) (funs_onto own (funs_by (type_at t.types) (map (fun_of (reading t)) fs)) (variables_in t old))) fs)) n
    val-made old new false n p v =
        ap (λ b. b && ((all_hold (parts.plain_holds t (parameters_in old) (variables_in t old)) bs && all_hold (parts.inner_holds t (qs ++ parameters_in old) (variables_in t old)) bs)
        && all_hold (parts.member_holds t (qs ++ parameters_in old) (funs_onto own (funs_by (type_at t.types) (map (fun_of (reading t)) fs)) (variables_in t old))) fs)) n
