-- A group's functions, bound from the last one to the first.
use Rattle.std.proofs.Common.{◌≡◌, ◌↔◌, ℕ, zero, suc, ◌+◌, ◌-◌, ◌<◌, ◌≤◌, Bool, true, false, List, [], ◌∷◌, ◌++◌, map, length, drop, Option, Some, None, nat_eq, cond, slice_index_or, IsTrue, refl, sym, ap, ◌∙◌, subst, arith}
use Rattle.std.specs.Map.{lookup}
use Rattle.ty_core.specs.Types.{Typ}
use Rattle.ty_table.specs.TypeAt.{type_at}
use Rattle.ir_plain.specs.Tree as clean
use Rattle.ir_poly.specs.Tests.{poly}
use Rattle.ir_poly.specs.TestsChecked as typing
use Rattle.ir_poly.specs.TestsChecked.{Knowns, at, group_knowns, own}
use Rattle.ir_tables.specs.declared.tables.Tables.{Tables}
use Rattle.ir_tables.specs.Tables.{parameters_of}
use Rattle.ir_known.specs.declared.known.Known.{Known}
use Rattle.ir_known.specs.Knows.{known_of}
use Rattle.plain_tree.specs.declared.tree.Exp.{Exp}
use Rattle.plain_tree.specs.declared.tree.Exp.TheFolds.{fold-roll-Function}
use Rattle.plain_tree.specs.declared.tree.Step.{Step}
use Rattle.plain_tree.specs.declared.tree.Arm.{Arm}
use Rattle.plain_tree.specs.declared.tree.Function.{Function, Function-F}
use Rattle.plain_tree.specs.TreeOf.{Reading, StepTree, ArmTree, funs_of, function_of, FunctionTree, node_exp, node_step, node_arm, node_function}
use Rattle.tests_check.specs.Fits.{FunsNew}
use Rattle.tests_check.specs.Reads.{reading}
use Rattle.tests_check.specs.Walk.{Names, all, local, Grows, Gathers}
use Rattle.tests_check.proofs.Steps.{grows-none, grows-more, grows-one}

-- what a function of the code stands for, by its fields
abbrev fields : Function → Function-F Exp Step Arm Function
fields g = record { variable = g.variable; ty = g.ty; parameters = g.parameters; last = g.last; body = g.body }

pub function-variable : (R : Reading poly) (g : Function) → (function_of R g).variable ≡ R.binder g.variable
function-variable R g = ap (λ (f : FunctionTree poly). f.variable) (fold-roll-Function (clean.Exp poly) (StepTree poly) (ArmTree poly) (FunctionTree poly) (node_exp R) (node_step R) (node_arm R) (node_function R) (fields g))

pub function-type : (R : Reading poly) (g : Function) → (function_of R g).type ≡ R.type g.ty
function-type R g = ap (λ (f : FunctionTree poly). f.type) (fold-roll-Function (clean.Exp poly) (StepTree poly) (ArmTree poly) (FunctionTree poly) (node_exp R) (node_step R) (node_arm R) (node_function R) (fields g))

-- whether a variable is known doesn't rest on what the functions are
group-none : (f g : Typ → typing.Known) (fs : clean.Funs poly) (G : Knowns) (x : ℕ) → at (group_knowns f fs G) x ≡ None → at (group_knowns g fs G) x ≡ None
group-none f g clean.no_funs G x e = e
group-none f g (clean.fun y t h fs) G x e = by (nat_eq x y) (group-none f g fs G x) e
  where
    by : (b : Bool) → (at (group_knowns f fs G) x ≡ None → at (group_knowns g fs G) x ≡ None) → cond b (Some (f t)) (at (group_knowns f fs G) x) ≡ None → cond b (Some (g t)) (at (group_knowns g fs G) x) ≡ None
    by true h e = absurd (cc)
    by false h e = h e

module _ (t : Tables) (f : Typ → typing.Known) where
  abbrev group : List Function → ℕ → clean.Funs poly
  group fs n = funs_of (drop n (map (function_of (reading t)) fs))

  -- the functions from n on are bound
  pub record Gathered (old now : Names) (fs : List Function) (n : ℕ) : Type 0 where
    pub within : n ≤ length fs
    pub bound : Gathers t f old now (group fs n)

  none-yet : (fs : List Function) → group fs (length fs) ≡ clean.no_funs
  none-yet [] = refl
  none-yet (g ∷ fs) = none-yet fs

  pub gather-first : (s : Names) (fs : List Function) (n : ℕ) → n ≡ length fs → Gathered s s fs n
  gather-first s fs n e = record {
    within = omega arith;
    bound = subst (Gathers t f s s) (sym (ap (group fs) e ∙ none-yet fs)) (record { each_new = tt; grows = grows-none s; onto_all = refl; onto_local = refl });
  }

  there : (fs : List Function) (n : ℕ) (g : Function) → n < length fs → g ≡ slice_index_or fs n g
      → group fs n ≡ clean.fun (function_of (reading t) g).variable (function_of (reading t) g).type (function_of (reading t) g).function (group fs (suc n))
  there [] n g lt e = absurd (omega arith)
  there (h ∷ fs) zero g lt e =
      ap (λ h. clean.fun (function_of (reading t) h).variable (function_of (reading t) h).type (function_of (reading t) h).function (funs_of (map (function_of (reading t)) fs))) (sym e)
  there (h ∷ fs) (suc n) g lt e = there fs n g (omega arith) e

  pub gather-next : (old now new : Names) (fs : List Function) (g : Function) (n x ty : ℕ) (k : Known) → n < length fs → g ≡ slice_index_or fs n g → Gathered old now fs (suc n) → (function_of (reading t) g).variable ≡ x
      → (function_of (reading t) g).type ≡ type_at t.types ty → known_of t.types (parameters_of t) k ≡ f (type_at t.types ty) → at (all t now) x ≡ None → new ≡ ((x, k) ∷ now.0, now.1) → Gathered old new fs n
  gather-next old now new fs g n x ty k lt e b vx vt kn none is = record {
    within = omega arith;
    bound = subst (Gathers t f old new) (sym (there fs n g lt e)) (record {
      each_new = (
        group-none f own (group fs (suc n)) (all t old) (function_of (reading t) g).variable (subst (λ G. at G (function_of (reading t) g).variable ≡ None) b.bound.onto_all (subst (λ y. at (all t now) y ≡ None) (sym vx) none)),
        b.bound.each_new,
      );
      grows = grows-more old now new b.bound.grows (grows-one now new (x, k) is);
      onto_all = ap (all t) is ∙ ap (λ G. (x, known_of t.types (parameters_of t) k) ∷ G) b.bound.onto_all ∙ ap (λ r. (x, r) ∷ group_knowns f (group fs (suc n)) (all t old)) stands
          ∙ ap (λ y. (y, f (function_of (reading t) g).type) ∷ group_knowns f (group fs (suc n)) (all t old)) (sym vx);
      onto_local = ap (local t) is ∙ ap (λ G. (x, known_of t.types (parameters_of t) k) ∷ G) b.bound.onto_local ∙ ap (λ r. (x, r) ∷ group_knowns f (group fs (suc n)) (local t old)) stands
          ∙ ap (λ y. (y, f (function_of (reading t) g).type) ∷ group_knowns f (group fs (suc n)) (local t old)) (sym vx);
    });
  }
    where
      stands : known_of t.types (parameters_of t) k ≡ f (function_of (reading t) g).type
      stands = kn ∙ ap f (sym vt)

  later-new : (G : Knowns) (fs : List (FunctionTree poly)) (n : ℕ) → FunsNew G (funs_of fs) → FunsNew G (funs_of (drop n fs))
  later-new G fs zero p = p
  later-new G [] (suc n) p = p
  later-new G (g ∷ fs) (suc n) p = later-new G fs n p.1

  pub gather-stops : (old now : Names) (fs : List Function) (g : Function) (n x : ℕ) → n < length fs → g ≡ slice_index_or fs n g → Gathered old now fs (suc n) → (function_of (reading t) g).variable ≡ x
      → (at (all t now) x ≡ None → ⊥) → FunsNew (all t old) (funs_of (map (function_of (reading t)) fs)) → ⊥
  gather-stops old now fs g n x lt e b vx known p = known (subst (λ y. at (all t now) y ≡ None) vx
      (subst (λ G. at G (function_of (reading t) g).variable ≡ None) (sym b.bound.onto_all) (group-none own f (group fs (suc n)) (all t old) (function_of (reading t) g).variable
      (subst (FunsNew (all t old)) (there fs n g lt e) (later-new (all t old) (map (function_of (reading t)) fs) n p)).0)))

  pub gather-all : (old now : Names) (fs : List Function) (n : ℕ) → n ≡ 0 → Gathered old now fs n → Gathers t f old now (funs_of (map (function_of (reading t)) fs))
  gather-all old now fs n e b = subst (λ n. Gathers t f old now (group fs n)) e b.bound
