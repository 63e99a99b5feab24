-- Tests and functions that stand by themselves, and works whose names or scope changed.
use Rattle.std.specs.Prelude.{◌≡◌, ◌≤◌, ◌-◌, ℕ, Bool, not, List, [], ◌∷◌, length, take, drop}
use Rattle.ty_core.specs.declared.scheme.Quantified.{Quantified}
use Rattle.ir_plain.specs.Tree as te
use Rattle.ir_poly.specs.Tests.{Tests, poly}
use Rattle.ir_values.specs.Values.{truth_number}
use Rattle.ir_values.specs.Primitives.{match_name, bind_name}
use Rattle.match_compile.specs.Compile.{Names, Otherwise, again, initial, atom, bool_type}
use Rattle.plain_tree.specs.TreeOf.{Reading, tree_of, fun_of}
use Rattle.plain_tree.specs.declared.tree.Exp.{Exp}
use Rattle.plain_tree.specs.declared.tree.Parameter.{Parameter}
use Rattle.exp_steps.specs.of_match_types.Views.{View, reading, Sees}
use Rattle.exp_steps.specs.of_match_types.declared.work.Work.{Work}
use Rattle.exp_blocks.specs.declared.blocks.Otherwise as code
use Rattle.exp_blocks.specs.declared.blocks.Otherwise.TheVariants as others
use Rattle.exp_blocks.specs.declared.blocks.Lambda.{Lambda}

abbrev pub otherwise_of : code.Otherwise → Otherwise
otherwise_of others.Again = again
otherwise_of others.Match = initial match_name
otherwise_of others.Bind = initial bind_name

-- what tests are, wherever the work is seen
pub record Gives (w : Work) (e : Exp) (f : View → Tests) : Type 0 where
  pub gives : (v : View) → Sees w v → tree_of (reading v) e ≡ f v

abbrev pub lambda_of : View → Lambda → te.Fun poly
lambda_of v l = fun_of (reading v) l.parameters.items l.last (tree_of (reading v) l.body)

pub record GivesFun (w : Work) (l : Lambda) (f : View → te.Fun poly) : Type 0 where
  pub gives : (v : View) → Sees w v → lambda_of v l ≡ f v

-- what comes next comes where the value i is the truth value b; else the value is the other one
abbrev pub linking : Bool → (i : ℕ) → View → Tests → Tests
linking b i v rest =
    te.switch (atom i) bool_type (te.arm (te.is_con (truth_number b)) rest (te.arm (te.is_con (truth_number (not b))) (te.ret (atom i)) te.no_arms))

-- parameters before a function
abbrev pub parameters_before : Reading poly → List Parameter → te.Fun poly → te.Fun poly
parameters_before R [] f = f
parameters_before R (x ∷ xs) f = te.more (R.binder x.variable) (R.type x.ty) (parameters_before R xs f)

-- all stays but names, scope and the next number; types are added
pub record Grows (old new : Work) : Type 0 where
  pub types : take (length old.tables.types) new.tables.types ≡ old.tables.types
  pub longer : length old.tables.types ≤ length new.tables.types
  pub first : new.first ≡ old.first
  pub initial : new.tables.initial ≡ old.tables.initial
  pub constructors : new.tables.constructors ≡ old.tables.constructors
  pub parameters : new.tables.parameters ≡ old.tables.parameters
  pub strings : new.tables.strings ≡ old.tables.strings

-- elements were put in front
pub record Ends {A : Type 0} (old new : List A) : Type 0 where
  pub longer : length old ≤ length new
  pub ends : drop (length new - length old) new ≡ old

-- seen with another scope and other names
abbrev pub over : View → List Quantified → Names → View
over v D N = record { source = v.source; scope = D; names = N; types = v.types; parameters = v.parameters; strings = v.strings }
