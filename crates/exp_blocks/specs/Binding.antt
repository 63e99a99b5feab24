-- Names that are bound, and parameters that come into scope.
use Rattle.std.specs.Prelude.{◌≡◌, ℕ, suc, true, List, ◌∷◌, ◌++◌}
use Rattle.ty_core.specs.Types.{Typ}
use Rattle.ty_core.specs.declared.mark.Mark.{Mark}
use Rattle.ty_core.specs.declared.scheme.Quantified.{Quantified}
use Rattle.ir_poly.specs.Prog as t
use Rattle.ir_poly.specs.Types.{in_scope}
use Rattle.ir_known.specs.Knows.{marks_of}
use Rattle.match_compile.specs.Compile.{Names, Spots, spots, spots_named, fits_all, function, past_fun}
use Rattle.match_names.specs.Bindings.{names_of}
use Rattle.plain_tree.specs.declared.tree.Parameter.{Parameter}
use Rattle.prog_tree.specs.TreeOf.{Reading, after_parameters, pat_of}
use Rattle.prog_tree.specs.declared.tree.Parameter as source
use Rattle.prog_tree.specs.declared.tree.Pat.{Pat}
use Rattle.exp_steps.specs.of_match_types.Views.{View, reading, Sees, Stands, in_view}
use Rattle.exp_steps.specs.of_match_types.declared.work.Work.{Work}
use Rattle.exp_steps.specs.of_match_types.declared.work.ValueType.TheVariants.{Source}
use Rattle.exp_blocks.specs.Giving.{Grows, Ends, parameters_before}

-- a list of parameters is in scope, before those that were
pub record InScope (old new : List (ℕ × Mark)) (qs : List Quantified) : Type 0 where
  pub ends : Ends old new
  pub scope : (x : ℕ) → in_scope (marks_of new) x ≡ in_scope (qs ++ marks_of old) x

-- a parameter of the source has got the next number
pub record Bound (old new : Work) (x : source.Parameter) (made : Parameter) : Type 0 where
  pub grows : Grows old new
  pub scope : new.scope ≡ old.scope
  pub names : new.names ≡ (x.variable, old.next) ∷ old.names
  pub next : new.next ≡ suc old.next
  pub variable : made.variable ≡ old.next
  pub type : Stands new made.ty (in_view (Source x.ty))

-- so have all of a list, and these stand before any function
pub record AllBound (old new : Work) (xs : List source.Parameter) (made : List Parameter) : Type 0 where
  pub grows : Grows old new
  pub scope : new.scope ≡ old.scope
  pub ends : Ends old.names new.names
  pub past : (R : Reading) (f : t.Fun) → past_fun f new.next ≡ past_fun (after_parameters R xs f) old.next
  pub gives : (v : View) → Sees new v → (f : t.Fun)
      → parameters_before (reading v) made (function v.scope v.names f new.next)
      ≡ function v.scope (names_of old.names) (after_parameters v.source xs f) old.next

-- the variables of a pattern that any value fits are the value a, in front of those found before
pub record Fits (old new : List (ℕ × ℕ)) (p : Pat) (a : ℕ) : Type 0 where
  pub ends : Ends old new
  pub names : (R : Reading) (u : Typ) (n : ℕ) (vs : Spots) (N : Names) → fits_all (pat_of R p) ≡ true → names_of old ≡ spots_named vs N
      → names_of new ≡ spots_named (spots (pat_of R p) u n a vs) N
