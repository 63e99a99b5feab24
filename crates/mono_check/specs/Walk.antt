-- What is asked of the parts of a tree where they stand, and what they bring into scope.
use Rattle.std.specs.Prelude.{◌≡◌, ℕ, Bool, true, false, ◌&&◌, List, [], ◌∷◌, ◌++◌, map, Option, Some, None, if◌then◌else◌}
use Rattle.ir_plain.specs.Tree as clean
use Rattle.ir_mono.specs.Mono.{mono}
use Rattle.ir_known.specs.declared.known.Known.{Known}
use Rattle.ir_known.specs.declared.known.Known.TheVariants.{OfType}
use Rattle.plain_tree.specs.declared.tree.Parameter.{Parameter}
use Rattle.plain_tree.specs.declared.tree.Case.{Case}
use Rattle.plain_tree.specs.declared.tree.Case.TheVariants as case
use Rattle.plain_tree.specs.declared.tree.Function.{Function}
use Rattle.plain_tree.specs.TreeOf.{ArmTree, fun_of, funs_of, function_of}
use Rattle.mono_fits.specs.Asked.{given, result_from}
use Rattle.mono_fits.specs.Fits.{is_new, are_new, case_onto, case_fits, exp_fits, arms_fit, op_fits, fun_fits, funs_fit}
use Rattle.mono_operations.specs.Reads.{reading, Names, local, all}
use Rattle.mono_operations.specs.declared.tables.Tables.{Tables}

-- a variable comes into scope
abbrev pub holding : Names → ℕ → Known → Names
holding s x k = ((x, k) ∷ s.0, s.1)

-- what an arm binds
abbrev pub opened : Case → Names → Names
opened (case.Constant c) s = s
opened (case.Constructor c) s = s
opened (case.ConstructorOf c x) s = holding s x.variable (OfType x.ty)
opened (case.Exception a) s = s
opened (case.ExceptionOf a x) s = holding s x.variable (OfType x.ty)
opened (case.Record size) s = s

-- the functions of a group, the first one in front
abbrev pub gathered : List Function → Names → Names
gathered [] s = s
gathered (f ∷ fs) s = holding (gathered fs s) f.variable (OfType f.ty)

-- more is in scope than was
pub record IsMore (old new : Names) : Type 0 where
  pub added : List (ℕ × Known)
  pub within : new.0 ++ new.1 ≡ added ++ (old.0 ++ old.1)

module _ (t : Tables) where
  abbrev pub fits : Bool → Names → clean.Exp (mono t.types) → ℕ → Bool
  fits m s e u = exp_fits t.types t.exn m (all s) (local s) e u

  -- attempts, behind each of which a miss goes on
  abbrev pub all_fit : Names → List (clean.Exp (mono t.types)) → ℕ → Bool
  all_fit s [] u = true
  all_fit s (e ∷ es) u = fits true s e u && all_fit s es u

  abbrev pub op_right : Names → clean.Op (mono t.types) → ℕ → Bool
  op_right s o u = op_fits t.types t.exn (all s) (local s) o u

  abbrev pub case_right : Names → clean.Case (mono t.types) → ℕ → Bool
  case_right s c u = case_fits t.types t.exn (all s) (local s) c u

  abbrev pub arm_right : Names → ArmTree (mono t.types) → ℕ → ℕ → Bool
  arm_right s a u v =
      case_right s a.case u && exp_fits t.types t.exn true (case_onto t.types t.exn a.case (all s)) (case_onto t.types t.exn a.case (local s)) a.body v

  abbrev pub arms_right : Names → clean.Arms (mono t.types) → ℕ → ℕ → Bool
  arms_right s arms u v = arms_fit t.types t.exn (all s) (local s) arms u v

  -- a handler, which the packet comes into scope for
  abbrev pub handler_right : Names → ℕ → clean.Exp (mono t.types) → ℕ → Bool
  handler_right s x h u = is_new (all s) x && fits false (holding s x (OfType t.exn)) h u

  abbrev pub fun_right : Names → clean.Fun (mono t.types) → ℕ → Bool
  fun_right s f u = fun_fits t.types t.exn (all s) f u

  -- the functions of a group, in whose scope they are
  abbrev pub functions_right : Names → List Function → Bool
  functions_right s fs = funs_fit t.types t.exn (all s) (funs_of (map (function_of (reading t)) fs))

  -- they are new, and each once
  abbrev pub functions_new : Names → List Function → Bool
  functions_new s fs = are_new t.types t.exn (all s) (funs_of (map (function_of (reading t)) fs))

  -- what a function of the type u gives, if it takes this parameter, which is new
  abbrev pub taken : Names → Parameter → ℕ → Option ℕ
  taken s x u = if is_new (all s) x.variable then result_from t.types u x.ty else None

-- What stands in front of an expression: with it fits what fits in what is in scope behind it, if it fits itself. Where a miss goes on this is said at the
-- type v alone.
pub record Brings (t : Tables) (m : Bool) (v : ℕ) (old new : Names) (yes : Bool) (before : clean.Exp (mono t.types) → clean.Exp (mono t.types)) : Type 0 where
  pub grows : yes ≡ true → IsMore old new
  pub whole : (e : clean.Exp (mono t.types)) (u : ℕ) → (m ≡ true → u ≡ v) → fits t m old (before e) u ≡ (yes && fits t m new e u)

-- a function of these parameters and a last one fits at the type u where its body fits at what it gives, if it gives anything
pub record Enters (t : Tables) (old new : Names) (xs : List Parameter) (x : Parameter) (u : ℕ) (found : Option ℕ) : Type 0 where
  pub grows : (v : ℕ) → found ≡ Some v → IsMore old new
  pub whole : (e : clean.Exp (mono t.types)) → fun_right t old (fun_of (reading t) xs x e) u ≡ given found (fits t false new e)
