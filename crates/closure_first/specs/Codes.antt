-- The functions of a converted program as the code makes them: along its tree, steps in a row first, then what comes of them, and then the other arms of their
-- tests, those of the last test first.
use Rattle.std.specs.Prelude.{◌≡◌, ℕ, zero, Bool, true, List, [], ◌∷◌, ◌++◌, map}
use Rattle.ir_plain.specs.Tree as m
use Rattle.ir_plain.specs.Tree.{Fun, last, more}
use Rattle.ir_mono.specs.Types as table
use Rattle.ir_mono.specs.Mono.{mono, Mono}
use Rattle.ir_first.specs.Tree as out
use Rattle.flow_sets.specs.Flow.{Flow, number_of}
use Rattle.plain_tree.specs.declared.tree.Parameter.{Parameter}
use Rattle.plain_tree.specs.TreeOf.{fun_of, StepTree, let_step, exception_step, name_step, rec_step, test_step, counted_step}
use Rattle.mono_bound.specs.Reads.{reading}
use Rattle.closure_convert.specs.Scope.{Member, Scope, Table, top}
use Rattle.closure_convert.specs.Closed.{scope_of, members, leader}
use Rattle.closure_bodies.specs.of_capture_table.Told.{first_parameter}
use Rattle.first_tree.specs.declared.tree.Fun as made
use Rattle.first_tree.specs.TreeOf as made_tree
use Rattle.closure_meaning.specs.Convert.{Numbering, given, var, convert, making, self_name, opening, codes, codes_arms, codes_op, codes_funs}

abbrev pub Before : Type 0
Before = List out.Fun → List out.Fun

-- behind the old functions, the new ones have these
abbrev pub Adds : (old new : List made.Fun) → Before → Type 0
Adds old new put = (cs : List out.Fun) → map made_tree.fun_of old ++ put cs ≡ map made_tree.fun_of new ++ cs

-- a scope of what the function g captured, and of the functions of this group
abbrev pub IsOf : Table → Scope → (g : ℕ) → List Member → Type 0
IsOf T s g ms = (s.captured ≡ T.captured g) × (s.group ≡ ms)

-- the same but for what is bound
abbrev pub IsSameGroup : Scope → Scope → Type 0
IsSameGroup s r = (r.captured ≡ s.captured) × (r.group ≡ s.group)

-- one after the other
abbrev pub in_order : {A : Type 0} → (A → Before) → List A → Before
in_order f [] cs = cs
in_order f (x ∷ xs) cs = f x (in_order f xs cs)

-- the last first
abbrev pub last_first : {A : Type 0} → (A → Before) → List A → Before
last_first f [] cs = cs
last_first f (x ∷ xs) cs = last_first f xs (f x cs)

-- the number of a group's first function
abbrev pub lead : List Member → ℕ
lead [] = zero
lead (m ∷ ms) = m.number

module _ (n : Numbering) (types : List table.Row) (F : Flow) (T : Table) where
  -- a function of a closure and the parameter x
  abbrev pub entered : Bool → (x : ℕ) → out.Exp → out.Fun
  entered q x e = record { params = self_name n types F T q ∷ var x ∷ []; body = opening n types F T q e }

  -- with its parameter x, a function of several gives the closure of the function k
  abbrev pub giving : Bool → (g : ℕ) → List Member → (x k : ℕ) → out.Fun
  giving q g ms x k = entered q x (making n types F T (scope_of (T.captured g) ms x) given k (out.ret given))

  -- with its last parameter a function does what its body says
  abbrev pub taking : Bool → (g : ℕ) → List Member → (x : ℕ) → Mono types → out.Fun
  taking q g ms x e = entered q x (convert n types F T (scope_of (T.captured g) ms x) e)

  -- the codes of a function, but for those of the functions in its body
  abbrev pub heads : Bool → (g : ℕ) → List Member → Fun (mono types) → Before
  heads q g ms (last x t e) cs = taking q g ms x e ∷ cs
  heads q g ms (more x t f) cs = giving q g ms x (number_of types f) ∷ heads true (number_of types f) [] f cs

  -- those of a function alone, of these parameters and a last one
  abbrev pub alone : (strings : List (List ℕ)) → List Parameter → Parameter → Mono types → Before
  alone strings ys x e = heads true (first_parameter ys x) [] (fun_of (reading types strings) ys x e)

  -- those of the functions of a group, and of those in them
  abbrev pub group_codes : m.Funs (mono types) → Before
  group_codes fs = codes_funs n types F T true (leader types fs) (members types fs) fs

  -- those of a step, but for the other arms of a test
  abbrev pub front : StepTree (mono types) → Before
  front (let_step x ps t o) cs = codes_op n types F T o cs
  front (exception_step x i t) cs = cs
  front (name_step x y) cs = cs
  front (rec_step ps fs) cs = group_codes fs cs
  front (test_step a u c others) cs = cs
  front (counted_step k) cs = cs

  -- those of the other arms
  abbrev pub back : StepTree (mono types) → Before
  back (let_step x ps t o) cs = cs
  back (exception_step x i t) cs = cs
  back (name_step x y) cs = cs
  back (rec_step ps fs) cs = cs
  back (test_step a u c others) cs = codes_arms n types F T others cs
  back (counted_step k) cs = cs

  -- the functions of a program with this body: the program itself first
  abbrev pub functions_of : Mono types → List out.Fun
  functions_of e = record { params = []; body = convert n types F T top e } ∷ codes n types F T e []
