-- What bindings and groups of functions become, as far as they have been gone through.
use Rattle.std.specs.Prelude.{◌≡◌, ℕ, suc, List, [], ◌∷◌, ◌++◌, map, Vec}
use Rattle.std.specs.Global.{Global}
use Rattle.ir_plain.specs.Tree as te
use Rattle.ir_poly.specs.Prog as t
use Rattle.ir_poly.specs.Tests.{Tests, poly}
use Rattle.match_compile.specs.Compile.{making, value_at, past_pat, spots, tests, together, shaped, past_shape, shape_spots, general_shape, bindings, past_binds, binds_spots, no_spots, functions, function, past_funs, past_fun, grouped, scoped, atom}
use Rattle.plain_tree.specs.TreeOf as plain
use Rattle.plain_tree.specs.declared.tree.Function.{Function}
use Rattle.plain_tree.specs.declared.tree.Step.{Step}
use Rattle.prog_tree.specs.TreeOf.{Reading, tree_of, pat_of, bind_of, fun_of, binds_by, funs_by}
use Rattle.prog_tree.specs.declared.tree.Binding.{Binding}
use Rattle.prog_tree.specs.declared.tree.Function as source
use Rattle.prog_tree.specs.declared.tree.Rule.{Rule}
use Rattle.general_bindings.specs.of_match_types.Views.{View, reading, Sees, Keeps}
use Rattle.general_bindings.specs.of_match_types.declared.work.Work.{Work}
use Rattle.general_bindings.specs.of_match_steps.Steps.{Leads, Puts}
use Rattle.general_bindings.specs.of_pattern_tests.Spots.{spots_onto}
use Rattle.general_bindings.specs.of_pattern_tests.declared.spots.Spot.{Spot}
use Rattle.general_bindings.specs.General.{listed}
use Rattle.match_pass.specs.Reading.{function_read}

abbrev pub binds_read : List (Binding × Rule) → Reading → t.Binds
binds_read bs R = binds_by R.type (map (bind_of R) bs)

abbrev pub bind_before : Binding × Rule → (Reading → t.Binds) → Reading → t.Binds
bind_before b bs R = t.a_bind b.0.place b.0.general (pat_of R b.1.pat) (R.type b.0.ty) (tree_of R b.1.exp) (bs R)

abbrev pub funs_read : List (Vec ℕ Global × ℕ × source.Function) → Reading → t.Funs
funs_read fs R = funs_by R.type (map (fun_of R) fs)

abbrev pub val_before : ℕ → List (Binding × Rule) → List (Vec ℕ Global × ℕ × source.Function) → (Reading → t.Decs) → Reading → t.Decs
val_before k bs fs ds R = t.val_dec (R.parameters k) (binds_read bs R) (funs_read fs R) (ds R)

-- bindings over the list k were made, and rest are those that are left of all
pub record Binds (old now : Work) (before after : List Step) (k : ℕ) (all rest : Reading → t.Binds) (found later : List Spot) : Type 0 where
  pub keeps : Keeps old now
  pub next : (v : View) → Sees now v → past_binds (listed k v) (rest v.source) now.next ≡ past_binds (listed k v) (all v.source) old.next
  pub spots : (v : View) → Sees now v
      → binds_spots (listed k v) (rest v.source) now.next (spots_onto v later no_spots) ≡ binds_spots (listed k v) (all v.source) old.next (spots_onto v found no_spots)
  pub leads : Leads now before after (λ v r. bindings v.scope v.names (listed k v) (all v.source) old.next r) (λ v r. bindings v.scope v.names (listed k v) (rest v.source) now.next r)

-- a binding over the list k that is generalised, with its value in the variable i
abbrev pub general_made : (k ty : ℕ) → Rule → (n : ℕ) → View → Tests → Tests
general_made k ty r n v rest =
    let p = pat_of v.source r.pat in let e = tree_of v.source r.exp in let u = v.source.type ty in
    let qs = listed k v in let D = listed k v ++ v.scope in let i = value_at e n in
    shaped (general_shape p) v.scope qs p u i rest (making D v.names e n (te.ret (atom i)))
    (making D v.names e n (tests D v.names p u (suc i) i (together D (spots p u (suc i) i no_spots) (past_pat p (suc i))))) rest

pub record Generalises (old new : Work) (before after : List Step) (k ty : ℕ) (r : Rule) (found later : List Spot) : Type 0 where
  pub keeps : Keeps old new
  pub next : (v : View) → Sees new v → new.next ≡ past_shape (general_shape (pat_of v.source r.pat)) (pat_of v.source r.pat) (v.source.type ty) (value_at (tree_of v.source r.exp) old.next)
  pub spots : (v : View) → Sees new v → spots_onto v later no_spots
      ≡ shape_spots (general_shape (pat_of v.source r.pat)) (pat_of v.source r.pat) (v.source.type ty) (value_at (tree_of v.source r.exp) old.next) (spots_onto v found no_spots)
  pub puts : Puts new before after (general_made k ty r old.next)

-- functions in front of a group
abbrev pub in_front : List (plain.FunctionTree poly) → te.Funs poly → te.Funs poly
in_front [] gs = gs
in_front (f ∷ fs) gs = te.fun f.variable f.type f.function (in_front fs gs)

-- functions of a group in the variables from b on were made, and rest, from c on, are those that are left of all
pub record Groups (old now : Work) (b c : ℕ) (all rest : Reading → t.Funs) (made : List Function) : Type 0 where
  pub keeps : Keeps old now
  pub next : (v : View) → Sees now v → past_funs (rest v.source) now.next ≡ past_funs (all v.source) old.next
  pub gives : (v : View) → Sees now v
      → in_front (map (plain.function_of (reading v)) made) (functions v.scope v.names (rest v.source) c now.next) ≡ functions v.scope v.names (all v.source) b old.next

-- one function more was made, in the variable c
pub record MemberMade (old new : Work) (f : Vec ℕ Global × ℕ × source.Function) (c : ℕ) (made more : List Function) : Type 0 where
  pub keeps : Keeps old new
  pub next : (v : View) → Sees new v → new.next ≡ past_fun (function_read f.2 v.source) old.next
  pub gives : (v : View) → Sees new v → map (plain.function_of (reading v)) more ≡ map (plain.function_of (reading v)) made
      ++ record { variable = c; type = scoped v.scope (v.source.type f.1); function = function v.scope v.names (function_read f.2 v.source) old.next } ∷ []

-- all of them, over the list k
abbrev pub grouping : (k : ℕ) → List (Vec ℕ Global × ℕ × source.Function) → (b n : ℕ) → View → Tests → Tests
grouping k fs b n v rest = grouped (listed k v) (functions (listed k v ++ v.scope) v.names (funs_read fs v.source) b n) rest
