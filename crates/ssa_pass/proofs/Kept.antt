-- What the pass keeps, from what is claimed of the function that it computes.
use Rattle.std.proofs.Common.{◌≡◌, ℕ, ◌+◌, ◌≤◌, List, [], ◌∷◌, ◌++◌, map, All, Contains, sym, ap, ◌∙◌, subst}
use Rattle.std.proofs.lemmas.List.Elements.{All-cons, All-head, All-tail, All-weaker, All-contains_itself, Contains-append_left}
use Rattle.std.specs.List.{AllByRecursion}
use Rattle.mlc_runs.specs.Passes.{BringsNone, initial_exceptions}
use Rattle.first_values.specs.Operations.{Tables}
use Rattle.ir_first.specs.Tree as f
use Rattle.ir_first.specs.Meaning as before
use Rattle.ir_first.specs.WellFormed as f_formed
use Rattle.ir_first.specs.Size as f_size
use Rattle.ir_ssa.specs.Tree as s
use Rattle.ir_ssa.specs.Meaning as after
use Rattle.ir_ssa.specs.WellFormed as s_formed
use Rattle.ir_ssa.specs.Size as s_size
use Rattle.first_tree.specs.Exceptions as old
use Rattle.ssa_tree.specs.Exceptions as new
use Rattle.ssa_build.specs.Build.{build_fun, ssa}
use Rattle.ssa_build.specs.Laws.{IsPart, nothing, kept, left, SameMeaning, StaysWellFormed, StaysSmall, NeedsNoMoreAtOnce, MakesNoMore}
use Rattle.ssa_pass.specs.Bounds.{FunFitsBefore, FunFitsAfter, FitBefore, FitAfter}

pub all-fit : NeedsNoMoreAtOnce → (n : ℕ) (funs : List f.Fun) → AllByRecursion (FunFitsBefore n) funs → AllByRecursion (FunFitsAfter n) (map build_fun funs)
all-fit law n [] w = w
all-fit law n (g ∷ funs) w = ((w.0.0, w.0.1, law w.0.0 g.body w.0.2), all-fit law n funs w.1)

part-all : (P : ℕ → Type 0) {xs ys : List ℕ} → IsPart xs ys → All P ys → All P xs
part-all P nothing w = w
part-all P (kept x xs ys p) w = All-cons P x xs (All-head P x ys w) (part-all P p (All-tail P x ys w))
part-all P (left x xs ys p) w = part-all P p (All-tail P x ys w)

pub brings-none : MakesNoMore → (p : f.Program) → BringsNone (old.exceptions p) (new.exceptions (ssa p))
brings-none law p =
    let given = old.exceptions p in
    part-all (Contains (given ++ initial_exceptions)) (law p)
    (All-weaker (Contains given) (Contains (given ++ initial_exceptions)) (λ x h. Contains-append_left given initial_exceptions x h) given (All-contains_itself given))

abbrev with_funs : Tables → List s.Fun → s.Program
with_funs T funs = record { tables = T; funs = funs }

pub program-built : (T : Tables) (made : List s.Fun) (seen funs : List f.Fun) → made ≡ map build_fun seen → seen ≡ funs → with_funs T made ≡ ssa (record { tables = T; funs = funs })
program-built T made seen funs e h = ap (with_funs T) (e ∙ ap (map build_fun) h)

-- what is claimed of the function holds of what was made
module _ (q : s.Program) (p : f.Program) (e : q ≡ ssa p) where
  pub same-outcome : SameMeaning → (turns : ℕ) → after.meaning q turns ≡ before.meaning p turns
  same-outcome law turns = ap (λ r. after.meaning r turns) e ∙ law p turns

  pub formed : StaysWellFormed → f_formed.IsWellFormed p → s_formed.IsWellFormed q
  formed law w = subst s_formed.IsWellFormed (sym e) (law p w)

  pub kept-small : StaysSmall → s_size.nodes_funs q.funs ≤ f_size.nodes_funs p.funs + f_size.nodes_funs p.funs
  kept-small law = subst (λ r. s_size.nodes_funs r.funs ≤ f_size.nodes_funs p.funs + f_size.nodes_funs p.funs) (sym e) (law p)

  pub kept-at-once : NeedsNoMoreAtOnce → (n : ℕ) → FitBefore n p → FitAfter n q
  kept-at-once law n w = subst (FitAfter n) (sym e) (all-fit law n p.funs w)

  pub kept-exceptions : MakesNoMore → BringsNone (old.exceptions p) (new.exceptions q)
  kept-exceptions law = subst (λ r. BringsNone (old.exceptions p) (new.exceptions r)) (sym e) (brings-none law p)
