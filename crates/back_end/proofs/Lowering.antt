-- The definitions of the passes, one behind the other.
use Rattle.std.proofs.Common.{◌≡◌, ℕ, ◌≤◌, suc, List, [], Option, Some, None, option_map, unwrap_or, All, Contains, refl, sym, ap, ◌∙◌, subst}
use Rattle.std.proofs.lemmas.List.Elements.{All-append, All-cons, All-contains, All-contains_itself, All-head, All-same, All-tail, All-weaker, Contains-append_left, Contains-append_right}
use Rattle.mlc_runs.specs.Passes.{greatest_expansion}
use Rattle.ir_poly.specs.Tests.{Tests}
use Rattle.ir_poly.specs.WellFormed as tests
use Rattle.ir_poly.specs.WellFormed.{table_of}
use Rattle.ir_mono.specs.Mono as mono
use Rattle.ir_first.specs.Tree as first
use Rattle.ir_ssa.specs.Tree as out
use Rattle.ir_tables.specs.Tables.{initial_of, strings_of}
use Rattle.match_pass.specs.of_ir_prog.Programs.{body_in, exceptions, expansion, tests_in}
use Rattle.match_pass.specs.of_ir_prog.declared.program.Program.{Program}
use Rattle.match_compile.specs.Exceptions.{tests_made}
use Rattle.match_compile.specs.Laws.{KeepsExceptions}
use Rattle.monomorphise.specs.Counting.{expansion_within}
use Rattle.monomorphise.specs.Laws.{IsCounted, monomorphise, monomorphised}
use Rattle.monomorphise.specs.Monomorphise.{copies}
use Rattle.mono_exceptions.specs.Laws.{MakesNoMore}
use Rattle.closure_pass.specs.of_closure_whole.Whole.{without_functions}
use Rattle.closure_pass.specs.Given.{texts}
use Rattle.closure_pass.specs.Laws.{WithoutFunctionsMakesNoMore}
use Rattle.first_tree.specs.Exceptions as before
use Rattle.ssa_tree.specs.Exceptions as after
use Rattle.ssa_build.specs.Build.{ssa}
use Rattle.ssa_build.specs.Laws.{IsPart, nothing, kept, left}
use Rattle.ssa_build.specs.Laws as built
use Rattle.back_end.specs.Lowered.{identifiers, ssa_of}

-- what is so of each element of a list is so of those of a part of it, and of those that it contains

pub part-all : (P : ℕ → Type 0) {xs ys : List ℕ} → IsPart xs ys → All P ys → All P xs
part-all P nothing w = w
part-all P (kept x xs ys p) w = All-cons P x xs (All-head P x ys w) (part-all P p (All-tail P x ys w))
part-all P (left x xs ys p) w = part-all P p (All-tail P x ys w)

pub contained : (P : ℕ → Type 0) (xs ys : List ℕ) → All P xs → All (Contains xs) ys → All P ys
contained P xs ys h k = All-weaker (Contains xs) P (λ x c. All-contains P xs x h c) ys k

-- where there are copies, they are those with a count
made-by : (t : tests.Program Tests) (o : Option ℕ) (m : mono.Program) → option_map (monomorphised t) o ≡ Some m → (n : ℕ) × (o ≡ Some n) × (m ≡ monomorphised t n)
made-by t None m h = absurd (cc)
made-by t (Some n) m h = (n, refl, sym (ap (λ o. unwrap_or o m) h))

module _ (p : Program) (m : mono.Program) (made : monomorphise (tests_in p) ≡ Some m) where
  counted : (n : ℕ) × (expansion_within greatest_expansion (table_of (tests_in p)) (copies (tests_in p).body) ≡ Some n) × (m ≡ monomorphised (tests_in p) n)
  counted = made-by (tests_in p) (expansion_within greatest_expansion (table_of (tests_in p)) (copies (tests_in p).body)) m made

  pub ssa-made : (ss : List (List ℕ)) (f : first.Program) (q : out.Program) → ss ≡ strings_of p.tables → f ≡ without_functions (texts ss) m → q ≡ ssa f → ssa_of p ≡ Some q
  ssa-made ss f q s e h =
      ap (option_map (λ n. ssa (without_functions (texts (strings_of p.tables)) n))) made
      ∙ ap Some (sym (h ∙ ap ssa (e ∙ ap (λ l. without_functions (texts l) m) s)))

  pub within : IsCounted → expansion p ≤ greatest_expansion
  within law =
      subst (λ n. n ≤ greatest_expansion)
      (ap (λ (r : mono.Program). r.expansion) counted.2 ∙ sym (ap (λ o. unwrap_or o (suc greatest_expansion)) counted.1))
      (law (tests_in p) m made).1

  made-there : KeepsExceptions (body_in p) → MakesNoMore → All (Contains (exceptions p)) (tests_made m.body [])
  made-there same law =
      subst (λ l. All (Contains l) (tests_made m.body [])) same
      (subst (λ (r : mono.Program). All (Contains (tests_made (tests_in p).body [])) (tests_made r.body [])) (sym counted.2) (law (tests_in p) counted.0))

  module _ (us : List (List ℕ)) (f : first.Program) (q : out.Program) (e : f ≡ without_functions us m) (h : q ≡ ssa f) where
    initial-there : f.tables.initial ≡ initial_of p.tables
    initial-there = ap (λ (r : first.Program). r.tables.initial) e ∙ ap (λ (r : mono.Program). r.initial) counted.2

    pub all-there : KeepsExceptions (body_in p) → MakesNoMore → WithoutFunctionsMakesNoMore → built.MakesNoMore → All (Contains (identifiers p)) (after.exceptions q)
    all-there same copied converted law =
        let ids = identifiers p in
        let own = contained (Contains (exceptions p)) (tests_made m.body []) (before.funs_make f.funs) (made-there same copied)
        (subst (λ (r : first.Program). All (Contains (tests_made m.body [])) (before.funs_make r.funs)) (sym e) (converted us m)) in
        let all : All (Contains ids) (before.exceptions f) =
        All-append (Contains ids) f.tables.initial (before.funs_make f.funs)
        (All-same (Contains ids) f.tables.initial (initial_of p.tables) initial-there
        (All-weaker (Contains (initial_of p.tables)) (Contains ids) (λ x c. Contains-append_left (initial_of p.tables) (exceptions p) x c) (initial_of p.tables) (All-contains_itself (initial_of p.tables))))
        (All-weaker (Contains (exceptions p)) (Contains ids) (λ x c. Contains-append_right (initial_of p.tables) (exceptions p) x c) (before.funs_make f.funs) own) in
        subst (λ r. All (Contains ids) (after.exceptions r)) (sym h) (part-all (Contains ids) (law f) all)
