-- What a conversion by given sets keeps, from what is claimed of the function that it computes.
use Rattle.std.proofs.Common.{◌≡◌, ℕ, zero, suc, true, ◌+◌, ◌*◌, ◌<◌, ◌≤◌, List, [], ◌∷◌, ◌++◌, length, All, Contains, Option, Some, None, refl, sym, ap, ap₂, ◌∙◌, subst}
use Rattle.std.proofs.lemmas.Bool.{lt-ltb}
use Rattle.std.proofs.lemmas.List.Elements.{All-append, All-weaker, All-contains_itself, Contains-append_left, Contains-append_right}
use Rattle.std.specs.List.{AllByRecursion, concat}
use Rattle.mlc_runs.specs.Passes.{BringsNone, initial_exceptions}
use Rattle.match_compile.specs.Exceptions.{tests_made}
use Rattle.ir_tables.specs.Tables.{string_at}
use Rattle.ir_mono.specs.Types as table
use Rattle.ir_mono.specs.Types.{Node, node}
use Rattle.ir_mono.specs.Mono.{Mono, Program}
use Rattle.ir_mono.specs.Mono as mono
use Rattle.ir_first.specs.Tree as out
use Rattle.ir_first.specs.Meaning as first
use Rattle.ir_first.specs.Size.{nodes_funs}
use Rattle.ir_first.specs.WellFormed as first_formed
use Rattle.first_tree.specs.Exceptions.{exceptions, funs_make}
use Rattle.plain_tree.specs.declared.tree.Exp.{Exp}
use Rattle.mono_bound.specs.Reads.{mono_of}
use Rattle.mono_form.specs.Parts as parts
use Rattle.mono_form.specs.Parts.{parts_of, TakesBelow, HasParts}
use Rattle.flow_sets.specs.Flow.{Flow, SolvesProgram}
use Rattle.flow_sets.proofs.Known.{once-known}
use Rattle.closure_first.specs.of_flow_types.Flows.{program_with}
use Rattle.closure_convert.specs.Capture.{table_of}
use Rattle.closure_convert.proofs.Numbered.{captures-are-right}
use Rattle.closure_meaning.specs.Convert.{part_types}
use Rattle.closure_meaning.proofs.Run.{conversion-same}
use Rattle.closure_formed.specs.of_closure_whole.Constants.{AreHeld}
use Rattle.closure_formed.specs.of_closure_whole.Converted.{numbering}
use Rattle.closure_formed.specs.of_closure_whole.Tags.{stand_once, AreDense}
use Rattle.closure_formed.proofs.of_closure_whole.Tags.{tags-are-apart, tags-are-dense}
use Rattle.closure_formed.proofs.of_closure_whole.Positions.{places-are}
use Rattle.closure_formed.proofs.of_closure_whole.Fitting.{program-fits}
use Rattle.closure_sizes.specs.Laws.{ConversionIsSmall}
use Rattle.closure_sizes.specs.Counts.{nodes, pieces}
use Rattle.closure_formed.specs.Laws.{ConvertedWellFormed}
use Rattle.closure_formed.specs.Tables.{Below, NodeBelow, RowBelow, AreRows, AreBytes, AreOrderly}
use Rattle.closure_first.specs.Held.{HasEmpty}
use Rattle.closure_first.specs.Same.{TreesReadSame}
use Rattle.closure_first.specs.Made.{converted_by}
use Rattle.closure_pass.specs.Laws.{ConversionMakesNoMore}
use Rattle.closure_pass.specs.Given.{given, texts, IsReady}

abbrev pub Strings : Type 0
Strings = List (List ℕ)

-- strings with the empty one behind them

same-number : (ss : Strings) (k : ℕ) → string_at (ss ++ [] ∷ []) k ≡ string_at ss k
same-number [] zero = refl
same-number [] (suc k) = refl
same-number (s ∷ ss) zero = refl
same-number (s ∷ ss) (suc k) = same-number ss k

empty-there : (ss : Strings) → HasEmpty (ss ++ [] ∷ [])
empty-there [] = (0, refl)
empty-there (s ∷ ss) = (let r = empty-there ss in (suc r.0, r.1))

read-same : TreesReadSame → (types : List table.Row) (ss : Strings) (e : Exp) → mono_of types (texts ss) e ≡ mono_of types ss e
read-same law types ss e = law types ss (texts ss) (same-number ss) e

module _ (types : List table.Row) (ss : Strings) (e : Exp) (initial : List ℕ) (expansion : ℕ) where
  pub program-made : TreesReadSame → (F : Flow) (us : Strings) (is : List ℕ) (x : ℕ) (r : out.Program) → us ≡ texts ss → is ≡ initial → x ≡ expansion
      → r ≡ converted_by F us (program_with is types x (mono_of types us e)) → r ≡ converted_by F (texts ss) (given initial types expansion ss e)
  program-made law F us is x r a c d h =
      h ∙ ap (λ j. converted_by F us (program_with j types x (mono_of types us e))) c ∙ ap₂ (λ l j. converted_by F l (program_with initial types j (mono_of types l e))) a d
      ∙ ap (λ v. converted_by F (texts ss) (program_with initial types expansion v)) (read-same law types ss e)

  pub constants : TreesReadSame → ((us : Strings) → HasEmpty us → AreHeld us (mono_of types us e)) → AreHeld (texts ss) (mono_of types ss e)
  constants law h = subst (AreHeld (texts ss)) (read-same law types ss e) (h (texts ss) (empty-there ss))

-- what is asked of types, as the law has it

numbers-below : (n : ℕ) (ps : List ℕ) → AllByRecursion (λ p. p < n) ps → AllByRecursion (Below n) ps
numbers-below n [] h = tt
numbers-below n (p ∷ ps) h = (lt-ltb p n h.0, numbers-below n ps h.1)

arguments-below : (n : ℕ) (cs : List (ℕ × Option ℕ)) → AllByRecursion (λ c. TakesBelow n c.1) cs → AllByRecursion (AllByRecursion (Below n)) (part_types cs)
arguments-below n [] h = tt
arguments-below n ((c, None) ∷ cs) h = (tt, arguments-below n cs h.1)
arguments-below n ((c, Some a) ∷ cs) h = ((lt-ltb a n h.0, tt), arguments-below n cs h.1)

rows-below : (n : ℕ) (rs : List table.Row) → AllByRecursion (parts.RowBelow n) rs → AllByRecursion (RowBelow n) rs
rows-below n [] h = tt
rows-below n (r ∷ rs) h = (record { parts = parts-below r.type h.0.parts; arguments = arguments-below n r.constructors h.0.taken }, rows-below n rs h.1)
  where
    parts-below : (k : Node) → AllByRecursion (λ p. p < n) (parts_of k) → NodeBelow n k
    parts-below (node s ps) w = numbers-below n ps w

rows-are : (types : List table.Row) → HasParts types → AreRows types
rows-are types h = rows-below (length types) types h

-- what is claimed of the function holds of what was made

pub exceptions-from : (q : out.Program) (p : Program) (initial : List ℕ) → q.tables.initial ≡ initial → initial ≡ initial_exceptions → All (Contains (tests_made p.body [])) (funs_make q.funs)
    → BringsNone (tests_made p.body []) (exceptions q)
exceptions-from q p initial a i made =
    let own = tests_made p.body [] in
    All-append (Contains (own ++ initial_exceptions)) q.tables.initial (funs_make q.funs)
    (subst (λ l. All (Contains (own ++ initial_exceptions)) l) (sym (a ∙ i))
    (All-weaker (Contains initial_exceptions) (Contains (own ++ initial_exceptions)) (λ x h. Contains-append_right own initial_exceptions x h) initial_exceptions (All-contains_itself initial_exceptions)))
    (All-weaker (Contains own) (Contains (own ++ initial_exceptions)) (λ x h. Contains-append_left own initial_exceptions x h) (funs_make q.funs) made)

module _ (q : out.Program) (F : Flow) (ss : Strings) (p : Program) (e : q ≡ converted_by F ss p) where
  pub same-outcome : IsReady p → AreHeld ss p.body → SolvesProgram p.types F p.body → (turns : ℕ) → first.meaning q turns ≡ mono.meaning p turns
  same-outcome r h s turns =
      ap (λ v. first.meaning v turns) e
      ∙ conversion-same (numbering ss F p) ss F (table_of p.types p.body) p r.formed r.explicit (record {
        table = r.formed.table;
        fits = program-fits ss p F (table_of p.types p.body) r.formed.initial r.formed (once-known p.types p.body r.formed.once) r.explicit h;
        solves = s;
        closed = captures-are-right p r.formed;
        numbered = places-are p.types p.body r.formed.once;
        apart = tags-are-apart ss F p;
      }) turns

  pub formed : ConvertedWellFormed → IsReady p → AreHeld ss p.body → HasParts p.types → AreBytes ss → AreOrderly p F → first_formed.IsWellFormed q
  formed law r h t b o = subst first_formed.IsWellFormed (sym e) (law ss F p r.formed r.explicit h (rows-are p.types t) b o)

  pub kept-exceptions : ConversionMakesNoMore → p.initial ≡ initial_exceptions → BringsNone (tests_made p.body []) (exceptions q)
  kept-exceptions law i =
      exceptions-from q p p.initial (ap (λ (v : out.Program). v.tables.initial) e) i
      (subst (λ (v : out.Program). All (Contains (tests_made p.body [])) (funs_make v.funs)) (sym e) (law (numbering ss F p) ss F (table_of p.types p.body) p))

  pub kept-dense : stand_once (concat F.sets) ≡ true → AreDense q.tables.sets
  kept-dense o = subst (λ (v : out.Program). AreDense v.tables.sets) (sym e) (tags-are-dense ss F p o)

  pub kept-small : ConversionIsSmall → nodes_funs q.funs ≤ 1 + 4 * nodes p.types p.body + 4 * pieces p.types (table_of p.types p.body) p.body
  kept-small law =
      subst (λ (v : out.Program). nodes_funs v.funs ≤ 1 + 4 * nodes p.types p.body + 4 * pieces p.types (table_of p.types p.body) p.body) (sym e)
      (law (numbering ss F p) ss F (table_of p.types p.body) p)
