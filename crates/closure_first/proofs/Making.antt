-- Whole programs.
use Rattle.std.proofs.Common.{◌≡◌, ℕ, List, map, ap, ap₂, subst, ◌∙◌}
use Rattle.ir_mono.specs.Types as table
use Rattle.ir_mono.specs.Mono.{Mono}
use Rattle.ir_first.specs.Tree as out
use Rattle.first_values.specs.Equality.{Shape}
use Rattle.first_values.specs.Operations.{Member}
use Rattle.flow_sets.specs.Flow.{Flow}
use Rattle.closure_convert.specs.Scope.{Table}
use Rattle.closure_meaning.specs.Convert.{Numbering, shapes, set_of, program}
use Rattle.closure_bodies.specs.of_flow_types.Flows.{program_with}
use Rattle.plain_tree.specs.declared.tree.Exp.{Exp}
use Rattle.mono_bound.specs.Reads.{mono_of}
use Rattle.closure_convert.specs.Capture.{table_of}
use Rattle.closure_bodies.specs.of_closure_whole.Converted.{numbering}
use Rattle.closure_bodies.specs.of_closure_parts.Indexed.{Kept, texts_of}
use Rattle.closure_bodies.specs.of_closure_parts.Settings.{Holds, HoldsBy}
use Rattle.closure_bodies.specs.of_closure_parts.declared.setting.Setting.{Setting}
use Rattle.closure_first.specs.Codes.{functions_of}
use Rattle.closure_first.specs.Made.{converted_by}

module _ (strings : List (List ℕ)) (initial : List ℕ) (types : List table.Row) (expansion : ℕ) where
  pub program-made : (n : Numbering) (F : Flow) (T : Table) (e : Mono types) (ss : List Shape) (sets : List (List Member)) (funs : List out.Fun) → ss ≡ shapes types → sets ≡ map (set_of n) F.sets
      → funs ≡ functions_of n types F T e
      → record { tables = record { initial = initial; strings = strings; types = ss; sets = sets }; funs = funs } ≡ program n strings F T (program_with initial types expansion e)
  program-made n F T e ss sets funs a b c =
      ap₂ (λ l ts. record { tables = record { initial = initial; strings = strings; types = l; sets = ts }; funs = funs }) a b
      ∙ ap (λ fs. record { tables = record { initial = initial; strings = strings; types = shapes types; sets = map (set_of n) F.sets }; funs = fs }) c

-- by the numbers and captures of the conversion of whole programs, and any sets
pub converted-from : (setting : Setting) (types : List table.Row) (body : Exp) (us ss : List Kept) (initial : List ℕ) (expansion : ℕ) (F : Flow) (r : out.Program) → us ≡ ss
    → HoldsBy setting (texts_of us) F (program_with initial types expansion (mono_of types (texts_of us) body))
    → ((n : Numbering) (G : Flow) (T : Table) → Holds setting types (texts_of ss) n G T → r ≡ program n (texts_of ss) G T (program_with initial types expansion (mono_of types (texts_of ss) body)))
    → r ≡ converted_by F (texts_of ss) (program_with initial types expansion (mono_of types (texts_of ss) body))
converted-from setting types body us ss initial expansion F r k x p =
    let q = program_with initial types expansion (mono_of types (texts_of ss) body) in
    p (numbering (texts_of ss) F q) F (table_of types (mono_of types (texts_of ss) body))
    (subst (λ l. HoldsBy setting (texts_of l) F (program_with initial types expansion (mono_of types (texts_of l) body))) k x)
