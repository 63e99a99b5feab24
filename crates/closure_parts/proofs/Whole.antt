-- What a setting holds of a whole program.
use Rattle.std.proofs.Common.{◌≡◌, ℕ, suc, List, [], ◌++◌, map, ap, ◌∙◌}
use Rattle.ir_mono.specs.Types as table
use Rattle.plain_tree.specs.declared.tree.Exp.{Exp}
use Rattle.flow_sets.specs.Flow.{Flow}
use Rattle.flow_sets.specs.ByType.{bound_in, bound}
use Rattle.closure_convert.specs.Scope.{index_of, top}
use Rattle.closure_convert.specs.Capture.{entry_of, captured_in, pieces_in, tabulate}
use Rattle.flow_types.specs.of_closure_whole.Converted.{bound_as_name}
use Rattle.flow_types.specs.of_closure_whole.Tags.{tag_by}
use Rattle.mono_bound.specs.declared.bound.Bound.{Bound}
use Rattle.mono_bound.specs.Bound.{bound_of, exp_bound}
use Rattle.mono_bound.specs.Reads.{mono_of, BoundIsBound}
use Rattle.flow_types.specs.Flows.{Has, program_with}
use Rattle.flow_types.specs.Kinds.{items_of}
use Rattle.capture_table.specs.Tables.{numbers_of}
use Rattle.closure_parts.specs.declared.setting.Setting.{Setting}
use Rattle.closure_parts.specs.Indexed.{ArePlaces, AreTexts}
use Rattle.closure_parts.specs.Named.{AreNames}
use Rattle.closure_parts.specs.Tagged.{tag_in}
use Rattle.closure_parts.specs.Settings.{HoldsBy}
use Rattle.closure_parts.proofs.Numbered.{numbers-are}

pub holds-by : (types : List table.Row) (strings : List (List ℕ)) (body : Exp) (s : Setting) (found none seen : List Bound) (F : Flow) (initial : List ℕ) (expansion : ℕ)
    → found ≡ none ++ exp_bound types body → none ≡ [] → seen ≡ found → BoundIsBound
    → AreNames s.names.entries (map bound_of seen)
    → Has s.flow F → ((k : ℕ) → tag_in s.tags k ≡ tag_by (items_of s.flow.sets.items) k) → s.captures ≡ tabulate types top (mono_of types strings body) [] → ArePlaces s.places types → AreTexts s.places strings
    → HoldsBy s strings F (program_with initial types expansion (mono_of types strings body))
holds-by types strings body s found none seen F initial expansion f n e law kinds flow tags table places texts =
    let all : map bound_of seen ≡ bound types (mono_of types strings body) = ap (map bound_of) (e ∙ f ∙ ap (λ l. l ++ exp_bound types body) n) ∙ law types strings body in
    record {
      functions = λ k. ap (λ l. suc (index_of k (numbers_of l))) table ∙ ap (λ l. suc (index_of k l)) (numbers-are types (mono_of types strings body) top []);
      texts = texts;
      names = λ x. kinds x ∙ ap (λ l. bound_as_name (bound_in x l)) all;
      tags = λ k. tags k ∙ ap (λ ss. tag_by ss k) flow.sets;
      flow = flow;
      captured = λ k. ap (λ l. captured_in (entry_of k l)) table;
      pieces = λ k. ap (λ l. pieces_in (entry_of k l)) table;
      places = places;
    }
