-- From what was read of a source to its tree.
use Rattle.std.proofs.Common.{◌≡◌, ℕ, List, ap, subst, ◌∙◌}
use Rattle.mlc_names.specs.declared.token.Token.{Token}
use Rattle.sml_tree.specs.Fixity.{Fixity}
use Rattle.sml_tree.specs.TreeOf.{dec_of}
use Rattle.sml_tree.specs.declared.tree.Dec.{Dec}
use Rattle.sml_grammar.specs.Answer.{Read, ok, read}
use Rattle.module_tree.specs.ReadModules as tree
use Rattle.module_tree.specs.Scope.{after_tops}
use Rattle.module_grammar.specs.Laws.{Sound}
use Rattle.module_grammar.specs.Sources.{read_source}
use Rattle.module_code.specs.declared.sources.Top.{Top}
use Rattle.phrase_base.specs.declared.source.Source.{Source}
use Rattle.phrase_base.specs.Left.{left}
use Rattle.top_phrases.specs.TopsRead.{IsTops}
use Rattle.sml_modparse.specs.Programs.{IsProgram}

-- f1 and tokens1 are what the code reads under and reads
pub program-is : Sound → (it : ℕ) (f f1 f' : Fixity) (s : Source) (tokens tokens1 : List Token) (xs : List (Top Dec)) (got : Read (List tree.Top)) → f1 ≡ f → tokens1 ≡ tokens → read_source 400 f1 (left s tokens1) ≡ ok got →
    IsTops dec_of it f1 f' s xs got → IsProgram it f s tokens xs f'
program-is sound it f f1 f' s tokens tokens1 xs got same_fix same_tokens h is =
    let by : read_source 400 f (left s tokens) ≡ ok got = subst (λ (z : Fixity). read_source 400 z (left s tokens) ≡ ok got) same_fix (subst (λ (z : List Token). read_source 400 f1 (left s z) ≡ ok got) same_tokens h) in
    let all : read_source 400 f (left s tokens) ≡ read got.tree got.rest = by in
    record { tree = got.tree; is = sound 400 f (left s tokens) got.tree got.rest all; bare = is.same; after = is.force ∙ ap (λ (z : Fixity). after_tops z got.tree) same_fix }
