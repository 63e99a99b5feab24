-- From what was read of declarations, where no tokens are left, to the tree of all the tokens.
use Rattle.std.proofs.Common.{◌≡◌, ◌<◌, ℕ, List, [], ◌∷◌, length, refl, sym, ap, ◌∙◌, arith}
use Rattle.mlc_names.specs.declared.token.Token.{Token}
use Rattle.sml_tree.specs.Fixity.{Fixity}
use Rattle.sml_tree.specs.ReadTree.{Decs}
use Rattle.sml_tree.specs.Levels.{after}
use Rattle.sml_tree.specs.TreeOf.{decs_of}
use Rattle.sml_tree.specs.declared.tree.Dec.{Dec}
use Rattle.sml_grammar.specs.Answer.{Read, Answer, ok, read, then_read}
use Rattle.sml_grammar.specs.Expressions.{readers, at_end, read_all}
use Rattle.sml_grammar.specs.Laws.{Sound}
use Rattle.phrase_base.specs.declared.source.Source.{Source}
use Rattle.sml_parser.specs.Core.{IsCore}
use Rattle.phrase_base.specs.Left.{left}
use Rattle.sml_phrases.specs.ExpressionsRead.{IsDecs}
use Rattle.sml_phrases.proofs.ExpLemmas.{decs_all}

no-terminals : (s : Source) (o : List Token) → length o < 1 → left s o ≡ []
no-terminals s [] none = refl
no-terminals s (t ∷ o) none = absurd (omega arith)

-- f1 and tokens1 are what the code reads under and reads
pub core-is : Sound → (f f1 f' : Fixity) (s : Source) (tokens tokens1 : List Token) (ds : List Dec) (d : ℕ) (o : List Token) (got : Read Decs) → f1 ≡ f → tokens1 ≡ tokens → length o < 1 →
    (readers 400).decs f1 (left s tokens1) ≡ ok got → IsDecs f1 f' s 400 (left s tokens1) ds d o got → IsCore f s tokens ds f'
core-is sound f f1 f' s tokens tokens1 ds d o got same_fix same_tokens none h is =
    let by : (readers 400).decs f (left s tokens) ≡ ok got =
    ap (λ (z : Fixity). (readers 400).decs z (left s tokens)) (sym same_fix) ∙ ap (λ (z : List Token). (readers 400).decs f1 (left s z)) (sym same_tokens) ∙ h in
    let all : read_all 400 f (left s tokens) ≡ read got.tree [] = ap (λ (a : Answer Decs). then_read a at_end) by ∙ ap (at_end got.tree) (sym is.rest ∙ no-terminals s o none) in
    let both = sound 400 f (left s tokens) got.tree all in
    record {
      tree = got.tree;
      is = record { reads = both.0; shallow = both.1 };
      bare = ap decs_of is.same ∙ decs_all s.file got.tree;
      after = is.force ∙ ap (λ (z : Fixity). after z got.tree) same_fix;
    }
