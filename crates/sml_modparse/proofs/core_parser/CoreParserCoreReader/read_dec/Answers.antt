use Rattle.std.proofs.Common.{Option, subst}
use Rattle.phrase_base.specs.Left.{left}
use Rattle.phrase_base.specs.Gives.{Gives}
use Rattle.phrase_base.specs.declared.got.Got.{Got}
use Rattle.sml_grammar.specs.Answer.{Answer}
use Rattle.sml_grammar.specs.Expressions.{dec_start}
use Rattle.sml_phrases.specs.DeclarationsRead as decs
use Rattle.sml_tree.specs.ReadTree as read
use Rattle.sml_tree.specs.TreeOf.{dec_of}
use Rattle.sml_tree.specs.declared.tree.Dec.{Dec}
use Rattle.str_phrases.specs.CoreRead.{IsCoreDec}
use Rattle.sml_modparse.proofs.Convert.{gives-as, dec-as, inner-as}
use Rattle.sml_modparse.proofs.core_parser.CoreParserCoreReader.read_dec.Goals as goal

pub returns : goal.returns
returns c =
    let s = c.args.source.now in let n = c.args.n in let i = left s c.args.tokens.now in let f = c.args.fix.now in let f2 = c.read_dec.new.fix in
    let h = gives-as (λ (x : Got (Option Dec)) r. decs.IsDec f f2 s n i x.it x.depth x.rest.now r) (λ (x : Got (Option Dec)) r. IsCoreDec dec_of f f2 s n i x.it x.depth x.rest.now r) (λ x r h. dec-as f f2 s n i x.it x.depth x.rest.now r h) c.read_dec.result _ c.read_dec.ensures.gives in
    record { gives = subst (λ (z : Answer read.Dec). Gives (λ (x : Got (Option Dec)) r. IsCoreDec dec_of f f2 s n i x.it x.depth x.rest.now r) c.read_dec.result z) (inner-as n f (dec_start i)) h }
