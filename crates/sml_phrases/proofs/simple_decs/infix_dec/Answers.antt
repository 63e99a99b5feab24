use Rattle.std.proofs.Common.{refl}
use Rattle.sml_grammar.specs.Bindings.{precedence_then}
use Rattle.sml_grammar.specs.Expressions.{infix_directive}
use Rattle.phrase_base.specs.Left.{left}
use Rattle.sml_phrases.proofs.DecForms.{dec-by, dec-wider, precedence-is}
use Rattle.sml_phrases.proofs.simple_decs.infix_dec.Goals as goal

pub returns : goal.returns
returns c =
    let s = c.args.source.now in
    let i = left s c.args.tokens.now in
    let k = c.read_precedence-precedence.ensures.shorter in
    record {
      gives = λ n p.
          dec-by c.args.fix.now c.directive.new.fix s n i c.directive.result (precedence_then (infix_directive p c.args.right) i) _ (precedence-is (infix_directive p c.args.right) i _ _ c.read_precedence-precedence.ensures.same)
          (dec-wider c.args.fix.now c.directive.new.fix s n n _ i c.directive.result _ refl k (c.directive.ensures.gives n p));
    }
