use Rattle.std.proofs.Common.{Vec, Global}
use Rattle.phrase_base.specs.Left.{left}
use Rattle.phrase_base.specs.declared.got.Got.{Got}
use Rattle.phrase_base.specs.TypesRead as asked
use Rattle.sml_phrases.specs.BindingsRead as binds
use Rattle.sml_tree.specs.declared.ident.Tyvar.{Tyvar}
use Rattle.sml_modparse.proofs.Convert.{gives-as, tyvars-as}
use Rattle.sml_modparse.proofs.core_parser.CoreParserTypeReader.read_tyvars.Goals as goal

pub returns : goal.returns
returns c =
    let s = c.args.source.now in let i = left s c.args.tokens.now in
    record { gives = gives-as (λ (x : Got (Vec Tyvar Global)) r. binds.IsTyvars s i x.it.items x.depth x.rest.now r) (λ (x : Got (Vec Tyvar Global)) r. asked.IsTyvars s i x.it.items x.rest.now r) (λ x r h. tyvars-as s i x.it.items x.depth x.rest.now r h) c.read_tyvars.result _ c.read_tyvars.ensures.gives }
