use Rattle.phrase_base.specs.Left.{left}
use Rattle.phrase_base.specs.declared.got.Got.{Got}
use Rattle.phrase_base.specs.TypesRead as asked
use Rattle.sml_phrases.specs.TypesRead as types
use Rattle.sml_tree.specs.declared.tree.Ty.{Ty}
use Rattle.sml_modparse.proofs.Convert.{gives-as, ty-as}
use Rattle.sml_modparse.proofs.core_parser.CoreParserTypeReader.read_ty.Goals as goal

pub returns : goal.returns
returns c =
    let s = c.args.source.now in let n = c.args.n in let i = left s c.args.tokens.now in
    record { gives = gives-as (λ (x : Got Ty) r. types.IsTy s n i x.it x.depth x.rest.now r) (λ (x : Got Ty) r. asked.IsTy s n i x.it x.depth x.rest.now r) (λ x r h. ty-as s n i x.it x.depth x.rest.now r h) c.read_ty.result _ c.read_ty.ensures.gives }
