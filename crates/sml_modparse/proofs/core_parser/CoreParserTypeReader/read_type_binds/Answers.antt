use Rattle.std.proofs.Common.{Vec, Global}
use Rattle.phrase_base.specs.Left.{left}
use Rattle.phrase_base.specs.declared.got.Got.{Got}
use Rattle.phrase_base.specs.TypesRead as asked
use Rattle.sml_phrases.specs.BindingsRead as binds
use Rattle.sml_tree.specs.declared.tree.TypeBind.{TypeBind}
use Rattle.sml_modparse.proofs.Convert.{gives-as, binds-as}
use Rattle.sml_modparse.proofs.core_parser.CoreParserTypeReader.read_type_binds.Goals as goal

pub returns : goal.returns
returns c =
    let s = c.args.source.now in let n = c.args.n in let i = left s c.args.tokens.now in
    record { gives = gives-as (λ (x : Got (Vec TypeBind Global)) r. binds.IsTypeBinds s n i x.it.items x.depth x.rest.now r) (λ (x : Got (Vec TypeBind Global)) r. asked.IsTypeBinds s n i x.it.items x.depth x.rest.now r) (λ x r h. binds-as s n i x.it.items x.depth x.rest.now r h) c.read_type_binds.result _ c.read_type_binds.ensures.gives }
