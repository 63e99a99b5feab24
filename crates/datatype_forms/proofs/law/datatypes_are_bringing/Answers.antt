use Rattle.datatype_forms.proofs.Declaring.{datatypes_declared}
use Rattle.datatype_forms.proofs.law.datatypes_are_bringing.Goals as goal

pub returns : goal.returns
returns c = λ S T C D p bs es ts old new h d ev et. datatypes_declared S T C D bs es ts d p old new h ev et
