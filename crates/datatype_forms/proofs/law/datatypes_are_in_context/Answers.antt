use Rattle.datatype_forms.proofs.Declaring.{datatypes_in_context}
use Rattle.datatype_forms.proofs.law.datatypes_are_in_context.Goals as goal

pub returns : goal.returns
returns c = λ S T C D bs es ts i d n. datatypes_in_context S T C D bs es ts d i n
