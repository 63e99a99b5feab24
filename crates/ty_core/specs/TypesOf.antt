-- The symbol that a head of the code stands for.
use Rattle.ty_core.specs.Types.{Symbol, arrow, labels, name}
use Rattle.ty_core.specs.declared.ty.Head.{Head}
use Rattle.ty_core.specs.declared.ty.Head.TheVariants.{Function, Record, Named}

abbrev pub head_of : Head → Symbol
head_of Function = arrow
head_of (Record ls) = labels ls.items
head_of (Named n) = name n
