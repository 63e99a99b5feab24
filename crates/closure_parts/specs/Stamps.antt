-- Operands by the number of a type's name.
use Rattle.std.specs.Prelude.{ℕ, nat_eq, if◌then◌else◌}
use Rattle.ir_poly.specs.Types.{int_name, word_name, char_name}
use Rattle.first_values.specs.Operations as op
use Rattle.first_values.specs.Operations.{Operands}

abbrev pub by_stamp : ℕ → Operands
by_stamp s =
    if nat_eq s int_name.stamp then op.ints else (if nat_eq s word_name.stamp then op.words else (if nat_eq s char_name.stamp then op.chars else op.texts))
