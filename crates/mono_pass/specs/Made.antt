-- What a walk that copies has made, and what comes of it.
use Rattle.std.specs.Prelude.{◌≡◌, ℕ, List, [], map, reverse, Some}
use Rattle.ty_table.specs.TypeAt.{type_at}
use Rattle.ir_plain.specs.Tree.{Exp}
use Rattle.ir_plain.specs.Weight.{weight}
use Rattle.ir_poly.specs.Types.{Constructor}
use Rattle.monomorphise.specs.Counting.{expansion_within, greatest_expansion}
use Rattle.monomorphise.specs.Expansion.{compared}
use Rattle.monomorphise.specs.Monomorphise.{Named}
use Rattle.monomorphise.specs.Number.{none_given, number}
use Rattle.monomorphise.specs.Table.{number_in, types_for}
use Rattle.mono_bound.specs.Reads.{mono_of}
use Rattle.mono_words.specs.Words.{spell}
use Rattle.mono_enter.specs.of_mono_state.Seen.{Held, held_of, Later, sign_of}
use Rattle.mono_enter.specs.of_mono_state.declared.copier.Copier.{Copier}
use Rattle.mono_enter.specs.Walked.{Texts}
use Rattle.mono_pass.specs.declared.make.Made.{Made}

-- the walk has made e: its words, the types that it compares, and its nodes
pub record IsWalked (strings : Texts) (e : Exp Named) (c : Copier) : Type 0 where
  pub words : (H : Held) → Later (held_of c) H → map (sign_of strings H) (reverse c.words.items) ≡ spell e []
  pub compared : (H : Held) → Later (held_of c) H → map (type_at H.types) (reverse c.compared.items) ≡ compared e
  pub nodes : c.nodes ≡ weight e

-- the table of the types of e, how many nodes it has, written out, and its tree with numbers
pub record IsMade (constructors : List Constructor) (strings : Texts) (e : Exp Named) (m : Made) : Type 0 where
  pub types : m.types ≡ types_for constructors e
  pub expansion : expansion_within greatest_expansion constructors e ≡ Some m.expansion
  pub body : mono_of m.types strings m.body ≡ number m.types (number_in m.types) none_given 0 e
