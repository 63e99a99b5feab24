-- The program of simple types that tables and a tree of the code stand for.
use Rattle.std.specs.Prelude.{ℕ, List, []}
use Rattle.ir_mono.specs.Mono.{Mono, Program}
use Rattle.match_compile.specs.Exceptions.{tests_made}
use Rattle.plain_tree.specs.declared.tree.Exp.{Exp}
use Rattle.plain_tree.specs.TreeOf.{tree_of}
use Rattle.mono_operations.specs.declared.tables.Tables.{Tables}
use Rattle.mono_operations.specs.Reads.{reading}

-- the identifiers of the initial basis' exceptions
abbrev pub initial_of : Tables → List ℕ
initial_of t = t.initial.items

abbrev pub body_of : (t : Tables) → Exp → Mono t.types
body_of t e = tree_of (reading t) e

-- where x is how many nodes the program has, written out
abbrev pub program_of : Tables → (x : ℕ) → Exp → Program
program_of t x e = record { initial = initial_of t; types = t.types; expansion = x; body = body_of t e }

-- the identifiers of the exceptions that a program makes, in the order of the text
abbrev pub exceptions_of : Program → List ℕ
exceptions_of p = tests_made p.body []
