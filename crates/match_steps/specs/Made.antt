-- What single steps make, in the words of the pass.
use Rattle.std.specs.Prelude.{ℕ, suc}
use Rattle.mlc_names.specs.declared.label.Label.{Label}
use Rattle.ir_plain.specs.Tree.{is_con_of, is_exn_of, name_in, content, select}
use Rattle.ir_poly.specs.Tests.{Tests}
use Rattle.match_compile.specs.Compile.{scoped, atom, put, test, excepted}
use Rattle.plain_tree.specs.TreeOf.{case_of}
use Rattle.plain_tree.specs.declared.tree.Case.{Case}
use Rattle.prog_tree.specs.TreeOf.{exc_of}
use Rattle.prog_tree.specs.declared.tree.Exception.{Exception}
use Rattle.prog_tree.specs.declared.tree.Head.{Head}
use Rattle.prog_tree.specs.declared.tree.Head.TheVariants as head
use Rattle.match_types.specs.Views.{View, reading, value_type}
use Rattle.match_types.specs.declared.work.ValueType.{ValueType}

-- the atom a of type t is tested
abbrev pub testing : (t : ValueType) (a : ℕ) → Case → View → Tests → Tests
testing t a c v rest = test v.scope (value_type v t) a (case_of (reading v) c) rest

-- the name of an exception comes in as n
abbrev pub naming : Exception → (n : ℕ) → View → Tests → Tests
naming x n v rest = name_in n (excepted v.names (exc_of x)) rest

-- a field of type u of the record a of type t, as n
abbrev pub selecting : (t : ValueType) (a : ℕ) → Label → (u : ValueType) (n : ℕ) → View → Tests → Tests
selecting t a l u n v rest = put v.scope n (value_type v u) (select (scoped v.scope (value_type v t)) l (atom a)) rest

-- what the reference a holds, of type u, as n
abbrev pub containing : (u : ValueType) (a n : ℕ) → View → Tests → Tests
containing u a n v rest = put v.scope n (value_type v u) (content (scoped v.scope (value_type v u)) (atom a)) rest

-- what stands before an argument of type u is tested in the atom a of type t, with new variables from n on; the argument's, and the next one
abbrev pub heading : Head → (u t : ValueType) (n a : ℕ) → View → Tests → Tests
heading (head.Constructor c) u t n a v rest = test v.scope (value_type v t) a (is_con_of c n (scoped v.scope (value_type v u))) rest
heading head.Reference u t n a v rest = containing u a n v rest
heading (head.Exception x) u t n a v rest =
    name_in n (excepted v.names (exc_of x)) (test v.scope (value_type v t) a (is_exn_of (atom n) (suc n) (scoped v.scope (value_type v u))) rest)

abbrev pub argument_after : Head → (n : ℕ) → ℕ
argument_after (head.Constructor c) n = n
argument_after head.Reference n = n
argument_after (head.Exception x) n = suc n
