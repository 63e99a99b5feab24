-- What the code's operations and tables stand for.
use Rattle.std.specs.Prelude.{List, map, Vec}
use Rattle.std.specs.Global.{Global}
use Rattle.first_values.specs.Values as v
use Rattle.first_values.specs.Equality as e
use Rattle.first_values.specs.Operations as o
use Rattle.first_tables.specs.declared.operation.Constant.{Constant}
use Rattle.first_tables.specs.declared.operation.Constant.TheVariants as constant
use Rattle.first_tables.specs.declared.operation.Operands.{Operands}
use Rattle.first_tables.specs.declared.operation.Operands.TheVariants as operands
use Rattle.first_tables.specs.declared.operation.Plain.{Plain}
use Rattle.first_tables.specs.declared.operation.Plain.TheVariants as plain
use Rattle.first_tables.specs.declared.operation.Test.{Test}
use Rattle.first_tables.specs.declared.operation.Test.TheVariants as test
use Rattle.first_tables.specs.declared.operation.Callee.{Callee}
use Rattle.first_tables.specs.declared.operation.Callee.TheVariants as callee
use Rattle.first_tables.specs.declared.operation.Piece.{Piece}
use Rattle.first_tables.specs.declared.operation.Piece.TheVariants as piece
use Rattle.first_tables.specs.declared.tables.Shape.{Shape}
use Rattle.first_tables.specs.declared.tables.Shape.TheVariants as shape
use Rattle.first_tables.specs.declared.tables.Member.{Member}
use Rattle.first_tables.specs.declared.tables.Tables.{Tables}

abbrev pub constant_of : Constant → o.Constant
constant_of (constant.Int z) = o.an_int z
constant_of (constant.Word n) = o.a_word n
constant_of (constant.Char n) = o.a_char n
constant_of (constant.Text i) = o.a_text i
constant_of (constant.Truth b) = o.a_truth b

abbrev pub operands_of : Operands → o.Operands
operands_of operands.Ints = o.ints
operands_of operands.Words = o.words
operands_of operands.Chars = o.chars
operands_of operands.Texts = o.texts

abbrev pub plain_of : Plain → o.Plain
plain_of plain.Same = o.same
plain_of (plain.Constant c) = o.constant (constant_of c)
plain_of (plain.Field i) = o.field i
plain_of plain.Refer = o.refer
plain_of plain.Content = o.content
plain_of plain.Assign = o.assign
plain_of (plain.Exception i) = o.exception i
plain_of (plain.Initial n) = o.initial n
plain_of plain.Pack = o.pack
plain_of plain.Argument = o.argument
plain_of (plain.Compute k p) = o.compute (operands_of k) p
plain_of (plain.Equal t) = o.equal t
plain_of plain.Print = o.print

abbrev pub test_of : Test → o.Test
test_of (test.Is c) = o.is (constant_of c)
test_of test.IsOf = o.is_of
test_of (test.Holds k p) = o.holds (operands_of k) p

abbrev pub callee_of : Callee → o.Callee
callee_of (callee.Known f) = o.known f
callee_of (callee.OneOf s x) = o.one_of s x

abbrev pub piece_of : Piece → v.Piece
piece_of (piece.One x) = v.one x
piece_of (piece.Run x i n) = v.run x i n

abbrev pub items_of : {A : Type 0} → Vec A Global → List A
items_of v = v.items

abbrev pub shape_of : Shape → e.Shape
shape_of shape.Numbers = e.numbers
shape_of shape.Texts = e.texts
shape_of (shape.Cells parts) = e.cells (map items_of parts.items)
shape_of shape.References = e.references
shape_of shape.Opaque = e.opaque

abbrev pub member_of : Member → o.Member
member_of m = record { tag = m.tag; function = m.function }

abbrev pub set_of : Vec Member Global → List o.Member
set_of s = map member_of s.items

abbrev pub tables_of : Tables → o.Tables
tables_of t = record { initial = t.initial.items; strings = map items_of t.strings.items; types = map shape_of t.types.items; sets = map set_of t.sets.items }
