use Rattle.std.proofs.Common.{◌↔◌, IsTrue, map, subst, arith}
use Rattle.std.specs.List.{AllByRecursion}
use Rattle.first_values.specs.WellFormed.{Rise}
use Rattle.first_tables.specs.TablesOf.{items_of, set_of}
use Rattle.first_known.specs.Rows.{IsBelow, ShapeBelow}
use Rattle.first_known.proofs.TableLemmas.{tables-are}
use Rattle.first_known.proofs.tables.are_tables.Goals as goal

pub returns : goal.returns
returns c =
    tables-are c.args.tables.now c.len-initial.result c.len.result c.are_texts-texts.result c.are_shapes-shapes.result c.all_rise-sets.result c.both-3.result c.both.result c.both-2.result
    (omega (arith, c.len-initial.ensures, c.args.tables.now.initial.ok.0))
    (subst (λ l. IsTrue c.are_texts-texts.result ↔ AllByRecursion (AllByRecursion (IsBelow 256)) (map items_of l)) c.deref.ensures.value c.are_texts-texts.ensures)
    (omega (arith, c.len.ensures, c.args.tables.now.types.ok.0))
    (subst (λ l. IsTrue c.are_shapes-shapes.result ↔ AllByRecursion (ShapeBelow c.len.result) l) c.deref-2.ensures.value c.are_shapes-shapes.ensures)
    (subst (λ l. IsTrue c.all_rise-sets.result ↔ AllByRecursion Rise (map set_of l)) c.deref-3.ensures.value c.all_rise-sets.ensures)
    c.both.ensures c.both-2.ensures c.both-3.ensures
