use Rattle.std.proofs.Common.{Some, subst}
use Rattle.std.specs.Cmp.Lexicographic.{slice_cmp}
use Rattle.std.specs.Ordering.{nat_cmp}
use Rattle.std.specs.BTreeMap as tree
use Rattle.std.specs.String.{string_bytes, string_cmp}
use Rattle.mlc_outside.proofs.TableLemmas.{insert-updates}
use Rattle.mlc_outside.proofs.file_table.FileTable.set.Goals as goal

pub returns-clause-ok : goal.returns-clause-ok
returns-clause-ok c =
    rw (← c.self.view_is) (insert-updates c.self.inside.entries c.insert.new.self c.args.path.now c.args.bytes.now c.in_ok-bytes.bytes c.in_ok-bytes.ensures.items (subst (λ p. tree.UpdatesBy string_cmp (λ k. slice_cmp nat_cmp p (string_bytes k)) c.self.inside.entries c.insert.new.self (Some c.in_ok-bytes.bytes)) c.in_ok-path.ensures.ok c.in_ok-insert.ensures.updates))
