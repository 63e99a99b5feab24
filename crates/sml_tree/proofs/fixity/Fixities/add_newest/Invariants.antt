use Rattle.std.proofs.Common.{◌≡◌, ◌++◌, ◌-◌, length, take, drop}
use Rattle.sml_tree.proofs.fixity.Fixities.add_newest.Given as goal

abbrev pub invariant-ages : goal.invariant-ages
invariant-ages l = l.more ≡ take (l.older - l.skipped) (drop (length l.inner - l.older) l.inner) ++ l.fn.self
