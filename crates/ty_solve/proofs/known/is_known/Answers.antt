use Rattle.std.proofs.Common.{◌<◌, ◌≤◌, length, arith}
use Rattle.std.proofs.lemmas.Bool.{leb-true, le-leb}
use Rattle.ty_table.specs.TypeAt.{type_at, top}
use Rattle.ty_solve.proofs.Tops.{top-below, below-top}
use Rattle.ty_solve.proofs.known.is_known.Goals as goal

pub returns : goal.returns
returns c = (
  λ h.
      let le = leb-true c.top.result c.len-2.result h in
      let a : c.args.t < length c.args.s.now.types = omega (arith, c.len.ensures.is) in
      let b : top (type_at c.args.s.now.types c.args.t) ≤ length c.args.s.now.slots.items = omega (arith, c.top.ensures, c.len-2.ensures, c.args.s.now.slots.ok.0) in
      (a, top-below (length c.args.s.now.slots.items) (type_at c.args.s.now.types c.args.t) b),
  λ h.
      let p = below-top (length c.args.s.now.slots.items) (type_at c.args.s.now.types c.args.t) h.1 in
      let le : c.top.result ≤ c.len-2.result = omega (arith, c.top.ensures, c.len-2.ensures, c.args.s.now.slots.ok.0) in
      le-leb c.top.result c.len-2.result le,
)
