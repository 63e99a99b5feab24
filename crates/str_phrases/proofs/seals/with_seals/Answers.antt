use Rattle.std.proofs.Common.{◌≡◌, List, length, Some, ◌+◌, refl, sym, ap, ◌∙◌, arith}
use Rattle.std.proofs.lemmas.Result.{err_from_is_err_and}
use Rattle.sml_tree.specs.Terminal.{Terminal}
use Rattle.module_code.specs.TreeOf.{seal_of}
use Rattle.phrase_base.specs.Left.{left}
use Rattle.str_phrases.proofs.Sealing.{sealing-shorter, seals-start, seals-last, seals-deep, seals-fail, seals-more}
use Rattle.str_phrases.proofs.seals.with_seals.Goals as goal

pub suffixes-init : goal.suffixes-init
suffixes-init g c = λ of i a pl is. seals-start of c.args.source.now c.args.n i c.args.first c.args.depth c.args.tokens.now a is

pub returns-in_default : goal.returns-in_default
returns-in_default g c = record {
  gives = λ of i a pl is.
      let h = seals-last of c.args.source.now c.args.n i c.suffixes.str c.suffixes.deep c.suffixes.rest.now _ (c.suffixes.invariant of i a pl is) c.in_default.ensures in
      record { got = h.got; is = h.is; same = h.same };
}

pub returns-in_err-before : goal.returns-in_err-before
returns-in_err-before g c =
    let p = err_from_is_err_and c.from_residual.result c.from_residual.ensures.1 in
    record {
      gives = λ of i a pl is.
          rw (p.1, p.2) (seals-deep of c.args.source.now c.args.n i c.suffixes.str c.suffixes.deep c.suffixes.rest.now _ (c.suffixes.invariant of i a pl is) _ c.in-Some.ensures c.in_err-before.field-0.0 _
          (rw c.in_err-before.ensures.second at c.room.ensures.stop) (rw c.in_err-before.ensures.second at c.room.ensures.fits));
    }

pub returns-in_err-under : goal.returns-in_err-under
returns-in_err-under g c =
    let p = err_from_is_err_and c.from_residual-in_err-under.result c.from_residual-in_err-under.ensures.1 in
    record {
      gives = λ of i a pl is.
          rw (p.1, p.2) (seals-fail of c.args.source.now c.args.n i c.suffixes.str c.suffixes.deep c.suffixes.rest.now _ (c.suffixes.invariant of i a pl is) _ c.in-Some.ensures c.in_err-under.field-0.0
          (rw c.in_ok-before.ensures.second at c.room.ensures.fits) (rw c.in_err-under.ensures.second at c.read_sig.ensures.gives));
    }

pub suffixes-preserved : goal.suffixes-preserved
suffixes-preserved g c = λ of i a pl is.
    let w = rw c.in_ok-under.ensures.second at c.read_sig.ensures.gives in
    seals-more of c.args.source.now c.args.n i c.suffixes.str c.suffixes.deep c.suffixes.rest.now _ (c.suffixes.invariant of i a pl is) _ c.in-Some.ensures c.args.place c.in_ok-under.got.it c.in_ok-under.got.depth c.in_ok-under.got.rest.now w.got
    c.in_ok-str.str (c.max-below.result + 1) (rw c.in_ok-before.ensures.second at c.room.ensures.fits) w.is w.same pl (rw (c.in_ok-under.ensures.first, c.in_ok-before.ensures.first) at (c.in_ok-str.ensures of)) (omega (arith, c.max-below.ensures))

pub suffixes-smaller : goal.suffixes-smaller
suffixes-smaller g c =
    let w = rw c.in_ok-under.ensures.second at c.read_sig.ensures.gives in
    let l1 = sealing-shorter (left c.args.source.now c.suffixes.rest.now) (record { seal = seal_of c.in-Some.seal; rest = left c.args.source.now c.in-Some.after.now }) c.in-Some.ensures in
    let l2 = w.same.shorter in let l3 = ap (λ (z : List Terminal). length z) w.same.rest in
    omega arith
