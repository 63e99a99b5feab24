use Rattle.std.proofs.Common.{sym, ap, subst, List, ℕ, length, arith, Some, None}
use Rattle.std.proofs.lemmas.Result.{err_from_is_err_and}
use Rattle.sml_tree.specs.Terminal.{Terminal}
use Rattle.sml_tree.specs.ReadTree.{Placed}
use Rattle.sml_grammar.specs.Terminals.{place_at}
use Rattle.sml_grammar.specs.Patterns.{read_head, vid_head, infix_rest, bracket_rest}
use Rattle.phrase_base.specs.Left.{left}
use Rattle.sml_phrases.specs.VidPlace.{vid_place}
use Rattle.sml_tree.specs.declared.ident.Vid.{Vid}
use Rattle.sml_phrases.specs.HeadsRead.{IsPair}
use Rattle.sml_phrases.proofs.VidShorter.{infix-shorter, binds-shorter}
use Rattle.sml_phrases.proofs.HeadReads.{head-by, head-named, head-fails, head-infix, head-bracket}
use Rattle.sml_phrases.proofs.heads.read_head.Goals as goal

pub returns-in-Some : goal.returns-in-Some
returns-in-Some c =
    let s = c.args.source.now in
    let i = left s c.args.tokens.now in
    let m = left s c.in-Some.after.now in
    let v : Placed Vid = record { place = vid_place i; it = c.in-Some.vid } in
    record {
      gives = head-by s c.args.n i c.named_head.result (read_head c.args.n c.args.fix.now i) (vid_head c.args.n c.args.fix.now (place_at i) v m)
          (head-named c.args.n c.args.fix.now i m v c.in-Some.ensures)
          (c.named_head.ensures.gives i (vid_place i) c.place_at-place.ensures c.vid_place-name_place.ensures (binds-shorter c.args.fix.now i v m c.in-Some.ensures));
    }

pub returns-in_err-it : goal.returns-in_err-it
returns-in_err-it c =
    let q = err_from_is_err_and c.from_residual.result c.from_residual.ensures.1 in
    record { gives = rw (q.1, q.2) (head-fails c.args.n c.args.fix.now (left c.args.source.now c.args.tokens.now) c.in_err-it.field-0.0 c.in_default.ensures c.in_err-it.ensures.gives) }

pub returns-in-Some-joint_at : goal.returns-in-Some-joint_at
returns-in-Some-joint_at c =
    let s = c.args.source.now in
    let i = left s c.args.tokens.now in
    let h = c.in_ok-it.ensures.gives in
    let k = left s c.in_ok-it.field-0.rest.now in
    let m = left s c.in-Some-joint_at.found.1.now in
    let x : Placed ℕ = record { place = place_at k; it = c.in-Some-joint_at.found.0 } in
    let sh = infix-shorter c.args.fix.now k x m c.in-Some-joint_at.ensures in
    let sh2 = h.same.shorter in let sh3 = ap (λ (z : List Terminal). length z) h.same.rest in let ff = h.same.fits in let d = h.same.depth in
    record {
      gives = head-by s c.args.n i c.infix_head.result (read_head c.args.n c.args.fix.now i) (infix_rest c.args.n c.args.fix.now h.got.tree x m)
          (head-infix c.args.n c.args.fix.now i k m h.got x c.in_default.ensures h.is h.same.rest c.in-Some-joint_at.ensures)
          (c.infix_head.ensures.gives i h.got.tree (place_at k) c.place_at-place.ensures c.place_at-name_place.ensures h.same.bare d h.same.place (omega arith) (omega arith));
    }

pub returns-in-Some-2 : goal.returns-in-Some-2
returns-in-Some-2 c =
    let s = c.args.source.now in
    let i = left s c.args.tokens.now in
    let h = c.in_ok-it.ensures.gives in
    let k = left s c.in_ok-it.field-0.rest.now in
    let sh2 = h.same.shorter in let sh3 = ap (λ (z : List Terminal). length z) h.same.rest in let d = h.same.depth in
    let b = rw c.in-Some-2.is at (c.in_ok-pair.ensures h.got h.is) in
    record {
      gives = head-by s c.args.n i c.bracket_head.result (read_head c.args.n c.args.fix.now i) (bracket_rest c.args.n c.args.fix.now k (Some b.0))
          (head-bracket c.args.n c.args.fix.now i k h.got (Some b.0) c.in_default.ensures h.is h.same.rest c.in_default-joint_at.ensures b.1)
          (c.bracket_head.ensures.gives i b.0 c.place_at-place.ensures (subst (λ (z : ℕ). IsPair s c.in-Some-2.pair i z b.0) (sym d) b.2) (omega arith));
    }

pub returns-in-None : goal.returns-in-None
returns-in-None c =
    let s = c.args.source.now in
    let i = left s c.args.tokens.now in
    let h = c.in_ok-it.ensures.gives in
    let k = left s c.in_ok-it.field-0.rest.now in
    record { gives = head-bracket c.args.n c.args.fix.now i k h.got None c.in_default.ensures h.is h.same.rest c.in_default-joint_at.ensures (rw c.in-None.is at (c.in_ok-pair.ensures h.got h.is)) }
