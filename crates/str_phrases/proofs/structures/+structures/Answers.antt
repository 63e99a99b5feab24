use Rattle.std.proofs.Common.{◌≡◌, ◌<◌, ◌≤◌, ◌+◌, ◌-◌, ℕ, List, [], ◌∷◌, length, map, Some, None, true, false, refl, sym, ap, subst, ◌∙◌, arith, rules}
use Rattle.std.proofs.lemmas.Result.{err_from_is_err_and}
use Rattle.mlc_names.specs.declared.token.Reserved.TheVariants as res
use Rattle.sml_tree.specs.Terminal.{Terminal}
use Rattle.sml_grammar.specs.Terminals.{place_at, after_word}
use Rattle.sml_grammar.specs.Expressions.{dec_start}
use Rattle.module_grammar.specs.Structures.{str_readers, str_dec_by, read_str_binds}
use Rattle.module_grammar.specs.Sources.{inner_decs}
use Rattle.phrase_base.specs.Left.{left}
use Rattle.phrase_base.proofs.Loop.{fails-by}
use Rattle.phrase_base.proofs.Shorter.{word-shorter}
use Rattle.sig_phrases.proofs.Separated.{list-start, list-fail, list-more, list-last}
use Rattle.str_phrases.specs.StrsRead.{local_by, read_core}
use Rattle.str_phrases.proofs.Binding.{binds-form, bind-done}
use Rattle.str_phrases.proofs.Declaring.{decs-start, decs-pass, decs-fails, decs-more, decs-last}
use Rattle.str_phrases.proofs.Locals.{local-deep, local-at, core-at, dec-by, local-done}
use Rattle.str_phrases.proofs.Opening.{str-none, str-named, atom-fails, suffixed}
use Rattle.str_phrases.proofs.Making.{struct-done, brackets-done, let-done, applied-done, functor-atom, structures-done}
use Rattle.str_phrases.proofs.structures.+structures.Goals as goal

pub read_str-returns-then-n-eq0 : goal.read_str-returns-then-n-eq0
read_str-returns-then-n-eq0 g t c =
    let i = left c.args.source.now c.args.tokens.now in
    record { gives = fails-by c.no_str_room.result ((str_readers c.args.n).str c.args.fix.now i) _ (str-none c.args.n c.args.fix.now i c.if-n-eq0.true) c.no_str_room.ensures }

pub read_str-returns-in_err-it : goal.read_str-returns-in_err-it
read_str-returns-in_err-it g t c =
    let p = err_from_is_err_and c.from_residual.result c.from_residual.ensures.1 in
    record { gives = rw (p.1, p.2) (atom-fails g.R.CoreReader.dec_of c.args.source.now c.args.n c.args.fix.now (left c.args.source.now c.args.tokens.now) (omega arith) c.in_err-it.field-0.0 c.in_err-it.ensures.gives) }

pub read_str-returns : goal.read_str-returns
read_str-returns g t c =
    let i = left c.args.source.now c.args.tokens.now in
    let a = c.in_ok-it.ensures.gives in
    record { gives = suffixed g.R.CoreReader.dec_of c.args.source.now c.args.n c.args.fix.now i (omega arith) a.got c.with_seals.result a.is (c.with_seals.ensures.gives g.R.CoreReader.dec_of i a.got c.place_at-place.ensures a.same) }

pub read_str_decs-decs-init : goal.read_str_decs-decs-init
read_str_decs-decs-init g t c = record {
  going = decs-start g.R.CoreReader.dec_of c.args.source.now c.args.n c.args.fix.now (left c.args.source.now c.args.tokens.now) _ (rw c.new.ensures.items refl) refl;
  short = omega arith;
}

pub read_str_decs-decs-preserved-in-Some : goal.read_str_decs-decs-preserved-in-Some
read_str_decs-decs-preserved-in-Some g t c =
    let s = c.args.source.now in
    let s1 = word-shorter res.Semicolon (left s c.decs.rest.now) (left s c.in-Some.next.now) c.in-Some.ensures in
    let le = c.decs.invariant.short in
    record {
      going = decs-pass g.R.CoreReader.dec_of s c.args.n c.args.fix.now c.decs.invariant.going (left s c.in-Some.next.now) c.in-Some.ensures;
      short = omega arith;
    }

pub read_str_decs-returns-then-not-begins_str_dec : goal.read_str_decs-returns-then-not-begins_str_dec
read_str_decs-returns-then-not-begins_str_dec g t c =
    let s = c.args.source.now in
    let no : c.begins_str_dec.result ≡ false = search rules in
    let h = decs-last g.R.CoreReader.dec_of s c.args.n c.args.fix.now c.decs.invariant.going (left s c.args.tokens.now) c.decs.rest.now refl c.in_default.ensures (sym c.begins_str_dec.ensures ∙ no) c.decs.invariant.short in
    record { gives = record { got = h.got; is = h.is; same = h.same } }

pub read_str_decs-returns-in_err-front : goal.read_str_decs-returns-in_err-front
read_str_decs-returns-in_err-front g t c =
    let p = err_from_is_err_and c.from_residual.result c.from_residual.ensures.1 in
    let yes : c.begins_str_dec.result ≡ true = search rules in
    record { gives = rw (p.1, p.2) (decs-fails g.R.CoreReader.dec_of c.args.source.now c.args.n c.args.fix.now c.decs.invariant.going c.in_err-front.field-0.0 c.in_default.ensures (sym c.begins_str_dec.ensures ∙ yes) (rw c.in_err-front.ensures.second at c.read_str_dec.ensures.gives)) }

pub read_str_decs-decs-preserved : goal.read_str_decs-decs-preserved
read_str_decs-decs-preserved g t c =
    let s = c.args.source.now in
    let h = (rw c.in_ok-front.ensures.second at c.read_str_dec.ensures.gives) in
    let yes : c.begins_str_dec.result ≡ true = search rules in
    let l1 = h.same.shorter in
    let l2 = ap (λ (z : List Terminal). length z) h.same.rest in
    let le = c.decs.invariant.short in
    record {
      going = decs-more g.R.CoreReader.dec_of s c.args.n c.args.fix.now c.decs.invariant.going c.read_str_dec.new.fix c.in_ok-all.all c.max-deepest.result c.in_ok-front.dec.it c.in_ok-front.dec.depth c.in_ok-front.dec.rest.now h.got
          c.in_default.ensures (sym c.begins_str_dec.ensures ∙ yes) h.is h.same (rw c.in_ok-front.ensures.first at (c.in_ok-all.ensures.list g.R.CoreReader.dec_of)) (rw c.in_ok-front.ensures.first at c.in_ok-all.ensures.core) c.max-deepest.ensures;
      short = omega arith;
    }

pub read_str_dec-returns-in_default-after_word : goal.read_str_dec-returns-in_default-after_word
read_str_dec-returns-in_default-after_word g t c =
    let s = c.args.source.now in
    let i = left s c.args.tokens.now in
    record {
      gives = dec-by g.R.CoreReader.dec_of c.args.fix.now c.core_dec.new.fix s c.args.n c.args.n i i c.core_dec.result _ (read_core c.args.n c.args.fix.now (dec_start i))
          (core-at c.args.n (str_readers c.args.n).str (inner_decs c.args.n) c.args.fix.now i c.in_default.ensures c.in_default-after_word.ensures) refl (omega arith) c.core_dec.ensures.gives;
    }

pub read_str_dec-returns-then-n-eq0 : goal.read_str_dec-returns-then-n-eq0
read_str_dec-returns-then-n-eq0 g t c =
    let i = left c.args.source.now c.args.tokens.now in
    record { gives = local-deep c.args.n (str_readers c.args.n).str c.args.fix.now i _ c.if-n-eq0.true c.in-Some-after_word.ensures }

pub read_str_dec-returns : goal.read_str_dec-returns
read_str_dec-returns g t c =
    let s = c.args.source.now in
    let i = left s c.args.tokens.now in
    let k = left s c.in-Some-after_word.inner.now in
    let m : c.args.n - 1 + 1 ≡ c.args.n = omega arith in
    let lt = word-shorter res.Local i k c.in-Some-after_word.ensures in
    record {
      gives = dec-by g.R.CoreReader.dec_of c.args.fix.now c.read_local.new.fix s (c.args.n - 1 + 1) c.args.n k i c.read_local.result _ (local_by (c.args.n - 1) c.args.fix.now (place_at i) k)
          (local-at c.args.n (str_readers c.args.n).str c.args.fix.now i k (omega arith) c.in-Some-after_word.ensures) m (omega arith) (c.read_local.ensures.gives (place_at i) c.place_at-place.ensures);
    }

pub read_local-returns : goal.read_local-returns
read_local-returns g t c =
    let s = c.args.source.now in
    let i = left s c.args.tokens.now in
    let a = c.in_ok-first.ensures.gives in
    let b = (rw c.in_ok-start.ensures.second at c.read_str_decs-2.ensures.gives) in
    record {
      gives = λ p e.
          let l1 = word-shorter res.In (left s c.in_ok-first.first.rest.now) (left s c.in_ok-outer.inside.now) (rw c.in_ok-outer.ensures.second at c.past.ensures.word) in
          let l2 = word-shorter res.End (left s c.in_ok-start.second.rest.now) (left s c.in_ok-both.rest.now) (rw c.in_ok-both.ensures.second at c.past-2.ensures.word) in
          let l3 = a.same.shorter in let l4 = b.same.shorter in
          let l5 = ap (λ (z : List Terminal). length z) a.same.rest in let l6 = ap (λ (z : List Terminal). length z) b.same.rest in
          let deeper = rw (c.in_ok-decs.ensures.first, c.in_ok-both.ensures.first, c.in_ok-start.ensures.first, c.in_ok-outer.ensures.first) at c.max-below.ensures in
          let h = local-done g.R.CoreReader.dec_of s c.args.n c.args.fix.now c.read_str_decs.new.fix p i c.in_ok-first.first.it c.in_ok-first.first.depth c.in_ok-first.first.rest.now a.got (rw c.in_ok-inner.ensures at a.is) (rw c.in_ok-inner.ensures at a.same)
          (left s c.in_ok-outer.inside.now) (rw c.in_ok-outer.ensures.second at c.past.ensures.word) c.read_str_decs-2.new.fix c.in_ok-start.second.it c.in_ok-start.second.depth c.in_ok-start.second.rest.now b.got b.is b.same
          c.in_ok-both.rest.now c.in_ok-item.item c.args.place (c.max-below.result + 1) _ (rw c.in_ok-both.ensures.second at c.past-2.ensures.word) (omega arith) e
          (rw (c.in_ok-decs.ensures.first, c.in_ok-both.ensures.first, c.in_ok-start.ensures.first, c.in_ok-outer.ensures.first) at c.in_ok-item.ensures.list)
          (rw (c.in_ok-decs.ensures.first, c.in_ok-both.ensures.first, c.in_ok-start.ensures.first, c.in_ok-outer.ensures.first) at c.in_ok-item.ensures.core) (omega (arith, deeper))
          (rw c.len-hidden.ensures at (rw c.in_ok-decs.ensures.second at c.add_newest.ensures.ok)) in
          record { got = h.got; is = h.is; same = h.same };
    }

pub read_str_binds-binds-init : goal.read_str_binds-binds-init
read_str_binds-binds-init g t c = record {
  going = list-start (binds-form g.R.CoreReader.dec_of c.args.source.now.file c.args.n c.args.fix.now) c.args.source.now c.args.n (left c.args.source.now c.args.tokens.now) c.new-binds.result.items c.new-binds.ensures.items;
  short = omega arith;
}

pub read_str_binds-returns-in_err-front : goal.read_str_binds-returns-in_err-front
read_str_binds-returns-in_err-front g t c =
    let s = c.args.source.now in
    let p = err_from_is_err_and c.from_residual.result c.from_residual.ensures.1 in
    record { gives = rw (p.1, p.2) (list-fail (binds-form g.R.CoreReader.dec_of s.file c.args.n c.args.fix.now) s c.args.n (left s c.binds.rest.now) c.binds.binds.items c.binds.deepest _ c.in_err-front.field-0.0 (rw c.in_err-front.ensures.second at c.str_bind.ensures.gives) c.binds.invariant.going) }

pub read_str_binds-returns-in_default : goal.read_str_binds-returns-in_default
read_str_binds-returns-in_default g t c =
    let s = c.args.source.now in
    let r = rw c.in_ok-front.ensures.second at c.str_bind.ensures.gives in
    let h = list-last (binds-form g.R.CoreReader.dec_of s.file c.args.n c.args.fix.now) s c.args.n (left s c.binds.rest.now) c.binds.binds.items c.binds.deepest (read_str_binds c.args.n (str_readers c.args.n).str c.args.fix.now (left s c.args.tokens.now)) c.in_ok-binds.binds.items c.max-deepest.result c.in_ok-front.got.it c.in_ok-front.got.depth c.in_ok-front.got.rest.now
    r.got r.is r.same (rw c.in_ok-front.ensures.first at c.in_ok-binds.ensures) c.max-deepest.ensures c.binds.invariant.going (left s c.args.tokens.now) c.in_default.ensures c.binds.invariant.short in
    record { gives = record { got = h.got; is = h.is; same = h.same } }

pub read_str_binds-binds-preserved : goal.read_str_binds-binds-preserved
read_str_binds-binds-preserved g t c =
    let s = c.args.source.now in
    let r = rw c.in_ok-front.ensures.second at c.str_bind.ensures.gives in
    let h = list-more (binds-form g.R.CoreReader.dec_of s.file c.args.n c.args.fix.now) s c.args.n (left s c.binds.rest.now) c.binds.binds.items c.binds.deepest (read_str_binds c.args.n (str_readers c.args.n).str c.args.fix.now (left s c.args.tokens.now)) c.in_ok-binds.binds.items c.max-deepest.result c.in_ok-front.got.it c.in_ok-front.got.depth c.in_ok-front.got.rest.now
    r.got r.is r.same (rw c.in_ok-front.ensures.first at c.in_ok-binds.ensures) c.max-deepest.ensures c.binds.invariant.going _ c.in-Some.ensures in
    let a = h.short in let b = c.binds.invariant.short in
    record { going = h.going; short = omega arith }

pub read_str_binds-binds-smaller : goal.read_str_binds-binds-smaller
read_str_binds-binds-smaller g t c =
    let s = c.args.source.now in
    let r = rw c.in_ok-front.ensures.second at c.str_bind.ensures.gives in
    let h = list-more (binds-form g.R.CoreReader.dec_of s.file c.args.n c.args.fix.now) s c.args.n (left s c.binds.rest.now) c.binds.binds.items c.binds.deepest (read_str_binds c.args.n (str_readers c.args.n).str c.args.fix.now (left s c.args.tokens.now)) c.in_ok-binds.binds.items c.max-deepest.result c.in_ok-front.got.it c.in_ok-front.got.depth c.in_ok-front.got.rest.now
    r.got r.is r.same (rw c.in_ok-front.ensures.first at c.in_ok-binds.ensures) c.max-deepest.ensures c.binds.invariant.going _ c.in-Some.ensures in
    h.short

pub str_bind-returns : goal.str_bind-returns
str_bind-returns g t c =
    let s = c.args.source.now in
    let a = c.in_ok-sign.ensures.gives in
    let w = rw c.in_ok-front.ensures.second at c.past.ensures.word in
    let b = rw c.in_ok-head.ensures.second at c.read_str.ensures.gives in
    let kept = c.in_ok-head.ensures.first ∙ c.in_ok-front.ensures.first in
    let h = bind-done g.R.CoreReader.dec_of s c.args.n c.args.fix.now (left s c.args.tokens.now) (left s c.in-Some.found.1.now) c.in-Some.found.0 c.in_ok-sign.sign.rest.now c.in_ok-front.body.now c.in_ok-head.str.rest.now c.in-Some.ensures
    c.in_ok-sign.sign.it c.in_ok-sign.sign.depth a.got a.is a.same w c.in_ok-head.str.it c.in_ok-head.str.depth b.got b.is b.same c.place_at-place.result c.place_at-body_place.result c.structure_bind.result c.max-depth.result c.place_at-place.ensures c.place_at-body_place.ensures
    (rw kept at (rw (c.in_ok-made.ensures g.R.CoreReader.dec_of) at (c.structure_bind.ensures g.R.CoreReader.dec_of))) (rw kept at c.max-depth.ensures) in
    record { gives = record { got = h.got; is = h.is; same = h.same } }

pub str_atom-returns-in-Some-functor_at : goal.str_atom-returns-in-Some-functor_at
str_atom-returns-in-Some-functor_at g t c =
    let s = c.args.source.now in
    let i = left s c.args.tokens.now in
    let o = left s c.in-Some-functor_at.found.1.now in
    record {
      gives = functor-atom g.R.CoreReader.dec_of s c.args.n c.args.fix.now i o (record { place = place_at i; it = c.in-Some-functor_at.found.0 }) c.in_brackets.result c.in-Some-functor_at.ensures
          (λ lt. c.in_brackets.ensures.gives i (record { place = place_at i; it = c.in-Some-functor_at.found.0 }) (rw c.place_at-place.ensures refl) refl lt);
    }

pub str_atom-returns-in-None : goal.str_atom-returns-in-None
str_atom-returns-in-None g t c =
    let s = c.args.source.now in
    let i = left s c.args.tokens.now in
    record {
      gives = str-named g.R.CoreReader.dec_of s c.args.n i c.named_str.result (str_readers c.args.n) c.args.fix.now c.in_default.ensures c.in_default-after_word.ensures c.in-None.ensures
          (c.named_str.ensures.gives g.R.CoreReader.dec_of (str_readers c.args.n));
    }

pub in_struct-returns : goal.in_struct-returns
in_struct-returns g t c =
    let s = c.args.source.now in
    let a = c.in_ok-got.ensures.gives in
    let kept = c.in_ok-held.ensures.first in
    record {
      gives = λ i e lt.
          let h = struct-done g.R.CoreReader.dec_of s c.args.n c.args.fix.now c.read_str_decs.new.fix i (left s c.args.tokens.now) lt c.in_ok-got.got.it c.in_ok-got.got.depth c.in_ok-got.got.rest.now a.got (rw c.in_ok-inner.ensures at a.is) (rw c.in_ok-inner.ensures at a.same)
          c.in_ok-decs.decs.items (rw kept at (c.in_ok-decs.ensures g.R.CoreReader.dec_of)) c.in_ok-held.rest.now c.args.place c.structure.result (c.in_ok-held.held.depth + 1) (rw c.in_ok-held.ensures.second at c.past.ensures.word) e
          (c.structure.ensures g.R.CoreReader.dec_of) (rw kept refl) in
          record { got = h.got; is = h.is; same = h.same };
    }

pub in_let-returns : goal.in_let-returns
in_let-returns g t c =
    let s = c.args.source.now in
    let a = c.in_ok-got.ensures.gives in
    let b = rw c.in_ok-start.ensures.second at c.read_str.ensures.gives in
    let kept = c.in_ok-start.ensures.first ∙ c.in_ok-front.ensures.first in
    let list = rw c.in_ok-last.ensures.second at c.mixed.ensures in
    record {
      gives = λ i e lt.
          let h = let-done g.R.CoreReader.dec_of s c.args.n c.args.fix.now c.read_str_decs.new.fix i (left s c.args.tokens.now) lt c.in_ok-got.got.it c.in_ok-got.got.depth c.in_ok-got.got.rest.now a.got (rw c.in_ok-inner.ensures at a.is) (rw c.in_ok-inner.ensures at a.same)
          c.in_ok-last.decs.items (rw (c.in_ok-both.ensures.first, kept) at (list g.R.CoreReader.dec_of)) (left s c.in_ok-front.inside.now) c.in_ok-start.body.it c.in_ok-start.body.depth c.in_ok-start.body.rest.now c.in_ok-both.rest.now b.got c.args.place c.in_ok-made.made (c.max-below.result + 1)
          (rw c.in_ok-front.ensures.second at c.past.ensures.word) b.is b.same (rw c.in_ok-both.ensures.second at c.past-2.ensures.word) e (rw (c.in_ok-last.ensures.first, c.in_ok-both.ensures.first) at (c.in_ok-made.ensures g.R.CoreReader.dec_of))
          (ap (λ v. v + 1) (rw (c.in_ok-both.ensures.first, kept) at c.max-below.ensures)) in
          record { got = h.got; is = h.is; same = h.same };
    }

pub in_brackets-returns-then-begins_str : goal.in_brackets-returns-then-begins_str
in_brackets-returns-then-begins_str g t c =
    let s = c.args.source.now in
    let a = c.in_ok-got.ensures.gives in
    let kept = c.in_ok-held.ensures.first in
    let yes : c.begins_str.result ≡ true = search rules in
    record {
      gives = λ i x e p lt.
          let h = applied-done g.R.CoreReader.dec_of s c.args.n c.args.fix.now i (left s c.args.tokens.now) lt c.in_ok-got.got.it c.in_ok-got.got.depth c.in_ok-got.got.rest.now c.in_ok-held.rest.now a.got c.args.funid x c.in_ok-made.made (c.in_ok-held.held.depth + 1)
          (sym c.begins_str.ensures ∙ yes) a.is a.same (rw c.in_ok-held.ensures.second at c.past.ensures.word) e p (rw kept at (c.in_ok-made.ensures g.R.CoreReader.dec_of)) (rw kept refl) in
          record { got = h.got; is = h.is; same = h.same };
    }

pub in_brackets-returns : goal.in_brackets-returns
in_brackets-returns g t c =
    let s = c.args.source.now in
    let a = c.in_ok-decs.ensures.gives in
    let kept = c.in_ok-kept.ensures.first in
    let no : c.begins_str.result ≡ false = search rules in
    record {
      gives = λ i x e p lt.
          let h = brackets-done g.R.CoreReader.dec_of s c.args.n c.args.fix.now c.read_str_decs.new.fix i (left s c.args.tokens.now) lt c.in_ok-decs.decs.it c.in_ok-decs.decs.depth c.in_ok-decs.decs.rest.now a.got (rw c.in_ok-inner.ensures at a.is) (rw c.in_ok-inner.ensures at a.same)
          c.in_ok-all.all.items (rw kept at (c.in_ok-all.ensures g.R.CoreReader.dec_of)) c.in_ok-kept.rest.now c.args.funid x c.in_ok-applied.applied (c.in_ok-kept.kept.depth + 1) (sym c.begins_str.ensures ∙ no) (rw c.in_ok-kept.ensures.second at c.past-2.ensures.word) e p
          (c.in_ok-applied.ensures g.R.CoreReader.dec_of) (rw kept refl) in
          record { got = h.got; is = h.is; same = h.same };
    }

pub read_str_dec-returns-in-Some : goal.read_str_dec-returns-in-Some
read_str_dec-returns-in-Some g t c =
    let s = c.args.source.now in
    let a = c.in_ok-it.ensures.gives in
    let h = structures-done g.R.CoreReader.dec_of s c.args.n c.args.fix.now (left s c.args.tokens.now) (left s c.in-Some.inner.now) c.in_ok-it.field-0.it.items c.in_ok-it.field-0.depth c.in_ok-it.field-0.rest.now a.got c.place_at-place.result c.structure_dec.result c.in-Some.ensures a.is a.same
    c.place_at-place.ensures (c.structure_dec.ensures g.R.CoreReader.dec_of) in
    record { gives = record { got = h.got; is = h.is; same = h.same } }
