use Rattle.std.proofs.Common.{◌≡◌, ◌<◌, ◌+◌, ◌-◌, ℕ, suc, List, Some, None, length, map, true, false, refl, ap, ◌∙◌, sym, subst, arith}
use Rattle.std.proofs.lemmas.Result.{err_from_is_err_and}
use Rattle.mlc_names.specs.declared.token.Reserved.TheVariants as res
use Rattle.sml_tree.specs.Terminal.{Terminal}
use Rattle.sml_tree.specs.BareTree as tree
use Rattle.sml_tree.specs.ReadTree as read_tree
use Rattle.sml_tree.specs.Bare.{pat_list}
use Rattle.sml_tree.specs.Depth.{depth_pats}
use Rattle.sml_tree.specs.Levels.{infix_level}
use Rattle.sml_tree.specs.TreeOf.{pat_of, ty_of, long_vid_of}
use Rattle.sml_grammar.specs.Answer.{Read, ok, then_read, read, whole}
use Rattle.sml_grammar.specs.Terminals.{place_at, no_state, word_then}
use Rattle.sml_grammar.specs.Patterns.{read_pats, at_pat, pat_start, plain_form, vid_form, short_at, typed_form, pat_suffix, paren_pat_in, pat_commas_turn}
use Rattle.phrase_base.specs.Gives.{Fails}
use Rattle.phrase_base.specs.Left.{left}
use Rattle.sml_phrases.specs.VidPlace.{vid_place}
use Rattle.sml_tree.specs.ReadTree.{Placed}
use Rattle.sml_tree.specs.Terminal.{LongVid}
use Rattle.sml_tree.specs.declared.ident.Vid.{Vid}
use Rattle.sml_phrases.specs.PatternsRead.{IsPatAt}
use Rattle.phrase_base.proofs.Loop.{fails-bad, fails-deep}
use Rattle.phrase_base.proofs.Listing.{listing-start}
use Rattle.sml_phrases.proofs.Rolls.{pat_of-Vid}
use Rattle.phrase_base.proofs.Shorter.{word-shorter}
use Rattle.sml_phrases.proofs.VidShorter.{infix-shorter}
use Rattle.sml_phrases.proofs.PatForms.{pat-zero, atpat-zero, high-gives, vid-gives, none-gives, atpat-one, pat-gives, atpat-gives, pat-plain-start, plain-pat-gives, Seeking, seeking-none, seeking-low, seeking-bad, seeking-deep, seeking-fails, seeking-more, pat-by, patat-by, vid-as, typed-as, typed-else, typed-is, plain-first, paren-comma-pat, con-said}
use Rattle.sml_phrases.proofs.PatLists.{pats-more, pats-last, pats-fails, row-start, row-dots, row-fails, row-more, row-last}
use Rattle.sml_phrases.proofs.PatParts.{parts-start, parts-fail, parts-none, parts-other, parts-bad, parts-more, parts-whole, part-of, differ, agree}
use Rattle.sml_phrases.proofs.patterns.+pats.Goals as goal

pub read_pat-returns-then-begins_pat : goal.read_pat-returns-then-begins_pat
read_pat-returns-then-begins_pat t c = record { gives = pat-zero c.args.n c.args.level c.args.fix.now _ true c.if-n-eq0.true (sym c.begins_pat.ensures ∙ c.if-begins_pat.true) }

pub read_pat-returns-then-n-eq0 : goal.read_pat-returns-then-n-eq0
read_pat-returns-then-n-eq0 t c = record { gives = pat-zero c.args.n c.args.level c.args.fix.now _ false c.if-n-eq0.true (sym c.begins_pat.ensures ∙ c.if-begins_pat.false) }

pub read_pat-returns-then-level-gt0 : goal.read_pat-returns-then-level-gt0
read_pat-returns-then-level-gt0 t c =
    let i = left c.args.source.now c.args.tokens.now in
    record {
      gives = pat-gives c.args.source.now c.args.n i c.plain_form.result ((read_pats c.args.n).pat c.args.fix.now c.args.level i) (plain_form (read_pats (c.args.n - 1)) (c.args.n - 1) c.args.fix.now c.args.level i) (omega arith)
          (high-gives c.args.n c.args.level c.args.fix.now i (omega arith) c.if-level-gt0.true) c.plain_form.ensures.gives;
    }

pub read_pat-returns-in-Some : goal.read_pat-returns-in-Some
read_pat-returns-in-Some t c =
    let i = left c.args.source.now c.args.tokens.now in
    let m = left c.args.source.now c.in-Some.after.now in
    record {
      gives = pat-gives c.args.source.now c.args.n i c.vid_form.result ((read_pats c.args.n).pat c.args.fix.now c.args.level i) (vid_form (read_pats (c.args.n - 1)) (c.args.n - 1) c.args.fix.now i (record { place = vid_place i; it = c.in-Some.vid }) m) (omega arith)
          (vid-gives c.args.n c.args.level c.args.fix.now i (record { place = vid_place i; it = c.in-Some.vid }) m (omega arith) (omega arith) c.in-Some.ensures) c.vid_form.ensures.gives;
    }

pub read_pat-returns-in-None : goal.read_pat-returns-in-None
read_pat-returns-in-None t c =
    let i = left c.args.source.now c.args.tokens.now in
    record {
      gives = pat-gives c.args.source.now c.args.n i c.plain_form-in-None.result ((read_pats c.args.n).pat c.args.fix.now c.args.level i) (plain_form (read_pats (c.args.n - 1)) (c.args.n - 1) c.args.fix.now c.args.level i) (omega arith)
          (let e : c.args.level ≡ 0 = omega arith in subst (λ (l : ℕ). (read_pats c.args.n).pat c.args.fix.now c.args.level i ≡ plain_form (read_pats (c.args.n - 1)) (c.args.n - 1) c.args.fix.now l i) refl (none-gives c.args.n c.args.level c.args.fix.now i (omega arith) (omega arith) c.in-None.ensures)) c.plain_form-in-None.ensures.gives;
    }

pub read_atpat-returns-then-begins_pat : goal.read_atpat-returns-then-begins_pat
read_atpat-returns-then-begins_pat t c = record { gives = atpat-zero c.args.n c.args.fix.now _ true c.if-n-eq0.true (sym c.begins_pat.ensures ∙ c.if-begins_pat.true) }

pub read_atpat-returns-then-n-eq0 : goal.read_atpat-returns-then-n-eq0
read_atpat-returns-then-n-eq0 t c = record { gives = atpat-zero c.args.n c.args.fix.now _ false c.if-n-eq0.true (sym c.begins_pat.ensures ∙ c.if-begins_pat.false) }

pub read_atpat-returns : goal.read_atpat-returns
read_atpat-returns t c =
    let i = left c.args.source.now c.args.tokens.now in
    record {
      gives = atpat-gives c.args.source.now c.args.fix.now c.args.n i c.atomic_pat.result ((read_pats c.args.n).atpat c.args.fix.now i) (at_pat (c.args.n - 1) (read_pats (c.args.n - 1)).pat c.args.fix.now (pat_start c.args.fix.now i)) (omega arith)
          (atpat-one c.args.n c.args.fix.now i (omega arith)) c.atomic_pat.ensures.gives;
    }

pub atomic_pat-returns : goal.atomic_pat-returns
atomic_pat-returns t c =
    let i = left c.args.source.now c.args.tokens.now in
    record { gives = plain-pat-gives c.args.source.now c.args.n c.args.fix.now i c.plain_atpat.result (read_pats c.args.n).pat (pat-plain-start c.args.fix.now i c.in_default.ensures c.in_default-after_word.ensures c.in_default-after_word-2.ensures) (c.plain_atpat.ensures.gives c.args.n (read_pats c.args.n).pat) }

pub first_pat-returns-then-begins_pat : goal.first_pat-returns-then-begins_pat
first_pat-returns-then-begins_pat t c =
    let s = c.args.source.now in
    let i = left s c.args.tokens.now in
    let h = rw c.in_ok-con-in-Some.ensures.second at c.read_atpat.ensures.gives in
    let e = rw (c.place_at.ensures, c.vid_place-name_place.ensures, c.in_ok-con-in-Some.ensures.first) at c.in_ok-applied-in-Some.ensures in
    let x : Placed LongVid = record { place = vid_place i; it = long_vid_of c.in-Some.long } in
    let g = con-said s c.args.n c.args.fix.now i _ c.in_ok-con-in-Some.argument.it x c.in_ok-con-in-Some.argument.depth c.in-Some.after.now c.in_ok-con-in-Some.argument.rest.now h.got (rw c.in-Some.is at c.in_ok-long.ensures) (sym c.begins_pat.ensures ∙ c.if-begins_pat.true) h.is h.same e in
    record { gives = record { got = g.got; is = g.is; same = g.same } }

pub typed_form-returns : goal.typed_form-returns
typed_form-returns t c =
    let s = c.args.source.now in
    let h = c.in_ok-ty.ensures.gives in
    record {
      gives = λ i q pl nl lt.
          let v : Placed Vid = record { place = q; it = c.args.vid } in
          let e = c.in_ok-first.ensures
          ∙ ap (λ (z : tree.Pat). tree.typed_pat c.args.place z (ty_of c.in_ok-ty.field-0.it)) (pat_of-Vid c.args.name_place (record { qualifiers = c.new.result; vid = c.args.vid }) ∙ ap (λ (z : List ℕ). tree.vid_pat c.args.name_place (record { qualifiers = z; vid = c.args.vid })) c.new.ensures.items)
          ∙ rw (pl, nl) refl in
          let a : Read read_tree.Pat = record { tree = read_tree.typed_pat (read_tree.vid_pat (place_at i) (short_at v)) h.got.tree; rest = h.got.rest } in
          let is0 = typed-is s c.args.fix.now c.args.n i (left s c.args.tokens.now) c.in_ok-first.first v c.in_ok-ty.field-0.it c.in_ok-ty.field-0.depth c.in_ok-ty.field-0.rest.now h.got (omega arith) h.same lt e in
          let is : IsPatAt s c.args.fix.now 5 (c.args.n + 1) i c.in_ok-first.first (c.max.result + 1) c.in_ok-ty.field-0.rest.now a =
          subst (λ (k : ℕ). IsPatAt s c.args.fix.now 5 (c.args.n + 1) i c.in_ok-first.first (k + 1) c.in_ok-ty.field-0.rest.now a) (sym c.max.ensures) is0 in
          pat-by s (c.args.n + 1) i c.suffixes.result (typed_form (read_pats c.args.n) c.args.n c.args.fix.now (place_at i) v (left s c.args.tokens.now))
          (pat_suffix (read_pats c.args.n).pat c.args.n c.args.fix.now 0 (read_tree.typed_pat (read_tree.vid_pat (place_at i) (short_at v)) h.got.tree) h.got.rest)
          (typed-else s (read_pats c.args.n) c.args.n c.args.fix.now (place_at i) v (left s c.args.tokens.now) c.in_ok-ty.field-0.rest.now h.got (omega arith) h.is h.same.rest c.in_default.ensures)
          (c.suffixes.ensures.gives i a pl is);
    }

pub typed_form-returns-in-Some : goal.typed_form-returns-in-Some
typed_form-returns-in-Some t c =
    let s = c.args.source.now in
    let h = c.in_ok-ty.ensures.gives in
    let sh = word-shorter res.As (left s c.in_ok-ty.field-0.rest.now) (left s c.in-Some.more.now) c.in-Some.ensures in
    let sh2 = h.same.shorter in let sh3 = ap (λ (z : List Terminal). length z) h.same.rest in
    record {
      gives = λ i q pl nl lt.
          let v : Placed Vid = record { place = q; it = c.args.vid } in
          pat-by s (c.args.n + 1) i c.as_form.result (typed_form (read_pats c.args.n) c.args.n c.args.fix.now (place_at i) v (left s c.args.tokens.now))
          (then_read ((read_pats c.args.n).pat c.args.fix.now 0 (left s c.in-Some.more.now)) (λ a o. read (read_tree.as_pat (place_at i) v (Some h.got.tree) a) o))
          (typed-as s (read_pats c.args.n) c.args.n c.args.fix.now (place_at i) v (left s c.args.tokens.now) (left s c.in-Some.more.now) c.in_ok-ty.field-0.rest.now h.got (omega arith) h.is h.same.rest c.in-Some.ensures)
          (c.as_form.ensures.gives i q (Some h.got.tree) nl (ap Some h.same.bare) h.same.depth (omega arith));
    }

pub vid_form-returns-in-Some : goal.vid_form-returns-in-Some
vid_form-returns-in-Some t c =
    let s = c.args.source.now in
    let i = left s c.args.tokens.now in
    let v : Placed Vid = record { place = vid_place i; it = c.args.vid } in
    let sh = word-shorter res.As (left s c.args.after.now) (left s c.in-Some.rest.now) c.in-Some.ensures in
    record {
      gives = pat-by s (c.args.n + 1) i c.as_form.result (vid_form (read_pats c.args.n) c.args.n c.args.fix.now i v (left s c.args.after.now))
          (then_read ((read_pats c.args.n).pat c.args.fix.now 0 (left s c.in-Some.rest.now)) (λ a o. read (read_tree.as_pat (place_at i) v None a) o))
          (vid-as (read_pats c.args.n) c.args.n c.args.fix.now i v (left s c.args.after.now) (left s c.in-Some.rest.now) c.in-Some.ensures)
          (c.as_form.ensures.gives i (vid_place i) None c.vid_place-name_place.ensures refl refl (omega (arith, c.requires.shorter)));
    }

pub plain_form-returns : goal.plain_form-returns
plain_form-returns t c =
    let s = c.args.source.now in
    let i = left s c.args.tokens.now in
    let a = c.in_ok-it.ensures.gives in
    record {
      gives = pat-by s (c.args.n + 1) i c.suffixes.result (plain_form (read_pats c.args.n) c.args.n c.args.fix.now c.args.level i) (pat_suffix (read_pats c.args.n).pat c.args.n c.args.fix.now c.args.level a.got.tree a.got.rest)
          (plain-first (read_pats c.args.n) c.args.n c.args.fix.now c.args.level i a.got a.is) (c.suffixes.ensures.gives i a.got c.place_at-place.ensures a.same);
    }

pub paren_pat-returns-in-Some-after_word : goal.paren_pat-returns-in-Some-after_word
paren_pat-returns-in-Some-after_word t c =
    let s = c.args.source.now in
    let a = c.in_ok-it.ensures.gives in
    let sh = word-shorter res.Comma (left s c.in_ok-it.field-0.rest.now) (left s c.in-Some-after_word.more.now) c.in-Some-after_word.ensures in
    let sh2 = a.same.shorter in let sh3 = ap (λ (z : List Terminal). length z) a.same.rest in
    record {
      gives = λ i pl lt.
          patat-by s c.args.fix.now 1000 (c.args.n + 1) i c.tuple_pat.result (paren_pat_in (read_pats c.args.n).pat c.args.fix.now (place_at i) (left s c.args.tokens.now))
          (then_read (whole (pat_commas_turn (read_pats c.args.n).pat c.args.fix.now) no_state (left s c.in-Some-after_word.more.now)) (λ as_ k. word_then res.RightParen (λ o. read (read_tree.tuple_pat (place_at i) (read_tree.pat a.got.tree as_)) o) k))
          (paren-comma-pat s (read_pats c.args.n).pat c.args.fix.now (place_at i) (left s c.args.tokens.now) (left s c.in-Some-after_word.more.now) c.in_ok-it.field-0.rest.now a.got c.in_default.ensures a.is a.same.rest c.in-Some-after_word.ensures)
          (c.tuple_pat.ensures.gives i a.got.tree pl a.same.bare a.same.depth (omega arith));
    }

pub pat_row-fields-init : goal.pat_row-fields-init
pat_row-fields-init t c = record { going = row-start c.args.source.now c.args.fix.now c.args.n (left c.args.source.now c.args.tokens.now) c.new-fields.result.items c.new-fields.ensures.items; short = omega arith }

pub pat_row-returns-in-Some : goal.pat_row-returns-in-Some
pat_row-returns-in-Some t c =
    let s = c.args.source.now in
    let sh = word-shorter res.Dots (left s c.fields.rest.now) (left s c.in-Some.end.now) c.in-Some.ensures in
    let g = row-dots s c.args.fix.now c.args.n c.fields.fields.items c.fields.deepest (left s c.fields.rest.now) _ (left s c.args.tokens.now) c.in-Some.end.now c.in-Some.ensures (omega (arith, c.fields.invariant.short)) c.fields.invariant.going in
    record { gives = record { got = g.got; is = g.is; same = g.same } }

pub pat_row-returns-in_err-front : goal.pat_row-returns-in_err-front
pat_row-returns-in_err-front t c =
    let p = err_from_is_err_and c.from_residual.result c.from_residual.ensures.1 in
    record { gives = rw (p.1, p.2) (row-fails c.args.source.now c.args.fix.now c.args.n c.fields.fields.items c.fields.deepest (left c.args.source.now c.fields.rest.now) _ c.in_err-front.field-0.0 c.in_default.ensures (rw c.in_err-front.ensures.second at c.pat_field.ensures.gives) c.fields.invariant.going) }

pub pat_row-returns-in_default-after_word : goal.pat_row-returns-in_default-after_word
pat_row-returns-in_default-after_word t c =
    let s = c.args.source.now in
    let h = (rw c.in_ok-front.ensures.second at c.pat_field.ensures.gives) in
    let g = row-last s c.args.fix.now c.args.n c.fields.fields.items c.fields.deepest (left s c.fields.rest.now) _ c.in_ok-fields.fields.items c.max-deepest.result c.in_ok-front.field.it c.in_ok-front.field.depth c.in_ok-front.field.rest.now h.got (rw c.in_ok-front.ensures.first at c.in_ok-fields.ensures) c.max-deepest.ensures
    (left s c.args.tokens.now) c.in_default.ensures h.is h.same c.in_default-after_word.ensures c.fields.invariant.short c.fields.invariant.going in
    record { gives = record { got = g.got; is = g.is; same = g.same } }

pub pat_row-fields-preserved : goal.pat_row-fields-preserved
pat_row-fields-preserved t c =
    let s = c.args.source.now in
    let h = (rw c.in_ok-front.ensures.second at c.pat_field.ensures.gives) in
    let sh = word-shorter res.Comma (left s c.in_ok-front.field.rest.now) (left s c.in-Some-after_word.next.now) c.in-Some-after_word.ensures in
    let sh2 = h.same.shorter in let sh3 = ap (λ (z : List Terminal). length z) h.same.rest in
    let lt : length (left s c.in-Some-after_word.next.now) < length (left s c.fields.rest.now) = omega arith in
    record {
      going = row-more s c.args.fix.now c.args.n c.fields.fields.items c.fields.deepest (left s c.fields.rest.now) _ c.in_ok-fields.fields.items c.max-deepest.result c.in_ok-front.field.it c.in_ok-front.field.depth c.in_ok-front.field.rest.now h.got (rw c.in_ok-front.ensures.first at c.in_ok-fields.ensures) c.max-deepest.ensures
          (left s c.in-Some-after_word.next.now) c.in_default.ensures h.is h.same c.in-Some-after_word.ensures lt c.fields.invariant.going;
      short = omega (arith, c.fields.invariant.short);
    }

pub more_pats-patterns-init : goal.more_pats-patterns-init
more_pats-patterns-init t c = record {
  going = listing-start (pat_commas_turn (read_pats c.args.n).pat c.args.fix.now) (pat_list c.args.source.now.file) depth_pats c.args.n (map pat_of c.args.front.items) c.args.depth no_state (left c.args.source.now c.args.tokens.now) c.requires.fits;
  short = omega arith;
}

pub more_pats-returns-in_err-others : goal.more_pats-returns-in_err-others
more_pats-returns-in_err-others t c =
    let p = err_from_is_err_and c.from_residual.result c.from_residual.ensures.1 in
    record { gives = rw (p.1, p.2) (pats-fails c.args.source.now c.args.fix.now c.args.n c.args.front.items c.args.depth c.patterns.all.items c.patterns.deepest (left c.args.source.now c.patterns.rest.now) _ c.in_err-others.field-0.0 (rw c.in_err-others.ensures.second at c.read_pat.ensures.gives) c.patterns.invariant.going) }

pub more_pats-returns-in_default : goal.more_pats-returns-in_default
more_pats-returns-in_default t c =
    let s = c.args.source.now in
    let h = (rw c.in_ok-others.ensures.second at c.read_pat.ensures.gives) in
    let g = pats-last s c.args.fix.now c.args.n c.args.front.items c.args.depth c.patterns.all.items c.in_ok-all.all.items c.patterns.deepest c.max-deepest.result (left s c.patterns.rest.now) _ c.in_ok-others.pat.it c.in_ok-others.pat.depth c.in_ok-others.pat.rest.now h.got (rw c.in_ok-others.ensures.first at c.in_ok-all.ensures) c.max-deepest.ensures
    (left s c.args.tokens.now) h.is h.same c.in_default.ensures c.patterns.invariant.short c.patterns.invariant.going in
    record { gives = record { got = g.got; is = g.is; same = g.same } }

pub more_pats-patterns-preserved : goal.more_pats-patterns-preserved
more_pats-patterns-preserved t c =
    let s = c.args.source.now in
    let h = (rw c.in_ok-others.ensures.second at c.read_pat.ensures.gives) in
    let sh = word-shorter res.Comma (left s c.in_ok-others.pat.rest.now) (left s c.in-Some.next.now) c.in-Some.ensures in
    let sh2 = h.same.shorter in let sh3 = ap (λ (z : List Terminal). length z) h.same.rest in
    let lt : length (left s c.in-Some.next.now) < length (left s c.patterns.rest.now) = omega arith in
    record {
      going = pats-more s c.args.fix.now c.args.n c.args.front.items c.args.depth c.patterns.all.items c.in_ok-all.all.items c.patterns.deepest c.max-deepest.result (left s c.patterns.rest.now) _ c.in_ok-others.pat.it c.in_ok-others.pat.depth c.in_ok-others.pat.rest.now h.got (rw c.in_ok-others.ensures.first at c.in_ok-all.ensures) c.max-deepest.ensures
          h.is h.same c.in-Some.ensures lt c.patterns.invariant.going;
      short = omega (arith, c.patterns.invariant.short);
    }

pub suffixes-returns-in_default : goal.suffixes-returns-in_default
suffixes-returns-in_default t c = record {
  gives = λ i a pl is.
      let x = seeking-none c.args.source.now c.args.fix.now (read_pats c.args.n).pat c.args.n c.args.least i c.suffixes.pat c.suffixes.deep c.suffixes.high c.suffixes.rest.now _ (c.suffixes.invariant i a pl is) c.in_default.ensures.none c.in_default.ensures.no_colon in
      record { got = x.got; is = x.is; same = x.same };
}

pub suffixes-returns-then-least-tie : goal.suffixes-returns-then-least-tie
suffixes-returns-then-least-tie t c = record {
  gives = λ i a pl is.
      let e = c.suffix_level-tie.ensures in
      let x = seeking-low c.args.source.now c.args.fix.now (read_pats c.args.n).pat c.args.n c.args.least i c.suffixes.pat c.suffixes.deep c.suffixes.high c.suffixes.rest.now _ (c.suffixes.invariant i a pl is) c.in-Some.suffix (left c.args.source.now c.in-Some.more.now) c.in-Some.ensures.none (omega arith) in
      record { got = x.got; is = x.is; same = x.same };
}

pub suffixes-returns-in_err-tied : goal.suffixes-returns-in_err-tied
suffixes-returns-in_err-tied t c =
    let p = err_from_is_err_and c.from_residual.result c.from_residual.ensures.1 in
    let lt = rw c.in_err-tied.ensures.second at c.high_enough.ensures.high in
    record {
      gives = λ i a pl is.
          let e = c.suffix_level-tie.ensures in let e2 = c.suffix_least.ensures in
          rw (p.1, p.2) (fails-bad c.in_err-tied.field-0.0 _ _ (rw c.in_err-tied.ensures.second at c.high_enough.ensures.stop)
          (seeking-bad c.args.source.now c.args.fix.now (read_pats c.args.n).pat c.args.n c.args.least i c.suffixes.pat c.suffixes.deep c.suffixes.high c.suffixes.rest.now _ (c.suffixes.invariant i a pl is) c.in-Some.suffix (left c.args.source.now c.in-Some.more.now) c.in-Some.ensures.none (omega arith) (omega arith)));
    }

pub suffixes-returns-in_err-before : goal.suffixes-returns-in_err-before
suffixes-returns-in_err-before t c =
    let p = err_from_is_err_and c.from_residual-in_err-before.result c.from_residual-in_err-before.ensures.1 in
    let le = rw c.in_ok-tied.ensures.second at c.high_enough.ensures.high in
    let lt = rw c.in_err-before.ensures.second at c.room.ensures.fits in
    record {
      gives = λ i a pl is.
          let e = c.suffix_level-tie.ensures in let e2 = c.suffix_least.ensures in
          rw (p.1, p.2) (fails-deep c.in_err-before.field-0.0 _ _ (rw c.in_err-before.ensures.second at c.room.ensures.stop)
          (seeking-deep c.args.source.now c.args.fix.now (read_pats c.args.n).pat c.args.n c.args.least i c.suffixes.pat c.suffixes.deep c.suffixes.high c.suffixes.rest.now _ (c.suffixes.invariant i a pl is) c.in-Some.suffix (left c.args.source.now c.in-Some.more.now) c.in-Some.ensures.none (omega arith) (omega arith) lt));
    }

pub suffixes-returns-in_err-it : goal.suffixes-returns-in_err-it
suffixes-returns-in_err-it t c =
    let p = err_from_is_err_and c.from_residual-in_err-it.result c.from_residual-in_err-it.ensures.1 in
    let s = c.args.source.now in
    record {
      gives = λ i a pl is.
          let g = c.suffixes.invariant i a pl is in
          let le = rw c.in_ok-tied.ensures.second at c.high_enough.ensures.high in let fit = rw c.in_ok-before.ensures.second at c.room.ensures.fits in let e = c.suffix_level-tie.ensures in let e2 = c.suffix_least.ensures in
          let sh : length (left s c.in-Some.more.now) < length (left s c.suffixes.rest.now) = c.in-Some.ensures.no_colon in
          let sh2 = g.is.shorter in let sh3 = ap (λ (z : List Terminal). length z) g.is.rest in
          rw (p.1, p.2) (seeking-fails s c.args.fix.now (read_pats c.args.n).pat c.args.n c.args.least i c.suffixes.pat c.suffixes.deep c.suffixes.high c.suffixes.rest.now _ g c.in_err-it.field-0.0 c.in-Some.suffix (left s c.in-Some.more.now) c.in-Some.ensures.none (omega arith) (omega arith) fit
          ((rw (c.in_ok-before.ensures.first, c.in_ok-tied.ensures.first) at c.in_err-it.ensures.gives) i (left s c.suffixes.rest.now) g.it.tree pl c.place_at-joint.ensures g.is.bare g.is.depth g.is.place (omega arith) c.in-Some.ensures.none));
    }

pub suffixes-suffixes-preserved : goal.suffixes-suffixes-preserved
suffixes-suffixes-preserved t c = λ i a pl is.
    let s = c.args.source.now in
    let g = c.suffixes.invariant i a pl is in
    let le = rw c.in_ok-tied.ensures.second at c.high_enough.ensures.high in let fit = rw c.in_ok-before.ensures.second at c.room.ensures.fits in let e = c.suffix_level-tie.ensures in let e2 = c.suffix_least.ensures in
    let sh : length (left s c.in-Some.more.now) < length (left s c.suffixes.rest.now) = c.in-Some.ensures.no_colon in
    let sh2 = g.is.shorter in let sh3 = ap (λ (z : List Terminal). length z) g.is.rest in
    let sh4 : length (left s c.in_ok-it.field-0.rest.now) < length (left s c.in-Some.more.now) = c.in_ok-it.ensures.shorter in
    let b = (rw (c.in_ok-before.ensures.first, c.in_ok-tied.ensures.first) at c.in_ok-it.ensures.gives) i (left s c.suffixes.rest.now) g.it.tree pl c.place_at-joint.ensures g.is.bare g.is.depth g.is.place (omega arith) c.in-Some.ensures.none in
    let total = pat_suffix (read_pats c.args.n).pat c.args.n c.args.fix.now c.args.least a.tree a.rest in
    subst (λ (k : ℕ). Seeking s c.args.fix.now (read_pats c.args.n).pat c.args.n c.args.least i c.in_ok-it.field-0.it c.in_ok-it.field-0.depth k c.in_ok-it.field-0.rest.now total) (sym e)
    (seeking-more s c.args.fix.now (read_pats c.args.n).pat c.args.n c.args.least i c.suffixes.pat c.suffixes.deep c.suffixes.high c.suffixes.rest.now total g c.in-Some.suffix (left s c.in-Some.more.now) b.got c.in_ok-it.field-0.it c.in_ok-it.field-0.depth c.in_ok-it.field-0.rest.now c.in-Some.ensures.none (omega arith) (omega arith) fit b.is b.same (omega arith))

pub pat_parts-parts-init : goal.pat_parts-parts-init
pat_parts-parts-init t c = record {
  going = λ p pl b. (p, pl, parts-start c.args.source.now c.args.fix.now c.args.n c.args.how p c.args.name (left c.args.source.now c.args.tokens.now) c.new-all.result.items b c.new-all.ensures.items);
  short = omega arith;
  fits = omega arith;
}

pub pat_parts-returns-in_err-front-clause-gives : goal.pat_parts-returns-in_err-front-clause-gives
pat_parts-returns-in_err-front-clause-gives t c =
    let q = err_from_is_err_and c.from_residual.result c.from_residual.ensures.1 in
    let s = c.args.source.now in
    let e : c.infix_level-level.result + 1 ≡ suc (infix_level (Some c.args.how)) = (let k = c.infix_level-level.ensures in omega arith) in
    λ p pl b.
    let g = c.parts.invariant.going p pl b in
    rw (q.1, q.2) (parts-fail s c.args.fix.now c.args.n c.args.how g.0 c.parts.vid (left s c.parts.rest.now) c.parts.all.items c.parts.deepest _ g.2 c.in_err-front.field-0.0
    (subst (λ (k : ℕ). Fails c.in_err-front.field-0.0 ((read_pats c.args.n).pat c.args.fix.now k (left s c.parts.rest.now))) e (rw c.in_err-front.ensures.second at c.read_pat.ensures.gives)))

pub pat_parts-returns-in_default-clause-gives : goal.pat_parts-returns-in_default-clause-gives
pat_parts-returns-in_default-clause-gives t c =
    let s = c.args.source.now in
    let h = (rw c.in_ok-front.ensures.second at c.read_pat.ensures.gives) in
    let e : c.infix_level-level.result + 1 ≡ suc (infix_level (Some c.args.how)) = (let k = c.infix_level-level.ensures in omega arith) in
    let r : (read_pats c.args.n).pat c.args.fix.now (suc (infix_level (Some c.args.how))) (left s c.parts.rest.now) ≡ ok h.got = subst (λ (k : ℕ). (read_pats c.args.n).pat c.args.fix.now k (left s c.parts.rest.now) ≡ ok h.got) e h.is in
    λ p pl b.
    let g = c.parts.invariant.going p pl b in
    let x = parts-whole s c.args.fix.now c.args.n p c.args.name (left s c.args.tokens.now) c.in_ok-all.all.items c.max-deepest.result c.in_ok-front.pat.rest.now
    (parts-none s c.args.fix.now c.args.n c.args.how g.0 c.parts.vid (left s c.parts.rest.now) c.parts.all.items c.parts.deepest _ g.2 c.in_ok-all.all.items c.max-deepest.result _ c.in_ok-front.pat.it c.in_ok-front.pat.depth c.in_ok-front.pat.rest.now h.got (rw c.in_ok-front.ensures.first at c.in_ok-all.ensures) c.max-deepest.ensures
    (part-of c.parts.vid_place c.place_at-place.result c.parts.vid c.in_ok-front.pat.it _ _ g.1 c.place_at-place.ensures) r h.same (left s c.args.tokens.now) c.in_default.ensures c.parts.invariant.short) in
    record { got = x.got; is = x.is; same = x.same }

pub pat_parts-returns-then-next_level-level-clause-gives : goal.pat_parts-returns-then-next_level-level-clause-gives
pat_parts-returns-then-next_level-level-clause-gives t c =
    let s = c.args.source.now in
    let h = (rw c.in_ok-front.ensures.second at c.read_pat.ensures.gives) in
    let e : c.infix_level-level.result + 1 ≡ suc (infix_level (Some c.args.how)) = (let k = c.infix_level-level.ensures in omega arith) in
    let r : (read_pats c.args.n).pat c.args.fix.now (suc (infix_level (Some c.args.how))) (left s c.parts.rest.now) ≡ ok h.got = subst (λ (k : ℕ). (read_pats c.args.n).pat c.args.fix.now k (left s c.parts.rest.now) ≡ ok h.got) e h.is in
    λ p pl b.
    let g = c.parts.invariant.going p pl b in
    let x = parts-whole s c.args.fix.now c.args.n p c.args.name (left s c.args.tokens.now) c.in_ok-all.all.items c.max-deepest.result c.in_ok-front.pat.rest.now
    (parts-other s c.args.fix.now c.args.n c.args.how g.0 c.parts.vid (left s c.parts.rest.now) c.parts.all.items c.parts.deepest _ g.2 c.in_ok-all.all.items c.max-deepest.result _ c.in_ok-front.pat.it c.in_ok-front.pat.depth c.in_ok-front.pat.rest.now h.got (rw c.in_ok-front.ensures.first at c.in_ok-all.ensures) c.max-deepest.ensures
    (part-of c.parts.vid_place c.place_at-place.result c.parts.vid c.in_ok-front.pat.it _ _ g.1 c.place_at-place.ensures) r h.same _ _ c.vid_level-next_level.result c.vid_right-next_right.result c.in-Some.ensures (sym c.vid_level-next_level.ensures) (sym c.vid_right-next_right.ensures) (left s c.args.tokens.now)
    (λ (z : c.vid_level-next_level.result ≡ infix_level (Some c.args.how)). c.if-next_level-level.true (z ∙ sym c.infix_level-level.ensures)) c.parts.invariant.short) in
    record { got = x.got; is = x.is; same = x.same }

pub pat_parts-returns-then-next_right-how-clause-gives : goal.pat_parts-returns-then-next_right-how-clause-gives
pat_parts-returns-then-next_right-how-clause-gives t c =
    let s = c.args.source.now in
    let h = (rw c.in_ok-front.ensures.second at c.read_pat.ensures.gives) in
    let e : c.infix_level-level.result + 1 ≡ suc (infix_level (Some c.args.how)) = (let k = c.infix_level-level.ensures in omega arith) in
    let r : (read_pats c.args.n).pat c.args.fix.now (suc (infix_level (Some c.args.how))) (left s c.parts.rest.now) ≡ ok h.got = subst (λ (k : ℕ). (read_pats c.args.n).pat c.args.fix.now k (left s c.parts.rest.now) ≡ ok h.got) e h.is in
    λ p pl b.
    let g = c.parts.invariant.going p pl b in
    parts-bad s c.args.fix.now c.args.n c.args.how g.0 c.parts.vid (left s c.parts.rest.now) c.parts.all.items c.parts.deepest _ g.2 c.in_ok-all.all.items c.max-deepest.result _ c.in_ok-front.pat.it c.in_ok-front.pat.depth c.in_ok-front.pat.rest.now h.got (rw c.in_ok-front.ensures.first at c.in_ok-all.ensures) c.max-deepest.ensures
    (part-of c.parts.vid_place c.place_at-place.result c.parts.vid c.in_ok-front.pat.it _ _ g.1 c.place_at-place.ensures) r h.same _ _ c.vid_level-next_level.result c.vid_right-next_right.result c.in-Some.ensures (sym c.vid_level-next_level.ensures) (sym c.vid_right-next_right.ensures)
    (c.if-next_level-level.false ∙ c.infix_level-level.ensures) (differ c.vid_right-next_right.result c.args.how.right c.if-next_right-how.true)

pub pat_parts-parts-preserved : goal.pat_parts-parts-preserved
pat_parts-parts-preserved t c =
    let s = c.args.source.now in
    let h = (rw c.in_ok-front.ensures.second at c.read_pat.ensures.gives) in
    let e : c.infix_level-level.result + 1 ≡ suc (infix_level (Some c.args.how)) = (let k = c.infix_level-level.ensures in omega arith) in
    let r : (read_pats c.args.n).pat c.args.fix.now (suc (infix_level (Some c.args.how))) (left s c.parts.rest.now) ≡ ok h.got = subst (λ (k : ℕ). (read_pats c.args.n).pat c.args.fix.now k (left s c.parts.rest.now) ≡ ok h.got) e h.is in
    let sh = infix-shorter c.args.fix.now (left s c.in_ok-front.pat.rest.now) _ (left s c.in-Some.found.1.now) c.in-Some.ensures in
    let sh2 = h.same.shorter in let sh3 = ap (λ (z : List Terminal). length z) h.same.rest in
    let lt : length (left s c.in-Some.found.1.now) < length (left s c.parts.rest.now) = omega arith in
    let d = h.same.depth in let ff = h.same.fits in let m = c.max-deepest.ensures in
    record {
      going = λ p pl b.
          let g = c.parts.invariant.going p pl b in (
            place_at (left s c.in_ok-front.pat.rest.now),
            c.place_at-next_place.ensures,
            parts-more s c.args.fix.now c.args.n c.args.how g.0 c.parts.vid (left s c.parts.rest.now) c.parts.all.items c.parts.deepest _ g.2 c.in_ok-all.all.items c.max-deepest.result _ c.in_ok-front.pat.it c.in_ok-front.pat.depth c.in_ok-front.pat.rest.now h.got (rw c.in_ok-front.ensures.first at c.in_ok-all.ensures) c.max-deepest.ensures
                (part-of c.parts.vid_place c.place_at-place.result c.parts.vid c.in_ok-front.pat.it _ _ g.1 c.place_at-place.ensures) r h.same _ _ c.vid_level-next_level.result c.vid_right-next_right.result c.in-Some.ensures (sym c.vid_level-next_level.ensures) (sym c.vid_right-next_right.ensures)
                (c.if-next_level-level.false ∙ c.infix_level-level.ensures) (agree c.vid_right-next_right.result c.args.how.right c.if-next_right-how.false) lt,
          );
      short = omega (arith, c.parts.invariant.short);
      fits = omega (arith, c.parts.invariant.fits);
    }
