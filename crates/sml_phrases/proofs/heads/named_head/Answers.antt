use Rattle.std.proofs.Common.{refl, ap, ◌∙◌, List, ℕ, arith}
use Rattle.mlc_base.specs.declared.place.Place.{Place}
use Rattle.sml_tree.specs.BareTree as tree
use Rattle.sml_tree.specs.ReadTree.{Placed, vid_pat}
use Rattle.sml_grammar.specs.Terminals.{place_at, short}
use Rattle.sml_grammar.specs.Patterns.{vid_head, infix_rest, prefix_rest, short_at}
use Rattle.phrase_base.specs.Left.{left}
use Rattle.sml_tree.specs.declared.ident.Vid.{Vid}
use Rattle.sml_phrases.proofs.Rolls.{pat_of-Vid}
use Rattle.sml_phrases.proofs.VidShorter.{infix-shorter}
use Rattle.sml_phrases.proofs.HeadReads.{head-by, vid-infix, vid-deep, vid-prefix}
use Rattle.sml_phrases.proofs.heads.named_head.Goals as goal

pub returns-then-n-lt1 : goal.returns-then-n-lt1
returns-then-n-lt1 c =
    let s = c.args.source.now in
    record { gives = λ i q pl nl lt. vid-deep c.args.n c.args.fix.now (left s c.args.tokens.now) (left s c.in-Some.found.1.now) (place_at i) (record { place = q; it = c.args.vid }) (record { place = place_at (left s c.args.tokens.now); it = c.in-Some.found.0 }) c.in-Some.ensures (omega (arith, c.if-n-lt1.true)) }

pub returns-else-n-lt1 : goal.returns-else-n-lt1
returns-else-n-lt1 c =
    let s = c.args.source.now in
    let m = left s c.args.tokens.now in
    let k = left s c.in-Some.found.1.now in
    let x : Placed ℕ = record { place = place_at m; it = c.in-Some.found.0 } in
    let sh = infix-shorter c.args.fix.now m x k c.in-Some.ensures in
    record {
      gives = λ i q pl nl lt.
          let v : Placed Vid = record { place = q; it = c.args.vid } in
          let e = pat_of-Vid c.args.name_place (record { qualifiers = c.new.result; vid = c.args.vid }) ∙ ap (λ (z : List ℕ). tree.vid_pat c.args.name_place (record { qualifiers = z; vid = c.args.vid })) c.new.ensures.items ∙ ap (λ (z : Place). tree.vid_pat z (short c.args.vid)) nl in
          head-by s c.args.n i c.infix_head.result (vid_head c.args.n c.args.fix.now (place_at i) v m) (infix_rest c.args.n c.args.fix.now (vid_pat (place_at i) (short_at v)) x k)
          (vid-infix c.args.n c.args.fix.now m k (place_at i) v x c.in-Some.ensures (omega (arith, c.if-n-lt1.false)))
          (c.infix_head.ensures.gives i (vid_pat (place_at i) (short_at v)) (place_at m) pl c.place_at.ensures e refl refl (omega (arith, c.if-n-lt1.false)) (omega arith));
    }

pub returns-in-None : goal.returns-in-None
returns-in-None c =
    let s = c.args.source.now in
    let m = left s c.args.tokens.now in
    record {
      gives = λ i q pl nl lt.
          let v : Placed Vid = record { place = q; it = c.args.vid } in
          head-by s c.args.n i c.prefix_head.result (vid_head c.args.n c.args.fix.now (place_at i) v m) (prefix_rest c.args.n c.args.fix.now (place_at i) v m)
          (vid-prefix c.args.n c.args.fix.now m (place_at i) v c.in-None.ensures)
          (c.prefix_head.ensures.gives i q pl nl lt);
    }
