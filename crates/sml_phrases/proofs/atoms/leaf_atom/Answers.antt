use Rattle.std.proofs.Common.{◌∙◌, ap, refl, arith}
use Rattle.sml_tree.specs.BareTree as bare
use Rattle.sml_tree.specs.Terminal.{LongVid}
use Rattle.sml_tree.specs.ReadTree as read
use Rattle.sml_tree.specs.ReadTree.{Placed}
use Rattle.sml_tree.specs.TreeOf.{long_vid_of}
use Rattle.sml_grammar.specs.Terminals.{place_at}
use Rattle.phrase_base.specs.Left.{left}
use Rattle.sml_phrases.specs.VidPlace.{vid_place}
use Rattle.sml_phrases.proofs.ExpLemmas.{leaf-vid, vid-shorter}
use Rattle.sml_phrases.proofs.atoms.leaf_atom.Goals as goal

pub returns-in-Some-2 : goal.returns-in-Some-2
returns-in-Some-2 c =
    let i = left c.args.source.now c.args.tokens.now in
    let o = left c.args.source.now c.in-Some-2.rest.now in
    let none = rw c.in_default.is at c.in_ok-it.ensures in
    let found = rw c.in-Some-2.is at c.in_ok-long.ensures in
    let x : Placed LongVid = record { place = vid_place i; it = long_vid_of c.in-Some-2.long } in
    record {
      gives = record {
        got = record { tree = read.vid_exp (place_at i) x; rest = o };
        is = leaf-vid c.args.fix.now i x o none c.in_default-after_word.ensures found;
        same = record {
          is = record { rest = refl; bare = c.name.ensures ∙ ap (λ p. bare.vid_exp p (long_vid_of c.in-Some-2.long)) c.vid_place.ensures; deep = refl; place = refl; fits = omega arith; shorter = vid-shorter c.args.fix.now i x o found };
          high = refl;
        };
      };
    }
