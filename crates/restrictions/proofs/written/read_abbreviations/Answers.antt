use Rattle.std.proofs.Common.{◌++◌, map, ap, ◌∙◌}
use Rattle.std.proofs.lemmas.List.{append-nil}
use Rattle.std.proofs.lemmas.List.Folds.{flat_map-map}
use Rattle.sml_tree.specs.TreeOf.{type_bind_of}
use Rattle.restrictions.specs.Breaks.{type_bind_breaks}
use Rattle.restrictions.specs.Written.{index_from, used_of}
use Rattle.restrictions.proofs.Lists.{map-twice}
use Rattle.restrictions.proofs.written.read_abbreviations.Goals as goal

pub returns : goal.returns
returns c w =
    let bs = map type_bind_of c.args.binds.now in
    record {
      index = c.in_ok-index_all.ensures ∙ ap (λ l. index_from 0 bs ++ l) c.new-index.ensures ∙ append-nil (index_from 0 bs);
      used =
          c.in_ok-push_used.ensures ∙ ap (λ l. map (λ u. u.items) l ++ map (λ b. used_of (type_bind_of b)) c.args.binds.now) c.new-used.ensures.items
          ∙ map-twice used_of type_bind_of c.args.binds.now;
      whole = flat_map-map type_bind_breaks type_bind_of c.args.binds.now ∙ w;
    }
