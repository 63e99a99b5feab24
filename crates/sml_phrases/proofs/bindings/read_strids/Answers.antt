use Rattle.std.proofs.lemmas.Option.{MatchOption-at_some}
use Rattle.std.proofs.Common.{length, ap, arith}
use Rattle.sml_tree.specs.Bare.{bare_long}
use Rattle.sml_tree.specs.TreeOf.{long_id_of, long_id_at_of}
use Rattle.sml_tree.specs.declared.tree.LongIdAt as code
use Rattle.sml_grammar.specs.Terminals.{as_long_strid, place_at}
use Rattle.phrase_base.specs.Left.{left}
use Rattle.sml_phrases.proofs.Runs.{run-begins, run-more, run-short}
use Rattle.sml_phrases.proofs.bindings.read_strids.Goals as goal

pub strids-init : goal.strids-init
strids-init c =
    let e = c.new-strids.ensures.items in
    record { run = run-begins as_long_strid (λ x. x) long_id_at_of (bare_long c.args.source.now.file) (left c.args.source.now c.args.tokens.now) c.new-strids.result.items e; short = rw e (omega arith) }

pub strids-preserved : goal.strids-preserved
strids-preserved c =
    let x : code.LongIdAt = record { place = c.place_at.result; long = c.in-Some.long } in
    let f = MatchOption-at_some _ _ _ c.in-Some.is c.in_ok-long.ensures in
    record {
      run = run-more as_long_strid (λ y. y) long_id_at_of (bare_long c.args.source.now.file) c.strids.strids.items c.push.new.self.items f (ap (λ p. record { place = p; long = long_id_of c.in-Some.long }) c.place_at.ensures) c.in_ok-push.ensures.items c.strids.invariant.run;
      short = run-short as_long_strid (left c.args.source.now c.strids.rest.now) (left c.args.source.now c.in-Some.next.now) (record { place = place_at (left c.args.source.now c.strids.rest.now); it = long_id_of c.in-Some.long }) x c.strids.strids.items c.push.new.self.items (length (left c.args.source.now c.args.tokens.now)) f c.in_ok-push.ensures.items c.strids.invariant.short;
    }
