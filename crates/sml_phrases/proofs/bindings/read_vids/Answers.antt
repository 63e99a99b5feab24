use Rattle.std.proofs.Common.{length, refl, arith}
use Rattle.sml_grammar.specs.Terminals.{as_vid, place_at}
use Rattle.phrase_base.specs.Left.{left}
use Rattle.sml_phrases.proofs.Runs.{run-begins, run-more, run-short}
use Rattle.sml_phrases.proofs.bindings.read_vids.Goals as goal

pub vids-init : goal.vids-init
vids-init c =
    let e = c.new-vids.ensures.items in
    record { run = run-begins as_vid (λ x. x.it) (λ a. a) (λ a. a) (left c.args.source.now c.args.tokens.now) c.new-vids.result.items e; short = rw e (omega arith) }

pub vids-preserved : goal.vids-preserved
vids-preserved c =
    record {
      run = run-more as_vid (λ x. x.it) (λ a. a) (λ a. a) c.vids.vids.items c.push.new.self.items c.in-Some.ensures refl c.in_ok-push.ensures.items c.vids.invariant.run;
      short = run-short as_vid (left c.args.source.now c.vids.rest.now) (left c.args.source.now c.in-Some.found.1.now) (record { place = place_at (left c.args.source.now c.vids.rest.now); it = c.in-Some.found.0 }) c.in-Some.found.0 c.vids.vids.items c.push.new.self.items (length (left c.args.source.now c.args.tokens.now)) c.in-Some.ensures c.in_ok-push.ensures.items c.vids.invariant.short;
    }
