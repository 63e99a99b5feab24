use Rattle.closure_meaning.specs.Convert.{codes}
use Rattle.mono_bound.specs.Reads.{mono_of}
use Rattle.closure_first.proofs.Listing.{functions-are}
use Rattle.closure_first.proofs.program.functions.Goals as goal

pub returns : goal.returns
returns c = λ strings n F T h.
    functions-are c.in_ok-main.main c.in_ok-made.made.items c.push_codes.new.found.items _ (codes n c.args.types.now F T (mono_of c.args.types.now strings c.args.body.now)) c.in_ok-made.ensures
    (c.in_ok-main.ensures strings n F T h) (c.in_ok-push_codes.ensures strings n F T h)
