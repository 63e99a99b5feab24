use Rattle.closure_first.proofs.Listing.{main-is}
use Rattle.closure_first.proofs.program.main_of.Goals as goal

pub returns : goal.returns
returns c = λ strings n F T h.
    main-is n c.args.types.now strings F T c.args.body.now c.new-scope.result c.in_ok-made.made c.new.result c.new-scope.ensures c.new.ensures.items (c.in_ok-made.ensures.made strings n F T h)
