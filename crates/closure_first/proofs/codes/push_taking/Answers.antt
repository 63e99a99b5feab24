use Rattle.closure_first.proofs.Adding.{adds-one}
use Rattle.closure_first.proofs.codes.push_taking.Goals as goal

pub returns-clause-codes : goal.returns-clause-codes
returns-clause-codes c = λ strings n F T h g ms k.
    adds-one c.args.found.now.items c.push.new.self.items c.in_ok-code.code _ c.in_ok-push.ensures.items (c.in_ok-code.ensures.code strings n F T h g ms k)
