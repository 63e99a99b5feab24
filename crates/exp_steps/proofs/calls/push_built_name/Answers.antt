use Rattle.std.proofs.Common.{ap}
use Rattle.match_compile.specs.Compile.{past_built, beginning}
use Rattle.exp_steps.specs.Ways.{built_of}
use Rattle.exp_steps.proofs.Building.{begun-plain, begun-named}
use Rattle.exp_steps.proofs.calls.push_built_name.Goals as goal

pub returns-in-Constructor : goal.returns-in-Constructor
returns-in-Constructor c = λ f after weighs.
    begun-plain c.args.work.now _ _ f c.args.built (λ R n. ap (λ y. past_built (built_of y R) n) c.in-Constructor.is) (λ v n rest. ap (λ y. beginning v.names (built_of y v.source) n rest) c.in-Constructor.is)
    (weighs c.args.work.now)

pub returns-in-Reference : goal.returns-in-Reference
returns-in-Reference c = λ f after weighs.
    begun-plain c.args.work.now _ _ f c.args.built (λ R n. ap (λ y. past_built (built_of y R) n) c.in-Reference.is) (λ v n rest. ap (λ y. beginning v.names (built_of y v.source) n rest) c.in-Reference.is)
    (weighs c.args.work.now)

pub returns-in_ok-name-in-Exception : goal.returns-in_ok-name-in-Exception
returns-in_ok-name-in-Exception c = λ f after weighs.
    let p = c.in_ok-name-in-Exception.ensures in
    begun-named _ _ _ _ _ f c.args.built c.in-Exception.exception _ c.in-Exception.is p.keeps p.is p.next p.puts (weighs _)
