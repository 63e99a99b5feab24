use Rattle.std.proofs.Common.{refl}
use Rattle.ir_plain.specs.Tree.{raise}
use Rattle.match_compile.specs.Compile.{atom}
use Rattle.exp_steps.proofs.Leaves.{after-one}
use Rattle.exp_steps.proofs.calls.push_raise.Goals as goal

pub returns : goal.returns
returns c = λ w ss e makes.
    let p = c.in_ok-a.ensures in
    after-one (λ x v. raise (atom x)) makes p.keeps p.is p.next (p.puts (λ v. raise (atom c.args.packet)) (λ v s. refl)) (λ R m. refl) (λ v m rest. refl)
