use Rattle.std.proofs.Common.{refl, sym, ap}
use Rattle.ir_plain.specs.Tree.{const}
use Rattle.ir_tables.specs.Tables.{literal_at}
use Rattle.exp_steps.proofs.Leaves.{alone}
use Rattle.exp_steps.proofs.atoms.push_constant.Goals as goal

pub returns : goal.returns
returns c =
    let p = c.in_ok-a.ensures in
    alone p.keeps p.is p.next (p.puts (λ v. const (literal_at v.source.strings c.args.constant)) (λ v s. ap (λ ss. const (literal_at ss c.args.constant)) (sym s.source_strings)))
    (λ R m. refl) (λ v m rest. refl)
