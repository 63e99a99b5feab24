use Rattle.std.proofs.Common.{◌≡◌, length, reverse, ap, sym, ◌∙◌, arith}
use Rattle.std.proofs.lemmas.List.{length-reverse}
use Rattle.match_names.proofs.Naming.{length-bindings}
use Rattle.match_names.proofs.names.Names.len.Goals as goal

pub returns : goal.returns
returns c =
    let n : c.len.result ≡ length c.self.inside.bound.items = omega (arith, c.len.ensures, c.self.inside.bound.ok.0) in
    n ∙ sym (length-reverse c.self.inside.bound.items) ∙ sym (length-bindings (reverse c.self.inside.bound.items)) ∙ ap length c.self.view_is
