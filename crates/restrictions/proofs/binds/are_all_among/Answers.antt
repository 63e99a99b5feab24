use Rattle.std.proofs.Common.{◌≡◌, ℕ, List, [], nat_eq, ap, ap₂, ◌∙◌}
use Rattle.std.specs.List.{list_all}
use Rattle.std.proofs.lemmas.List.{append-nil}
use Rattle.core_rules.specs.Scoping.{tyvar_names}
use Rattle.core_rules.specs.Words.{is_in}
use Rattle.restrictions.specs.Found.{names_in, noted_onto}
use Rattle.restrictions.proofs.Noting.{all-part}
use Rattle.restrictions.proofs.Walking.{names-onto}
use Rattle.restrictions.proofs.binds.are_all_among.Goals as goal

pub returns : goal.returns
returns c =
    let known = c.deref.ensures.value ∙ c.in_ok-known.ensures in
    let names : names_in c.note_all.new.noted ≡ tyvar_names c.args.parameters.now =
    ap names_in (c.in_ok-note_all.ensures ∙ ap₂ noted_onto known c.new-noted.ensures) ∙ names-onto (tyvar_names c.args.parameters.now) [] ∙ append-nil _ in
    c.are_noted.ensures ∙ ap₂ (λ (s l : List ℕ). list_all (λ k. is_in nat_eq k s) l) names (c.deref-2.ensures.value ∙ c.in_ok-keys.ensures)
    ∙ all-part (λ k. is_in nat_eq k (tyvar_names c.args.parameters.now)) (λ a. a.name) c.args.tyvars.now
