use Rattle.std.proofs.Common.{◌≡◌, true, false, sym, subst}
use Rattle.std.specs.List.{list_any}
use Rattle.mlc_names.proofs.NamesLemmas.{is_text, held_at, held_found, one_to_one, with_text-found, with_text-new}
use Rattle.mlc_names.proofs.names.Names.intern.Goals as goal

pub returns-in-Some-clause-kept : goal.returns-in-Some-clause-kept
returns-in-Some-clause-kept c =
    let there : list_any (is_text c.args.bytes.now) c.self.inside.texts.keys ≡ true = sym c.in-Some.ensures.found in
    rw (← c.self.view_is) (with_text-found c.args.bytes.now c.self.inside.texts.keys there)

pub returns-in-Some-clause-held : goal.returns-in-Some-clause-held
returns-in-Some-clause-held c = rw (← c.self.view_is) (held_found c.args.bytes.now c.self.inside.texts.keys c.in-Some.found c.in-Some.ensures.index)

pub returns-in-Some-clause-one_to_one : goal.returns-in-Some-clause-one_to_one
returns-in-Some-clause-one_to_one c = rw (← c.self.view_is) (one_to_one c.self.inside.texts.keys c.len-held.ensures.unique)

pub returns-then-held-clause-one_to_one : goal.returns-then-held-clause-one_to_one
returns-then-held-clause-one_to_one c = rw (← c.self.view_is) (one_to_one c.self.inside.texts.keys c.len-held.ensures.unique)

pub returns-in_err-text-clause-one_to_one : goal.returns-in_err-text-clause-one_to_one
returns-in_err-text-clause-one_to_one c = rw (← c.self.view_is) (one_to_one c.self.inside.texts.keys c.len-held.ensures.unique)

pub returns-in_err-index-clause-one_to_one : goal.returns-in_err-index-clause-one_to_one
returns-in_err-index-clause-one_to_one c = one_to_one c.insert_full.new.self.keys c.in_err-index.ensures.unique

pub returns-clause-kept : goal.returns-clause-kept
returns-clause-kept c =
    let new : list_any (is_text c.args.bytes.now) c.self.inside.texts.keys ≡ false = sym c.in_default.ensures.found in
    rw (← c.self.view_is) (with_text-new c.args.bytes.now c.self.inside.texts.keys c.insert_full.new.self.keys c.in_ok-text.text c.in_ok-text.ensures.items new c.in_ok-index.ensures.keys)

pub returns-clause-held : goal.returns-clause-held
returns-clause-held c =
    let stored = c.in_ok-index.ensures.stored in
    held_at c.args.bytes.now c.insert_full.new.self.keys c.in_ok-index.index stored.0 stored.1 (subst (λ t. is_text t stored.0 ≡ true) c.in_ok-text.ensures.items stored.2)

pub returns-clause-one_to_one : goal.returns-clause-one_to_one
returns-clause-one_to_one c = one_to_one c.insert_full.new.self.keys c.in_ok-index.ensures.unique
