use Rattle.std.proofs.Common.{◌≡◌, ap, true, false, not, nat_eq, get_or}
use Rattle.std.specs.Prelude.{is_some}
use Rattle.std.specs.Map.{lookup}
use Rattle.core_rules.specs.Words.{is_in}
use Rattle.restrictions.specs.Found.{names_in}
use Rattle.restrictions.proofs.Noting.{all-next, all-stops, in-scope, read-any}
use Rattle.restrictions.proofs.once.are_apart.Goals as goal

pub returns-then-is_some : goal.returns-then-is_some
returns-then-is_some c =
    let keys = c.args.keys.now in
    let found = c.find.ensures in
    let tested = c.is_some.ensures in
    let holds = c.if-is_some.true in
    let h : is_some (lookup (nat_eq (get_or keys c.loop-i.i 0)) c.args.noted.now) ≡ true = cc in
    all-stops (λ k. not (is_in nat_eq k (names_in c.args.noted.now))) keys c.loop-i.i (get_or keys c.loop-i.i 0) c.loop-i-test.true (read-any keys c.loop-i.i _ _ c.loop-i-test.true)
    (ap not (in-scope keys c.loop-i.i c.args.noted.now true h)) c.loop-i.invariant

pub loop-i-preserved : goal.loop-i-preserved
loop-i-preserved c =
    let keys = c.args.keys.now in
    let found = c.find.ensures in
    let tested = c.is_some.ensures in
    let fails = c.if-is_some.false in
    let h : is_some (lookup (nat_eq (get_or keys c.loop-i.i 0)) c.args.noted.now) ≡ false = cc in
    all-next (λ k. not (is_in nat_eq k (names_in c.args.noted.now))) keys c.loop-i.i (get_or keys c.loop-i.i 0) c.loop-i-test.true (read-any keys c.loop-i.i _ _ c.loop-i-test.true)
    (ap not (in-scope keys c.loop-i.i c.args.noted.now false h)) c.loop-i.invariant
