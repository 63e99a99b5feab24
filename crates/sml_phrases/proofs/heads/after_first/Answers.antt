use Rattle.std.proofs.Common.{◌≡◌, ℕ, List, subst, None}
use Rattle.sml_tree.specs.Terminal.{Terminal}
use Rattle.sml_tree.specs.ReadTree.{Placed}
use Rattle.sml_grammar.specs.Terminals.{place_at, infix_vid, taken}
use Rattle.phrase_base.specs.Left.{left}
use Rattle.sml_phrases.proofs.HeadForms.{none-infix, none-right}
use Rattle.sml_phrases.proofs.HeadPairs.{pair-from}
use Rattle.sml_phrases.proofs.heads.after_first.Goals as goal

pub returns-in-Some-second : goal.returns-in-Some-second
returns-in-Some-second c =
    let s = c.args.source.now in
    let f = c.args.fix.now in
    let k = left s c.in-Some.found.1.now in
    let x : Placed ℕ = record { place = place_at (left s c.args.tokens.now); it = c.in-Some.found.0 } in
    let by = rw c.in-Some-second.is at (rw c.in_ok-first-in-Some.ensures.second at c.maybe_atpat.ensures) in
    λ i m y one h opens is bare rest.
    let joint : infix_vid f one.rest ≡ taken x k = subst (λ (z : List Terminal). infix_vid f z ≡ taken x k) rest c.in-Some.ensures in
    pair-from s c.args.n f i m k y one x c.args.pat c.place_at.result c.place_at.ensures c.in-Some-second.got.it c.in-Some-second.got.rest.now by.got c.paired.result c.requires.two h opens is bare joint by.is by.same.bare by.same.rest (rw c.in_ok-first-in-Some.ensures.first at c.paired.ensures)

pub returns-in-None-second : goal.returns-in-None-second
returns-in-None-second c =
    let s = c.args.source.now in
    let f = c.args.fix.now in
    let k = left s c.in-Some.found.1.now in
    let x : Placed ℕ = record { place = place_at (left s c.args.tokens.now); it = c.in-Some.found.0 } in
    λ i m y one h opens is bare rest.
    let joint : infix_vid f one.rest ≡ taken x k = subst (λ (z : List Terminal). infix_vid f z ≡ taken x k) rest c.in-Some.ensures in
    none-right c.args.n f i y h m opens one is x k joint (rw c.in-None-second.is at (rw c.in_ok-first-in-Some.ensures.second at c.maybe_atpat.ensures))

pub returns-in-None : goal.returns-in-None
returns-in-None c =
    let s = c.args.source.now in
    let f = c.args.fix.now in
    λ i m y one h opens is bare rest. none-infix c.args.n f i y h m opens one is (subst (λ (z : List Terminal). infix_vid f z ≡ None) rest c.in-None.ensures)
