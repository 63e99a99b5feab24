use Rattle.std.proofs.Common.{nat_eq, subst, arith}
use Rattle.indexmap.specs.IndexMap.{get}
use Rattle.mono_read.specs.of_mono_state.declared.word.Word.TheVariants as word
use Rattle.mono_number.specs.Moves.{Moves, makes}
use Rattle.mono_number.proofs.Given.{if-ok}
use Rattle.mono_number.proofs.Heads.{head-added}
use Rattle.mono_number.proofs.steps.add_head.Goals as goal

pub enter-requires : goal.enter-requires
enter-requires c = (c.in_ok-make-in-Some.ensures (get nat_eq c.args.known.now)).open_

pub returns-in_ok-make-in-Some : goal.returns-in_ok-make-in-Some
returns-in_ok-make-in-Some c =
    if-ok _ _ c.enter.result
    (λ u h. head-added c.args.limit (get nat_eq c.args.known.now) c.args.ty c.in_ok-ty.ty c.args.functions c.args.left c.args.walk.now c.make.new.walk c.enter.new.walk (let q = c.if-left-eq0.false in omega (arith, q)) (λ H index N. c.in_ok-ty.ensures c.args.limit H index N)
    (subst (λ v. Moves c.args.limit (get nat_eq c.args.known.now) (makes (word.Function v c.in_ok-ty.ty)) c.args.walk.now c.make.new.walk) c.in-Some.ensures.1 (c.in_ok-make-in-Some.ensures (get nat_eq c.args.known.now))) (h (get nat_eq c.args.known.now)))
    c.enter.ensures
