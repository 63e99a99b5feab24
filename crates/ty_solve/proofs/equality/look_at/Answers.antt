use Rattle.std.proofs.Common.{◌≡◌, true, length, refl, subst, sym, rules}
use Rattle.ty_table.specs.of_ty_core.Types.{admits, no_variable}
use Rattle.ty_table.specs.of_ty_core.TypesOf.{head_of}
use Rattle.ty_table.specs.TypeAt.{type_at, AllBelow}
use Rattle.ty_solve.specs.Parts.{Looked}
use Rattle.ty_solve.proofs.Admitting.{admits-anyhow}
use Rattle.ty_solve.proofs.Holding.{held-push, below-append}
use Rattle.ty_solve.proofs.Slots.{tasks-push}
use Rattle.ty_solve.proofs.equality.look_at.Goals as goal

pub returns-then-admits_eq-clause-looked : goal.returns-then-admits_eq-clause-looked
returns-then-admits_eq-clause-looked c = let e : admits no_variable (type_at c.args.s.now.types c.args.k) ≡ true = search rules in Looked.holds (λ m f. admits-anyhow m f (type_at c.args.s.now.types c.args.k) e) refl refl

pub returns-in_ok-push-in-Some-clause-looked : goal.returns-in_ok-push-in-Some-clause-looked
returns-in_ok-push-in-Some-clause-looked c = Looked.stands c.in-Var.x c.in-Some.u c.in-Var.ensures c.in-Some.ensures.is c.in_ok-push-in-Some.ensures.items refl

pub returns-in_ok-push-in-Some-clause-held : goal.returns-in_ok-push-in-Some-clause-held
returns-in_ok-push-in-Some-clause-held c = λ h p t. (subst (AllBelow (length c.args.s.now.types)) (sym c.in_ok-push-in-Some.ensures.items) (below-append (length c.args.s.now.types) _ _ p (c.in-Some.ensures.held, tt)), t)

pub returns-in_ok-push-in-None-clause-looked : goal.returns-in_ok-push-in-None-clause-looked
returns-in_ok-push-in-None-clause-looked c = Looked.open_variable c.in-Var.x c.in-Var.ensures refl (tasks-push c.args.s.now.types _ _ _ c.in_ok-push-in-None.ensures.items)

pub returns-in_ok-push-in-None-clause-held : goal.returns-in_ok-push-in-None-clause-held
returns-in_ok-push-in-None-clause-held c = λ h p t. (p, held-push (length c.args.s.now.types) _ _ _ c.in_ok-push-in-None.ensures.items t h)

pub returns-in_ok-add_all-in-ByArguments-clause-looked : goal.returns-in_ok-add_all-in-ByArguments-clause-looked
returns-in_ok-add_all-in-ByArguments-clause-looked c = Looked.applied (head_of c.in-Apply.head.now) c.in-Apply.parts.now c.in-Apply.ensures.0 c.in-ByArguments.ensures c.in_ok-add_all-in-ByArguments.ensures refl

pub returns-in_ok-add_all-in-ByArguments-clause-held : goal.returns-in_ok-add_all-in-ByArguments-clause-held
returns-in_ok-add_all-in-ByArguments-clause-held c = λ h p t. (subst (AllBelow (length c.args.s.now.types)) (sym c.in_ok-add_all-in-ByArguments.ensures) (below-append (length c.args.s.now.types) _ _ p c.in-Apply.ensures.1), t)
