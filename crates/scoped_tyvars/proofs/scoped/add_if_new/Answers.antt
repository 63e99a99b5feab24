use Rattle.std.proofs.Common.{refl, sym, ◌∙◌}
use Rattle.scoped_tyvars.proofs.New.{comes, stays}
use Rattle.scoped_tyvars.proofs.scoped.add_if_new.Goals as goal

pub returns-then-is_known : goal.returns-then-is_known
returns-then-is_known c names rest h =
    stays c.args.around.now names c.args.tyvar.now rest c.args.scoped.now.items c.args.scoped.now.items c.args.noted.now c.args.noted.now h (sym c.is_known.ensures ∙ c.if-is_known.true) refl refl

pub returns : goal.returns
returns c names rest h =
    comes c.args.around.now names c.args.tyvar.now rest c.args.scoped.now.items c.push.new.self.items c.args.noted.now c.note.new.noted h (sym c.is_known.ensures ∙ c.if-is_known.false)
    c.in_ok-push.ensures.items c.in_ok-note.ensures
