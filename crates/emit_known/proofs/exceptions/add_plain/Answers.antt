use Rattle.std.proofs.Common.{sym, subst}
use Rattle.first_tables.specs.TablesOf.{plain_of}
use Rattle.first_tables.specs.Exceptions.{made_by}
use Rattle.emit_known.specs.Found.{Adds}
use Rattle.emit_known.proofs.Finding.{adds-name}
use Rattle.emit_known.proofs.exceptions.add_plain.Goals as goal

pub returns-in_ok-push-in-Exception : goal.returns-in_ok-push-in-Exception
returns-in_ok-push-in-Exception c =
    subst (λ q. Adds c.args.found.now.items (made_by (plain_of q)) c.push.new.self.items) (sym c.in-Exception.is)
    (adds-name c.args.found.now.items c.push.new.self.items c.in-Exception.name c.in_ok-push-in-Exception.ensures.items)
