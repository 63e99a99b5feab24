-- Variables that came into scope, step by step.
use Rattle.std.proofs.Common.{◌≡◌, Bool, Result, Ok, Err, IfOk, refl, ◌∙◌}
use Rattle.mlc_base.specs.declared.memory.NoMemory.{NoMemory}
use Rattle.ir_poly.specs.TestsChecked.{Knowns}
use Rattle.ir_tables.specs.declared.tables.Tables.{Tables}
use Rattle.prog_known.specs.declared.environment.Environment.{Environment}
use Rattle.prog_known.proofs.OntoLemmas.{none-onto, as-onto, then-onto}
use Rattle.prog_leaves.specs.Places.{Adds}

pub adds-as : (t : Tables) (old new : Environment) (f g : Knowns → Knowns) → ((G : Knowns) → f G ≡ g G) → Adds t old new f → Adds t old new g
adds-as t old new f g e a = record { parameters = a.parameters; onto = as-onto t old.variables new.variables f g e a.onto }

pub adds-if : (r : Result Bool NoMemory) (t : Tables) (old new : Environment) (f g : Knowns → Knowns) → ((G : Knowns) → f G ≡ g G) → IfOk r (λ so. Adds t old new f) → IfOk r (λ so. Adds t old new g)
adds-if (Ok so) t old new f g e a = adds-as t old new f g e a
adds-if (Err n) t old new f g e a = a

pub adds-none : (t : Tables) (e : Environment) (f : Knowns → Knowns) → ((G : Knowns) → G ≡ f G) → Adds t e e f
adds-none t e f k = record { parameters = refl; onto = as-onto t e.variables e.variables (λ G. G) f k (none-onto t e.variables) }

-- first some, then others
pub adds-then : (t : Tables) (old mid new : Environment) (f g : Knowns → Knowns) → Adds t old mid f → Adds t mid new g → Adds t old new (λ G. g (f G))
adds-then t old mid new f g a b = record { parameters = b.parameters ∙ a.parameters; onto = then-onto t old.variables mid.variables new.variables f g a.onto b.onto }

-- whatever the answer is
pub ok-any : {P : Type 0} (r : Result Bool NoMemory) → P → IfOk r (λ so. P)
ok-any (Ok so) p = p
ok-any (Err n) p = tt
