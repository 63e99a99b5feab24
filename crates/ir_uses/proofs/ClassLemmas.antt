-- Types that marks allow: those of a class have no parts.
use Rattle.std.proofs.Common.{◌≡◌, ◌↔◌, ℕ, Bool, false, List, [], ◌∷◌, length, IsTrue, nat_eq, sym, ◌∙◌}
use Rattle.ty_core.specs.Types.{Symbol, name, Typ, con, Typs, none}
use Rattle.ty_core.specs.Marks.{Allows, IsOf}
use Rattle.ty_core.specs.declared.mark.Class.{Class}
use Rattle.ty_core.specs.declared.name.TyName.{TyName}
use Rattle.ty_core.specs.declared.mark.Mark.{Mark}
use Rattle.ty_table.specs.TypeAt.{types_at}
use Rattle.prog_check.specs.Deciding.{allows}
use Rattle.prog_check.proofs.DecidingLemmas.{allows-sound, allows-complete}
use Rattle.ir_uses.proofs.Deciding.{as-decided}

parts-are : {h k : Symbol} {ts us : Typs} → con h ts ≡ con k us → ts ≡ us
parts-are e = cc

pub no-parts : (ts : List Typ) (t : Typ) (class : Class) (n : TyName) (ks : List ℕ) → t ≡ con (name n) (types_at ts ks) → nat_eq (length ks) 0 ≡ false → IsTrue false ↔ IsOf class t
no-parts ts t class n [] e l = absurd (cc)
no-parts ts t class n (k ∷ ks) e l = ((λ f. absurd (cc)), (λ h. absurd (let p : types_at ts (k ∷ ks) ≡ none = parts-are (sym e ∙ h.is) in cc)))

pub mark-decided : (a : Mark) (m : ℕ → Bool) (t : Typ) (answer : Bool) → IsTrue answer ↔ Allows a m t → answer ≡ allows a m t
mark-decided a m t answer w = as-decided answer (allows a m t) w (allows-sound a m t) (allows-complete a m t)
