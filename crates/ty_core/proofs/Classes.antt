-- A class with no type.
use Rattle.std.proofs.Common.{◌≡◌, ℕ, zero, suc, Bool, true, false, ◌||◌}
use Rattle.std.proofs.lemmas.Bool.{or_parts}
use Rattle.ty_core.specs.Types.{Typ}
use Rattle.ty_core.specs.Marks.{has, IsOf, is_inhabited, Allows, IsMeet}
use Rattle.ty_core.specs.declared.mark.Class.{Class}
use Rattle.ty_core.specs.declared.mark.Mark.{Mark}

none-held : (c : Class) (k : ℕ) → is_inhabited (Mark.Class c) ≡ false → has c k ≡ true → ⊥
none-held c zero e h = let p = or_parts c.int (c.word || (c.char || c.string)) e in cc
none-held c (suc zero) e h = let p = or_parts c.int (c.word || (c.char || c.string)) e in let q = or_parts c.word (c.char || c.string) p.1 in cc
none-held c (suc (suc zero)) e h = let p = or_parts c.int (c.word || (c.char || c.string)) e in let q = or_parts c.word (c.char || c.string) p.1 in let r = or_parts c.char c.string q.1 in cc
none-held c (suc (suc (suc zero))) e h = let p = or_parts c.int (c.word || (c.char || c.string)) e in let q = or_parts c.word (c.char || c.string) p.1 in let r = or_parts c.char c.string q.1 in cc
none-held c (suc (suc (suc (suc k)))) e h = cc

pub empty-class : (c : Class) → is_inhabited (Mark.Class c) ≡ false → (t : Typ) → IsOf c t → ⊥
empty-class c e t h = none-held c h.number e h.held

pub empty-meet : (j k : Mark) (c : Class) → IsMeet j k (Mark.Class c) → is_inhabited (Mark.Class c) ≡ false → (m : ℕ → Bool) (t : Typ) → Allows j m t → Allows k m t → ⊥
empty-meet j k c h e m t p q = empty-class c e t (h.both m t p q)
