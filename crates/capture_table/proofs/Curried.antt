-- A function of several parameters: the first, and what it gives.
use Rattle.std.proofs.Common.{◌≡◌, ℕ, Bool, true, false, List, [], ◌∷◌, ◌++◌, drop, length, get_or, ◌==◌, refl, sym, ap, ap₂, ◌∙◌}
use Rattle.plain_tree.specs.declared.tree.Parameter.{Parameter}
use Rattle.closure_convert.specs.Scope.{Member, Scope, Piece}
use Rattle.closure_convert.specs.Closed.{scope_of}
use Rattle.closure_convert.specs.Capture.{cut}
use Rattle.capture_table.specs.Told.{Entries, used_in, entry, function_table}
use Rattle.capture_table.proofs.Growing.{assoc}

pub curried-parts : (xs rest : List Parameter) (d : Parameter) (b : Bool) → b ≡ (length xs == 0) → b ≡ false → rest ≡ drop 1 xs → xs ≡ get_or xs 0 d ∷ rest
curried-parts [] rest d b e f r = let h : (length {A = Parameter} [] == 0) ≡ true = refl in absurd (cc)
curried-parts (x ∷ xs) rest d b e f r = ap (λ l. x ∷ l) (sym r)

pub curried-told : (uses : List ℕ) (last : Parameter) (T : Scope → Entries → Entries) (all ys : List Parameter) (y : Parameter) (a : all ≡ y ∷ ys) (n : ℕ) (e : n ≡ y.variable) (ps ps' : List Piece) (cs cs' : List ℕ) (ms : List Member)
    → cs' ≡ used_in (scope_of cs ms n) uses → ps' ≡ cut (scope_of cs ms n) (used_in (scope_of cs ms n) uses) → (old mid new : Entries) → mid ≡ old ++ entry n ps cs ∷ [] → (es : Entries)
    → mid ++ function_table uses ys last T ps' cs' [] es ≡ new ++ es → old ++ function_table uses all last T ps cs ms es ≡ new ++ es
curried-told uses last T all ys y a n e ps ps' cs cs' ms u w old mid new m es r =
    ap (λ l. old ++ function_table uses l last T ps cs ms es) a
    ∙ ap (λ v. old ++ entry v ps cs ∷ function_table uses ys last T (cut (scope_of cs ms v) (used_in (scope_of cs ms v) uses)) (used_in (scope_of cs ms v) uses) [] es) (sym e)
    ∙ ap₂ (λ p c. old ++ entry n ps cs ∷ function_table uses ys last T p c [] es) (sym w) (sym u)
    ∙ sym (assoc old (entry n ps cs ∷ []) (function_table uses ys last T ps' cs' [] es)) ∙ ap (λ l. l ++ function_table uses ys last T ps' cs' [] es) (sym m) ∙ r
