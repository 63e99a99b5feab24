-- What is seen of a type's first node.
use Rattle.std.proofs.Common.{◌≡◌, ℕ, Bool, true, false, List, [], ◌∷◌, ◌++◌, refl, sym, ap, subst, ◌∙◌}
use Rattle.ty_core.specs.Types.{Typ, var, con, Symbol}
use Rattle.ty_table.specs.TypeAt.{type_at, types_at}
use Rattle.ty_solve.specs.Said.{said}
use Rattle.ty_solve.specs.Substitution.{Entry, bound, is_open}
use Rattle.ty_solve.specs.Walk.{Looks, LooksInRow, Next}
use Rattle.ty_solve.specs.declared.solver.Solver.{Solver}
use Rattle.ty_solve.proofs.Slots.{none-more}
use Rattle.open_variables.specs.Open.{is_done_in}
use Rattle.open_variables.specs.Looking.{IsPassed, Sees, SeesOpen}

looks-row : (ts : List Typ) (s : ℕ → Entry) (t x : ℕ) (old new : List ℕ) → type_at ts t ≡ var x → LooksInRow ts s x old new → Looks ts s t old new
looks-row ts s t x old new p (LooksInRow.fields e ls ks q r) = record { parts = ks; is = r; next = Next.fields x e ls p q }
looks-row ts s t x old new p (LooksInRow.ends q r) = record { parts = []; is = r ∙ none-more old; next = Next.ends x p q refl }

module _ (M : Solver) (k : ℕ) where
  -- a variable that stands for a type
  pub passes-bound : (v u : ℕ) (old new : List ℕ) → type_at M.subst.types k ≡ var v → said M.subst v ≡ bound (type_at M.subst.types u) → new ≡ old ++ u ∷ []
      → IsPassed M k old new
  passes-bound v u old new p q n = record {
    looks = record { parts = u ∷ []; is = n; next = Next.stands v u p q refl };
    done = λ x e o. let f : v ≡ x = cc in let z : false ≡ true = sym (ap is_open q) ∙ ap (λ y. is_open (said M.subst y)) f ∙ o in cc;
  }

  -- a symbol with parts
  pub passes-parts : (h : Symbol) (ks old new : List ℕ) → type_at M.subst.types k ≡ con h (types_at M.subst.types ks) → new ≡ old ++ ks → IsPassed M k old new
  passes-parts h ks old new p n = record {
    looks = record { parts = ks; is = n; next = Next.applied h p };
    done = λ x e o. cc;
  }

  -- an open variable
  pub sees-open : (v : ℕ) (old new : List ℕ) (b : Bool) → type_at M.subst.types k ≡ var v → is_open (said M.subst v) ≡ true → SeesOpen M v old new b → Sees M k old new b
  sees-open v old new true p o h = record {
    looks = looks-row M.subst.types (said M.subst) k v old new p h.looks;
    done = λ x e i. let f : v ≡ x = cc in subst (λ y. is_done_in M y ≡ true) f h.done;
  }
  sees-open v old new false p o h = record { variable = v; is = p; open_still = o; left = h }
