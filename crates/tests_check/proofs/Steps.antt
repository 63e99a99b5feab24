-- Steps in front of an expression, one after the other.
use Rattle.std.proofs.Common.{◌≡◌, ℕ, zero, suc, ◌+◌, ◌<◌, Bool, true, false, List, [], ◌∷◌, ◌++◌, map, length, drop, Option, Some, None, slice_index_or, refl, sym, ap, ◌∙◌, subst, arith}
use Rattle.ty_core.specs.Types.{Typ}
use Rattle.ty_core.specs.declared.scheme.Quantified.{Quantified}
use Rattle.ty_table.specs.TypeAt.{type_at}
use Rattle.ir_plain.specs.Tree as clean
use Rattle.ir_poly.specs.Tests.{poly}
use Rattle.ir_poly.specs.TestsChecked.{Knowns, at, NameChecked, fixed_checked, held_checked, exception}
use Rattle.ir_tables.specs.declared.tables.Tables.{Tables}
use Rattle.ir_known.specs.declared.known.Known.{Known}
use Rattle.ir_known.specs.declared.scope.Mark.{Mark}
use Rattle.plain_tree.specs.declared.tree.Binding.{Binding}
use Rattle.plain_tree.specs.TreeOf.{StepTree, put, onto, let_of, let_step, exception_step, name_step, rec_step, test_step, counted_step}
use Rattle.tests_check.specs.Fits.{ExpFits, ArgumentFits, AtomFits, ArmsFit, CaseFits}
use Rattle.tests_check.specs.Reads.{reading}
use Rattle.tests_check.specs.Walk.{Names, all, local, table_of, Grows, Brings, Refuses, IsLet, IsOpen, Declares, Holds, IsName, Opens}
use Rattle.tests_check.proofs.Openings.{assoc, drop-there}

-- nothing comes into scope
pub grows-none : (s : Names) → Grows s s
grows-none s = record { added = []; local = refl; around = refl }

pub grows-more : (a b c : Names) → Grows a b → Grows b c → Grows a c
grows-more a b c g h = record {
  added = h.added ++ g.added;
  local = h.local ∙ ap (λ l. h.added ++ l) g.local ∙ sym (assoc h.added g.added a.0);
  around = h.around ∙ g.around;
}

pub grows-one : (a b : Names) (r : ℕ × Known) → b ≡ (r ∷ a.0, a.1) → Grows a b
grows-one a b r e = record { added = r ∷ []; local = ap (λ (s : Names). s.0) e; around = ap (λ (s : Names). s.1) e }

-- steps from n on are left
pub record Along (t : Tables) (m : Bool) (D : List Quantified) (v : ℕ) (old now : Names) (ss : List (StepTree poly)) (n : ℕ) : Type 0 where
  pub grows : Grows old now
  pub whole : (e : clean.Exp poly) (u : Typ) → (m ≡ true → u ≡ type_at t.types v) → ExpFits (table_of t) m D (all t now) (local t now) (onto (drop n ss) e) u
      → ExpFits (table_of t) m D (all t old) (local t old) (onto ss e) u
  pub back : (e : clean.Exp poly) (u : Typ) → (m ≡ true → u ≡ type_at t.types v) → ExpFits (table_of t) m D (all t old) (local t old) (onto ss e) u
      → ExpFits (table_of t) m D (all t now) (local t now) (onto (drop n ss) e) u

pub along-first : (t : Tables) (m : Bool) (D : List Quantified) (v : ℕ) (s : Names) (ss : List (StepTree poly)) → Along t m D v s s ss 0
along-first t m D v s ss = record { grows = grows-none s; whole = λ e u h p. p; back = λ e u h p. p }

module _ {A : Type 0} (f : A → StepTree poly) where
  there : (xs : List A) (n : ℕ) (x : A) → n < length xs → x ≡ slice_index_or xs n x → drop n (map f xs) ≡ f x ∷ drop (suc n) (map f xs)
  there [] n x lt e = absurd (omega arith)
  there (y ∷ xs) zero x lt e = ap (λ y. f y ∷ map f xs) (sym e)
  there (y ∷ xs) (suc n) x lt e = there xs n x (omega arith) e

  pub along-next : (t : Tables) (m : Bool) (D : List Quantified) (v : ℕ) (old now new : Names) (xs : List A) (x : A) (n : ℕ) → n < length xs → x ≡ slice_index_or xs n x → Along t m D v old now (map f xs) n
      → Brings t m D v now new (put (f x)) → Along t m D v old new (map f xs) (n + 1)
  along-next t m D v old now new xs x n lt e i k = subst (Along t m D v old new (map f xs)) more (record {
    grows = grows-more old now new i.grows k.grows;
    whole = λ b u h p. i.whole b u h (subst (λ ss. ExpFits (table_of t) m D (all t now) (local t now) (onto ss b) u) (sym next) (k.whole (onto (drop (suc n) (map f xs)) b) u h p));
    back = λ b u h p. k.back (onto (drop (suc n) (map f xs)) b) u h (subst (λ ss. ExpFits (table_of t) m D (all t now) (local t now) (onto ss b) u) next (i.back b u h p));
  })
    where
      next : drop n (map f xs) ≡ f x ∷ drop (suc n) (map f xs)
      next = there xs n x lt e

      more : suc n ≡ n + 1
      more = omega arith

  pub along-stops : (t : Tables) (m : Bool) (D : List Quantified) (v : ℕ) (old now : Names) (xs : List A) (x : A) (n : ℕ) → n < length xs → x ≡ slice_index_or xs n x → Along t m D v old now (map f xs) n
      → Refuses t m D v now (put (f x)) → Refuses t m D v old (onto (map f xs))
  along-stops t m D v old now xs x n lt e i k = record {
    never = λ b u h p. k.never (onto (drop (suc n) (map f xs)) b) u h (subst (λ ss. ExpFits (table_of t) m D (all t now) (local t now) (onto ss b) u) (there xs n x lt e) (i.back b u h p));
  }

  nothing-left : (xs : List A) (n : ℕ) → n ≡ length xs → drop n (map f xs) ≡ []
  nothing-left xs n e = ap (λ n. drop n (map f xs)) e ∙ by xs
    where
      by : (xs : List A) → drop (length xs) (map f xs) ≡ []
      by [] = refl
      by (x ∷ xs) = by xs

  pub along-all : (t : Tables) (m : Bool) (D : List Quantified) (v : ℕ) (old now : Names) (xs : List A) (n : ℕ) → n ≡ length xs → Along t m D v old now (map f xs) n → Brings t m D v old now (onto (map f xs))
  along-all t m D v old now xs n e i = record {
    grows = i.grows;
    whole = λ b u h p. i.whole b u h (subst (λ ss. ExpFits (table_of t) m D (all t now) (local t now) (onto ss b) u) (sym (nothing-left xs n e)) p);
    back = λ b u h p. subst (λ ss. ExpFits (table_of t) m D (all t now) (local t now) (onto ss b) u) (nothing-left xs n e) (i.back b u h p);
  }

-- One step

-- what is in scope where a variable came in
held-all : (t : Tables) (old new : Names) (x : ℕ) (k : _) → Holds t old new x k → all t new ≡ (x, k) ∷ all t old
held-all t old new x k h = ap (all t) h.is ∙ ap (λ k. (x, k) ∷ all t old) h.stands

held-local : (t : Tables) (old new : Names) (x : ℕ) (k : _) → Holds t old new x k → local t new ≡ (x, k) ∷ local t old
held-local t old new x k h = ap (local t) h.is ∙ ap (λ k. (x, k) ∷ local t old) h.stands

module _ (t : Tables) (m : Bool) (D : List Quantified) (v : ℕ) (old new : Names) where
  -- at what is in scope, named either way
  moved : (G L : Knowns) (e : clean.Exp poly) (u : Typ) → all t new ≡ G → local t new ≡ L → ExpFits (table_of t) m D (all t new) (local t new) e u → ExpFits (table_of t) m D G L e u
  moved G L e u g l p = subst (λ G. ExpFits (table_of t) m D G L e u) g (subst (λ L. ExpFits (table_of t) m D (all t new) L e u) l p)

  unmoved : (G L : Knowns) (e : clean.Exp poly) (u : Typ) → all t new ≡ G → local t new ≡ L → ExpFits (table_of t) m D G L e u → ExpFits (table_of t) m D (all t new) (local t new) e u
  unmoved G L e u g l p = subst (λ G. ExpFits (table_of t) m D G (local t new) e u) (sym g) (subst (λ L. ExpFits (table_of t) m D G L e u) (sym l) p)

  pub let-brings : (b : Binding) (o : clean.Op poly) (s : StepTree poly) → s ≡ let_of (reading t) b o → IsLet t D old b o → Declares t old new b → Brings t m D v old new (put s)
  let-brings b o s e i h = subst (λ s. Brings t m D v old new (put s)) (sym e) (record {
    grows = grows-one old new (b.variable, h.known) h.is;
    whole = λ c u _ p. (i.generalised, i.opened.new, i.opened.over, i.operation, i.new, moved _ _ c u (held-all t old new b.variable _ h) (held-local t old new b.variable _ h) p);
    back = λ c u _ p. unmoved _ _ c u (held-all t old new b.variable _ h) (held-local t old new b.variable _ h) p.5;
  })

  pub let-refuses : (b : Binding) (o : clean.Op poly) (s : StepTree poly) → s ≡ let_of (reading t) b o → (IsLet t D old b o → ⊥) → Refuses t m D v old (put s)
  let-refuses b o s e n = subst (λ s. Refuses t m D v old (put s)) (sym e) (record {
    never = λ c u _ p. n (record { generalised = p.0; opened = record { new = p.1; over = p.2 }; operation = p.3; new = p.4 });
  })

  pub exception-brings : (x i : ℕ) (a : Option Typ) (s : StepTree poly) → s ≡ exception_step x i a → ArgumentFits D a → at (all t old) x ≡ None → Holds t old new x (exception a) → Brings t m D v old new (put s)
  exception-brings x i a s e f n h = subst (λ s. Brings t m D v old new (put s)) (sym e) (record {
    grows = grows-one old new (x, h.known) h.is;
    whole = λ c u _ p. (f, n, moved _ _ c u (held-all t old new x _ h) (held-local t old new x _ h) p);
    back = λ c u _ p. unmoved _ _ c u (held-all t old new x _ h) (held-local t old new x _ h) p.2;
  })

  pub exception-refuses : (x i : ℕ) (a : Option Typ) (s : StepTree poly) → s ≡ exception_step x i a → (ArgumentFits D a → at (all t old) x ≡ None → ⊥) → Refuses t m D v old (put s)
  exception-refuses x i a s e n = subst (λ s. Refuses t m D v old (put s)) (sym e) (record { never = λ c u _ p. n p.0 p.1 })

  -- a name has one argument
  one-argument : (G : Knowns) (y : clean.Exception poly) (a b : Option Typ) → NameChecked G y a → NameChecked G y b → b ≡ a
  one-argument G (clean.fixed n) a b (fixed_checked p) (fixed_checked q) = refl
  one-argument G (clean.held k) a b (held_checked e) (held_checked f) = let same : Some (exception b) ≡ Some (exception a) = sym f ∙ e in cc

  pub name-brings : (x : ℕ) (y : clean.Exception poly) (s : StepTree poly) → s ≡ name_step x y → IsName t old new x y → Brings t m D v old new (put s)
  name-brings x y s e i = subst (λ s. Brings t m D v old new (put s)) (sym e) (record {
    grows = grows-one old new (x, i.holds.known) i.holds.is;
    whole = λ c u _ p. (i.free, (i.argument, i.named, moved _ _ c u (held-all t old new x _ i.holds) (held-local t old new x _ i.holds) p));
    back = λ c u _ p. unmoved _ _ c u (held-all t old new x _ i.holds) (held-local t old new x _ i.holds)
        (subst (λ a. ExpFits (table_of t) m D ((x, exception a) ∷ all t old) ((x, exception a) ∷ local t old) c u) (one-argument (all t old) y i.argument p.1.0 i.named p.1.1) p.1.2);
  })

  pub name-refuses : (x : ℕ) (y : clean.Exception poly) (s : StepTree poly) → s ≡ name_step x y → ((a : Option Typ) → NameChecked (all t old) y a → at (all t old) x ≡ None → ⊥) → Refuses t m D v old (put s)
  name-refuses x y s e n = subst (λ s. Refuses t m D v old (put s)) (sym e) (record { never = λ c u _ p. n p.1.0 p.1.1 p.0 })

pub counted-brings : (t : Tables) (m : Bool) (D : List Quantified) (v : ℕ) (old : Names) (n : ℕ) (s : StepTree poly) → s ≡ counted_step n → Brings t m D v old old (put s)
counted-brings t m D v old n s e = subst (λ s. Brings t m D v old old (put s)) (sym e) (record { grows = grows-none old; whole = λ c u _ p. p; back = λ c u _ p. p })

-- back to a place

pub back-to : (old rest new : Names) (mark : Mark) (added : List (ℕ × Known)) → rest.0 ++ rest.1 ≡ added ++ (old.0 ++ old.1) → mark.len ≡ length (old.0 ++ old.1) → mark.start ≡ length old.1
    → ((a l r : List (ℕ × Known)) → rest.0 ++ rest.1 ≡ a ++ (l ++ r) → mark.len ≡ length (l ++ r) → mark.start ≡ length r → new ≡ (l, r)) → new ≡ old
back-to old rest new mark added w l b r = r added old.0 old.1 w l b

pub grown-within : (old now rest : Names) (g : Grows old now) → rest ≡ now → rest.0 ++ rest.1 ≡ g.added ++ (old.0 ++ old.1)
grown-within old now rest g e =
    ap (λ (s : Names). s.0 ++ s.1) e ∙ ap (λ x. x ++ now.1) g.local ∙ ap (λ y. (g.added ++ old.0) ++ y) g.around ∙ assoc g.added old.0 old.1
