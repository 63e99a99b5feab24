-- Steps in front of an expression, one after the other.
use Rattle.std.proofs.Common.{◌≡◌, ℕ, suc, ◌+◌, ◌<◌, Bool, true, false, ◌&&◌, List, map, length, drop, Option, Some, None, option_map, slice_index_or, refl, sym, ap, ◌∙◌, subst}
use Rattle.ir_plain.specs.Tree as clean
use Rattle.ir_mono.specs.Mono.{mono}
use Rattle.ir_mono.specs.Typing.{Sorts, group_sorts}
use Rattle.ir_known.specs.declared.known.Known.TheVariants.{OfType, Exception}
use Rattle.plain_tree.specs.declared.tree.Binding.{Binding}
use Rattle.plain_tree.specs.declared.tree.Case.{Case}
use Rattle.plain_tree.specs.declared.tree.Case.TheVariants as case
use Rattle.plain_tree.specs.declared.tree.Function.{Function}
use Rattle.plain_tree.specs.TreeOf.{StepTree, put, onto, let_of, exception_step, name_step, rec_step, test_step, counted_step, case_of, funs_of, function_of}
use Rattle.mono_fits.specs.Asked.{given}
use Rattle.mono_fits.specs.Fits.{is_new, is_atom, case_onto, name_argument, exp_fits, funs_fit}
use Rattle.mono_operations.specs.Reads.{reading, Names, local, all}
use Rattle.mono_operations.specs.declared.tables.Tables.{Tables}
use Rattle.mono_check.specs.Walk.{holding, opened, gathered, IsMore, Brings, fits, op_right, case_right, arms_right, handler_right, functions_right, functions_new}
use Rattle.mono_check.proofs.Lists.{and-false, and-first, adds, adds-one, there-mapped, none-mapped, one-more}
use Rattle.mono_check.proofs.Names.{more-none, more-one, more-more, more-at, more-opened}
use Rattle.mono_check.proofs.Groups.{more-gathered, gathered-all, gathered-local}

-- what an arm's test leaves in scope, as the typing has it
pub opened-all : (t : Tables) (c : Case) (s : Names) → all (opened c s) ≡ case_onto t.types t.exn (case_of (reading t) c) (all s)
opened-all t (case.Constant c) s = refl
opened-all t (case.Constructor c) s = refl
opened-all t (case.ConstructorOf c x) s = refl
opened-all t (case.Exception a) s = refl
opened-all t (case.ExceptionOf a x) s = refl
opened-all t (case.Record size) s = refl

pub opened-local : (t : Tables) (c : Case) (s : Names) → local (opened c s) ≡ case_onto t.types t.exn (case_of (reading t) c) (local s)
opened-local t (case.Constant c) s = refl
opened-local t (case.Constructor c) s = refl
opened-local t (case.ConstructorOf c x) s = refl
opened-local t (case.Exception a) s = refl
opened-local t (case.ExceptionOf a x) s = refl
opened-local t (case.Record size) s = refl

-- an expression behind an arm's test
pub opened-fits : (t : Tables) (c : Case) (s now : Names) (e : clean.Exp (mono t.types)) (v : ℕ) → now ≡ opened c s
    → fits t true now e v ≡ exp_fits t.types t.exn true (case_onto t.types t.exn (case_of (reading t) c) (all s)) (case_onto t.types t.exn (case_of (reading t) c) (local s)) e v
opened-fits t c s now e v i = ap (λ s. fits t true s e v) i ∙ ap (λ G. exp_fits t.types t.exn true G (local (opened c s)) e v) (opened-all t c s)
    ∙ ap (λ L. exp_fits t.types t.exn true (case_onto t.types t.exn (case_of (reading t) c) (all s)) L e v) (opened-local t c s)

module _ (t : Tables) (m : Bool) (v : ℕ) where
  abbrev Before : Type 0
  Before = clean.Exp (mono t.types) → clean.Exp (mono t.types)

  -- steps from n on are left
  pub record Along (old now : Names) (ss : List (StepTree (mono t.types))) (n : ℕ) : Type 0 where
    pub grows : IsMore old now
    pub whole : (e : clean.Exp (mono t.types)) (u : ℕ) → (m ≡ true → u ≡ v) → fits t m old (onto ss e) u ≡ fits t m now (onto (drop n ss) e) u

  pub along-first : (s : Names) (ss : List (StepTree (mono t.types))) → Along s s ss 0
  along-first s ss = record { grows = more-none s; whole = λ e u h. refl }

  module _ {A : Type 0} (f : A → StepTree (mono t.types)) (old now new : Names) (xs : List A) (n : ℕ) (w : Along old now (map f xs) n) where
    along-step : (x : A) (answer : Bool) → n < length xs → x ≡ slice_index_or xs n x → Brings t m v now new answer (put (f x)) → (e : clean.Exp (mono t.types)) (u : ℕ) → (m ≡ true → u ≡ v)
        → fits t m old (onto (map f xs) e) u ≡ (answer && fits t m new (onto (drop (suc n) (map f xs)) e) u)
    along-step x answer lt i b e u h = w.whole e u h ∙ ap (λ ss. fits t m now (onto ss e) u) (there-mapped f xs n x lt i) ∙ b.whole (onto (drop (suc n) (map f xs)) e) u h

    pub along-next : (x : A) (answer : Bool) → n < length xs → x ≡ slice_index_or xs n x → Brings t m v now new answer (put (f x)) → answer ≡ true → Along old new (map f xs) (n + 1)
    along-next x answer lt i b y = subst (Along old new (map f xs)) (one-more n) (record {
      grows = more-more old now new w.grows (b.grows y);
      whole = λ e u h. along-step x answer lt i b e u h ∙ ap (λ q. q && fits t m new (onto (drop (suc n) (map f xs)) e) u) y;
    })

    pub along-stops : (x : A) (answer : Bool) → n < length xs → x ≡ slice_index_or xs n x → Brings t m v now new answer (put (f x)) → answer ≡ false → Brings t m v old new false (onto (map f xs))
    along-stops x answer lt i b y = record {
      grows = λ e. absurd (cc);
      whole = λ e u h. along-step x answer lt i b e u h ∙ ap (λ q. q && fits t m new (onto (drop (suc n) (map f xs)) e) u) y;
    }

  pub along-all : {A : Type 0} (f : A → StepTree (mono t.types)) (old now : Names) (xs : List A) (n : ℕ) → Along old now (map f xs) n → n ≡ length xs → Brings t m v old now true (onto (map f xs))
  along-all f old now xs n w i = record { grows = λ _. w.grows; whole = λ e u h. w.whole e u h ∙ ap (λ ss. fits t m now (onto ss e) u) (none-mapped f xs n i) }

  -- one step

  pub brings-at : (old new : Names) (answer : Bool) {s r : StepTree (mono t.types)} → s ≡ r → Brings t m v old new answer (put r) → Brings t m v old new answer (put s)
  brings-at old new answer e b = subst (λ s. Brings t m v old new answer (put s)) (sym e) b

  -- f says whether the operation fits; what is in scope then is as before
  settled : (f p answer : Bool) (old mid : Names) (x : ℕ) → f ≡ p → (f ≡ true → mid ≡ old) → answer ≡ (f && is_new (all mid) x) → answer ≡ (p && is_new (all old) x)
  settled true p answer old mid x e h y = y ∙ ap (λ s. is_new (all s) x) (h refl) ∙ ap (λ q. q && is_new (all old) x) e
  settled false p answer old mid x e h y = y ∙ ap (λ q. q && is_new (all old) x) e

  pub let-brings : (old mid new : Names) (b : Binding) (o : clean.Op (mono t.types)) (s : StepTree (mono t.types)) (f answer : Bool) → s ≡ let_of (reading t) b o → f ≡ op_right t old o b.ty → (f ≡ true → mid ≡ old)
      → answer ≡ (f && is_new (all mid) b.variable) → (answer ≡ true → new ≡ holding mid b.variable (OfType b.ty)) → Brings t m v old new answer (put s)
  let-brings old mid new b o s f answer i k h y n = brings-at old new answer i (record {
    grows = λ e. more-at old (holding old b.variable (OfType b.ty)) new (held e) (more-one old b.variable (OfType b.ty));
    whole = λ c u _. adds (op_right t old o b.ty) (is_new (all old) b.variable) (fits t m (holding old b.variable (OfType b.ty)) c u) (fits t m new c u) answer
        (settled f (op_right t old o b.ty) answer old mid b.variable k h y) (λ e. ap (λ s. fits t m s c u) (sym (held e)));
  })
    where
      held : answer ≡ true → new ≡ holding old b.variable (OfType b.ty)
      held e = n e ∙ ap (λ s. holding s b.variable (OfType b.ty)) (h (and-first f (is_new (all mid) b.variable) (sym y ∙ e)))

  -- an operation that doesn't fit
  pub let-refused : (old new : Names) (b : Binding) (o : clean.Op (mono t.types)) (s : StepTree (mono t.types)) → s ≡ let_of (reading t) b o → false ≡ op_right t old o b.ty → Brings t m v old new false (put s)
  let-refused old new b o s i k = let-brings old old new b o s false false i k (λ e. absurd (cc)) refl (λ e. absurd (cc))

  -- both of a handler: the body, and what is done with the packet
  pub handle-tried : (old : Names) (x u : ℕ) (e h : clean.Exp (mono t.types)) (f : Bool) → f ≡ fits t false old e u → f ≡ false → false ≡ op_right t old (clean.handle e x h) u
  handle-tried old x u e h f k s = ap (λ q. q && handler_right t old x h u) (sym s ∙ k)

  pub handle-caught : (old mid : Names) (x u : ℕ) (e h : clean.Exp (mono t.types)) (f g : Bool) → f ≡ fits t false old e u → f ≡ true → mid ≡ old → g ≡ handler_right t mid x h u → g ≡ op_right t old (clean.handle e x h) u
  handle-caught old mid x u e h f g k s i y = y ∙ ap (λ s. handler_right t s x h u) i ∙ ap (λ q. q && handler_right t old x h u) (sym s ∙ k)

  same-option : (a : Option ℕ) → option_map (λ n. n) a ≡ a
  same-option None = refl
  same-option (Some n) = refl

  pub exception-brings : (old new : Names) (x i : ℕ) (a : Option ℕ) (s : StepTree (mono t.types)) (answer : Bool) → s ≡ exception_step x i (option_map (λ n. n) a) → answer ≡ is_new (all old) x → (answer ≡ true → new ≡ holding old x (Exception a))
      → Brings t m v old new answer (put s)
  exception-brings old new x i a s answer e y h = brings-at old new answer (e ∙ ap (exception_step x i) (same-option a)) (record {
    grows = λ k. more-at old (holding old x (Exception a)) new (h k) (more-one old x (Exception a));
    whole = λ c u _. adds-one (is_new (all old) x) (fits t m (holding old x (Exception a)) c u) (fits t m new c u) answer y (λ k. ap (λ s. fits t m s c u) (sym (h k)));
  })

  pub name-brings : (old new : Names) (x : ℕ) (y : clean.Exception (mono t.types)) (s : StepTree (mono t.types)) (answer : Bool) → s ≡ name_step x y → answer ≡ given (name_argument t.types t.exn (all old) y) (λ a. is_new (all old) x)
      → ((a : Option ℕ) → name_argument t.types t.exn (all old) y ≡ Some a → answer ≡ true → new ≡ holding old x (Exception a)) → Brings t m v old new answer (put s)
  name-brings old new x y s answer e k h = brings-at old new answer e (by (name_argument t.types t.exn (all old) y) refl)
    where
      by : (o : Option (Option ℕ)) → name_argument t.types t.exn (all old) y ≡ o → Brings t m v old new answer (put (name_step x y))
      by None i = record {
        grows = λ g. (let q : false ≡ true = sym (k ∙ ap (λ o. given o (λ a. is_new (all old) x)) i) ∙ g in absurd (cc));
        whole = λ c u _. ap (λ o. given o (λ a. is_new (all old) x && fits t m (holding old x (Exception a)) c u)) i ∙ ap (λ q. q && fits t m new c u) (sym (k ∙ ap (λ o. given o (λ a. is_new (all old) x)) i));
      }
      by (Some a) i = record {
        grows = λ g. more-at old (holding old x (Exception a)) new (h a i g) (more-one old x (Exception a));
        whole = λ c u _. ap (λ o. given o (λ a. is_new (all old) x && fits t m (holding old x (Exception a)) c u)) i
            ∙ adds-one (is_new (all old) x) (fits t m (holding old x (Exception a)) c u) (fits t m new c u) answer (k ∙ ap (λ o. given o (λ a. is_new (all old) x)) i) (λ g. ap (λ s. fits t m s c u) (sym (h a i g)));
      }

  pub counted-brings : (old : Names) (n : ℕ) (s : StepTree (mono t.types)) → s ≡ counted_step n → Brings t m v old old true (put s)
  counted-brings old n s e = brings-at old old true e (record { grows = λ _. more-none old; whole = λ c u _. refl })

  -- a group

  module _ (old : Names) (fs : List Function) (s : StepTree (mono t.types)) (i : s ≡ rec_step tt (funs_of (map (function_of (reading t)) fs))) where
    group-is : (c : clean.Exp (mono t.types)) (u : ℕ) → fits t m old (put (rec_step tt (funs_of (map (function_of (reading t)) fs))) c) u ≡ (functions_new t old fs && (functions_right t (gathered fs old) fs && fits t m (gathered fs old) c u))
    group-is c u = sym (
        ap (λ G. functions_new t old fs && (functions_at G && exp_fits t.types t.exn m G (local (gathered fs old)) c u)) (gathered-all t fs old)
        ∙ ap (λ L. functions_new t old fs && (functions_at grown && exp_fits t.types t.exn m grown L c u)) (gathered-local t fs old))
      where
        grown : Sorts
        grown = group_sorts t.types (funs_of (map (function_of (reading t)) fs)) (all old)

        functions_at : Sorts → Bool
        functions_at G = funs_fit t.types t.exn G (funs_of (map (function_of (reading t)) fs))

    pub group-known : (new : Names) (y : Bool) → y ≡ functions_new t old fs → y ≡ false → Brings t m v old new false (put s)
    group-known new y k n = brings-at old new false i (record {
      grows = λ e. absurd (cc);
      whole = λ c u _. group-is c u ∙ ap (λ q. q && (functions_right t (gathered fs old) fs && fits t m (gathered fs old) c u)) (sym k ∙ n);
    })

    pub group-brings : (mid new : Names) (y answer : Bool) → y ≡ functions_new t old fs → y ≡ true → mid ≡ gathered fs old → answer ≡ functions_right t mid fs → (answer ≡ true → new ≡ mid) → Brings t m v old new answer (put s)
    group-brings mid new y answer k n g r h = brings-at old new answer i (record {
      grows = λ e. more-at old (gathered fs old) new (h e ∙ g) (more-gathered fs old);
      whole = λ c u _. group-is c u ∙ ap (λ q. q && (functions_right t (gathered fs old) fs && fits t m (gathered fs old) c u)) (sym k ∙ n)
          ∙ adds-one (functions_right t (gathered fs old) fs) (fits t m (gathered fs old) c u) (fits t m new c u) answer (r ∙ ap (λ s. functions_right t s fs) g) (λ e. ap (λ s. fits t m s c u) (sym (h e ∙ g)));
    })

-- a test, whose first arm goes on

module _ (t : Tables) (m : Bool) (v : ℕ) (old : Names) (a u : ℕ) (c : Case) (arms : clean.Arms (mono t.types)) where
  abbrev test : StepTree (mono t.types)
  test = test_step a u (case_of (reading t) c) arms

  abbrev behind : clean.Exp (mono t.types) → ℕ → Bool
  behind e w = exp_fits t.types t.exn true (case_onto t.types t.exn (case_of (reading t) c) (all old)) (case_onto t.types t.exn (case_of (reading t) c) (local old)) e w

  no-test : (new : Names) → ((e : clean.Exp (mono t.types)) (w : ℕ) → (m ≡ true → w ≡ v) → fits t m old (put test e) w ≡ false) → Brings t m v old new false (put test)
  no-test new n = record { grows = λ e. absurd (cc); whole = n }

  pub test-misses : (new : Names) → m ≡ false → Brings t m v old new false (put test)
  test-misses new f = no-test new (λ e w _. ap (λ m. m && (is_atom (local old) a u && (case_right t old (case_of (reading t) c) u && (behind e w && arms_right t old arms u w)))) f)

  pub test-atom : (new : Names) (b : Bool) → b ≡ is_atom (local old) a u → b ≡ false → Brings t m v old new false (put test)
  test-atom new b k f = no-test new (λ e w _. ap (λ q. m && (q && (case_right t old (case_of (reading t) c) u && (behind e w && arms_right t old arms u w)))) (sym k ∙ f) ∙ and-false m)

  -- the others first, then the arm's own test
  turned : (b p e r : Bool) → (b && (p && (e && r))) ≡ ((b && r) && (p && e))
  turned false p e r = refl
  turned true p e false = ap (λ q. p && q) (and-false e) ∙ and-false p
  turned true true e true = last e
    where
      last : (e : Bool) → (e && true) ≡ e
      last true = refl
      last false = refl
  turned true false e true = refl

  test-is : (e : clean.Exp (mono t.types)) (w : ℕ) → (m ≡ true → w ≡ v) → m ≡ true
      → fits t m old (put test e) w ≡ ((is_atom (local old) a u && arms_right t old arms u v) && (case_right t old (case_of (reading t) c) u && behind e w))
  test-is e w h y = ap (λ m. m && (is_atom (local old) a u && (case_right t old (case_of (reading t) c) u && (behind e w && arms_right t old arms u w)))) y
      ∙ turned (is_atom (local old) a u) (case_right t old (case_of (reading t) c) u) (behind e w) (arms_right t old arms u w)
      ∙ ap (λ w'. (is_atom (local old) a u && arms_right t old arms u w') && (case_right t old (case_of (reading t) c) u && behind e w)) (h y)

  pub test-arms : (new : Names) (r : Bool) → m ≡ true → r ≡ arms_right t old arms u v → r ≡ false → Brings t m v old new false (put test)
  test-arms new r y k f = no-test new (λ e w h. test-is e w h y ∙ ap (λ q. (is_atom (local old) a u && q) && (case_right t old (case_of (reading t) c) u && behind e w)) (sym k ∙ f)
      ∙ ap (λ q. q && (case_right t old (case_of (reading t) c) u && behind e w)) (and-false (is_atom (local old) a u)))

  pub test-brings : (mid new : Names) (b r o : Bool) → m ≡ true → b ≡ is_atom (local old) a u → b ≡ true → r ≡ arms_right t old arms u v → r ≡ true → mid ≡ old → o ≡ case_right t mid (case_of (reading t) c) u → (o ≡ true → new ≡ opened c mid)
      → Brings t m v old new o (put test)
  test-brings mid new b r o y kb sb kr sr i ko h = record {
    grows = λ e. more-at old (opened c old) new (h e ∙ ap (opened c) i) (more-opened c old);
    whole = λ e w g. test-is e w g y ∙ ap (λ q. (q && arms_right t old arms u v) && (case_right t old (case_of (reading t) c) u && behind e w)) (sym kb ∙ sb)
        ∙ ap (λ q. q && (case_right t old (case_of (reading t) c) u && behind e w)) (sym kr ∙ sr)
        ∙ adds-one (case_right t old (case_of (reading t) c) u) (behind e w) (fits t m new e w) o (ko ∙ ap (λ s. case_right t s (case_of (reading t) c) u) i)
        (λ s. sym (ap (λ m. fits t m new e w) y ∙ opened-fits t c old new e w (h s ∙ ap (opened c) i)));
  }
