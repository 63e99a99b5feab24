-- The expansion along steps is that of the clean tree.
use Rattle.std.proofs.Common.{◌≡◌, ℕ, suc, ◌+◌, List, [], ◌∷◌, ◌++◌, length, refl, sym, ap, ap₂, ◌∙◌, arith}
use Rattle.ir_plain.specs.Tree as t
use Rattle.ir_mono.specs.Types as table
use Rattle.ir_mono.specs.Mono.{mono, Mono}
use Rattle.plain_tree.specs.TreeOf.{StepTree, let_step, exception_step, name_step, rec_step, test_step, counted_step, put, onto}
use Rattle.eta_expand.specs.Expand.{Names, case_names, group_names, news, arms_news, op_news, funs_news, expand, expand_arms}
use Rattle.eta_code.specs.Steps.{binds, front, front_news, filled, back_news, afters, marks, fronts, fronts_news, backs_news, wholes}

assoc : (a b c : ℕ) → a + (b + c) ≡ (a + b) + c
assoc a b c = omega arith

zero-right : (a : ℕ) → a + 0 ≡ a
zero-right a = omega arith

zero-left : (a : ℕ) → a ≡ 0 + a
zero-left a = omega arith

zero-both : (a : ℕ) → a ≡ 0 + (a + 0)
zero-both a = omega arith

zero-moved : (a : ℕ) → a + 0 ≡ 0 + a
zero-moved a = omega arith

zero-inside : (n a : ℕ) → n + (0 + a) ≡ n + a
zero-inside n a = omega arith

module _ (types : List table.Row) where
  abbrev S : Type 0
  S = StepTree (mono types)

  abbrev E : Type 0
  E = Mono types

  -- one step before what follows it

  news-put : (N : Names) (s : S) (e : E) → news types N (put s e) ≡ front_news types N s + (news types (binds types s N) e + back_news types N s)
  news-put N (let_step x ps u o) e = ap (λ k. op_news types N u o + k) (sym (zero-right (news types (binds types (let_step x ps u o) N) e)))
  news-put N (exception_step x i u) e = zero-both (news types (binds types (exception_step x i u) N) e)
  news-put N (name_step x y) e = zero-both (news types (binds types (name_step x y) N) e)
  news-put N (rec_step ps fs) e = ap (λ k. funs_news types (group_names types fs N) fs + k) (sym (zero-right (news types (group_names types fs N) e)))
  news-put N (test_step a u c others) e = zero-left (news types (case_names types c N) e + arms_news types N others)
  news-put N (counted_step k) e = zero-both (news types N e)

  expand-put : (N : Names) (n : ℕ) (s : S) (e : E)
      → put (filled types N (n + (front_news types N s + news types (binds types s N) e)) s (front types N n s)) (expand types (binds types s N) (n + front_news types N s) e) ≡ expand types N n (put s e)
  expand-put N n (let_step x ps u o) e = refl
  expand-put N n (exception_step x i u) e = ap (λ k. t.exception_in x i u (expand types (binds types (exception_step x i u) N) k e)) (zero-right n)
  expand-put N n (name_step x y) e = ap (λ k. t.name_in x y (expand types (binds types (name_step x y) N) k e)) (zero-right n)
  expand-put N n (rec_step ps fs) e = refl
  expand-put N n (test_step a u c others) e =
      ap₂ (λ k j. t.switch a u (t.arm c (expand types (case_names types c N) k e) (expand_arms types N j others))) (zero-right n) (zero-inside n (news types (case_names types c N) e))
  expand-put N n (counted_step k) e = ap (λ j. t.counted k (expand types N j e)) (zero-right n)

  -- all steps

  pub news-onto : (N : Names) (ss : List S) (e : E) → news types N (onto ss e) ≡ fronts_news types N ss + (news types (afters types N ss) e + backs_news types N ss)
  news-onto N [] e = zero-both (news types N e)
  news-onto N (s ∷ ss) e =
      let r = news-onto (binds types s N) ss e in
      let p = news-put N s (onto ss e) in
      omega (arith, r, p)

  pub expand-onto : (N : Names) (n m : ℕ) (ss : List S) (e : E) → m ≡ n + (fronts_news types N ss + news types (afters types N ss) e)
      → onto (wholes types N n m ss) (expand types (afters types N ss) (n + fronts_news types N ss) e) ≡ expand types N n (onto ss e)
  expand-onto N n m [] e h = ap (λ k. expand types N k e) (zero-right n)
  expand-onto N n m (s ∷ ss) e h =
      let f = front_news types N s in
      let g = fronts_news types (binds types s N) ss in
      let w = news types (afters types (binds types s N) ss) e in
      let b = backs_news types (binds types s N) ss in
      let r = news-onto (binds types s N) ss e in
      let k : m + b ≡ n + (f + news types (binds types s N) (onto ss e)) = omega (arith, r, h) in
      ap (λ j. put (filled types N (m + b) s (front types N n s)) (onto (wholes types (binds types s N) (n + f) m ss) (expand types (afters types (binds types s N) ss) j e))) (assoc n f g)
      ∙ ap (put (filled types N (m + b) s (front types N n s))) (expand-onto (binds types s N) (n + f) m ss e (omega (arith, h)))
      ∙ ap (λ j. put (filled types N j s (front types N n s)) (expand types (binds types s N) (n + f) (onto ss e))) k
      ∙ expand-put N n s (onto ss e)

  -- one more step

  pub afters-last : (N : Names) (ss : List S) (s : S) → afters types N (ss ++ s ∷ []) ≡ binds types s (afters types N ss)
  afters-last N [] s = refl
  afters-last N (r ∷ ss) s = afters-last (binds types r N) ss s

  pub marks-last : (N : Names) (ss : List S) (s : S) → marks types N (ss ++ s ∷ []) ≡ marks types N ss ++ length (afters types N ss) ∷ []
  marks-last N [] s = refl
  marks-last N (r ∷ ss) s = ap (λ l. length N ∷ l) (marks-last (binds types r N) ss s)

  pub news-last : (N : Names) (ss : List S) (s : S) → fronts_news types N (ss ++ s ∷ []) ≡ fronts_news types N ss + front_news types (afters types N ss) s
  news-last N [] s = zero-moved (front_news types N s)
  news-last N (r ∷ ss) s = ap (λ k. front_news types N r + k) (news-last (binds types r N) ss s) ∙ assoc (front_news types N r) (fronts_news types (binds types r N) ss) (front_news types (afters types (binds types r N) ss) s)

  pub fronts-last : (N : Names) (n : ℕ) (ss : List S) (s : S) → fronts types N n (ss ++ s ∷ []) ≡ fronts types N n ss ++ front types (afters types N ss) (n + fronts_news types N ss) s ∷ []
  fronts-last N n [] s = ap (λ k. front types N k s ∷ []) (sym (zero-right n))
  fronts-last N n (r ∷ ss) s =
      ap (λ l. front types N n r ∷ l)
      (fronts-last (binds types r N) (n + front_news types N r) ss s
      ∙ ap (λ k. fronts types (binds types r N) (n + front_news types N r) ss ++ front types (afters types (binds types r N) ss) k s ∷ []) (sym (assoc n (front_news types N r) (fronts_news types (binds types r N) ss))))

  pub fronts-long : (N : Names) (n : ℕ) (ss : List S) → length (fronts types N n ss) ≡ length ss
  fronts-long N n [] = refl
  fronts-long N n (s ∷ ss) = ap suc (fronts-long (binds types s N) (n + front_news types N s) ss)

  pub marks-long : (N : Names) (ss : List S) → length (marks types N ss) ≡ length ss
  marks-long N [] = refl
  marks-long N (s ∷ ss) = ap suc (marks-long (binds types s N) ss)
