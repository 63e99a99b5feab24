-- Functions of a group: their numbers, and what is known of their variables.
use Rattle.std.proofs.Common.{◌≡◌, ◌<◌, ◌≤◌, ℕ, suc, Bool, true, false, cond, List, [], ◌∷◌, map, Some, Vec, Global, nat_eq, refl, sym, ap, subst, ◌∙◌, arith}
use Rattle.std.specs.Prelude.{reverse}
use Rattle.std.specs.List.{AllByRecursion}
use Rattle.std.proofs.lemmas.Bool.{eq-eqb, eqb-true}
use Rattle.ty_core.specs.Types.{Typ}
use Rattle.sml_tree.specs.BareTree as bare
use Rattle.sml_tree.specs.TreeOf.{RuleOf, binds_of}
use Rattle.ir_poly.specs.Prog as prog
use Rattle.ir_poly.specs.ProgChecked.{each_onto, funs_onto}
use Rattle.ir_poly.specs.TestsChecked.{Known, Knowns}
use Rattle.ir_poly.specs.TestsChecked as checked
use Rattle.core_elab.specs.Resolves.{HeadTo, HeadsTo, head_wild, head_variable, head_typed, head_as, no_heads_to, heads_to}
use Rattle.core_elab.specs.Scopes.{Scope, empty}
use Rattle.prog_tree.specs.TreeOf.{Reading, fun_of, function_of, funs_by}
use Rattle.prog_tree.specs.declared.tree.Function.{Function}
use Rattle.elab_typed.specs.Numbers.{type_as}
use Rattle.elab_state.specs.declared.state.State.{State}
use Rattle.elab_steps.specs.World.{World, Comes, type_of}
use Rattle.elab_context.specs.declared.context.Context.{Context}
use Rattle.rec_groups.specs.of_pat_elab.Elaborated.{scope_of, scope_onto}
use Rattle.rec_groups.specs.of_pat_elab.declared.bound.BoundVariable.{BoundVariable}
use Rattle.rec_groups.specs.Functions.{AreWritten}
use Rattle.rec_groups.specs.Heads.{AreReserved, HeadUpTo, falling, none_reserved, numbers_of, one_reserved, rising}
use Rattle.rec_groups.specs.declared.head.Head.{Head}
use Rattle.rec_groups.proofs.Entering.{all-joined, all-reversed}
use Rattle.general_decs.proofs.Groups.{onto-append}
use Rattle.general_decs.proofs.Marks.{IsMarked}

-- the program's functions
abbrev pub program_funs : Reading → List (Vec ℕ Global × ℕ × Function) → prog.Funs
program_funs R fs = funs_by R.type (map (fun_of R) fs)

-- heads, from the i-th variable on
pub record GroupUpTo (i : ℕ) (bs : bare.Binds) (fs : prog.Funs) (r : Scope) (j : ℕ) : Type 0 where
  pub next : ℕ
  pub most : next ≤ j
  pub least : i ≤ next
  pub to : HeadsTo i bs fs r next

-- numbers of a head

pub record AreFrom (k j : ℕ) (ns : List ℕ) : Type 0 where
  pub most : k ≤ j
  pub each : AllByRecursion (λ n. (k ≤ n) × (n < j)) ns

more-from : (k i j : ℕ) (ns : List ℕ) → i ≤ j → AllByRecursion (λ n. (k ≤ n) × (n < i)) ns → AllByRecursion (λ n. (k ≤ n) × (n < j)) ns
more-from k i j [] le h = tt
more-from k i j (n ∷ ns) le h = ((h.0.0, let lt = h.0.1 in omega (arith, lt, le)), more-from k i j ns le h.1)

head-from : {k j : ℕ} {a : bare.Pat} {ns : List ℕ} {r q : Scope} → HeadTo k a ns r j q → AreFrom k j ns
head-from {k = k} (head_wild p) = record { most = omega arith; each = tt }
head-from {k = k} (head_variable p x n le) = record { most = omega (arith, le); each = ((le, omega arith), tt) }
head-from (head_typed p h) = head-from h
head-from {k = k} (head_as p x n {ns = ns} {j = i} h le) =
    let f = head-from h in
    let m = f.most in
    record { most = omega (arith, m, le); each = ((omega (arith, m, le), omega arith), more-from k i (suc n) ns (omega (arith, le)) f.each) }

module _ (R : Reading) (D E : Context) (P : State) where
  pub group-to : {M H : State} (gs : List RuleOf) (fs : List (Vec ℕ Global × ℕ × Function)) (hs : List Head) → AreReserved M D (map (λ r. r.pat) gs) H hs → AreWritten E P gs fs hs → (i : ℕ)
      → i ≤ M.next → GroupUpTo i (binds_of gs) (program_funs R fs) (scope_of (rising hs)) H.next
  group-to [] [] [] none_reserved k i le = record { next = i; most = le; least = omega arith; to = no_heads_to }
  group-to [] [] (h ∷ hs) r k i le = absurd k
  group-to [] (f ∷ fs) hs r k i le = absurd k
  group-to (g ∷ gs) [] hs r k i le = absurd k
  group-to (g ∷ gs) (f ∷ fs) [] r k i le = absurd k
  group-to {H = H} (g ∷ gs) (f ∷ fs) (h ∷ hs) (one_reserved r o) k i le =
      let u = group-to gs fs hs r k.1 i le in
      let v : HeadUpTo u.next g.pat (numbers_of (reverse h.variables.items)) (scope_of (rising hs)) (scope_onto (scope_of (rising hs)) h.variables.items) H.next =
      o.reserves.to u.next u.most (scope_of (rising hs)) in
      let ns = numbers_of (reverse h.variables.items) in
      let q = scope_onto (scope_of (rising hs)) h.variables.items in
      let made : HeadsTo i (bare.bind g.place g.pat (bare.fn k.0.at k.0.rules) (binds_of gs)) (prog.a_fun ns (R.type f.1) (function_of R f.2) (program_funs R fs)) q v.next =
      heads_to g.place k.0.at k.0.rules (R.type f.1) (function_of R f.2) u.to v.to in
      record {
        next = v.next;
        most = v.most;
        least = let a = u.least in let b = (head-from v.to).most in omega (arith, a, b);
        to =
            subst (λ e. HeadsTo i (bare.bind g.place g.pat e (binds_of gs)) (program_funs R (f ∷ fs)) (scope_of (rising (h ∷ hs))) v.next) (sym k.0.is)
            (subst (λ l. HeadsTo i (bare.bind g.place g.pat (bare.fn k.0.at k.0.rules) (binds_of gs)) (prog.a_fun l (R.type f.1) (function_of R f.2) (program_funs R fs)) (scope_of (rising (h ∷ hs))) v.next)
            (sym k.0.numbers)
            (subst (λ s. HeadsTo i (bare.bind g.place g.pat (bare.fn k.0.at k.0.rules) (binds_of gs)) (prog.a_fun ns (R.type f.1) (function_of R f.2) (program_funs R fs)) s v.next)
            (sym (onto-append empty (rising hs) h.variables.items)) made));
      }

-- what is known

each-here : (bs : List BoundVariable) (v : Known) (G : Knowns) → AllByRecursion (λ b. checked.at (each_onto (numbers_of bs) v G) b.number ≡ Some v) bs
each-here [] v G = tt
each-here (b ∷ bs) v G = (
  ap (λ c. cond c (Some v) (checked.at (each_onto (numbers_of bs) v G) b.number)) (eq-eqb b.number b.number refl),
  rest bs (each-here bs v G),
)
  where
    rest : (cs : List BoundVariable) → AllByRecursion (λ c. checked.at (each_onto (numbers_of bs) v G) c.number ≡ Some v) cs
        → AllByRecursion (λ c. checked.at ((b.number, v) ∷ each_onto (numbers_of bs) v G) c.number ≡ Some v) cs
    rest [] h = tt
    rest (c ∷ cs) h = (by (nat_eq c.number b.number) h.0, rest cs h.1)
      where
        by : (t : Bool) → checked.at (each_onto (numbers_of bs) v G) c.number ≡ Some v → cond t (Some v) (checked.at (each_onto (numbers_of bs) v G) c.number) ≡ Some v
        by true e = refl
        by false e = e

each-past : (n : ℕ) (ns : List ℕ) (v : Known) (G : Knowns) → AllByRecursion (λ m. n < m) ns → checked.at (each_onto ns v G) n ≡ checked.at G n
each-past n [] v G h = refl
each-past n (m ∷ ns) v G h = by (nat_eq n m) refl ∙ each-past n ns v G h.1
  where
    by : (t : Bool) → nat_eq n m ≡ t → cond t (Some v) (checked.at (each_onto ns v G) n) ≡ checked.at (each_onto ns v G) n
    by true e = absurd (let q : n ≡ m = eqb-true n m e in let lt = h.0 in omega (arith, q, lt))
    by false e = refl

above : (k j n : ℕ) (ns : List ℕ) → n < k → AllByRecursion (λ m. (k ≤ m) × (m < j)) ns → AllByRecursion (λ m. n < m) ns
above k j n [] lt h = tt
above k j n (m ∷ ns) lt h = (let le = h.0.0 in omega (arith, lt, le), above k j n ns lt h.1)

-- each function by its type
pub record AreOwn (g : ℕ → Typ) (number : ℕ → ℕ) (k j : ℕ) (f : Typ → Known) (G H : Knowns) (bs : List BoundVariable) : Type 0 where
  pub older : (n : ℕ) → n < k → checked.at H n ≡ checked.at G n
  pub marked : AllByRecursion (IsMarked g number k j H f) bs

module _ (W : World) (D E : Context) (P : State) (c : Comes P W) (f : Typ → Known) (G : Knowns) where
  abbrev number : ℕ → ℕ
  number = W.naming E.naming

  -- the variables of one head, in front of the others
  marks-here : (k i j : ℕ) (h : Head) (t : Typ) (H : Knowns) (bs : List BoundVariable) → k ≤ i → t ≡ type_as number (type_of W h.ty) → AllByRecursion (λ b. b.ty ≡ h.ty) bs
      → AllByRecursion (λ n. (i ≤ n) × (n < j)) (numbers_of bs) → AllByRecursion (λ b. checked.at H b.number ≡ Some (f t)) bs → AllByRecursion (IsMarked (type_of W) number k j H f) bs
  marks-here k i j h t H [] le e ty ns at = tt
  marks-here k i j h t H (b ∷ bs) le e ty ns at = (
    record {
      from = let a = ns.0.0 in omega (arith, le, a);
      to = ns.0.1;
      known = at.0 ∙ ap (λ u. Some (f u)) (e ∙ ap (λ x. type_as number (type_of W x)) (sym ty.0));
    },
    marks-here k i j h t H bs le e ty.1 ns.1 at.1,
  )

  marks-later : (k i j : ℕ) (ns : List ℕ) (v : Known) (H : Knowns) (bs : List BoundVariable) → i ≤ j → AllByRecursion (λ n. (i ≤ n) × (n < j)) ns
      → AllByRecursion (IsMarked (type_of W) number k i H f) bs → AllByRecursion (IsMarked (type_of W) number k j (each_onto ns v H) f) bs
  marks-later k i j ns v H [] le a m = tt
  marks-later k i j ns v H (b ∷ bs) le a m = (
    record {
      from = m.0.from;
      to = let lt = m.0.to in omega (arith, lt, le);
      known = each-past b.number ns v H (above i j b.number ns m.0.to a) ∙ m.0.known;
    },
    marks-later k i j ns v H bs le a m.1,
  )

  pub group-known : {M H : State} (gs : List RuleOf) (fs : List (Vec ℕ Global × ℕ × Function)) (hs : List Head) (r : AreReserved M D (map (λ r. r.pat) gs) H hs) (k : AreWritten E P gs fs hs) (i : ℕ)
      (le : i ≤ M.next) → AreOwn (type_of W) number i (group-to W.reading D E P gs fs hs r k i le).next f G (funs_onto f (program_funs W.reading fs) G) (falling hs)
  unfolding group-to
  group-known [] [] [] none_reserved k i le = record { older = λ n lt. refl; marked = tt }
  group-known [] [] (h ∷ hs) r k i le = absurd k
  group-known [] (x ∷ fs) hs r k i le = absurd k
  group-known (g ∷ gs) [] hs r k i le = absurd k
  group-known (g ∷ gs) (x ∷ fs) [] r k i le = absurd k
  group-known (g ∷ gs) (x ∷ fs) (h ∷ hs) (one_reserved r o) k i le =
      let R = W.reading in
      let u = group-to R D E P gs fs hs r k.1 i le in
      let rest = group-known gs fs hs r k.1 i le in
      let v = o.reserves.to u.next u.most (scope_of (rising hs)) in
      let ns = numbers_of (reverse h.variables.items) in
      let from = head-from v.to in
      let t = R.type x.1 in
      let H = funs_onto f (program_funs R fs) G in
      let all : funs_onto f (program_funs R (x ∷ fs)) G ≡ each_onto ns (f t) H = ap (λ l. each_onto l (f t) H) k.0.numbers in
      subst (λ Z. AreOwn (type_of W) number i v.next f G Z (falling (h ∷ hs))) (sym all) (record {
        older = λ n lt. each-past n ns (f t) H (above u.next v.next n ns (let a = u.least in omega (arith, a, lt)) from.each) ∙ rest.older n lt;
        marked =
            all-joined (IsMarked (type_of W) number i v.next (each_onto ns (f t) H) f) (reverse h.variables.items) (falling hs)
            (marks-here i u.next v.next h t (each_onto ns (f t) H) (reverse h.variables.items) u.least (k.0.type W c) (all-reversed (λ b. b.ty ≡ h.ty) h.variables.items o.reserves.typed) from.each
            (each-here (reverse h.variables.items) (f t) H))
            (marks-later i u.next v.next ns (f t) H (falling hs) from.most from.each rest.marked);
      })
