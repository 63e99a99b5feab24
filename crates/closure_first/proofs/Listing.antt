-- The functions and the sets of a program.
use Rattle.std.proofs.Common.{◌≡◌, ℕ, ◌+◌, ◌<◌, ◌≤◌, List, [], ◌∷◌, ◌++◌, map, take, length, get_or, Vec, Global, refl, sym, ap, ap₂, ◌∙◌}
use Rattle.std.proofs.lemmas.List.{take_more, append-nil}
use Rattle.ir_mono.specs.Types as table
use Rattle.ir_first.specs.Tree as out
use Rattle.first_values.specs.Operations as op
use Rattle.flow_sets.specs.Flow.{Flow}
use Rattle.plain_tree.specs.declared.tree.Exp.{Exp}
use Rattle.mono_bound.specs.Reads.{mono_of}
use Rattle.closure_convert.specs.Scope.{Scope, Table, top}
use Rattle.first_tables.specs.declared.tables.Member.{Member}
use Rattle.first_tables.specs.TablesOf.{member_of}
use Rattle.first_tables.specs.TablesOf as tables
use Rattle.first_tree.specs.declared.tree.Exp.{Exp as Made}
use Rattle.first_tree.specs.declared.tree.Fun.{Fun}
use Rattle.first_tree.specs.TreeOf.{tree_of, fun_of}
use Rattle.closure_meaning.specs.Convert.{Numbering, convert, set_of}
use Rattle.closure_bodies.proofs.of_closure_parts.Putting.{map-last, all-before}
use Rattle.closure_first.specs.Codes.{Before, Adds}

pub main-is : (n : Numbering) (types : List table.Row) (strings : List (List ℕ)) (F : Flow) (T : Table) (e : Exp) (s : Scope) (b : Made) (params : Vec ℕ Global) → s ≡ top → params.items ≡ []
    → tree_of b ≡ convert n types F T s (mono_of types strings e) → fun_of (record { params = params; body = b }) ≡ record { params = []; body = convert n types F T top (mono_of types strings e) }
main-is n types strings F T e s b params a z h =
    ap₂ (λ l v. record { params = l; body = v }) z (h ∙ ap (λ v. convert n types F T v (mono_of types strings e)) a)

pub functions-are : (main : Fun) (first new : List Fun) (r : out.Fun) (p : Before) → first ≡ main ∷ [] → fun_of main ≡ r → Adds first new p → map fun_of new ≡ r ∷ p []
functions-are main first new r p e m h =
    sym (append-nil (map fun_of new)) ∙ sym (h []) ∙ ap (λ l. map fun_of l ++ p []) e ∙ ap (λ v. v ∷ p []) m

module _ (n : Numbering) where
  set-last : (ks : List ℕ) (k : ℕ) → set_of n (ks ++ k ∷ []) ≡ set_of n ks ++ record { tag = n.tag k; function = n.function k } ∷ []
  set-last [] k = refl
  set-last (j ∷ ks) k = ap (λ l. record { tag = n.tag j; function = n.function j } ∷ l) (set-last ks k)

  pub set-next : (ks : List ℕ) (i k d t g : ℕ) (made new : List Member) → i < length ks → k ≡ get_or ks i d → t ≡ n.tag k → g ≡ n.function k → new ≡ made ++ record { tag = t; function = g } ∷ []
      → map member_of made ≡ set_of n (take i ks) → map member_of new ≡ set_of n (take (i + 1) ks)
  set-next ks i k d t g made new lt is b h m inv =
      ap (map member_of) m ∙ map-last member_of made (record { tag = t; function = g })
      ∙ ap₂ (λ l v. l ++ record { tag = v; function = g } ∷ []) inv b ∙ ap (λ v. set_of n (take i ks) ++ record { tag = n.tag k; function = v } ∷ []) h ∙ sym (set-last (take i ks) k)
      ∙ ap (set_of n) (sym (take_more ks i d lt ∙ ap (λ y. take i ks ++ y ∷ []) (sym is)))

  pub set-all : (ks : List ℕ) (i : ℕ) (made : List Member) → length ks ≤ i → map member_of made ≡ set_of n (take i ks) → map member_of made ≡ set_of n ks
  set-all ks i made le inv = inv ∙ ap (set_of n) (all-before ks i le)

  abbrev pub set_in : Vec ℕ Global → List op.Member
  set_in s = set_of n s.items

  pub sets-next : (ss : List (Vec ℕ Global)) (i : ℕ) (s d : Vec ℕ Global) (ks : List ℕ) (made new : List (Vec Member Global)) (t : Vec Member Global) → i < length ss → s ≡ get_or ss i d → ks ≡ s.items
      → map member_of t.items ≡ set_of n ks → new ≡ made ++ t ∷ [] → map tables.set_of made ≡ map set_in (take i ss) → map tables.set_of new ≡ map set_in (take (i + 1) ss)
  sets-next ss i s d ks made new t lt is k h m inv =
      ap (map tables.set_of) m ∙ map-last tables.set_of made t ∙ ap₂ (λ l v. l ++ v ∷ []) inv (h ∙ ap (set_of n) k)
      ∙ sym (ap (map set_in) (take_more ss i d lt ∙ ap (λ y. take i ss ++ y ∷ []) (sym is)) ∙ map-last set_in (take i ss) s)

  together : (ss : List (Vec ℕ Global)) → map set_in ss ≡ map (set_of n) (map (λ s. s.items) ss)
  together [] = refl
  together (s ∷ ss) = ap (λ l. set_in s ∷ l) (together ss)

  pub sets-all : (ss : List (Vec ℕ Global)) (i : ℕ) (made : List (Vec Member Global)) → length ss ≤ i → map tables.set_of made ≡ map set_in (take i ss) → map tables.set_of made ≡ map set_in ss
  sets-all ss i made le inv = inv ∙ ap (map set_in) (all-before ss i le)

  pub sets-are : (ss us : List (Vec ℕ Global)) (made : List (Vec Member Global)) (F : Flow) → us ≡ ss → map (λ s. s.items) ss ≡ F.sets → map tables.set_of made ≡ map set_in us → map tables.set_of made ≡ map (set_of n) F.sets
  sets-are ss us made F k e h = h ∙ ap (map set_in) k ∙ together ss ∙ ap (map (set_of n)) e
