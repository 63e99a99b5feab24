-- Patterns with no parts.
use Rattle.std.proofs.Common.{◌≡◌, ◌≤◌, ◌+◌, ℕ, Bool, true, false, List, [], ◌∷◌, ◌++◌, Option, Some, None, refl, sym, ap, subst, ◌∙◌, arith}
use Rattle.std.specs.Prelude.{option_map}
use Rattle.mlc_base.specs.declared.place.Place.{Place}
use Rattle.ty_core.specs.Types.{Typ, var}
use Rattle.std.proofs.lemmas.Bool.{lt-ltb}
use Rattle.sml_tree.specs.Terminal.{Constant, int, word, char, string}
use Rattle.sml_tree.specs.Derived.{short}
use Rattle.sml_tree.specs.BareTree.{wild_pat, constant_pat}
use Rattle.sml_tree.specs.declared.ident.Vid.{Vid}
use Rattle.core_rules.specs.Objects.{Over}
use Rattle.core_rules.specs.Restrictions.{is_kept}
use Rattle.core_rules.specs.Choices.{no_choice}
use Rattle.core_rules.specs.Typing.{constant_type, is_matched_in}
use Rattle.core_rules.specs.Match.{constant_of as literal_of}
use Rattle.ir_tables.specs.Tables.{literal_at}
use Rattle.ir_tables.specs.declared.tables.Constant.{Constant as ProgramConstant}
use Rattle.ir_poly.specs.Prog as prog
use Rattle.ir_poly.specs.Types.{over}
use Rattle.core_elab.specs.Scopes.{Denotes, denotes_in, is_free_in}
use Rattle.prog_tree.specs.TreeOf.{pat_of}
use Rattle.prog_tree.specs.declared.tree.Pat.TheVariants as tree
use Rattle.elab_context.specs.of_elab_typed.Contexts.{value_under, Around}
use Rattle.elab_context.specs.of_elab_typed.Elaborates.{PatElab, wild_elab, constant_elab, Binds}
use Rattle.elab_context.proofs.of_elab_typed.Under.{at-under}
use Rattle.elab_context.specs.of_elab_steps.Growing.{HasType, Grows, Always, IsWithin}
use Rattle.elab_context.specs.of_elab_state.declared.state.State.{State}
use Rattle.elab_context.specs.of_elab_steps.World.{World, type_of}
use Rattle.elab_context.proofs.of_elab_steps.Growing.{grows_on, type_later, comes_before}
use Rattle.elab_context.specs.Entries.{entry_in, limit_of, is_free}
use Rattle.elab_context.specs.Telling.{Tells, IsContext, kept_of, denotes_of}
use Rattle.elab_context.specs.declared.context.Context.{Context}
use Rattle.elab_context.specs.declared.entry.Entry.{Entry}
use Rattle.elab_context.specs.declared.entry.Entry.TheVariants.{Constructor, Reference, Initial, Primitive, Raised, Single, Own, General}
use Rattle.pat_elab.proofs.Trees.{pat_of-Any, pat_of-Constant}
use Rattle.pat_elab.specs.Elaborated.{IsBound, IsPat}
use Rattle.pat_elab.specs.declared.bound.BoundVariable.{BoundVariable}
use Rattle.pat_elab.specs.declared.bound.TypedPat.{TypedPat}

pub no-more : {A : Type 0} (xs : List A) → xs ≡ xs ++ []
no-more [] = refl
no-more (x ∷ xs) = ap (λ l. x ∷ l) (no-more xs)

-- a new variable in a context
pub within-names : (C : Context) (W : World) (A : Around) (k : ℕ) → Tells C W A → IsWithin W (limit_of C) k → Over A.names (type_of W k)
within-names C W A k t w = subst (λ n. Over n (type_of W k)) (sym t.names) w.names

pub within-parameters : (S : State) (C : Context) (W : World) (A : Around) (k : ℕ) → IsContext S C → Tells C W A → IsWithin W (limit_of C) k → over A.parameters (type_of W k) ≡ true
within-parameters S C W A k i t w = subst (λ qs. over qs (type_of W k) ≡ true) (sym t.parameters) (w.parameters i.deep)

pub wild_is : (S T : State) (C : Context) (place : Place) (bs : List BoundVariable) (r : TypedPat) → IsContext S C → Grows S T → HasType T r.ty → T.next ≡ S.next
    → Always T (λ W. IsWithin W (limit_of C) r.ty) → r.pat ≡ tree.Any → IsPat S C (wild_pat place) T bs bs r
wild_is S T C place bs r i g h n w e = record {
  added = [];
  bound = no-more bs;
  grows = g;
  is = h;
  have = tt;
  gives = λ W c A t.
      let names = within-names C W A r.ty t (w W c) in
      record {
        choices = no_choice;
        elab =
            subst (λ p. PatElab W.table A S.next (wild_pat place) p (type_of W r.ty) [] no_choice Rattle.core_elab.specs.Scopes.empty T.next) (sym (ap (pat_of W.reading) e ∙ pat_of-Any W.reading))
            (subst (λ j. PatElab W.table A S.next (wild_pat place) prog.any_pat (type_of W r.ty) [] no_choice Rattle.core_elab.specs.Scopes.empty j) (sym n) (wild_elab place names));
        names = names;
        parameters = within-parameters S C W A r.ty i t (w W c);
      };
}

-- an identifier that a pattern binds

free-unmatched : (C : Context) (W : World) (o : Option Entry) → is_free o ≡ true → is_matched_in (option_map (value_under var) (option_map (kept_of C W) o)) ≡ false
free-unmatched C W None e = refl
free-unmatched C W (Some (Constructor s n y)) e = cc
free-unmatched C W (Some (Reference s)) e = cc
free-unmatched C W (Some (Initial s n)) e = cc
free-unmatched C W (Some (Primitive s q)) e = refl
free-unmatched C W (Some (Raised n a)) e = cc
free-unmatched C W (Some (Single t n)) e = refl
free-unmatched C W (Some (Own t n)) e = refl
free-unmatched C W (Some (General l t n o)) e = refl

free-denotes : (o : Option Entry) → is_free o ≡ true → is_free_in (option_map denotes_of o) ≡ true
free-denotes None e = refl
free-denotes (Some (Constructor s n y)) e = cc
free-denotes (Some (Reference s)) e = cc
free-denotes (Some (Initial s n)) e = cc
free-denotes (Some (Primitive s q)) e = refl
free-denotes (Some (Raised n a)) e = cc
free-denotes (Some (Single t n)) e = refl
free-denotes (Some (Own t n)) e = refl
free-denotes (Some (General l t n o)) e = refl

pub binds : (C : Context) (W : World) (A : Around) (x : Vid) (t : Typ) → Tells C W A → is_free (entry_in C [] x) ≡ true → is_kept x ≡ false → Over A.names t → Binds A x t
binds C W A x t h f k o = record {
  unmatched =
      ap is_matched_in (at-under var A.env.values x ∙ ap (option_map (value_under var)) (h.values (short x))) ∙ free-unmatched C W (entry_in C [] x) f;
  unkept = k;
  free = ap is_free_in (h.denotes (short x)) ∙ free-denotes (entry_in C [] x) f;
  over = o;
}

-- what tests of the code say
pub free-from-true : (b : Bool) (o q : Option Entry) → b ≡ is_free o → o ≡ q → b ≡ true → is_free q ≡ true
free-from-true b o q e s n = sym (ap is_free s) ∙ sym e ∙ n

pub bound_is : (S M T : State) (C : Context) (x : Vid) (before after : List BoundVariable) (b : BoundVariable) → IsContext S C
    → is_free (entry_in C [] x) ≡ true → is_kept x ≡ false → Grows S M → HasType M b.ty → M.next ≡ S.next → Always M (λ W. IsWithin W (limit_of C) b.ty)
    → Grows M T → b.number ≡ M.next → T.next ≡ b.number + 1 → after ≡ before ++ b ∷ [] → b.vid ≡ x → IsBound S C x before after b T
bound_is S M T C x before after b i f k g h m w g' e e' l v = record {
  last = l;
  vid = v;
  number = omega (arith, m, e);
  next = e';
  grows = grows_on S M T g g';
  is = type_later M T b.ty g' h;
  binds = λ W c A t. binds C W A x (type_of W b.ty) t f k (within-names C W A b.ty t (w W (comes_before M T W g' c)));
  parameters = λ W c A t. within-parameters S C W A b.ty i t (w W (comes_before M T W g' c));
}

-- constants

base-names : (n : ℕ) → 4 ≤ n → (c : Constant) → Over n (constant_type c)
base-names n le (int z) = (lt-ltb 0 n (omega (arith, le)), tt)
base-names n le (word k) = (lt-ltb 1 n (omega (arith, le)), tt)
base-names n le (char k) = (lt-ltb 2 n (omega (arith, le)), tt)
base-names n le (string s) = (lt-ltb 3 n (omega (arith, le)), tt)

base-parameters : (qs : _) (c : Constant) → over qs (constant_type c) ≡ true
base-parameters qs (int z) = refl
base-parameters qs (word k) = refl
base-parameters qs (char k) = refl
base-parameters qs (string s) = refl

pub constant_is : (S M T : State) (C : Context) (place : Place) (k : Constant) (d : ProgramConstant) (bs : List BoundVariable) (r : TypedPat) → IsContext S C
    → Grows S M → HasType M r.ty → Always M (λ W. type_of W r.ty ≡ constant_type k) → M.next ≡ S.next → Grows M T
    → Always T (λ W. literal_at W.reading.strings d ≡ literal_of k) → T.next ≡ M.next → r.pat ≡ tree.Constant d → IsPat S C (constant_pat place k) T bs bs r
constant_is S M T C place k d bs r i g h w m g' l n e = record {
  added = [];
  bound = no-more bs;
  grows = grows_on S M T g g';
  is = type_later M T r.ty g' h;
  have = tt;
  gives = λ W c A t.
      let is = w W (comes_before M T W g' c) in
      let lit = l W c in
      let le = i.wide in let same = t.names in let wide : 4 ≤ A.names = omega (arith, le, same) in
      record {
        choices = no_choice;
        elab =
            subst (λ p. PatElab W.table A S.next (constant_pat place k) p (type_of W r.ty) [] no_choice Rattle.core_elab.specs.Scopes.empty T.next) (sym (ap (pat_of W.reading) e ∙ pat_of-Constant W.reading d))
            (subst (λ q. PatElab W.table A S.next (constant_pat place k) (prog.constant_pat q) (type_of W r.ty) [] no_choice Rattle.core_elab.specs.Scopes.empty T.next) (sym lit)
            (subst (λ u. PatElab W.table A S.next (constant_pat place k) (prog.constant_pat (literal_of k)) u [] no_choice Rattle.core_elab.specs.Scopes.empty T.next) (sym is)
            (subst (λ j. PatElab W.table A S.next (constant_pat place k) (prog.constant_pat (literal_of k)) (constant_type k) [] no_choice Rattle.core_elab.specs.Scopes.empty j) (sym (n ∙ m)) (constant_elab place k))));
        names = subst (Over A.names) (sym is) (base-names A.names wide k);
        parameters = subst (λ u. over A.parameters u ≡ true) (sym is) (base-parameters A.parameters k);
      };
}
