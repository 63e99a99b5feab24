-- What phrases begin with: the first terminals of the grammar's productions (the Definition, sections 2.8 and 2.9).
use Rattle.std.specs.Prelude.{ℕ, ◌≤◌, ◌≡◌, List, ◌∷◌, None}
use Rattle.mlc_names.specs.declared.token.Reserved.TheVariants as res
use Rattle.sml_tree.specs.Terminal.{Constant, LongVid, LongId, Terminal, reserved, type_var, IsConstant, IsLongTycon}
use Rattle.sml_tree.specs.declared.ident.Tyvar.{Tyvar}
use Rattle.sml_tree.specs.declared.ident.Vid.TheVariants.{Equals}
use Rattle.sml_tree.specs.Fixity.{Fixity, fix_of}
use Rattle.sml_tree.specs.ReadTree.{Placed}
use Rattle.sml_tree.specs.Grammar.{NamesVid}

-- a type: a type variable, a type constructor, `{` or `(`
pub data BeginsTy : List Terminal → Type 0 where
  with_tyvar : {o : List Terminal} (p : ℕ) (a : Tyvar) → BeginsTy (type_var p a ∷ o)
  with_tycon : {t : Terminal} {o : List Terminal} {p : ℕ} {c : LongId} → IsLongTycon t p c → BeginsTy (t ∷ o)
  with_ty_brace : {o : List Terminal} (p : ℕ) → BeginsTy (reserved p res.LeftBrace ∷ o)
  with_ty_paren : {o : List Terminal} (p : ℕ) → BeginsTy (reserved p res.LeftParen ∷ o)

-- a pattern: `_`, a special constant, [op] longvid, `{`, `(` or `[`
pub data BeginsPat (f : Fixity) : List Terminal → Type 0 where
  with_wild : {o : List Terminal} (p : ℕ) → BeginsPat f (reserved p res.Underscore ∷ o)
  with_pat_constant : {t : Terminal} {o : List Terminal} {p : ℕ} {c : Constant} → IsConstant t p c → BeginsPat f (t ∷ o)
  with_pat_vid : {i o : List Terminal} {p : ℕ} {x : Placed LongVid} → NamesVid f i p x o → BeginsPat f i
  with_pat_brace : {o : List Terminal} (p : ℕ) → BeginsPat f (reserved p res.LeftBrace ∷ o)
  with_pat_paren : {o : List Terminal} (p : ℕ) → BeginsPat f (reserved p res.LeftParen ∷ o)
  with_pat_bracket : {o : List Terminal} (p : ℕ) → BeginsPat f (reserved p res.LeftBracket ∷ o)

-- an atomic expression: a special constant, [op] longvid, `=` where it isn't infix, `{`, `#`, `(`, `[` or `let`
pub data BeginsAtom (f : Fixity) : List Terminal → Type 0 where
  with_constant : {t : Terminal} {o : List Terminal} {p : ℕ} {c : Constant} → IsConstant t p c → BeginsAtom f (t ∷ o)
  with_vid : {i o : List Terminal} {p : ℕ} {x : Placed LongVid} → NamesVid f i p x o → BeginsAtom f i
  with_equals : {o : List Terminal} (p : ℕ) → fix_of Equals f ≡ None → BeginsAtom f (reserved p res.Equals ∷ o)
  with_brace : {o : List Terminal} (p : ℕ) → BeginsAtom f (reserved p res.LeftBrace ∷ o)
  with_hash : {o : List Terminal} (p : ℕ) → BeginsAtom f (reserved p res.Hash ∷ o)
  with_paren : {o : List Terminal} (p : ℕ) → BeginsAtom f (reserved p res.LeftParen ∷ o)
  with_bracket : {o : List Terminal} (p : ℕ) → BeginsAtom f (reserved p res.LeftBracket ∷ o)
  with_let : {o : List Terminal} (p : ℕ) → BeginsAtom f (reserved p res.Let ∷ o)

-- an expression of a level of at least l: an atomic one, or up to level 4 a form's keyword
pub data Begins (f : Fixity) (l : ℕ) : List Terminal → Type 0 where
  with_atom : {i : List Terminal} → BeginsAtom f i → Begins f l i
  with_raise : {o : List Terminal} (p : ℕ) → l ≤ 4 → Begins f l (reserved p res.Raise ∷ o)
  with_if : {o : List Terminal} (p : ℕ) → l ≤ 4 → Begins f l (reserved p res.If ∷ o)
  with_while : {o : List Terminal} (p : ℕ) → l ≤ 4 → Begins f l (reserved p res.While ∷ o)
  with_case : {o : List Terminal} (p : ℕ) → l ≤ 4 → Begins f l (reserved p res.Case ∷ o)
  with_fn : {o : List Terminal} (p : ℕ) → l ≤ 4 → Begins f l (reserved p res.Fn ∷ o)

-- type variables: one, or a bracket before one
pub data BeginTyvars : List Terminal → Type 0 where
  with_one_tyvar : {o : List Terminal} (p : ℕ) (a : Tyvar) → BeginTyvars (type_var p a ∷ o)
  with_tyvar_paren : {o : List Terminal} (p q : ℕ) (a : Tyvar) → BeginTyvars (reserved p res.LeftParen ∷ type_var q a ∷ o)
