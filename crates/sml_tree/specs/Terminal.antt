-- The terminals of the grammar: tokens with the place of their first byte, and with `*` told from other identifiers.
use Rattle.std.specs.Prelude.{ℕ, suc, ℤ, pos, Bool, true, false, List, [], map, nat_eq, if◌then◌else◌}
use Rattle.mlc_names.specs.declared.label.Label.{Label}
use Rattle.mlc_names.specs.declared.label.Label.TheVariants as label
use Rattle.mlc_names.specs.declared.token.Reserved.{Reserved}
use Rattle.mlc_names.specs.declared.token.Reserved.TheVariants as res
use Rattle.mlc_names.specs.declared.token.TokenKind.{TokenKind}
use Rattle.mlc_names.specs.declared.token.TokenKind.TheVariants as kind
use Rattle.mlc_names.specs.declared.token.Token.{Token}
use Rattle.sml_tree.specs.declared.ident.Tyvar.{Tyvar}
use Rattle.sml_tree.specs.declared.ident.Vid.{Vid}
use Rattle.sml_tree.specs.declared.ident.Vid.TheVariants.{Named, Equals}

-- the special constants (the Definition, section 2.2)
pub data Constant : Type 0 where
  int : ℤ → Constant
  word : ℕ → Constant
  char : ℕ → Constant
  string : List ℕ → Constant

-- long identifiers, of values and of anything else (section 2.4)
pub record LongVid : Type 0 where
  pub qualifiers : List ℕ
  pub vid : Vid

pub record LongId : Type 0 where
  pub qualifiers : List ℕ
  pub id : ℕ

-- the first argument is the place; an integer constant is plain where it is written in decimal digits with no zero in front
pub data Terminal : Type 0 where
  reserved : ℕ → Reserved → Terminal
  number : ℕ → ℤ → Bool → Terminal
  constant : ℕ → Constant → Terminal
  alpha : ℕ → ℕ → Terminal
  symbol : ℕ → ℕ → Terminal
  star : ℕ → ℕ → Terminal
  long_alpha : ℕ → List ℕ → ℕ → Terminal
  long_symbol : ℕ → List ℕ → ℕ → Terminal
  long_star : ℕ → List ℕ → ℕ → Terminal
  type_var : ℕ → Tyvar → Terminal

-- the terminal of a token's kind at a place, where `star_name` is the name of the identifier `*`
abbrev pub terminal_at : ℕ → ℕ → TokenKind → Terminal
terminal_at star_name p (kind.Reserved r) = reserved p r
terminal_at star_name p (kind.Int value plain) = number p value plain
terminal_at star_name p (kind.Word n) = constant p (word n)
terminal_at star_name p (kind.Char n) = constant p (char n)
terminal_at star_name p (kind.Str s) = constant p (string s.items)
terminal_at star_name p (kind.Ident x) = alpha p x
terminal_at star_name p (kind.Symbol x) = if nat_eq x star_name then star p x else symbol p x
terminal_at star_name p (kind.LongIdent qualifiers x) = long_alpha p qualifiers.items x
terminal_at star_name p (kind.LongSymbol qualifiers x) = if nat_eq x star_name then long_star p qualifiers.items x else long_symbol p qualifiers.items x
terminal_at star_name p (kind.TypeVar x) = type_var p (record { name = x; equality = false })
terminal_at star_name p (kind.EqTypeVar x) = type_var p (record { name = x; equality = true })

abbrev pub terminal_of : ℕ → Token → Terminal
terminal_of star_name t = terminal_at star_name t.span.first t.kind

abbrev pub terminals : ℕ → List Token → List Terminal
terminals star_name ts = map (terminal_of star_name) ts

-- Which terminals are what. The arguments are the terminal, its place, and what it stands for.

-- scon (section 2.2)
pub data IsConstant : Terminal → ℕ → Constant → Type 0 where
  is_number : (p : ℕ) (n : ℤ) (plain : Bool) → IsConstant (number p n plain) p (int n)
  is_constant : (p : ℕ) (c : Constant) → IsConstant (constant p c) p c

-- vid, other than `=` (section 2.4)
pub data IsVid : Terminal → ℕ → ℕ → Type 0 where
  alpha_vid : (p x : ℕ) → IsVid (alpha p x) p x
  symbol_vid : (p x : ℕ) → IsVid (symbol p x) p x
  star_vid : (p x : ℕ) → IsVid (star p x) p x

-- longvid with a qualifier
pub data IsQualifiedVid : Terminal → ℕ → LongVid → Type 0 where
  long_alpha_vid : (p : ℕ) (qs : List ℕ) (x : ℕ) → IsQualifiedVid (long_alpha p qs x) p (record { qualifiers = qs; vid = Named x })
  long_symbol_vid : (p : ℕ) (qs : List ℕ) (x : ℕ) → IsQualifiedVid (long_symbol p qs x) p (record { qualifiers = qs; vid = Named x })
  long_star_vid : (p : ℕ) (qs : List ℕ) (x : ℕ) → IsQualifiedVid (long_star p qs x) p (record { qualifiers = qs; vid = Named x })

-- what `op` may stand before: any vid, `=` too
pub data IsAnyVid : Terminal → ℕ → Vid → Type 0 where
  any_named : {t : Terminal} {p x : ℕ} → IsVid t p x → IsAnyVid t p (Named x)
  any_equals : (p : ℕ) → IsAnyVid (reserved p res.Equals) p Equals

pub data IsAnyLongVid : Terminal → ℕ → LongVid → Type 0 where
  any_short : {t : Terminal} {p : ℕ} {v : Vid} → IsAnyVid t p v → IsAnyLongVid t p (record { qualifiers = []; vid = v })
  any_long : {t : Terminal} {p : ℕ} {x : LongVid} → IsQualifiedVid t p x → IsAnyLongVid t p x

-- tycon: any identifier but `*` (section 2.4)
pub data IsTycon : Terminal → ℕ → ℕ → Type 0 where
  alpha_tycon : (p x : ℕ) → IsTycon (alpha p x) p x
  symbol_tycon : (p x : ℕ) → IsTycon (symbol p x) p x

pub data IsLongTycon : Terminal → ℕ → LongId → Type 0 where
  short_tycon : {t : Terminal} {p x : ℕ} → IsTycon t p x → IsLongTycon t p (record { qualifiers = []; id = x })
  long_alpha_tycon : (p : ℕ) (qs : List ℕ) (x : ℕ) → IsLongTycon (long_alpha p qs x) p (record { qualifiers = qs; id = x })
  long_symbol_tycon : (p : ℕ) (qs : List ℕ) (x : ℕ) → IsLongTycon (long_symbol p qs x) p (record { qualifiers = qs; id = x })

-- longstrid: structure identifiers are alphanumeric (section 2.4)
pub data IsLongStrid : Terminal → ℕ → LongId → Type 0 where
  short_strid : (p x : ℕ) → IsLongStrid (alpha p x) p (record { qualifiers = []; id = x })
  long_strid : (p : ℕ) (qs : List ℕ) (x : ℕ) → IsLongStrid (long_alpha p qs x) p (record { qualifiers = qs; id = x })

-- lab: an identifier, or a decimal number that doesn't begin with 0 (section 2.4)
pub data IsLabel : Terminal → Label → Type 0 where
  number_label : (p n : ℕ) → IsLabel (number p (pos (suc n)) true) (label.Number (suc n))
  word_label : {t : Terminal} {p x : ℕ} → IsVid t p x → IsLabel t (label.Word x)
