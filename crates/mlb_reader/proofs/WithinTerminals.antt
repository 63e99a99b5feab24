-- Places and names of terminals, and those of the identifiers and constants that terminals are.
use Rattle.std.proofs.Common.{ℕ, ◌<◌, List, Option, Some, None, IfSome}
use Rattle.std.specs.List.{AllByRecursion}
use Rattle.std.specs.Option.{ForSome}
use Rattle.mlc_base.specs.declared.place.Place.{Place}
use Rattle.sml_tree.specs.declared.ident.Vid.{Vid}
use Rattle.sml_tree.specs.Terminal.{Constant, LongVid, Terminal, reserved, number, constant, alpha, symbol, star, long_alpha, long_symbol, long_star, type_var, IsConstant, is_number, is_constant, IsVid, alpha_vid, symbol_vid, star_vid, IsQualifiedVid, long_alpha_vid, long_symbol_vid, long_star_vid, IsAnyVid, any_named, any_equals, IsAnyLongVid, any_short, any_long}
use Rattle.sml_tree.specs.Fixity.{Fixity}
use Rattle.sml_tree.specs.Bare.{at}
use Rattle.sml_tree.specs.ReadTree.{Placed}
use Rattle.sml_tree.specs.Grammar.{BindsVid, plain_vid, op_vid, NamesVid, plain_long, qualified, op_long}
use Rattle.mlb_reader.specs.Within.{VidIn}

abbrev pub terminal_place : Terminal → ℕ
terminal_place (reserved p r) = p
terminal_place (number p z plain) = p
terminal_place (constant p c) = p
terminal_place (alpha p x) = p
terminal_place (symbol p x) = p
terminal_place (star p x) = p
terminal_place (long_alpha p qs x) = p
terminal_place (long_symbol p qs x) = p
terminal_place (long_star p qs x) = p
terminal_place (type_var p a) = p

-- The name of a value identifier, its last part where it has qualifiers: a long terminal with no qualifier would be a short identifier.
abbrev pub terminal_name : Terminal → Option ℕ
terminal_name (reserved p r) = None
terminal_name (number p z plain) = None
terminal_name (constant p c) = None
terminal_name (alpha p x) = Some x
terminal_name (symbol p x) = Some x
terminal_name (star p x) = Some x
terminal_name (long_alpha p qs x) = Some x
terminal_name (long_symbol p qs x) = Some x
terminal_name (long_star p qs x) = Some x
terminal_name (type_var p a) = None

-- fewer than so many names are held, and that of the identifier is
abbrev pub TerminalHolds : ℕ → Terminal → Type 0
TerminalHolds count t = ForSome (terminal_name t) (λ n. n < count)

-- Places that meet P and names that meet N.
module _ (file : ℕ) (P : Place → Type 0) (N : ℕ → Type 0) where
  abbrev pub IsGood : Terminal → Type 0
  IsGood t = P (at file (terminal_place t)) × IfSome (terminal_name t) N

  abbrev pub AllGood : List Terminal → Type 0
  AllGood = AllByRecursion IsGood

  pub vid-good : {t : Terminal} {p x : ℕ} → IsVid t p x → IsGood t → P (at file p) × N x
  vid-good (alpha_vid p x) g = g
  vid-good (symbol_vid p x) g = g
  vid-good (star_vid p x) g = g

  pub constant-place : {t : Terminal} {p : ℕ} {c : Constant} → IsConstant t p c → IsGood t → P (at file p)
  constant-place (is_number p n plain) g = g.0
  constant-place (is_constant p c) g = g.0

  qualified-place : {t : Terminal} {p : ℕ} {x : LongVid} → IsQualifiedVid t p x → IsGood t → P (at file p)
  qualified-place (long_alpha_vid p qs x) g = g.0
  qualified-place (long_symbol_vid p qs x) g = g.0
  qualified-place (long_star_vid p qs x) g = g.0

  qualified-vid : {t : Terminal} {p : ℕ} {x : LongVid} → IsQualifiedVid t p x → IsGood t → VidIn P N x.vid
  qualified-vid (long_alpha_vid p qs x) g = g.1
  qualified-vid (long_symbol_vid p qs x) g = g.1
  qualified-vid (long_star_vid p qs x) g = g.1

  -- the identifier's own place, and its name
  abbrev pub IsGoodVid : ℕ → Vid → Type 0
  IsGoodVid p v = P (at file p) × VidIn P N v

  any_vid-good : {t : Terminal} {q : ℕ} {v : Vid} → IsAnyVid t q v → IsGood t → IsGoodVid q v
  any_vid-good (any_named v) g = vid-good v g
  any_vid-good (any_equals q) g = (g.0, tt)

  any_long-good : {t : Terminal} {q : ℕ} {x : LongVid} → IsAnyLongVid t q x → IsGood t → IsGoodVid q x.vid
  any_long-good (any_short v) g = any_vid-good v g
  any_long-good (any_long v) g = (qualified-place v g, qualified-vid v g)

  -- [op] longvid, with the place where it begins and the identifier's own
  pub record NamesGood (p : ℕ) (x : Placed LongVid) (o : List Terminal) : Type 0 where
    pub place : P (at file p)
    pub own : IsGoodVid x.place x.it.vid
    pub rest : AllGood o

  pub names-good : {f : Fixity} {i o : List Terminal} {p : ℕ} {x : Placed LongVid} → NamesVid f i p x o → AllGood i → NamesGood p x o
  names-good (plain_long v e) g = let h = vid-good v g.0 in record { place = h.0; own = h; rest = g.1 }
  names-good (qualified v) g = let h = qualified-place v g.0 in record { place = h; own = (h, qualified-vid v g.0); rest = g.1 }
  names-good (op_long p v) g = record { place = g.0.0; own = any_long-good v g.1.0; rest = g.1.1 }

  -- [op] vid
  pub record BindsGood (p : ℕ) (v : Placed Vid) (o : List Terminal) : Type 0 where
    pub place : P (at file p)
    pub own : IsGoodVid v.place v.it
    pub rest : AllGood o

  pub binds-good : {f : Fixity} {i o : List Terminal} {p : ℕ} {v : Placed Vid} → BindsVid f i p v o → AllGood i → BindsGood p v o
  binds-good (plain_vid v e) g = let h = vid-good v g.0 in record { place = h.0; own = h; rest = g.1 }
  binds-good (op_vid p v) g = record { place = g.0.0; own = any_vid-good v g.1.0; rest = g.1.1 }
