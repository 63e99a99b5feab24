-- Places and names of terminals are those of their tokens.
use Rattle.std.proofs.Common.{◌≡◌, ℕ, ◌<◌, List, Option, Some, None, All, refl, sym, subst, Bool, true, false, if◌then◌else◌, nat_eq, get_or}
use Rattle.std.specs.Option.{ForSome}
use Rattle.std.proofs.lemmas.List.Elements.{All-map}
use Rattle.mlc_names.specs.declared.token.Token.{Token}
use Rattle.mlc_names.specs.declared.token.TokenKind.{TokenKind}
use Rattle.mlc_names.specs.declared.token.TokenKind.TheVariants as kind
use Rattle.sml_tree.specs.Terminal.{terminal_at, terminal_of, terminals, star, symbol, long_star, long_symbol}
use Rattle.mlb_reader.proofs.WithinTerminals.{terminal_place, terminal_name, TerminalHolds}

-- the name of an identifier, its last part where it has qualifiers
abbrev pub kind_name : TokenKind → Option ℕ
kind_name (kind.Reserved r) = None
kind_name (kind.Int value plain) = None
kind_name (kind.Word n) = None
kind_name (kind.Char n) = None
kind_name (kind.Str s) = None
kind_name (kind.Ident x) = Some x
kind_name (kind.Symbol x) = Some x
kind_name (kind.LongIdent qualifiers x) = Some x
kind_name (kind.LongSymbol qualifiers x) = Some x
kind_name (kind.TypeVar x) = None
kind_name (kind.EqTypeVar x) = None

place-at : (star_name p : ℕ) (k : TokenKind) → terminal_place (terminal_at star_name p k) ≡ p
place-at star_name p (kind.Reserved r) = refl
place-at star_name p (kind.Int value plain) = refl
place-at star_name p (kind.Word n) = refl
place-at star_name p (kind.Char n) = refl
place-at star_name p (kind.Str s) = refl
place-at star_name p (kind.Ident x) = refl
place-at star_name p (kind.Symbol x) = by_star (nat_eq x star_name)
  where
    by_star : (b : Bool) → terminal_place (if b then star p x else symbol p x) ≡ p
    by_star true = refl
    by_star false = refl
place-at star_name p (kind.LongIdent qualifiers x) = refl
place-at star_name p (kind.LongSymbol qualifiers x) = by_star (nat_eq x star_name)
  where
    by_star : (b : Bool) → terminal_place (if b then long_star p qualifiers.items x else long_symbol p qualifiers.items x) ≡ p
    by_star true = refl
    by_star false = refl
place-at star_name p (kind.TypeVar x) = refl
place-at star_name p (kind.EqTypeVar x) = refl

name-at : (star_name p : ℕ) (k : TokenKind) → terminal_name (terminal_at star_name p k) ≡ kind_name k
name-at star_name p (kind.Reserved r) = refl
name-at star_name p (kind.Int value plain) = refl
name-at star_name p (kind.Word n) = refl
name-at star_name p (kind.Char n) = refl
name-at star_name p (kind.Str s) = refl
name-at star_name p (kind.Ident x) = refl
name-at star_name p (kind.Symbol x) = by_star (nat_eq x star_name)
  where
    by_star : (b : Bool) → terminal_name (if b then star p x else symbol p x) ≡ Some x
    by_star true = refl
    by_star false = refl
name-at star_name p (kind.LongIdent qualifiers x) = refl
name-at star_name p (kind.LongSymbol qualifiers x) = by_star (nat_eq x star_name)
  where
    by_star : (b : Bool) → terminal_name (if b then long_star p qualifiers.items x else long_symbol p qualifiers.items x) ≡ Some x
    by_star true = refl
    by_star false = refl
name-at star_name p (kind.TypeVar x) = refl
name-at star_name p (kind.EqTypeVar x) = refl

pub place-of : (star_name : ℕ) (t : Token) → terminal_place (terminal_of star_name t) ≡ t.span.first
place-of star_name t = place-at star_name t.span.first t.kind

pub name-of : (star_name : ℕ) (t : Token) → terminal_name (terminal_of star_name t) ≡ kind_name t.kind
name-of star_name t = name-at star_name t.span.first t.kind

pub terminals-placed : (Q : ℕ → Type 0) (star_name : ℕ) (tokens : List Token) → All (λ t. Q t.span.first) tokens → All (λ t. Q (terminal_place t)) (terminals star_name tokens)
terminals-placed Q star_name tokens h = All-map (λ t. Q (terminal_place t)) (terminal_of star_name) tokens (λ k t lt. subst Q (sym (place-of star_name (get_or tokens k t))) (h k t lt))

pub terminals-hold : (count star_name : ℕ) (tokens : List Token) → All (λ t. ForSome (kind_name t.kind) (λ n. n < count)) tokens → All (TerminalHolds count) (terminals star_name tokens)
terminals-hold count star_name tokens h =
    All-map (TerminalHolds count) (terminal_of star_name) tokens (λ k t lt. subst (λ o. ForSome o (λ n. n < count)) (sym (name-of star_name (get_or tokens k t))) (h k t lt))
